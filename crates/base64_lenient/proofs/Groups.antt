-- For the functions of decode.rt: characters in groups of four. The values of the next four, the bytes of at most four values, and a buffer to which the
-- bytes of a run go group by group. By the laws of stores and the cases of a group. Assumes nothing.
use Rattle.std.specs.Simd.{first_chunks}
use mathlib.Core.Path.{◌≡◌, refl, sym, ap, ◌∙◌}
use mathlib.Core.Bool.{true, ◌&&◌}
use mathlib.Core.List.{List, [], ◌∷◌, ◌++◌, append-nil}
use Prim.Native.Nat.{ℕ, suc, ◌+◌, ◌-◌, ◌*◌, ◌≤◌, ◌<◌}
use native.Mathlib.Numerals.{add-one}
use native.Mathlib.Omega.{arith}
use borrow.Author.Tests.{ltb-true, ltb-false, eqb-true, eqb-false}
use lib.Dec.{ltb, eqb}
use Rattle.std.proofs.lemmas.List.{get_or-take, get_or_past}
use lib.ListN.{length, get_or, take, drop, set, length-set, drop_of_length-le}
use lib.Seq.{sets, drop-drop, length-sets, drop-cons, length-take-le, take-suc-set, append_snoc, get_or-set_same, get_or-set_other}
use Rattle.base.specs.Bytes.{byte}
use Rattle.base.proofs.Tests.{by_cases, and_left, and_right}
use Rattle.base.proofs.Chunks.{chunk_at}
use Rattle.base.proofs.Reaches.{rest_is}
use Rattle.base.proofs.Storings.{Storing, storing_room, storing_more}
use Rattle.base64_lenient.specs.Rfc4648.{pad}
use Rattle.base64_lenient.specs.Lenient.{six_bits, regroup}
use Rattle.base64_lenient.specs.Helpers.{values_of, bytes_from, Gathered, NextGroup, WholeGroups}
use Rattle.base64_lenient.specs.declared.decode.Group.{Group}
use Rattle.base64_lenient.proofs.Values.{has_value_lem, no_value, pad_ends}

-- ---- chunks of the rest of a list

-- the n-th of m elements each, from i on
pub rest_chunk : (m k i n : ℕ) (s : List ℕ) → n < k → get_or (first_chunks m k (take (length s - i) (drop i s))) n [] ≡ take m (drop (i + n * m) s)
rest_chunk m k i n s h = rw (rest_is, ← drop-drop (n * m) i s) (chunk_at m k n (drop i s) h)

-- ---- four of a list

-- the next four elements
cut_four : (s : List ℕ) (i : ℕ) → i + 4 ≤ length s → drop i s ≡ byte s i ∷ byte s (i + 1) ∷ byte s (i + 2) ∷ byte s (i + 3) ∷ drop (i + 4) s
cut_four s i h =
    let e₁ : i + 1 ≡ suc i = omega arith in
    let e₂ : i + 2 ≡ suc (suc i) = omega arith in
    let e₃ : i + 3 ≡ suc (suc (suc i)) = omega arith in
    let e₄ : i + 4 ≡ suc (suc (suc (suc i))) = omega arith in
    rw (
      e₁,
      e₂,
      e₃,
      e₄,
      drop-cons s i 0 (omega arith),
      drop-cons s (suc i) 0 (omega arith),
      drop-cons s (suc (suc i)) 0 (omega arith),
      drop-cons s (suc (suc (suc i))) 0 (omega arith),
    )

-- a group of four that stand together
pub chunk_is : (s : List ℕ) (i : ℕ) → i + 4 ≤ length s → take 4 (drop i s) ≡ byte s i ∷ byte s (i + 1) ∷ byte s (i + 2) ∷ byte s (i + 3) ∷ []
chunk_is s i h = rw (cut_four s i h)

-- a list of four
four_of : (v : List ℕ) → length v ≡ 4 → v ≡ byte v 0 ∷ byte v 1 ∷ byte v 2 ∷ byte v 3 ∷ []
four_of v h = cut_four v 0 (omega arith) ∙ rw (drop_of_length-le v {i = 4} (omega arith))

-- ---- the bytes of four values

module _ (v : List ℕ) (h : length v ≡ 4) where
  four_size : length (regroup v) ≡ 3
  unfolding regroup
  four_size = rw (four_of v h)

  -- and of others after them
  group_then : (l : List ℕ) → regroup (v ++ l) ≡ regroup v ++ regroup l
  unfolding regroup
  group_then l = rw (four_of v h)

-- ---- the next group

-- nothing is left at the end and before a pad character
pub none_at_end : (run : List ℕ) (j : ℕ) → length run ≤ j → values_of (drop j run) ≡ []
unfolding values_of
none_at_end run j h = rw (drop_of_length-le run h)

module _ (run : List ℕ) (j : ℕ) (l : j < length run) where
  cut_one : drop j run ≡ byte run j ∷ drop (j + 1) run
  cut_one = rw (add-one j, drop-cons run j 0 l)

  pub none_at_pad : byte run j ≡ pad → values_of (drop j run) ≡ []
  none_at_pad e = rw (cut_one, e) (pad_ends (drop (j + 1) run))

  module _ {i count : ℕ} {found : List ℕ} (u : Gathered run i found count j) where
    pub gathered_skip : (byte run j ≡ pad → ⊥) → (v : ℕ) → v ≡ six_bits (byte run j) → 64 ≤ v → Gathered run i found count (j + 1)
    gathered_skip n v e h =
        record {
          few = u.few;
          size = u.size;
          onward = omega (arith, u.onward);
          inside = omega arith;
          are = u.are ∙ ap (take count found ++◌) (rw cut_one (no_value (byte run j) (drop (j + 1) run) n (omega arith)));
          small = u.small;
        }

    pub gathered_more : count < 4 → (v : ℕ) → v ≡ six_bits (byte run j) → v < 64 → Gathered run i (set found count v) (count + 1) (j + 1)
    gathered_more h v e s =
        let t : take (count + 1) (set found count v) ≡ take count found ++ (v ∷ []) = rw (add-one count, take-suc-set found count v (omega (arith, u.size))) in
        let w : values_of (drop j run) ≡ v ∷ values_of (drop (j + 1) run) = rw (cut_one, e) (has_value_lem (byte run j) (drop (j + 1) run) (omega arith)) in
        record {
          few = omega arith;
          size = simp length-set u.size;
          onward = omega (arith, u.onward);
          inside = omega arith;
          are = u.are ∙ rw (w, t) (sym (append_snoc (take count found) v (values_of (drop (j + 1) run))));
          small = λ k. by_cases (eqb k count)
              (λ q. rw (eqb-true k count q, get_or-set_same found count v 0 (omega (arith, u.size))) s)
              (λ q. rw (get_or-set_other found count k v 0 (eqb-false k count q)) (u.small k));
        }

-- the values that were found
module _ {run found : List ℕ} {i count j : ℕ} (u : Gathered run i found count j) where
  taken_size : length (take count found) ≡ count
  taken_size = length-take-le count found (omega (arith, u.few, u.size))

  pub taken_few : length (take count found) ≤ 4
  taken_few = omega (arith, taken_size, u.few)

  pub taken_small : (k : ℕ) → get_or (take count found) k 0 < 64
  taken_small k =
      by_cases (ltb k count) (λ q. rw (get_or-take count found k 0 (ltb-true k count q)) (u.small k))
      (λ q. rw (get_or_past (take count found) k 0 (omega (arith, taken_size, ltb-false k count q))) (omega arith))

-- ---- whole groups

-- four characters together, with their values
pub record Together (run : List ℕ) (i a b c d : ℕ) : Type 0 where
  pub inside : i + 4 ≤ length run
  pub first : a ≡ six_bits (byte run i)
  pub second : b ≡ six_bits (byte run (i + 1))
  pub third : c ≡ six_bits (byte run (i + 2))
  pub fourth : d ≡ six_bits (byte run (i + 3))
  pub small : (a < 64) × (b < 64) × (c < 64) × (d < 64)

-- as the code tests that they have values
pub all_small : (a b c d : ℕ) → ((ltb a 64 && ltb b 64) && ltb c 64) && ltb d 64 ≡ true → (a < 64) × (b < 64) × (c < 64) × (d < 64)
all_small a b c d e =
    let f = and_left ((ltb a 64 && ltb b 64) && ltb c 64) (ltb d 64) e in
    let g = and_left (ltb a 64 && ltb b 64) (ltb c 64) f in (
      ltb-true a 64 (and_left (ltb a 64) (ltb b 64) g),
      ltb-true b 64 (and_right (ltb a 64) (ltb b 64) g),
      ltb-true c 64 (and_right (ltb a 64 && ltb b 64) (ltb c 64) f),
      ltb-true d 64 (and_right ((ltb a 64 && ltb b 64) && ltb c 64) (ltb d 64) e),
    )

together_bytes : {run : List ℕ} {i a b c d : ℕ} → Together run i a b c d → bytes_from run i ≡ regroup (a ∷ b ∷ c ∷ d ∷ []) ++ bytes_from run (i + 4)
unfolding regroup
together_bytes {run} {i} {a} {b} {c} {d} k =
    let s₃ = byte run (i + 3) ∷ drop (i + 4) run in
    let s₂ = byte run (i + 2) ∷ s₃ in
    let s₁ = byte run (i + 1) ∷ s₂ in
    rw (
      cut_four run i k.inside,
      has_value_lem (byte run i) s₁ (omega arith),
      has_value_lem (byte run (i + 1)) s₂ (omega arith),
      has_value_lem (byte run (i + 2)) s₃ (omega arith),
      has_value_lem (byte run (i + 3)) (drop (i + 4) run) (omega arith),
      k.first,
      k.second,
      k.third,
      k.fourth,
    )

module _ (run : List ℕ) (i : ℕ) {all out₀ out : List ℕ} {at p : ℕ} (u : Storing all out₀ at (bytes_from run i) out p) where
  module _ {a b c d : ℕ} (k : Together run i a b c d) where
    pub together_room : p + 3 ≤ length out
    unfolding regroup
    together_room = storing_room u (regroup (a ∷ b ∷ c ∷ d ∷ [])) (bytes_from run (i + 4)) (together_bytes k) refl

    pub together_stored : (o : List ℕ) → o ≡ sets out p (regroup (a ∷ b ∷ c ∷ d ∷ [])) → Storing all out₀ at (bytes_from run (i + 4)) o (p + 3)
    unfolding regroup
    together_stored o e = storing_more u (regroup (a ∷ b ∷ c ∷ d ∷ [])) (bytes_from run (i + 4)) (together_bytes k) refl o e

  pub whole_stored : {n : ℕ} {o : List ℕ} → WholeGroups run i out p n o → Storing all out₀ at (bytes_from run (i + n * 4)) o (p + n * 3)
  whole_stored {n} {o} w =
      record {
        same = sym (length-sets o (p + n * 3) (bytes_from run (i + n * 4))) ∙ ap length (sym w.stored) ∙ length-sets out p (bytes_from run i) ∙ u.same;
        room = omega (arith, w.reached, u.room);
        reached = omega (arith, w.reached, u.reached);
        is = u.is ∙ w.stored;
      }

  -- ---- the group after them

  module _ {g : Group} (w : NextGroup run i g) where
    abbrev stored : List ℕ
    stored = regroup (take g.count g.values)

    full : 4 ≤ g.count → length (take g.count g.values) ≡ 4
    full h = omega (arith, taken_size w.gathered, w.gathered.few)

    group_cut : bytes_from run i ≡ stored ++ bytes_from run g.end
    unfolding regroup
    group_cut =
        by_cases (ltb g.count 4)
        (λ e. rw (w.gathered.are, w.last (ltb-true g.count 4 e), append-nil (take g.count g.values)) (sym (append-nil stored)))
        (λ e. ap regroup w.gathered.are ∙ group_then (take g.count g.values) (full (ltb-false g.count 4 e)) (values_of (drop g.end run)))

    pub group_room : p + length stored ≤ length out
    group_room = storing_room u stored (bytes_from run g.end) group_cut refl

    pub group_stored : 4 ≤ g.count → (o : List ℕ) → o ≡ sets out p stored → Storing all out₀ at (bytes_from run g.end) o (p + 3)
    group_stored h o e = storing_more u stored (bytes_from run g.end) group_cut (four_size (take g.count g.values) (full h)) o e
