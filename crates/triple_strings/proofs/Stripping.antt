-- For the dedent: the text without the indent, byte by byte as the code goes, is the text that the definition makes of its lines. By induction on the
-- text and on its lines. Assumes nothing.
use mathlib.Core.Path.{◌≡◌, refl, ap, sym, ◌∙◌}
use mathlib.Core.Bool.{Bool, true, false, ◌&&◌, cond}
use mathlib.Core.List.{List, [], ◌∷◌, ◌++◌, map}
use mathlib.Core.Logic.{⊎_elim}
use Prim.Native.Nat.{ℕ, suc, ◌+◌, ◌-◌, ◌≤◌, ◌<◌}
use native.Mathlib.Numerals.{add-one}
use native.Mathlib.Omega.{arith}
use borrow.Author.Tests.{eqb-true, eq-eqb, ne_eqb}
use lib.Dec.{eqb}
use lib.ListN.{length, drop, drop_of_length-le, take, length-append, length-drop}
use Rattle.std.specs.List.{slice_split, onto_first}
use Rattle.std.proofs.lemmas.List.Elements.{All-head, All-tail}
use Rattle.std.proofs.lemmas.List.Splits.{slice_split_none}
use Rattle.base.specs.Choice.{pick}
use lib.Seq.{drop-cons}
use Rattle.base.specs.Bytes.{byte}
use Rattle.base.proofs.Reaches.{rest_is}
use Rattle.base.proofs.Stores.{empty}
use Rattle.base.proofs.Tests.{and_right, pick_case, true_false}
use Rattle.triple_strings.specs.Dedent.{first, others, join, join_rest, last_of, init_of, blank, prefix, strip, unlead, unindent, dedent}
use Rattle.triple_strings.specs.Helpers.{lines, stripped, after, OneLine, LastLine}

abbrev pub newline : ℕ → Bool
newline b = eqb b 0x0A

-- ---- the lines

pub lines_split : (s : List ℕ) → lines s ≡ slice_split newline s
unfolding lines first others
lines_split [] = refl
lines_split (x ∷ s) = rw (← lines_split s) (go (eqb x 0x0A))
  where
    go : (b : Bool) → pick b [] (x ∷ first s) ∷ (pick b (first s ∷ []) [] ++ others s) ≡ cond b ([] ∷ lines s) (onto_first x (lines s))
    go true = refl
    go false = refl

lines_one : (s : List ℕ) → OneLine s → lines s ≡ s ∷ []
lines_one s h = lines_split s ∙ slice_split_none newline s h

-- ---- a line without the indent

strip_nil : (p : List ℕ) → strip p [] ≡ []
unfolding strip prefix
strip_nil [] = refl
strip_nil (a ∷ p) = refl

at_index : (s : List ℕ) (k : ℕ) → k < length s → drop k s ≡ byte s k ∷ drop (k + 1) s
at_index s k h = rw (add-one, drop-cons s k 0 h)

-- of a line and its indent, r and what follows the first k bytes are left to compare
abbrev pub Comparing : List ℕ → List ℕ → ℕ → List ℕ → Type 0
Comparing ind line k r = strip ind line ≡ pick (prefix (drop k ind) r) (drop (length (drop k ind)) r) line

pub comparing_first : (ind line : List ℕ) → Comparing ind line 0 line
unfolding strip
comparing_first ind line = refl

module _ (ind line : List ℕ) (k : ℕ) (r : List ℕ) (u : Comparing ind line k r) where
  pub comparing_end : length ind ≤ k → r ≡ strip ind line
  unfolding prefix
  comparing_end h = sym (u ∙ rw (drop_of_length-le ind h))

  module _ (h : k < length ind) where
    pub comparing_short : length r < 1 → line ≡ strip ind line
    unfolding prefix
    comparing_short l = sym (u ∙ rw (at_index ind k h, empty r (omega arith)))

    module _ (l : 1 ≤ length r) where
      next : Comparing ind line k (byte r 0 ∷ drop 1 r)
      next = rw (← at_index r 0 l) u

      pub comparing_other : (byte r 0 ≡ byte ind k → ⊥) → line ≡ strip ind line
      unfolding prefix
      comparing_other e = sym (next ∙ rw (at_index ind k h, ne_eqb (byte ind k) (byte r 0) (λ q. e (sym q))))

      pub comparing_on : byte r 0 ≡ byte ind k → Comparing ind line (k + 1) (take (length r - 1) (drop 1 r))
      unfolding prefix
      comparing_on e = next ∙ rw (at_index ind k h, rest_is r 1, eq-eqb (byte ind k) (byte r 0) (sym e))

-- what `strip` needs at each turn and each return
pub ruleset comparing = (comparing_first, comparing_end, comparing_short, comparing_other, comparing_on)

-- the indent p stands in f, the first line of s, as it does in s, and the lines o after that stay
abbrev InFirst : List ℕ → List ℕ → List ℕ → List (List ℕ) → Type 0
InFirst p s f o =
    (prefix p f ≡ prefix p s) × (prefix p s ≡ true → (drop (length p) f ≡ first (drop (length p) s)) × (o ≡ others (drop (length p) s)))

-- since it has no newline
in_first : (p s : List ℕ) → OneLine p → InFirst p s (first s) (others s)
unfolding prefix first others
in_first [] s h = (refl, λ _. (refl, refl))
in_first (a ∷ p) [] h = (refl, λ e. true_false false e refl)
in_first (a ∷ p) (x ∷ s) h = go (eqb x 0x0A) refl (in_first p s (All-tail (λ b. newline b ≡ false) a p h))
  where
    other : eqb x 0x0A ≡ true → eqb a x ≡ false
    other e = rw (eqb-true x 0x0A e) (All-head (λ b. newline b ≡ false) a p h)

    go : (b : Bool) → eqb x 0x0A ≡ b → InFirst p s (first s) (others s)
        → InFirst (a ∷ p) (x ∷ s) (pick b [] (x ∷ first s)) (pick b (first s ∷ []) [] ++ others s)
    go true e r = rw (other e) (refl, λ f. true_false false f refl)
    go false e r = (ap (eqb a x &&◌) r.0, λ f. r.1 (and_right (eqb a x) (prefix p s) f))

-- ---- the text without the indent, byte by byte

-- what is left of it in the middle of a line
unfoldable pub left : List ℕ → List ℕ → List ℕ
left ind r = first r ++ join_rest (map (strip ind) (others r))

pub left_end : (ind s : List ℕ) → length s < 1 → left ind s ≡ []
unfolding left first others
left_end ind s h = rw (empty s (omega arith)) refl

module _ (ind : List ℕ) (one : OneLine ind) where
  pub left_first : (s : List ℕ) → left ind (strip ind s) ≡ stripped ind s
  unfolding left stripped lines strip
  left_first s = rw ((in_first ind s one).0) (go (prefix ind s) (in_first ind s one).1)
    where
      go : (b : Bool)
          → (b ≡ true → (drop (length ind) (first s) ≡ first (drop (length ind) s)) × (others s ≡ others (drop (length ind) s)))
          → first (pick b (drop (length ind) s) s) ++ join_rest (map (strip ind) (others (pick b (drop (length ind) s) s)))
          ≡ pick b (drop (length ind) (first s)) (first s) ++ join_rest (map (strip ind) (others s))
      go true e = rw ((e refl).0, (e refl).1) refl
      go false e = refl

  left_cons : (x : ℕ) (t : List ℕ) → left ind (x ∷ t) ≡ x ∷ left ind (after ind x t)
  unfolding left first others stripped lines after
  left_cons x t = go (eqb x 0x0A) refl
    where
      go : (b : Bool) → eqb x 0x0A ≡ b
          → pick b [] (x ∷ first t) ++ join_rest (map (strip ind) (pick b (first t ∷ []) [] ++ others t)) ≡ x ∷ left ind (pick b (strip ind t) t)
      go true e = rw (left_first t, eqb-true x 0x0A e) refl
      go false e = refl

  pub left_more : (s : List ℕ) → 1 ≤ length s → left ind s ≡ byte s 0 ∷ left ind (after ind (byte s 0) (take (length s - 1) (drop 1 s)))
  left_more s h = rw (rest_is s 1) (ap (left ind) (at_index s 0 h) ∙ left_cons (byte s 0) (drop 1 s))

-- ---- the text is its lines

lines_join : (s : List ℕ) → join (lines s) ≡ s
unfolding lines first others
lines_join [] = refl
lines_join (x ∷ s) = go (eqb x 0x0A) refl (lines_join s)
  where
    go : (b : Bool) → eqb x 0x0A ≡ b → first s ++ join_rest (others s) ≡ s
        → pick b [] (x ∷ first s) ++ join_rest (pick b (first s ∷ []) [] ++ others s) ≡ x ∷ s
    go true e h = rw (h, eqb-true x 0x0A e)
    go false e h = rw h

module _ (ind : List ℕ) where
  strip_le : (l : List ℕ) → length (strip ind l) ≤ length l
  unfolding strip
  strip_le l = pick_case (λ (r : List ℕ). length r ≤ length l) (prefix ind l) (λ _. omega (arith, length-drop (length ind) l)) (λ _. omega arith)

  pub after_less : (s : List ℕ) → 1 ≤ length s → length (after ind (byte s 0) (take (length s - 1) (drop 1 s))) < length s
  unfolding after
  after_less s h =
      let t = take (length s - 1) (drop 1 s) in
      let l : length t < length s = omega (arith, ap length (rest_is s 1), length-drop 1 s) in
      pick_case (λ (r : List ℕ). length r < length s) (eqb (byte s 0) 0x0A) (λ _. omega (arith, strip_le t)) (λ _. omega arith)

  rest_le : (ls : List (List ℕ)) → length (join_rest (map (strip ind) ls)) ≤ length (join_rest ls)
  rest_le [] = omega arith
  rest_le (l ∷ ls) = omega (arith, rest_le ls, strip_le l, length-append (strip ind l) (join_rest (map (strip ind) ls)), length-append l (join_rest ls))

  join_le : (ls : List (List ℕ)) → length (join (map (strip ind) ls)) ≤ length (join ls)
  join_le [] = omega arith
  join_le (l ∷ ls) = omega (arith, rest_le ls, strip_le l, length-append (strip ind l) (join_rest (map (strip ind) ls)), length-append l (join_rest ls))

  pub stripped_le : (s : List ℕ) → length (stripped ind s) ≤ length s
  unfolding stripped
  stripped_le s = omega (arith, join_le (lines s), ap length (lines_join s))

-- an empty indent changes nothing
strip_empty : (ls : List (List ℕ)) → map (strip []) ls ≡ ls
unfolding strip prefix
strip_empty [] = refl
strip_empty (l ∷ ls) = rw (strip_empty ls)

pub stripped_empty : (ind s : List ℕ) → length ind ≡ 0 → stripped ind s ≡ s
unfolding stripped
stripped_empty ind s h = rw (empty ind h, strip_empty (lines s), lines_join s)

-- ---- the last line

lines_append : (b r : List ℕ) → lines (b ++ (0x0A ∷ r)) ≡ lines b ++ lines r
unfolding lines first others
lines_append [] r = refl
lines_append (x ∷ b) r = go (eqb x 0x0A) (lines_append b r)
  where
    go : (t : Bool) → lines (b ++ (0x0A ∷ r)) ≡ lines b ++ lines r
        → pick t [] (x ∷ first (b ++ (0x0A ∷ r))) ∷ (pick t (first (b ++ (0x0A ∷ r)) ∷ []) [] ++ others (b ++ (0x0A ∷ r)))
        ≡ (pick t [] (x ∷ first b) ∷ (pick t (first b ∷ []) [] ++ others b)) ++ lines r
    go true h = ap {B = List (List ℕ)} (λ ls. [] ∷ ls) h
    go false h = cc

last_snoc : (l x : List ℕ) (ls : List (List ℕ)) → last_of l (ls ++ (x ∷ [])) ≡ x
last_snoc l x [] = refl
last_snoc l x (m ∷ ls) = last_snoc m x ls

init_snoc : (l x : List ℕ) (ls : List (List ℕ)) → init_of l (ls ++ (x ∷ [])) ≡ l ∷ ls
init_snoc l x [] = refl
init_snoc l x (m ∷ ls) = ap {B = List (List ℕ)} (λ r. l ∷ r) (init_snoc m x ls)

-- one leading newline
pub unlead_newline : (t : List ℕ) → 1 ≤ length t → byte t 0 ≡ 0x0A → take (length t - 1) (drop 1 t) ≡ unlead t
unfolding unlead
unlead_newline [] h e = absurd (omega arith)
unlead_newline (x ∷ t) h e = rw (eq-eqb x 0x0A e) (rest_is (x ∷ t) 1)

pub unlead_other : (t : List ℕ) → (byte t 0 ≡ 0x0A → ⊥) → t ≡ unlead t
unfolding unlead
unlead_other [] e = refl
unlead_other (x ∷ t) e = rw (ne_eqb x 0x0A e)

pub unlead_short : (t : List ℕ) → length t < 1 → t ≡ unlead t
unfolding unlead
unlead_short [] h = refl
unlead_short (x ∷ t) h = absurd (omega arith)

-- what `unlead` needs at each return
pub ruleset unleading = (unlead_newline, unlead_other, unlead_short)

module _ {s body last : List ℕ} (u : LastLine s body last) where
  -- the last line, and the others
  cut : (last_of (first s) (others s) ≡ last) × (join (map (strip last) (init_of (first s) (others s))) ≡ stripped last body)
  unfolding stripped lines first others
  cut = ⊎_elim two one u.parts
    where
      two : s ≡ body ++ (0x0A ∷ last) → (last_of (first s) (others s) ≡ last) × (join (map (strip last) (init_of (first s) (others s))) ≡ stripped last body)
      two e =
          let l : first s ∷ others s ≡ first body ∷ (others body ++ (last ∷ [])) = ap lines e ∙ lines_append body last ∙ rw (lines_one last u.one) in
          let f : first s ≡ first body = cc in
          let o : others s ≡ others body ++ (last ∷ []) = cc in
          rw (f, o, last_snoc, init_snoc) (refl, refl)

      one : (body ≡ []) × (s ≡ last) → (last_of (first s) (others s) ≡ last) × (join (map (strip last) (init_of (first s) (others s))) ≡ stripped last body)
      one e =
          let l : first s ∷ others s ≡ last ∷ [] = ap lines e.1 ∙ lines_one last u.one in
          let f : first s ≡ last = cc in
          let o : others s ≡ [] = cc in
          rw (e.0, f, o, strip_nil) (refl, refl)

  module _ (raw : List ℕ) (e : s ≡ unlead raw) where
    is : dedent raw ≡ pick (blank 0 last) (stripped last body) s
    unfolding dedent unindent
    is = rw (← e, cut.0, cut.1)

    pub dedent_blank : true ≡ blank 0 last → stripped last body ≡ dedent raw
    dedent_blank h = sym (is ∙ rw (← h))

    pub dedent_plain : false ≡ blank 0 last → stripped [] s ≡ dedent raw
    dedent_plain h = sym (is ∙ rw (← h, stripped_empty [] s refl))

-- ---- the dedent is never longer than the raw bytes

init_rest_le : (l : List ℕ) (ls : List (List ℕ)) → length (join_rest (init_of l ls)) ≤ length (join_rest (l ∷ ls))
init_rest_le l [] = omega arith
init_rest_le l (m ∷ ls) =
    omega (arith, init_rest_le m ls, length-append l (join_rest (init_of m ls)), length-append l (join_rest (m ∷ ls)))

init_le : (l : List ℕ) (ls : List (List ℕ)) → length (join (init_of l ls)) ≤ length (join (l ∷ ls))
init_le l [] = omega arith
init_le l (m ∷ ls) = omega (arith, init_rest_le m ls, length-append l (join_rest (init_of m ls)), length-append l (join_rest (m ∷ ls)))

unindent_le : (s : List ℕ) → length (unindent s) ≤ length s
unfolding unindent lines
unindent_le s =
    pick_case (λ (r : List ℕ). length r ≤ length s) (blank 0 (last_of (first s) (others s)))
    (λ _.
    omega (arith, join_le (last_of (first s) (others s)) (init_of (first s) (others s)), init_le (first s) (others s), ap length (lines_join s)))
    (λ _. omega arith)

unlead_le : (s : List ℕ) → length (unlead s) ≤ length s
unfolding unlead
unlead_le [] = omega arith
unlead_le (x ∷ s) = pick_case (λ (r : List ℕ). length r ≤ suc (length s)) (eqb x 0x0A) (λ _. omega arith) (λ _. omega arith)

pub dedent_le : (raw : List ℕ) → length (dedent raw) ≤ length raw
unfolding dedent
dedent_le raw = omega (arith, unindent_le (unlead raw), unlead_le raw)
