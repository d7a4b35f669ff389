-- For the loops over candidates and `Claims`: what one candidate gives, and that the candidates tried so far are in order, before the next. A byte that cannot
-- stand gives nothing. By cases on what is seen, and by induction on the bytes and on the offsets. Assumes nothing.
use Rattle.std.specs.Prelude.{Option, Some, None}
use mathlib.Core.Path.{◌≡◌, refl, ap}
use mathlib.Core.Bool.{true, false, not, ◌&&◌}
use mathlib.Core.Logic.{inl, inr, ⊎_elim}
use mathlib.Core.List.Memᴰ
use mathlib.Core.List.{List, []}
use Prim.Native.Nat.{ℕ, zero, suc, ◌+◌, ◌*◌, ◌≤◌, ◌<◌, zero-le}
use native.Mathlib.Numerals.{add-one}
use native.Mathlib.Omega.{arith}
use lib.Dec.{eqb}
use lib.IntN.{ℤ}
use lib.ListN.{length, set, length-set, length-append}
use lib.Seq.{get_or-set_same}
use borrow.Author.Tests.{not-true}
use Rattle.base.specs.Bytes.{byte}
use Rattle.base.proofs.Tests.{and_left, pick_case, true_false}
use Rattle.limits.specs.Limits.{max_message_size, max_bytes_literal_length}
use Rattle.suggestion_list.specs.Order.{none, put, put_all}
use Rattle.suggestion_list.specs.declared.Suggestion.{Suggestion}
use Rattle.suggestion_list.proofs.Orders.{put_member, put_rising, put_all_append, put_all_length}
use Rattle.suggest.specs.Suggestions.{seen_in, first_byte, byte_count, entry_by, candidate, at_offset, up_to, suggestions_of}
use Rattle.suggest.specs.Helpers.{can_stand, Ordered}
use Rattle.suggest.proofs.SeenTexts.{seen_stand}

-- ---- one candidate

module _ (run : List ℕ) (i b : ℕ) where
  -- a byte that is tried is not the run's own
  pub tried_gives : not (eqb b (byte run i)) && can_stand b ≡ true → candidate run i b ≡ entry_by (seen_in max_bytes_literal_length (set run i b)) i b
  unfolding candidate
  tried_gives e = rw (not-true (eqb b (byte run i)) (and_left (not (eqb b (byte run i))) (can_stand b) e))

  -- one that is not tried gives nothing: it is the run's own, or it cannot stand
  module _ (h : i < length run) (l : length run ≤ max_message_size) (lo : first_byte ≤ b) (hi : b < first_byte + byte_count) where
    seen_none : (s : Option ℤ) → seen_in max_bytes_literal_length (set run i b) ≡ s → can_stand b ≡ false → entry_by s i b ≡ []
    seen_none None q n = refl
    seen_none (Some z) q n =
        let e : byte (set run i b) i ≡ b = get_or-set_same run i b 0 h in
        let c = seen_stand max_bytes_literal_length (set run i b) (rw length-set l) z q i (rw length-set h) (rw e (omega arith)) (rw e (omega arith)) in
        true_false (can_stand b) (rw e at c) n

    pub skipped_none : not (eqb b (byte run i)) && can_stand b ≡ false → candidate run i b ≡ []
    unfolding candidate
    skipped_none e =
        pick_case (λ (xs : List Suggestion). xs ≡ []) (eqb b (byte run i)) (λ _. refl)
        (λ q. seen_none (seen_in max_bytes_literal_length (set run i b)) refl (rw q at e))

-- ---- entries in order

-- no entries
pub ordered_none : Ordered 0 first_byte []
ordered_none = record { rising = none; tried = λ y m. absurd (Memᴰ.not-nil m) }

module _ {i b : ℕ} {es : List Suggestion} (o : Ordered i b es) where
  -- the next byte and the next offset come later
  pub ordered_byte : Ordered i (b + 1) es
  ordered_byte = record { rising = o.rising; tried = λ y m. ⊎_elim inl (λ p. inr (p.0, omega arith)) (o.tried y m) }

  pub ordered_offset : Ordered (i + 1) first_byte es
  ordered_offset = record { rising = o.rising; tried = λ y m. inl (⊎_elim (λ p. omega arith) (λ p. omega arith) (o.tried y m)) }

  -- an entry of the byte b at the offset i
  pub ordered_put : (z : ℤ) → Ordered i (b + 1) (put (record { nanos = z; offset = i; byte = b }) es)
  ordered_put z =
      let x : Suggestion = record { nanos = z; offset = i; byte = b } in
      record {
        rising = put_rising (record { rising = o.rising; behind = o.tried });
        tried = λ y m. ⊎_elim (λ q. inr (ap (λ (v : Suggestion). v.offset) q, rw q (omega arith))) (λ p. ordered_byte.tried y p) (put_member x y es m);
      }

  ordered_seen : (s : Option ℤ) → Ordered i (b + 1) (put_all es (entry_by s i b))
  unfolding put_all
  ordered_seen (Some z) = ordered_put z
  ordered_seen None = ordered_byte

  ordered_candidate : (run : List ℕ) → Ordered i (b + 1) (put_all es (candidate run i b))
  unfolding candidate put_all
  ordered_candidate run =
      pick_case (λ (xs : List Suggestion). Ordered i (b + 1) (put_all es xs)) (eqb b (byte run i)) (λ _. ordered_byte)
      (λ _. ordered_seen (seen_in max_bytes_literal_length (set run i b)))

-- the candidates of the first n bytes at an offset
ordered_bytes : (run : List ℕ) (i n : ℕ) {es : List Suggestion} → Ordered i first_byte es → Ordered i (first_byte + n) (put_all es (at_offset run i n))
unfolding at_offset put_all
ordered_bytes run i zero o = o
ordered_bytes run i (suc n) {es} o =
    let e : first_byte + n + 1 ≡ first_byte + suc n = omega arith in
    rw (put_all_append es (at_offset run i n) (candidate run i (first_byte + n)), ← e) (ordered_candidate (ordered_bytes run i n o) run)

-- and those of the first n offsets
pub ordered_up_to : (run : List ℕ) (n : ℕ) → Ordered n first_byte (put_all [] (up_to run n))
unfolding up_to put_all
ordered_up_to run zero = ordered_none
ordered_up_to run (suc n) =
    rw (put_all_append [] (up_to run n) (at_offset run n byte_count), ← add-one n) (ordered_offset (ordered_bytes run n byte_count (ordered_up_to run n)))

-- ---- how many there are

candidate_few : (run : List ℕ) (i b : ℕ) → length (candidate run i b) ≤ 1
unfolding candidate
candidate_few run i b = pick_case (λ (xs : List Suggestion). length xs ≤ 1) (eqb b (byte run i)) (λ _. zero-le)
    (λ _. go (seen_in max_bytes_literal_length (set run i b)))
  where
    go : (s : Option ℤ) → length (entry_by s i b) ≤ 1
    go (Some z) = omega arith
    go None = zero-le

bytes_few : (run : List ℕ) (i n : ℕ) → length (at_offset run i n) ≤ n
unfolding at_offset
bytes_few run i zero = zero-le
bytes_few run i (suc n) =
    omega (arith, length-append (at_offset run i n) (candidate run i (first_byte + n)), candidate_few run i (first_byte + n), bytes_few run i n)

offsets_few : (run : List ℕ) (n : ℕ) → length (up_to run n) ≤ n * byte_count
unfolding up_to
offsets_few run zero = zero-le
offsets_few run (suc n) = omega (arith, length-append (up_to run n) (at_offset run n byte_count), bytes_few run n byte_count, offsets_few run n)

pub suggestions_few : (run : List ℕ) → length (suggestions_of run) ≤ length run * byte_count
unfolding suggestions_of
suggestions_few run = omega (arith, put_all_length [] (up_to run (length run)), offsets_few run (length run))
