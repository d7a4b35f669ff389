-- For `suggest_durations`: the suggestions for a run are all replacements that count and no others, in order, whatever the limit. By induction on the bytes and
-- on the offsets, each candidate by what is seen. Assumes nothing.
use Rattle.std.specs.Prelude.{Option, Some, None}
use mathlib.Core.Path.{◌≡◌, refl, sym, ◌∙◌}
use mathlib.Core.Bool.{false}
use mathlib.Core.Logic.{⊎_elim}
use mathlib.Core.List.Memᴰ
use mathlib.Core.List.{List, [], ◌∷◌, Memᴰ}
use Prim.Native.Nat.{ℕ, zero, suc, ◌+◌, ◌-◌, ◌≤◌, ◌<◌}
use native.Mathlib.Nat.{eq-or-lt_of_le, le_of_suc-le-suc}
use native.Mathlib.Omega.{arith}
use lib.Dec.{eqb}
use lib.IntN.{ℤ}
use lib.ListN.{length, set, length-set}
use borrow.Author.Tests.{ne_eqb, eqb-false}
use Rattle.base.specs.Bytes.{byte}
use Rattle.base.proofs.Tests.{pick_case}
use Rattle.limits.specs.Limits.{max_message_size, max_bytes_literal_length}
use Rattle.suggestion_list.specs.declared.Suggestion.{Suggestion}
use Rattle.suggestion_list.proofs.Orders.{put_all_member, put_all_has}
use Rattle.suggest.specs.Counts.{Counts}
use Rattle.suggest.specs.Suggestions.{seen_in, first_byte, byte_count, entry_by, candidate, at_offset, up_to, suggestions_of}
use Rattle.suggest.specs.Claim.{Suggests, NoneCounts}
use Rattle.suggest.proofs.SeenTexts.{seen_same, sees_seen, seen_sees}
use Rattle.suggest.proofs.TriedBytes.{ordered_up_to}

module _ (run : List ℕ) (short : length run ≤ max_message_size) where
  -- the limit plays no part in a candidate's text
  any_limit : (limit limit' i b : ℕ) → seen_in limit (set run i b) ≡ seen_in limit' (set run i b)
  any_limit limit limit' i b =
      let h : length (set run i b) ≤ max_message_size = rw length-set short in
      sym (seen_same limit (set run i b) h) ∙ seen_same limit' (set run i b) h

  -- ---- one candidate

  counts_given : {limit i b : ℕ} {z : ℤ} → Counts limit run i b z → candidate run i b ≡ record { nanos = z; offset = i; byte = b } ∷ []
  unfolding candidate
  counts_given {limit} {i} {b} c =
      let e = any_limit max_bytes_literal_length limit i b ∙ sees_seen limit (set run i b) c.sees in
      rw (ne_eqb b (byte run i) c.replaces.different, e)

  given_counts : (limit i b : ℕ) (x : Suggestion) → i < length run → first_byte ≤ b → b < first_byte + byte_count → Memᴰ x (candidate run i b)
      → Counts limit run x.offset x.byte x.nanos
  unfolding candidate
  given_counts limit i b x h lo hi =
      pick_case (λ (xs : List Suggestion). Memᴰ x xs → Counts limit run x.offset x.byte x.nanos) (eqb b (byte run i))
      (λ _ m. absurd (Memᴰ.not-nil m)) (λ n. go (seen_in max_bytes_literal_length (set run i b)) refl n)
    where
      go : (s : Option ℤ) → seen_in max_bytes_literal_length (set run i b) ≡ s → eqb b (byte run i) ≡ false → Memᴰ x (entry_by s i b)
          → Counts limit run x.offset x.byte x.nanos
      go None q n m = absurd (Memᴰ.not-nil m)
      go (Some z) q n m =
          rw (Memᴰ.eq_of_singleton m)
          (record {
            replaces = record { inside = h; low = omega arith; high = omega arith; different = eqb-false b (byte run i) n };
            sees = seen_sees limit (set run i b) z (any_limit limit max_bytes_literal_length i b ∙ q);
          })

  -- ---- all of them

  bytes_count : (limit i n : ℕ) (x : Suggestion) → i < length run → n ≤ byte_count → Memᴰ x (at_offset run i n)
      → Counts limit run x.offset x.byte x.nanos
  unfolding at_offset
  bytes_count limit i zero x h l m = absurd (Memᴰ.not-nil m)
  bytes_count limit i (suc n) x h l m =
      ⊎_elim (λ p. bytes_count limit i n x h (omega arith) p)
      (λ p. given_counts limit i (first_byte + n) x h (omega arith) (omega arith) p) (Memᴰ.append_cases (at_offset run i n) m)

  offsets_count : (limit n : ℕ) (x : Suggestion) → n ≤ length run → Memᴰ x (up_to run n) → Counts limit run x.offset x.byte x.nanos
  unfolding up_to
  offsets_count limit zero x l m = absurd (Memᴰ.not-nil m)
  offsets_count limit (suc n) x l m =
      ⊎_elim (λ p. offsets_count limit n x (omega arith) p) (λ p. bytes_count limit n byte_count x (omega arith) (omega arith) p)
      (Memᴰ.append_cases (up_to run n) m)

  -- an entry of a candidate is one of its offset, and of the run
  bytes_have : (i k n : ℕ) (x : Suggestion) → k < n → Memᴰ x (candidate run i (first_byte + k)) → Memᴰ x (at_offset run i n)
  unfolding at_offset
  bytes_have i k zero x l m = absurd (omega arith)
  bytes_have i k (suc n) x l m =
      ⊎_elim (λ e. Memᴰ.append_right (at_offset run i n) (rw e at m)) (λ h. Memᴰ.append_left (candidate run i (first_byte + n)) (bytes_have i k n x h m))
      (eq-or-lt_of_le (le_of_suc-le-suc l))

  offsets_have : (i n : ℕ) (x : Suggestion) → i < n → Memᴰ x (at_offset run i byte_count) → Memᴰ x (up_to run n)
  unfolding up_to
  offsets_have i zero x l m = absurd (omega arith)
  offsets_have i (suc n) x l m =
      ⊎_elim (λ e. Memᴰ.append_right (up_to run n) (rw e at m)) (λ h. Memᴰ.append_left (at_offset run n byte_count) (offsets_have i n x h m))
      (eq-or-lt_of_le (le_of_suc-le-suc l))

  complete : (limit i b : ℕ) (z : ℤ) → Counts limit run i b z → Memᴰ (record { nanos = z; offset = i; byte = b }) (suggestions_of run)
  unfolding suggestions_of
  complete limit i b z c =
      let x : Suggestion = record { nanos = z; offset = i; byte = b } in
      let r = c.replaces in
      let e : first_byte + (b - first_byte) ≡ b = omega (arith, r.low) in
      let m : Memᴰ x (candidate run i (first_byte + (b - first_byte))) = rw (e, counts_given c) (Memᴰ.head refl) in
      put_all_has x [] (up_to run (length run))
      (offsets_have i (length run) x r.inside (bytes_have i (b - first_byte) byte_count x (omega (arith, r.low, r.high)) m))

  sound : (limit : ℕ) (x : Suggestion) → Memᴰ x (suggestions_of run) → Counts limit run x.offset x.byte x.nanos
  unfolding suggestions_of
  sound limit x m =
      ⊎_elim (λ p. absurd (Memᴰ.not-nil p)) (λ p. offsets_count limit (length run) x (omega arith) p)
      (put_all_member x [] (up_to run (length run)) m)

  -- where there is an entry, something counts
  some_counts : NoneCounts run → (es : List Suggestion) → suggestions_of run ≡ es → es ≡ []
  some_counts n [] e = refl
  some_counts n (x ∷ es) e = absurd (n 0 x.offset x.byte x.nanos (sound 0 x (rw e (Memᴰ.head refl))))

  pub suggests : Suggests run (suggestions_of run)
  unfolding suggestions_of
  suggests =
      record {
        sound = sound;
        complete = complete;
        rising = (ordered_up_to run (length run)).rising;
        empty_only = λ e limit i b z c. Memᴰ.not-nil (rw e at (complete limit i b z c));
        empty_then = λ n. some_counts n (suggestions_of run) refl;
      }
