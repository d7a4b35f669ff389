-- For `place_for`: the entries of a list of numbers as arrays, and how a search by their nanoseconds parts them. By induction on how many there are, and by
-- the order of signed numbers. Assumes nothing.
use Rattle.std.specs.List.Sorted.{IsPartitionedBy, IsPartitionPoint}
use Rattle.std.specs.Simd.{first_chunks}
use mathlib.Core.Path.{◌≡◌, ◌∙◌}
use mathlib.Core.Bool.{true, false, not}
use mathlib.Core.List.{List, []}
use Prim.Native.Nat.{ℕ, zero, suc, ◌+◌, ◌*◌, ◌/◌, ◌≤◌, ◌<◌, zero-le}
use native.Mathlib.Omega.{arith}
use lib.IntN.{ℤ, pos}
use lib.ListN.{length, get_or, drop, length-drop}
use lib.Seq.{get_or-take, get_or-drop}
use lib.Signed.{lt_z}
use borrow.Author.Tests.{not-true, not-false}
use Rattle.suggestion_list.specs.Rows.{entry_width}
use Rattle.suggestion_list.specs.Helpers.{nanos_at, Climbs, Parts}
use Rattle.suggestion_list.proofs.Signs.{no_less_on}

-- the nanoseconds of the k-th array
chunk_nanos : (n k : ℕ) (s d : List ℤ) → k < n → n * entry_width ≤ length s
    → get_or (get_or (first_chunks entry_width n s) k d) 0 (pos 0) ≡ nanos_at s k
chunk_nanos zero k s d h l = absurd (omega arith)
chunk_nanos (suc n) zero s d h l = get_or-take entry_width s 0 (pos 0) (omega arith)
chunk_nanos (suc n) (suc k) s d h l =
    let e : suc k * entry_width ≡ entry_width + k * entry_width = omega arith in
    chunk_nanos n k (drop entry_width s) d (omega arith) (omega (arith, length-drop entry_width s)) ∙ rw e (get_or-drop entry_width s (k * entry_width) (pos 0))

module _ (l : List ℤ) (z : ℤ) (chunks : List (List ℤ)) (are : chunks ≡ first_chunks entry_width (length l / entry_width) l)
    (size : length chunks ≡ length l / entry_width) where
  nanos_are : (k : ℕ) (d : List ℤ) → k < length l / entry_width → get_or (get_or chunks k d) 0 (pos 0) ≡ nanos_at l k
  nanos_are k d h = rw are (chunk_nanos (length l / entry_width) k l d h (omega arith))

  -- those of at most as many nanoseconds come first
  pub at_most_first : Climbs l (length l / entry_width) → IsPartitionedBy (λ e. not (lt_z z (get_or e 0 (pos 0)))) chunks
  at_most_first c i j d h g e =
      let f = rw (nanos_are j d (omega (arith, size))) at (not-true _ e) in
      rw (nanos_are i d (omega (arith, size)), no_less_on z (nanos_at l j) (nanos_at l i) f (c i j h (omega (arith, size))))

  pub parted : {r : ℕ} → r ≤ length l / entry_width
      → IsPartitionPoint (λ e. not (lt_z z (get_or e 0 (pos 0))) ≡ true) (λ e. not (lt_z z (get_or e 0 (pos 0))) ≡ false) chunks r
      → Parts l (length l / entry_width) z r
  parted h w =
      record {
        before = λ k g. rw (nanos_are k [] (omega arith)) at (not-true _ (w.0 k [] zero-le g));
        after = λ k g m. rw (nanos_are k [] m) at (not-false _ (w.1 k [] g (omega (arith, size))));
      }
