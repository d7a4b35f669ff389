-- For `char_end`, Boundaries, Scans and Shorts: a run of UTF8-tails is what the library counts, and a run of ASCII bytes is a run of characters, by one
-- byte after the other. Assumes nothing.
use mathlib.Core.Path.{◌≡◌, refl, ◌∙◌}
use mathlib.Core.Bool.{Bool, true}
use mathlib.Core.List.{List, [], ◌∷◌}
use Prim.Native.Nat.{ℕ, zero, suc, ◌+◌, ◌≤◌, ◌<◌}
use native.Mathlib.Omega.{arith}
use borrow.Author.Tests.{ltb-true, ltb-false}
use lib.Dec.{ltb}
use lib.ListN.{length, drop}
use lib.Seq.{drop-cons}
use Rattle.std.specs.List.{prefix_len}
use Rattle.base.specs.Bytes.{byte}
use Rattle.base.specs.Runs.{run, reach, past}
use Rattle.base.proofs.Reaches.{reach_step, reach_stop, reach_end}
use Rattle.base.proofs.Tests.{by_cases}
use Rattle.base.proofs.Walks.{past_step}
use Rattle.utf8.specs.Grammar.{char_size}
use Rattle.utf8.specs.Check.{is_tail, in_tails}
use Rattle.utf8.proofs.Chars.{ascii_size}

-- a run of UTF8-tails
pub tails_run : (s : List ℕ) → prefix_len is_tail s ≡ run in_tails s
unfolding run
tails_run [] = refl
tails_run (a ∷ s) = by_cases (is_tail a) (λ e. rw (e, tails_run s) (omega arith)) (λ e. rw e)

-- a run of ASCII bytes is a run of characters
pub ascii_past : (s : List ℕ) (i : ℕ) → i < length s → byte s i < 0x80 → past char_size s (i + 1) ≡ past char_size s i
ascii_past s i h a = past_step char_size s i 0 (omega arith) (rw (drop-cons s i 0 h) (ascii_size (byte s i) (drop (suc i) s) a))

module _ (p : ℕ → ℕ → Bool) (low : (a b : ℕ) → p a b ≡ true → ltb a 128 ≡ true) (s : List ℕ) where
  run_past : (n i : ℕ) → length s ≤ i + n → past char_size s (reach p s i) ≡ past char_size s i
  run_past zero i h = rw (reach_end p s i (omega arith))
  run_past (suc n) i h =
      let ih = run_past n (i + 1) (omega arith) in
      by_cases (ltb i (length s)) (λ q. let l = ltb-true i (length s) q in
      by_cases (p (byte s i) (byte s (i + 1)))
      (λ e. rw (← reach_step p s i l e) (ih ∙ ascii_past s i l (ltb-true (byte s i) 128 (low (byte s i) (byte s (i + 1)) e))))
      (λ e. rw (reach_stop p s i l e)))
      (λ q. rw (reach_end p s i (ltb-false i (length s) q)))

  -- so the run of characters from its end has the same end
  pub reach_past : (i : ℕ) → past char_size s (reach p s i) ≡ past char_size s i
  reach_past i = run_past (length s) i (omega arith)
