-- Helper definitions, for proofs and inner contracts alone: runs that are tested a block of bytes at a time, or searched a window at a time.
use Rattle.std.specs.Prelude.{◌≡◌, Bool, true, not, ◌&&◌, List, [], ◌∷◌, ℕ, ◌≤◌, eqb, min, length}
use Rattle.base.specs.Runs.{run, reach}

-- all bytes pass the test
unfoldable pub all_pass : (ℕ → Bool) → List ℕ → Bool
all_pass t [] = true
all_pass t (a ∷ s) = t a && all_pass t s

-- the test holds of each byte and the one after it; of the last byte it is not asked
unfoldable pub all_pairs : (ℕ → ℕ → Bool) → List ℕ → Bool
all_pairs p [] = true
all_pairs p (a ∷ []) = true
all_pairs p (a ∷ b ∷ s) = p a b && all_pairs p (b ∷ s)

-- any byte but c
abbrev pub is_not : ℕ → ℕ → Bool
is_not c a = not (eqb a c)

-- the same as the test of a run; what follows the byte does not count
abbrev pub other : ℕ → ℕ → ℕ → Bool
other c a b = is_not c a

-- r is in the run from i on, so that the run from r has the same end
pub record Ahead (p : ℕ → ℕ → Bool) (s : List ℕ) (i r : ℕ) : Type 0 where
  pub later : i ≤ r
  pub inside : r ≤ length s
  pub same : reach p s r ≡ reach p s i

-- how many of the first 64 bytes are in the run
unfoldable pub window_run : (ℕ → ℕ → Bool) → List ℕ → ℕ
window_run p s = min (run p s) 64
