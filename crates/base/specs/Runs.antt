-- Runs over the rest of a text: of bytes that pass a test, and of pieces of several bytes.
use Rattle.std.specs.Prelude.{Bool, List, [], ◌∷◌, ℕ, zero, suc, ◌+◌, ◌-◌, eqb, drop}
use Rattle.base.specs.Choice.{pick}
use Rattle.base.specs.Bytes.{byte}

-- how many of the first bytes of s pass the test, which sees a byte and the one after it (0 past the end)
unfoldable pub run : (ℕ → ℕ → Bool) → List ℕ → ℕ
run p [] = 0
run p (a ∷ s) = pick (p a (byte s 0)) (suc (run p s)) 0

-- the end of the run that starts at i
unfoldable pub reach : (ℕ → ℕ → Bool) → List ℕ → ℕ → ℕ
reach p s i = i + run p (drop i s)

-- How many bytes the pieces at the front have, after k bytes that are passed over. A size function gives the length of the piece at the
-- front, or 0 where the run stops.
unfoldable pub walk : (List ℕ → ℕ) → ℕ → List ℕ → ℕ
walk f k [] = 0
walk f zero (a ∷ s) = pick (eqb (f (a ∷ s)) 0) 0 (suc (walk f (f (a ∷ s) - 1) s))
walk f (suc k) (a ∷ s) = suc (walk f k s)

-- the end of the run of pieces that starts at i
unfoldable pub past : (List ℕ → ℕ) → List ℕ → ℕ → ℕ
past f s i = i + walk f 0 (drop i s)
