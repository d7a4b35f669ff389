-- For `name_kind` and `directive`: a word by its length and its bytes, as the code tells it. By induction on the word. Assumes nothing.
use mathlib.Core.Path.{◌≡◌, refl, ap, sym}
use mathlib.Core.Bool.{Bool, true, ◌&&◌, and-false}
use mathlib.Core.List.{List, [], ◌∷◌}
use Prim.Native.Nat.{ℕ, suc}
use lib.Dec.{eqb, eqb-zero-suc, eqb-suc-zero, eqb-suc-suc}
use lib.ListN.{length}
use Rattle.base.specs.Bytes.{byte, same_bytes}
use Rattle.base.proofs.Tests.{by_cases}

-- the bytes of a word from the index i on
abbrev pub reads : List ℕ → ℕ → List ℕ → Bool
reads w i [] = true
reads w i (c ∷ p) = eqb (byte w i) c && reads w (suc i) p

reads_on : (a : ℕ) (w : List ℕ) (i : ℕ) (p : List ℕ) → reads (a ∷ w) (suc i) p ≡ reads w i p
reads_on a w i [] = refl
reads_on a w i (c ∷ p) = ap (eqb (byte w i) c &&◌) (reads_on a w (suc i) p)

pub same_by : (w p : List ℕ) → same_bytes w p ≡ eqb (length w) (length p) && reads w 0 p
unfolding same_bytes
same_by [] [] = refl
same_by [] (c ∷ p) = rw (eqb-zero-suc (length p))
same_by (a ∷ w) [] = rw (eqb-suc-zero (length w))
same_by (a ∷ w) (c ∷ p) =
    rw (eqb-suc-suc (length w) (length p), reads_on a w 0 p, same_by w p)
    (by_cases (eqb a c) (λ e. rw e) (λ e. rw e (sym (and-false (eqb (length w) (length p))))))
