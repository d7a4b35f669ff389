-- For `unit_of`, `next_part` and WrittenSums: a unit by its length and its bytes, as the code tells it, and no unit is above an hour. By cases on the list,
-- and by one test of the table. Assumes nothing.
use Rattle.std.proofs.Common.{◌≡◌, ℕ, ◌≤◌, Bool, true, ◌&&◌, cond, T, eqb, leb, Option, Some, None, List, [], ◌∷◌, length, refl, zero-le, arith, ne_eqb, leb→le}
use Rattle.base.specs.Bytes.{byte, same_bytes}
use Rattle.base.specs.Helpers.{nonzero}
use Rattle.base.proofs.Tests.{and-false, and-true, by_cases, both_left, both_right, pick_le}
use Rattle.go_duration.specs.Units.{units, unit_in, unit_of}

-- ---- a unit, by its length and its bytes
abbrev one : ℕ → Option ℕ
one a = cond (eqb a 115) (Some 1000000000) (cond (eqb a 109) (Some 60000000000) (cond (eqb a 104) (Some 3600000000000) None))

abbrev two : ℕ → Option ℕ
two a = cond (eqb a 110) (Some 1) (cond (eqb a 117) (Some 1000) (cond (eqb a 109) (Some 1000000) None))

abbrev three : ℕ → ℕ → Option ℕ
three a b = cond (eqb a 0xC2 && eqb b 0xB5) (Some 1000) (cond (eqb a 0xCE && eqb b 0xBC) (Some 1000) None)

pub unit_by : (u : List ℕ) → nonzero (unit_of u)
    ≡ cond (eqb (length u) 1) (one (byte u 0))
    (cond (eqb (length u) 2) (cond (eqb (byte u 1) 115) (two (byte u 0)) None)
    (cond (eqb (length u) 3) (cond (eqb (byte u 2) 115) (three (byte u 0) (byte u 1)) None) None))
unfolding units unit_of same_bytes
unit_by [] = refl
unit_by (a ∷ []) =
    simp (and-false, and-true)
    (by_cases (eqb a 115) (λ p. rw p)
    (λ p. by_cases (eqb a 109) (λ q. rw (p, q)) (λ q. by_cases (eqb a 104) (λ r. rw (p, q, r)) (λ r. rw (p, q, r)))))
unit_by (a ∷ b ∷ []) =
    by_cases (eqb b 115)
    (λ e. simp (and-false, and-true, e)
    (by_cases (eqb a 110) (λ p. rw p)
    (λ p. by_cases (eqb a 117) (λ q. rw (p, q)) (λ q. by_cases (eqb a 109) (λ r. rw (p, q, r)) (λ r. rw (p, q, r))))))
    (λ e. simp (and-false, e))
unit_by (a ∷ b ∷ c ∷ []) =
    by_cases (eqb c 115)
    (λ e. simp (and-false, and-true, e)
    (by_cases (eqb a 0xC2 && eqb b 0xB5) (λ p. rw p) (λ p. by_cases (eqb a 0xCE && eqb b 0xBC) (λ q. rw (p, q)) (λ q. rw (p, q)))))
    (λ e. simp (and-false, e))
unit_by (a ∷ b ∷ c ∷ d ∷ u) =
    let n : ℕ = length (a ∷ b ∷ c ∷ d ∷ u) in
    simp (and-false, ne_eqb n 1 (λ e. omega arith), ne_eqb n 2 (λ e. omega arith), ne_eqb n 3 (λ e. omega arith))

-- ---- no unit is above an hour
abbrev rows_le : List (List ℕ × ℕ) → ℕ → Bool
rows_le [] n = true
rows_le (r ∷ rs) n = leb r.1 n && rows_le rs n

unit_in_le : (rs : List (List ℕ × ℕ)) (n : ℕ) (u : List ℕ) → T (rows_le rs n) → unit_in rs u ≤ n
unit_in_le [] n u t = zero-le
unit_in_le (r ∷ rs) n u t =
    pick_le (same_bytes u r.0) (leb→le r.1 n (both_left (leb r.1 n) (rows_le rs n) t))
    (unit_in_le rs n u (both_right (leb r.1 n) (rows_le rs n) t))

pub unit_le : (u : List ℕ) → unit_of u ≤ 3600000000000
unfolding units unit_of
unit_le u = unit_in_le units 3600000000000 u tt
