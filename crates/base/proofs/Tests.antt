-- For every crate: laws of tests, choices and ranges. By cases on the Bool. Assumes nothing.
use mathlib.Core.Path.{◌≡◌, refl, sym, ◌∙◌}
use mathlib.Core.Bool.{Bool, true, false, not, ◌&&◌, ◌||◌}
pub use mathlib.Core.Bool.{and-true, and-false, and_assoc}
use mathlib.Core.List.{List}
use Prim.Native.Nat.{ℕ, ◌≤◌, ◌<◌}
use native.Mathlib.Omega.{arith}
use borrow.Author.Tests.{not-true, not-false, le-leb, lt-leb, leb-true, ltb-true, ltb-false, eqb-true, eqb-false}
use mir.Val.{bool_byte}
use lib.Dec.{T, leb, ltb, eqb, lit≤}
use lib.ListN.{length, get_or-eq_default}
use Rattle.base.specs.Choice.{pick}
use Rattle.base.specs.Bytes.{byte, within}
use Rattle.base.specs.Classes.{is_digit}

pub and_left : (a b : Bool) → a && b ≡ true → a ≡ true
and_left true b e = refl
and_left false b e = e

pub and_right : (a b : Bool) → a && b ≡ true → b ≡ true
and_right true b e = e
and_right false b e = let z : false ≡ true = e in cc

-- the same of tests as propositions
pub both_left : (a b : Bool) → T (a && b) → T a
both_left true b t = tt
both_left false b t = t

pub both_right : (a b : Bool) → T (a && b) → T b
both_right true b t = t
both_right false b t = absurd t

pub or_case : {X : Type 0} (a b : Bool) → a || b ≡ true → (a ≡ true → X) → (b ≡ true → X) → X
or_case true b e f g = f refl
or_case false b e f g = g e

pub or_left : (a b : Bool) → a || b ≡ false → a ≡ false
or_left true b e = e
or_left false b e = refl

pub or_right : (a b : Bool) → a || b ≡ false → b ≡ false
or_right true b e = let z : true ≡ false = e in cc
or_right false b e = e

-- a test is true or false
pub by_cases {ℓ} : {X : Type ℓ} (b : Bool) → (b ≡ true → X) → (b ≡ false → X) → X
by_cases true f g = f refl
by_cases false f g = g refl

-- and not both
pub true_false : {X : Type 0} (b : Bool) → b ≡ true → b ≡ false → X
true_false b p q = let z : ◌≡◌ {A = ℕ} 0 1 = let w : true ≡ false = cc in cc in absurd (omega arith)

-- two constructors are told apart: `cc` proves 0 ≡ 1 from their equation
pub zero_one {ℓ} : {X : Type ℓ} → ◌≡◌ {A = ℕ} 0 1 → X
zero_one e = absurd (omega arith)

pub neither : (a b : Bool) → not (a || b) ≡ true → (a ≡ false) × (b ≡ false)
neither true b e = true_false false e refl
neither false true e = true_false false e refl
neither false false e = (refl, refl)

-- a test by the answer x of a call: as the code tests it, and negated
pub told : {t b : Bool} (x : Bool) → x ≡ t → x ≡ b → t ≡ b
told x e f = sym e ∙ f

pub failed : {t : Bool} (x : Bool) → x ≡ t → not x ≡ true → t ≡ false
failed x e f = sym e ∙ not-true x f

pub passed : {t : Bool} (x : Bool) → x ≡ t → not x ≡ false → t ≡ true
passed x e f = sym e ∙ not-false x f

-- a choice of one thing alone
pub pick_same {ℓ} : {A : Type ℓ} (b : Bool) (x : A) → pick b x x ≡ x
pick_same true x = refl
pick_same false x = refl

-- a choice that is z is the other one, where one is not z
pub pick_first {ℓ} : {A : Type ℓ} {x y z : A} (b : Bool) → (y ≡ z → ⊥) → pick b x y ≡ z → (b ≡ true) × (x ≡ z)
pick_first true n e = (refl, e)
pick_first false n e = absurd (n e)

pub pick_second {ℓ} : {A : Type ℓ} {x y z : A} (b : Bool) → (x ≡ z → ⊥) → pick b x y ≡ z → (b ≡ false) × (y ≡ z)
pick_second true n e = absurd (n e)
pick_second false n e = (refl, e)

-- a claim about a choice, from the claim in each case
pub pick_case {ℓ} : {A : Type ℓ} (P : A → Type 0) (b : Bool) {x y : A} → (b ≡ true → P x) → (b ≡ false → P y) → P (pick b x y)
pick_case P true f g = f refl
pick_case P false f g = g refl

pub pick_le : (b : Bool) {x y n : ℕ} → x ≤ n → y ≤ n → pick b x y ≤ n
pick_le true h k = h
pick_le false h k = k

-- where a number stands to a range
module _ (lo hi x : ℕ) where
  pub inside : lo ≤ x → x ≤ hi → within lo hi x ≡ true
  inside l h = simp (le-leb lo x l, le-leb x hi h)

  pub under : x < lo → within lo hi x ≡ false
  under h = simp (lt-leb lo x h)

  pub over : hi < x → within lo hi x ≡ false
  over h = rw (lt-leb x hi h) (and-false (leb lo x))

  pub within_low : within lo hi x ≡ true → lo ≤ x
  within_low e = leb-true lo x (and_left (leb lo x) (leb x hi) e)

  pub within_high : within lo hi x ≡ true → x ≤ hi
  within_high e = leb-true x hi (and_right (leb lo x) (leb x hi) e)

-- a test that fails at 0 and passes at the byte at i: i is in the text
pub in_text : (p : ℕ → Bool) (s : List ℕ) (i : ℕ) → p 0 ≡ false → p (byte s i) ≡ true → i < length s
in_text p s i z e =
    by_cases (ltb i (length s)) (λ q. ltb-true i (length s) q)
    (λ q. true_false (p (byte s i)) e (rw (get_or-eq_default s 0 (ltb-false i (length s) q)) z))

-- the test that a number is outside a range
pub outside : (lo hi x : ℕ) → ltb x lo || ltb hi x ≡ not (within lo hi x)
outside lo hi x =
    by_cases (ltb x lo) (λ p. rw (p, under lo hi x (ltb-true x lo p)))
    (λ p. by_cases (ltb hi x) (λ q. rw (p, q, over lo hi x (ltb-true hi x q)))
    (λ q. rw (p, q, inside lo hi x (ltb-false x lo p) (ltb-false hi x q))))

-- a range of one number
pub within_one : (k x : ℕ) → within k k x ≡ eqb x k
within_one k x =
    by_cases (eqb x k) (λ e. let q = eqb-true x k e in rw e (inside k k x (omega arith) (omega arith)))
    (λ e. let d = eqb-false x k e in by_cases (ltb x k) (λ l. rw e (under k k x (ltb-true x k l)))
    (λ l. let h = ltb-false x k l in rw e (over k k x (omega arith))))

-- a test as a number
pub as_number : (t : Bool) → bool_byte t ≡ pick t 1 0
as_number true = refl
as_number false = refl

-- which is at most 1
pub one_or_zero : (t : Bool) → bool_byte t ≤ 1
one_or_zero true = lit≤ tt
one_or_zero false = lit≤ tt

-- the bytes of digits
pub digit_range : (b : ℕ) → is_digit b ≡ true → (48 ≤ b) × (b ≤ 57)
unfolding is_digit
digit_range b e = (within_low 48 57 b e, within_high 48 57 b e)

-- past the end of a text, where 0 is read, no digit stands
pub no_digit : is_digit 0 ≡ false
unfolding is_digit
no_digit = refl
