-- For the check, Boundaries and the crates above: the valid prefix that the reader computes and the rule UTF8-octets say the same, so the answer of the
-- check is right both ways. By induction on the characters. Assumes nothing.
use mathlib.Core.Path.{◌≡◌, refl, ap, sym, ◌∙◌}
use mathlib.Core.List.{List, [], ◌∷◌, ◌++◌, append_assoc}
use Prim.Native.Nat.{ℕ, zero, suc, ◌+◌, ◌≤◌}
use native.Mathlib.Omega.{arith}
use borrow.Author.Tests.{eqb-true, eqb-false}
use lib.Dec.{eqb}
use lib.ListN.{length, take, drop, length-append, length-drop, take-append-drop}
use lib.Seq.{drop-append_seam, take-add, take-length, length-take-le}
use Rattle.std.specs.Prelude.{Result, Ok, Err}
use Rattle.base.specs.Runs.{past}
use Rattle.base.proofs.Tests.{by_cases}
use Rattle.base.proofs.Walks.{past_step, past_stop, past_end, past_le}
use Rattle.utf8.specs.Grammar.{Char, Octets, none, more, char_size, valid_to}
use Rattle.utf8.specs.Check.{check_of, FirstIll, Checked}
use Rattle.utf8.specs.declared.check.Utf8Error.{Utf8Error}
use Rattle.utf8.proofs.Chars.{char_of_size, size_le, size_of_char, char_shape}

-- the run of characters from i on is the valid prefix of the rest
pub past_valid : (s : List ℕ) (i : ℕ) → past char_size s i ≡ i + valid_to (drop i s)
unfolding past valid_to
past_valid s i = omega arith

pub valid_le : (s : List ℕ) → valid_to s ≤ length s
unfolding valid_to
valid_le s = past_le char_size s 0 (omega arith)

-- a character at the front, and then the valid prefix of the rest
pub valid_step : (s : List ℕ) (k : ℕ) → char_size s ≡ suc k → valid_to s ≡ suc k + valid_to (drop (suc k) s)
valid_step s k e =
    let a = past_step char_size s 0 k (omega (arith, size_le s)) e in
    let z : 0 + suc k ≡ suc k = omega arith in
    omega (arith, past_valid s 0, past_valid s (suc k), rw z at a)

-- no character at the front
valid_stop : (s : List ℕ) → char_size s ≡ 0 → valid_to s ≡ 0
unfolding valid_to
valid_stop [] e = past_end char_size [] 0 (omega arith)
valid_stop (a ∷ s) e = past_stop char_size (a ∷ s) 0 (omega arith) e

valid_char : {c : List ℕ} (t : List ℕ) → Char c → valid_to (c ++ t) ≡ length c + valid_to t
valid_char {c} t h = go (length c) refl
  where
    go : (n : ℕ) → length c ≡ n → valid_to (c ++ t) ≡ length c + valid_to t
    go zero e = absurd (omega (arith, (char_shape h).some))
    go (suc k) e =
        let v = valid_step (c ++ t) k (size_of_char t h ∙ e) in
        rw (← e, drop-append_seam c t) at v

pub valid_append : {p : List ℕ} (t : List ℕ) → Octets p → valid_to (p ++ t) ≡ length p + valid_to t
valid_append t none = omega arith
valid_append t (more {c} {s} h o) =
    rw (append_assoc c s t) (omega (arith, valid_char (s ++ t) h, valid_append t o, length-append c s))

-- what the rule accepts is valid to its end
pub octets_valid : {s : List ℕ} → Octets s → valid_to s ≡ length s
octets_valid none = omega (arith, valid_le [])
octets_valid (more {c} {s} h o) = omega (arith, valid_char s h, octets_valid o, length-append c s)

-- the valid prefix is what the rule accepts; n bounds the length
prefix : (n : ℕ) (s : List ℕ) → length s ≤ n → Octets (take (valid_to s) s)
prefix zero s h = let e : valid_to s ≡ 0 = omega (arith, valid_le s) in rw e none
prefix (suc n) s h = go (char_size s) refl (λ k g. prefix n (drop (suc k) s) (omega (arith, length-drop (suc k) s)))
  where
    go : (m : ℕ) → char_size s ≡ m → ((k : ℕ) → char_size s ≡ suc k → Octets (take (valid_to (drop (suc k) s)) (drop (suc k) s)))
        → Octets (take (valid_to s) s)
    go zero e ih = rw (valid_stop s e) none
    go (suc k) e ih = rw (valid_step s k e, take-add (suc k) (valid_to (drop (suc k) s)) s) (more (char_of_size s k e) (ih k e))

valid_prefix : (s : List ℕ) → Octets (take (valid_to s) s)
valid_prefix s = prefix (length s) s (omega arith)

pub valid_octets : (s : List ℕ) → valid_to s ≡ length s → Octets s
valid_octets s e = rw (e, take-length s) at (valid_prefix s)

-- where the rule accepts a prefix, the text's valid prefix goes on with that of the rest
pub valid_split : (s : List ℕ) (i : ℕ) → i ≤ length s → Octets (take i s) → valid_to s ≡ i + valid_to (drop i s)
valid_split s i h o = rw (take-append-drop i s, length-take-le i s h) at (valid_append (drop i s) o)

-- the first ill-formed sequence begins after the valid prefix
first_ill : (s : List ℕ) → (valid_to s ≡ length s → ⊥) → FirstIll s (valid_to s)
first_ill s d =
    record {
      inside = omega (arith, valid_le s);
      good = valid_prefix s;
      longest = λ m l h o. absurd (omega (arith, valid_split s m h o));
      ill = λ c t e h.
          absurd (omega (arith, valid_split s (valid_to s) (valid_le s) (valid_prefix s), ap valid_to e, valid_char t h, (char_shape h).some));
    }

-- the answer of the check
pub checked : (s : List ℕ) (r : Result (Unit {0}) Utf8Error) → r ≡ check_of s → Checked s r
unfolding check_of
checked s r q =
    by_cases (eqb (valid_to s) (length s)) (λ e. let p : r ≡ Ok tt = rw e at q in
    record {
      same = q;
      whole = λ w. valid_octets s (eqb-true (valid_to s) (length s) e);
      only = λ o. p;
      first = λ x w. let z : ◌≡◌ {A = ℕ} 0 1 = cc in absurd (omega arith);
    })
    (λ e. let p : r ≡ Err (record { valid_up_to = valid_to s }) = rw e at q in
    record {
      same = q;
      whole = λ w. let z : ◌≡◌ {A = ℕ} 0 1 = cc in absurd (omega arith);
      only = λ o. absurd (eqb-false (valid_to s) (length s) e (octets_valid o));
      first = λ x w. let z : valid_to s ≡ x.valid_up_to = cc in rw z at (first_ill s (eqb-false (valid_to s) (length s) e));
    })

-- the answer says where the valid prefix ends
pub whole_end_lem : (s : List ℕ) (r : Result (Unit {0}) Utf8Error) → Checked s r → r ≡ Ok tt → length s ≡ valid_to s
whole_end_lem s r c e = sym (octets_valid (c.whole e))

pub ill_end : (s : List ℕ) (r : Result (Unit {0}) Utf8Error) (x : Utf8Error) → Checked s r → r ≡ Err x → x.valid_up_to ≡ valid_to s
unfolding check_of
ill_end s r x c e =
    let q = sym e ∙ c.same in
    by_cases (eqb (valid_to s) (length s)) (λ z. let p : ◌≡◌ {A = Result (Unit {0}) Utf8Error} (Err x) (Ok tt) = rw z at q in cc)
    (λ z. let p : ◌≡◌ {A = Result (Unit {0}) Utf8Error} (Err x) (Err (record { valid_up_to = valid_to s })) = rw z at q in cc)
