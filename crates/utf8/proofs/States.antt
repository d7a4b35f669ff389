-- For `push` and strings: the check one byte at a time. Each return of `push`; and after all the bytes of a list nothing is wanted exactly where the list is
-- UTF8-octets. By induction on the list, a character at a time. Assumes nothing.
use mathlib.Core.Path.{◌≡◌, refl, ap, sym, ◌∙◌}
use mathlib.Core.Bool.{true, false, ◌&&◌, ◌||◌}
use mathlib.Core.List.{List, [], ◌∷◌, ◌++◌}
use Prim.Native.Nat.{ℕ, zero, suc, ◌+◌, ◌-◌, ◌≤◌, ◌<◌}
use native.Mathlib.Omega.{arith}
use borrow.Author.Tests.{not-true, not-false, eqb-true, eqb-false}
use lib.Dec.{ltb, eqb}
use lib.ListN.{length, drop, length-drop, drop_of_length-le}
use lib.Seq.{drop-append_seam, drop-cons}
use native.Mathlib.Numerals.{add-one}
use Rattle.base.specs.Bytes.{byte, within}
use Rattle.base.proofs.Tests.{and_left, and_right, by_cases, true_false, outside}
use Rattle.utf8.specs.Grammar.{Char, Octets, none, more, char_size, valid_to}
use Rattle.utf8.specs.Check.{is_tail}
use Rattle.utf8.specs.State.{tails_left, lead_of, tails, size_after, is_between, push, push_all}
use Rattle.utf8.specs.declared.state.State.{State}
use Rattle.utf8.specs.declared.state.State.TheVariants.{Between, Wants, IllFormed}
use Rattle.utf8.proofs.Leads.{lead_size}
use Rattle.utf8.proofs.Chars.{size_le, size_of_char, char_shape}
use Rattle.utf8.proofs.Valid.{valid_le, valid_step, valid_octets}

-- each return of `push` where a byte is wanted
module _ (lo hi n b : ℕ) where
  pub push_out : ltb b lo || ltb hi b ≡ true → IllFormed ≡ push (Wants lo hi n) b
  unfolding push
  push_out e = rw (not-true (within lo hi b) (sym (outside lo hi b) ∙ e))

  module _ (e : ltb b lo || ltb hi b ≡ false) where
    push_in : push (Wants lo hi n) b ≡ tails_left n
    unfolding push
    push_in = rw (not-false (within lo hi b) (sym (outside lo hi b) ∙ e))

    pub push_last : n ≡ 0 → Between ≡ push (Wants lo hi n) b
    push_last z = rw (push_in, z)

    pub push_more : (n ≡ 0 → ⊥) → Wants 0x80 0xBF (n - 1) ≡ push (Wants lo hi n) b
    push_more z = let s : n ≡ suc (n - 1) = omega arith in rw (push_in, ap tails_left s)

-- the loop of `push_all`
module _ (s : List ℕ) (k : ℕ) (t : State) where
  pub push_turn : (u : State) → k < length s → u ≡ push t (byte s k) → push_all u (drop (k + 1) s) ≡ push_all t (drop k s)
  unfolding push_all
  push_turn u h e = rw (e, add-one k, drop-cons s k 0 h)

  pub push_end : length s ≤ k → push_all t (drop k s) ≡ t
  unfolding push_all
  push_end h = rw (drop_of_length-le s h)

-- the bytes of two lists, one after the other
pub push_append : (t : State) (a b : List ℕ) → push_all t (a ++ b) ≡ push_all (push_all t a) b
unfolding push_all
push_append t [] b = refl
push_append t (x ∷ a) b = push_append (push t x) a b

-- a state in which no character has begun is the one between characters
pub between_is : (t : State) → is_between t ≡ true → t ≡ Between
between_is Between e = refl
between_is (Wants lo hi n) e = true_false false e refl
between_is IllFormed e = true_false false e refl

-- once ill-formed, always
ill_stays : (l : List ℕ) → push_all IllFormed l ≡ IllFormed
unfolding push_all push
ill_stays [] = refl
ill_stays (b ∷ l) = ill_stays l

-- where the UTF8-tails that are wanted follow, none is wanted after them; and where none is at the end, they follow
fed : (n : ℕ) (s : List ℕ) → tails n s ≡ true → push_all (tails_left n) s ≡ push_all Between (drop n s)
unfolding push_all push is_tail
fed zero s f = refl
fed (suc n) [] f = true_false false f refl
fed (suc n) (b ∷ s) f = rw (and_left (is_tail b) (tails n s) f) (fed n s (and_right (is_tail b) (tails n s) f))

unfed : (n : ℕ) (s : List ℕ) → is_between (push_all (tails_left n) s) ≡ true → tails n s ≡ true
unfolding push_all push is_tail
unfed zero s e = refl
unfed (suc n) [] e = e
unfed (suc n) (b ∷ s) e =
    by_cases (is_tail b) (λ w. rw w (unfed n s (rw w at e))) (λ w. true_false false (rw (w, ill_stays s) at e) refl)

-- the same of a state that wants more, and of the size of the character that has begun
size_fed : (t : State) (s : List ℕ) (k : ℕ) → size_after t s ≡ suc k → push_all t s ≡ push_all Between (drop k s)
unfolding push_all push
size_fed Between s zero e = refl
size_fed Between s (suc k) e = absurd (omega arith)
size_fed (Wants lo hi n) [] k e = absurd (omega arith)
size_fed (Wants lo hi n) (b ∷ s) k e =
    by_cases (within lo hi b && tails n s) (λ w. let q : suc (suc n) ≡ suc k = rw w at e in
    let z : k ≡ suc n = omega arith in
    rw (z, and_left (within lo hi b) (tails n s) w) (fed n s (and_right (within lo hi b) (tails n s) w)))
    (λ w. let q : 0 ≡ suc k = rw w at e in absurd (omega arith))
size_fed IllFormed s k e = absurd (omega arith)

fed_size : (t : State) (s : List ℕ) → is_between (push_all t s) ≡ true → (k : ℕ) × (size_after t s ≡ suc k)
unfolding push_all push
fed_size Between s e = (0, refl)
fed_size (Wants lo hi n) [] e = true_false false e refl
fed_size (Wants lo hi n) (b ∷ s) e =
    by_cases (within lo hi b) (λ w. (suc n, rw (w, unfed n s (rw w at e)))) (λ w. true_false false (rw (w, ill_stays s) at e) refl)
fed_size IllFormed s e = true_false false (rw (ill_stays s) at e) refl

module _ (a : ℕ) (s : List ℕ) where
  first_fed : push_all Between (a ∷ s) ≡ push_all (lead_of a) s
  unfolding push_all push
  first_fed = refl

  -- a character at the front leaves nothing wanted
  char_fed : (k : ℕ) → char_size (a ∷ s) ≡ suc k → push_all Between (a ∷ s) ≡ push_all Between (drop k s)
  char_fed k e = first_fed ∙ size_fed (lead_of a) s k (sym (lead_size a s) ∙ e)

  -- and where nothing is wanted at the end, a character stands at the front
  fed_char : is_between (push_all Between (a ∷ s)) ≡ true → (k : ℕ) × (char_size (a ∷ s) ≡ suc k)
  fed_char e = let f = fed_size (lead_of a) s (rw first_fed at e) in (f.0, lead_size a s ∙ f.1)

octet_fed : (c s : List ℕ) → Char c → push_all Between (c ++ s) ≡ push_all Between s
octet_fed [] s h = absurd (omega (arith, (char_shape h).some))
octet_fed (a ∷ c) s h = rw (char_fed a (c ++ s) (length c) (size_of_char s h), drop-append_seam c s)

pub octets_fed : {s : List ℕ} → Octets s → push_all Between s ≡ Between
unfolding push_all
octets_fed none = refl
octets_fed (more {c} {s} h o) = octet_fed c s h ∙ octets_fed o

-- n bounds the length
fed_valid : (n : ℕ) (s : List ℕ) → length s ≤ n → is_between (push_all Between s) ≡ true → valid_to s ≡ length s
fed_valid zero s h e = omega (arith, valid_le s)
fed_valid (suc n) [] h e = omega (arith, valid_le [])
fed_valid (suc n) (a ∷ s) h e =
    let c = fed_char a s e in
    let k = c.0 in
    let i : is_between (push_all Between (drop k s)) ≡ true = rw (char_fed a s k c.1) at e in
    let v = fed_valid n (drop k s) (omega (arith, length-drop k s)) i in
    omega (arith, valid_step (a ∷ s) k c.1, length-drop k s, size_le (a ∷ s))

-- the whole list is valid exactly where the state after it is between characters
pub state_law : (s : List ℕ) → eqb (valid_to s) (length s) ≡ is_between (push_all Between s)
state_law s =
    by_cases (eqb (valid_to s) (length s))
    (λ p. let o = octets_fed (valid_octets s (eqb-true (valid_to s) (length s) p)) in rw (p, o))
    (λ p. by_cases (is_between (push_all Between s))
    (λ q. absurd (eqb-false (valid_to s) (length s) p (fed_valid (length s) s (omega arith) q))) (λ q. rw (p, q)))

-- what `push` needs at each return
pub ruleset pushing = (push_out, push_last, push_more)
