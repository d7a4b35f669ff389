-- For scan, strings, triple_strings, lexer and reading: boundaries, the offsets from which a text is UTF-8 to its end. How one is reached from another, and
-- that they are the offsets not inside a character. By induction on the characters. Assumes nothing.
use mathlib.Core.Path.{◌≡◌, refl, ◌∙◌}
use mathlib.Core.Bool.{Bool, true, false}
use mathlib.Core.List.{List, ◌++◌}
use Prim.Native.Nat.{ℕ, zero, suc, ◌+◌, ◌-◌, ◌≤◌, ◌<◌, zero-le}
use native.Mathlib.Nat.{add-zero}
use native.Mathlib.Omega.{arith}
use borrow.Author.Tests.{ltb-true, ltb-false, leb-true, leb-false}
use lib.Dec.{ltb, leb}
use lib.ListN.{length, take, drop, length-append, length-drop, get_or-append, get_or-eq_default}
use lib.Seq.{drop-cons, get_or-drop, take-nil, drop-nil, drop-drop, take-append-add, drop-append-add, get_or-append-add}
use Rattle.base.specs.Bytes.{byte}
use Rattle.base.specs.Runs.{reach}
use Rattle.base.proofs.Reaches.{reach_ge, reach_le, reach_fails}
use Rattle.base.proofs.Walks.{past_step}
use Rattle.base.proofs.Tests.{by_cases, true_false}
use Rattle.utf8.specs.Grammar.{Octets, none, more, char_size, valid_to}
use Rattle.utf8.specs.Onward.{Boundary}
use Rattle.utf8.specs.Check.{is_tail, inside_char, in_tails, char_end}
use Rattle.utf8.proofs.Runs.{reach_past}
use Rattle.utf8.proofs.Chars.{ascii_size, size_le, char_shape}
use Rattle.utf8.proofs.Valid.{past_valid, octets_valid, valid_octets, valid_split}

-- a boundary is in the text, and the rest from it is UTF8-octets; and so the other way
pub boundary_le : (s : List ℕ) (i : ℕ) → Boundary s i → i ≤ length s
unfolding Boundary
boundary_le s i b = omega (arith, past_valid s i)

pub boundary_rest : (s : List ℕ) (i : ℕ) → Boundary s i → Octets (drop i s)
unfolding Boundary
boundary_rest s i b = valid_octets (drop i s) (omega (arith, past_valid s i, length-drop i s))

pub rest_boundary : (s : List ℕ) (i : ℕ) → i ≤ length s → Octets (drop i s) → Boundary s i
unfolding Boundary
rest_boundary s i h o = omega (arith, past_valid s i, octets_valid o, length-drop i s)

-- the start of a well-formed text
pub boundary_start : (s : List ℕ) → valid_to s ≡ length s → Boundary s 0
unfolding Boundary valid_to
boundary_start s e = e

-- past a character there is a boundary again
pub next_boundary : (s : List ℕ) (i k : ℕ) → char_size (drop i s) ≡ suc k → Boundary s i → Boundary s (i + suc k)
unfolding Boundary
next_boundary s i k e b = past_step char_size s i k (omega (arith, size_le (drop i s), length-drop i s)) e ∙ b

-- past an ASCII byte there is a boundary again
pub ascii_boundary : (s : List ℕ) (i : ℕ) → i < length s → byte s i < 0x80 → Boundary s i → Boundary s (i + 1)
ascii_boundary s i h a b = next_boundary s i 0 (rw (drop-cons s i 0 h) (ascii_size (byte s i) (drop (suc i) s) a)) b

-- a run of ASCII bytes from a boundary ends at one
pub reach_boundary : (p : ℕ → ℕ → Bool) → ((a b : ℕ) → p a b ≡ true → ltb a 128 ≡ true) → (s : List ℕ) (i : ℕ) → Boundary s i → Boundary s (reach p s i)
unfolding Boundary
reach_boundary p low s i b = reach_past p low s i ∙ b

-- a well-formed text begins with no tail byte
lead_first : {s : List ℕ} → Octets s → is_tail (byte s 0) ≡ false
unfolding is_tail
lead_first none = refl
lead_first (more {c} {s} h o) = let k = char_shape h in rw (get_or-append c s 0 0 k.some) k.lead

-- where no tail byte stands, a well-formed text falls in two that are well formed
pub octets_cut : {s : List ℕ} → Octets s → (i : ℕ) → i ≤ length s → is_tail (byte s i) ≡ false → Octets (take i s) × Octets (drop i s)
octets_cut none i h e = (rw (take-nil i) none, rw (drop-nil i) none)
octets_cut (more {c} {s} q o) i h e =
    by_cases (leb (length c) i) (λ t. let l = leb-true (length c) i t in
    let j : length c + (i - length c) ≡ i = omega arith in
    let r = octets_cut o (i - length c) (omega (arith, length-append c s)) (rw (← j, get_or-append-add c s (i - length c) 0) at e) in
    (rw (← j, take-append-add c s (i - length c)) (more q r.0), rw (← j, drop-append-add c s (i - length c)) r.1))
    (λ t. within_char i (leb-false (length c) i t) e)
  where
    within_char : (m : ℕ) → m < length c → is_tail (byte (c ++ s) m) ≡ false → Octets (take m (c ++ s)) × Octets (drop m (c ++ s))
    within_char zero l f = (none, more q o)
    within_char (suc m) l f =
        true_false (is_tail (byte (c ++ s) (suc m))) (rw (get_or-append c s 0 (suc m) l) ((char_shape q).tailed (suc m) (omega arith) l)) f

-- past the end stands no tail byte
no_tail : (s : List ℕ) (j : ℕ) → (j < length s → is_tail (byte s j) ≡ false) → is_tail (byte s j) ≡ false
unfolding is_tail
no_tail s j stop =
    by_cases (ltb j (length s)) (λ t. stop (ltb-true j (length s) t)) (λ t. rw (get_or-eq_default s 0 (ltb-false j (length s) t)))

-- any later offset at which no tail byte stands is a boundary too
pub boundary_at : (s : List ℕ) (j : ℕ) → j ≤ length s → (j < length s → is_tail (byte s j) ≡ false) → (i : ℕ) → i ≤ j → Boundary s i → Boundary s j
boundary_at s j h stop i l b =
    let q : i + (j - i) ≡ j = omega arith in
    let f : is_tail (byte (drop i s) (j - i)) ≡ false = rw (get_or-drop i s (j - i) 0, q) (no_tail s j stop) in
    rest_boundary s j h (rw (drop-drop (j - i) i s, q) at (octets_cut (boundary_rest s i b) (j - i) (omega (arith, length-drop i s)) f).1)

-- what holds at an offset that is not inside a character
pub record Between (s : List ℕ) (i : ℕ) : Type 0 where
  pub front : Octets (take i s)
  pub rest : Octets (drop i s)
  pub boundary : Boundary s i

-- an offset of a well-formed text that is not inside a character
pub not_inside : (s : List ℕ) (i : ℕ) → valid_to s ≡ length s → i ≤ length s → inside_char s i ≡ false → Between s i
unfolding inside_char
not_inside s i e h f =
    let c = octets_cut (valid_octets s e) i h f in
    record { front = c.0; rest = c.1; boundary = rest_boundary s i h c.1 }

-- a boundary is not inside a character
pub boundary_between : (s : List ℕ) (i : ℕ) → Boundary s i → inside_char s i ≡ false
unfolding inside_char
boundary_between s i b = rw (get_or-drop i s 0 0, add-zero i) at (lead_first (boundary_rest s i b))

-- and neither is the end of a well-formed prefix
pub front_between : (s : List ℕ) (i : ℕ) → valid_to s ≡ length s → i ≤ length s → Octets (take i s) → inside_char s i ≡ false
front_between s i e h o =
    boundary_between s i (rest_boundary s i h (valid_octets (drop i s) (omega (arith, valid_split s i h o, length-drop i s))))

-- a run that nothing but a byte that is no tail ends, from anywhere behind a boundary
pub stop_boundary : (p : ℕ → ℕ → Bool) → ((a b : ℕ) → p a b ≡ false → is_tail a ≡ false) → (s : List ℕ) (i j : ℕ) → i ≤ j → j ≤ length s
    → Boundary s i → Boundary s (reach p s j)
stop_boundary p clean s i j g h b =
    let e = reach p s j in
    boundary_at s e (reach_le p s j h) (λ l. clean (byte s e) (byte s (e + 1)) (reach_fails p s j l)) i (omega (arith, reach_ge p s j)) b

-- the end of a text
pub end_boundary : (s : List ℕ) → Boundary s 0 → Boundary s (length s)
end_boundary s b = boundary_at s (length s) (omega arith) (λ l. absurd (omega arith)) 0 zero-le b

-- the end after a character
module _ (s : List ℕ) (j : ℕ) where
  pub char_end_ge : j ≤ char_end s j
  unfolding char_end
  char_end_ge = reach_ge in_tails s j

  module _ (h : j ≤ length s) where
    pub char_end_le : char_end s j ≤ length s
    unfolding char_end
    char_end_le = reach_le in_tails s j h

    pub char_end_boundary : Boundary s 0 → Boundary s (char_end s j)
    unfolding char_end
    char_end_boundary b = stop_boundary in_tails (λ a c e. e) s 0 j zero-le h b
