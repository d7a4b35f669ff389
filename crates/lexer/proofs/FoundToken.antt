-- For `next_lexeme` and what `next_token` calls, and crate `reading`: what is known of the token after an offset, from the blanks before it and the laws
-- of the token at the front of the rest. Assumes nothing.
use mathlib.Core.Path.{◌≡◌, refl, sym, ap, ◌∙◌, subst}
use mathlib.Core.Bool.{true, ◌||◌}
use mathlib.Core.List.{List}
use Prim.Native.Nat.{ℕ, ◌+◌, ◌-◌, ◌≤◌, ◌<◌}
use native.Mathlib.Nat.{add-zero}
use native.Mathlib.Omega.{arith}
use lib.Dec.{ltb, eqb}
use lib.ListN.{length, take, drop, length-drop}
use lib.Seq.{get_or-drop, drop-drop}
use borrow.Author.Rules.{rules}
use borrow.Author.Tests.{eqb-true}
use Rattle.base.specs.Bytes.{byte, AreBytes}
use Rattle.base.specs.Classes.{is_space}
use Rattle.base.proofs.Reaches.{reach_ge, reach_le, reach_all, rest_is}
use Rattle.base.proofs.Tests.{or_case, true_false}
use Rattle.utf8.specs.Check.{is_tail}
use Rattle.utf8.specs.Grammar.{Octets}
use Rattle.utf8.specs.Onward.{Boundary}
use Rattle.utf8.proofs.Boundaries.{octets_cut, boundary_le, boundary_rest, rest_boundary, reach_boundary}
use Rattle.token.specs.Place.{place_at}
use Rattle.token.specs.Helpers.{Flat, Walkable}
use Rattle.token.specs.declared.place.Place.{Place}
use Rattle.token.proofs.Places.{place_offset, to_place, flat_along}
use Rattle.lexeme.specs.declared.Lexeme.{Lexeme}
use Rattle.lexer.specs.Helpers.{FromQuote, Ending, Placing}
use Rattle.lexer.specs.Reading.{lexeme_in, string_in}
use Rattle.scan.specs.Run.{in_blank}
use Rattle.lexer.specs.Token.{start_at, found_from, found_at, found_end, placed, token_of, next_token}
use Rattle.lexer.specs.declared.reading.Reading.{Reading}
use Rattle.lexer.specs.declared.next.Found.{Found}
use Rattle.lexer.proofs.Lexes.{Lexes, lexes}

-- the token found after the offset `at`
pub record Next (m : Reading) (limit : ℕ) (text : List ℕ) (at : ℕ) (f : Found) : Type 0 where
  pub after : at ≤ f.start
  pub gap : (k : ℕ) → at ≤ k → k < f.start → is_space (byte text k) ≡ true
  pub start_in : f.start ≤ length text
  pub inside : found_end f ≤ length text
  pub lexes : Lexes m limit (drop f.start text) f.lexeme

-- from a quote on, the rest of a well-formed text is well formed
quote_rest : (text : List ℕ) (i : ℕ) → Octets text → i ≤ length text → FromQuote (drop i text)
unfolding is_tail
quote_rest text i o h e = let b : byte text i ≡ 34 = rw (get_or-drop i text 0 0, add-zero i) at e in (octets_cut o i h (rw b)).1

pub from_quote : (text : List ℕ) (i : ℕ) → Octets text → i ≤ length text → FromQuote (take (length text - i) (drop i text))
from_quote text i o h = subst FromQuote (sym (rest_is text i)) (quote_rest text i o h)

pub start_le : (text : List ℕ) (at : ℕ) → at ≤ length text → start_at text at ≤ length text
unfolding start_at
start_le text at h = reach_le in_blank text at h

start_ge : (text : List ℕ) (at : ℕ) → at ≤ start_at text at
unfolding start_at
start_ge text at = reach_ge in_blank text at

gap_is : (text : List ℕ) (at k : ℕ) → at ≤ k → k < start_at text at → is_space (byte text k) ≡ true
unfolding start_at
gap_is text at k l u = reach_all in_blank text at k l u

-- the token that starts at an offset ends in the text
from_in : (m : Reading) (limit : ℕ) (text : List ℕ) (i : ℕ) → i ≤ length text → i + (lexeme_in m limit (drop i text)).len ≤ length text
from_in m limit text i h = omega (arith, (lexes m limit (drop i text)).ends_within, length-drop i text)

next_law : (m : Reading) (limit : ℕ) (text : List ℕ) (at : ℕ) → at ≤ length text → Next m limit text at (found_at m limit text at)
unfolding found_at
next_law m limit text at h = search (start_ge, gap_is, start_le, from_in, lexes)

-- what is known of a token that a call gave
pub next_of : (m : Reading) (limit : ℕ) (text : List ℕ) (at : ℕ) → at ≤ length text → (f : Found) → f ≡ found_at m limit text at → Next m limit text at f
next_of m limit text at h f e = subst (λ (g : Found). Next m limit text at g) (sym e) (next_law m limit text at h)

pub bytes_drop : (s : List ℕ) (i : ℕ) → AreBytes s → AreBytes (drop i s)
bytes_drop s i b k = rw (get_or-drop i s k 0) (b (i + k))

-- from a place of the text over the blanks after it
module _ {text : List ℕ} {p : Place} (w : Walkable text p p.offset) where
  pub over_blanks : Walkable text p (start_at text p.offset)
  over_blanks = search (start_ge, start_le)

  -- blanks have no newline
  blanks_flat : Flat (drop p.offset text) (start_at text p.offset - p.offset)
  unfolding is_space
  blanks_flat j h z =
      let b : byte text (p.offset + j) ≡ 10 = sym (get_or-drop p.offset text j 0) ∙ z in
      true_false (is_space 10) (rw b at (gap_is text p.offset (p.offset + j) (omega arith) (omega arith))) refl

  pub blanks_along : let n = start_at text p.offset in
      ◌≡◌ {A = Place} (record { offset = n; line = p.line; column = p.column + (n - p.offset) }) (place_at text n)
  blanks_along =
      let o = over_blanks in
      let n = start_at text p.offset - p.offset in
      let z : p.offset + n ≡ start_at text p.offset = omega (arith, o.forward) in
      let v : Walkable text p (p.offset + n) = rw z o in
      rw z at (flat_along text p n v blanks_flat)

  -- the place past them is one of the text
  module _ {q : Place} (e : q ≡ place_at text (start_at text p.offset)) where
    pub past_offset : q.offset ≡ start_at text p.offset
    past_offset = ap (λ (x : Place). x.offset) e ∙ place_offset text (start_at text p.offset) (start_le text p.offset w.inside)

    pub past_place : Walkable text q q.offset
    past_place = to_place q w.short (e ∙ ap (place_at text) (sym past_offset)) (rw past_offset (start_le text p.offset w.inside))

    -- the token from there is the next token
    pub past_next : (m : Reading) (limit : ℕ) → token_of text (found_from m limit text q.offset) ≡ next_token m limit text p.offset
    unfolding next_token found_at
    past_next m limit = rw past_offset

-- what is lexed of the rest from a place on, which is lent as a slice
pub lexed_here : (m : Reading) (limit : ℕ) {text : List ℕ} {p : Place} → Walkable text p p.offset → {x : Lexeme}
    → x ≡ lexeme_in m limit (take (length text - p.offset) (drop p.offset text)) → x ≡ lexeme_in m limit (drop p.offset text)
lexed_here m limit w e = rw rest_is at e

-- the token that starts at a place of the text
module _ (m : Reading) (limit : ℕ) {text : List ℕ} {p : Place} (w : Walkable text p p.offset) {x : Lexeme}
    (e : x ≡ lexeme_in m limit (drop p.offset text)) where
  here : Lexes m limit (drop p.offset text) x
  here = rw e (lexes m limit (drop p.offset text))

  here_in : p.offset + x.len ≤ length text
  here_in = rw e (from_in m limit text p.offset w.inside)

  pub here_ending : Ending text p x.kind x.len
  here_ending = record { walkable = search (here_in, rules); flat = here.on_line }

  pub here_placing : Placing p x
  here_placing =
      let b = here in
      record { value = omega (arith, here_in, b.value_in, w.short); precision = omega (arith, here_in, b.precision_in, w.short) }

  pub here_token : {r : Place} → r ≡ place_at text (p.offset + x.len) → placed p.offset p r x ≡ token_of text (found_from m limit text p.offset)
  here_token d = rw (← e, ← w.true_place, d)

-- ---- well-formed texts

-- on a text that is well-formed from `at` on, the token starts and ends between characters, and its string is UTF-8
pub record NextUtf8 (m : Reading) (text : List ℕ) (f : Found) : Type 0 where
  pub start : Boundary text f.start
  pub end : Boundary text (found_end f)
  pub string : Octets (string_in m (drop f.start text))

space_ascii : (a b : ℕ) → in_blank a b ≡ true → ltb a 128 ≡ true
unfolding is_space
space_ascii a b e =
    or_case (eqb a 32 || eqb a 9) (eqb a 13) e
    (λ p. or_case (eqb a 32) (eqb a 9) p (λ q. rw (eqb-true a 32 q)) (λ q. rw (eqb-true a 9 q))) (λ q. rw (eqb-true a 13 q))

-- boundaries of the rest are boundaries of the text
front_boundary : (text : List ℕ) (a : ℕ) → a ≤ length text → Boundary text a → Boundary (drop a text) 0
front_boundary text a h b = rest_boundary (drop a text) 0 (omega arith) (boundary_rest text a b)

back_boundary : (text : List ℕ) (a n : ℕ) → a + n ≤ length text → Boundary (drop a text) n → Boundary text (a + n)
back_boundary text a n h b = rest_boundary text (a + n) h (rw drop-drop at (boundary_rest (drop a text) n b))

found_start : (m : Reading) (limit : ℕ) (text : List ℕ) (at : ℕ) → Boundary text at → Boundary text (found_at m limit text at).start
unfolding found_at start_at
found_start m limit text at b = reach_boundary in_blank space_ascii text at b

pub next_utf8 : (m : Reading) (limit : ℕ) (text : List ℕ) (at : ℕ) → Boundary text at → NextUtf8 m text (found_at m limit text at)
next_utf8 m limit text at b =
    let n = next_law m limit text at (boundary_le text at b) in
    let f = found_at m limit text at in
    let c = found_start m limit text at b in
    let d = front_boundary text f.start n.start_in c in
    record {
      start = c;
      end = back_boundary text f.start f.lexeme.len n.inside (n.lexes.ends_between d);
      string = n.lexes.string_utf8 d;
    }
