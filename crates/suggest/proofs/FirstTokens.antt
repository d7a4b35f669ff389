-- For `see` and `SeenTexts`: what is seen by the first number of a text is what the whole reading hands over, whatever the limit. By cases on the first two
-- tokens, from what is known of each token. Assumes nothing.
use Rattle.std.specs.Prelude.{Option, Some, None}
use mathlib.Core.Path.{◌≡◌, refl, sym, ap, ◌∙◌}
use mathlib.Core.Bool.{Bool, true, false, ◌||◌, or-true}
use mathlib.Core.Logic.{◌⊎◌, inl, inr, ⊎_elim}
use mathlib.Core.List.{List, [], ◌∷◌, ◌++◌}
use Prim.Native.Nat.{ℕ, ◌+◌, ◌-◌, ◌≤◌, ◌<◌, zero-le}
use Prim.Native.Char.{code}
use native.Mathlib.Omega.{arith}
use lib.Dec.{eqb}
use lib.IntN.{ℤ}
use lib.ListN.{length, take, drop}
use lib.Seq.{drop-length, get_or-take, get_or-drop}
use native.Mathlib.Nat.{add-zero}
use borrow.Author.Tests.{eq-eqb, ne_eqb, eqb-true, eqb-false}
use Rattle.base.specs.Choice.{pick}
use Rattle.base.specs.Bytes.{byte, each}
use Rattle.base.specs.Classes.{is_digit, is_ident_start}
use Rattle.base.proofs.Tests.{and-false, by_cases, or_case, and_left, true_false, in_text, digit_range}
use Rattle.token.specs.Kind.{kind_number, duration_number}
use Rattle.token.specs.Helpers.{is_duration}
use Rattle.token.proofs.KindNumbers.{IsEof}
use Rattle.token.proofs.Places.{place_offset}
use Rattle.lexeme.specs.declared.Lexeme.{Lexeme}
use Rattle.scan.specs.Number.{is_sign, lex_number}
use Rattle.scan.specs.Other.{lex_other}
use Rattle.scan.proofs.Numbers.{number_on_line}
use Rattle.lexer.specs.Lexer.{class_of, class_at, lex_by, lexeme_of}
use Rattle.lexer.specs.Reading.{lexeme_in}
use Rattle.lexer.specs.Token.{start_at, found_at, next_token}
use Rattle.lexer.specs.declared.class.Class.TheVariants as C
use Rattle.lexer.specs.declared.next.Token.{Token}
use Rattle.lexer.specs.declared.reading.Reading.TheVariants.{Strict}
use Rattle.lexer.proofs.FoundToken.{start_le}
use Rattle.go_duration.specs.Written as written
use Rattle.go_duration.specs.Written.{WrittenPart, part_bytes, IsPart, Parts, Duration}
use Rattle.reading.specs.Tokens.{tokens_from, tokens}
use Rattle.reading.specs.Buffers.{records_of, whole_laid}
use Rattle.reading.proofs.NextToken.{reads, end_offset}
use Rattle.reading.proofs.From.{from_eof, from_more, from_head}
use Rattle.suggest.specs.Suggestions.{only_duration}
use Rattle.suggest.specs.Helpers.{starts_number, seen_by, seen_of}

-- ---- a token that begins as a number does

-- a digit or `-` chooses the lexer of numbers
number_class : (a b c : ℕ) → starts_number a ≡ true → class_of a b c ≡ C.Number
unfolding class_of starts_number
number_class a b c e =
    or_case (is_digit a) (eqb a (code "-")) e
    (λ d.
    let lo = (digit_range a d).0 in
    let hi = (digit_range a d).1 in
    let below : (k : ℕ) → k < 48 → eqb a k ≡ false = λ k l. ne_eqb a k (λ q. omega arith) in
    let above : (k : ℕ) → 57 < k → eqb a k ≡ false = λ k l. ne_eqb a k (λ q. omega arith) in
    simp (
      below 10 (omega arith),
      below 35 (omega arith),
      below 47 (omega arith),
      below 34 (omega arith),
      above 98 (omega arith),
      above 123 (omega arith),
      above 125 (omega arith),
      above 91 (omega arith),
      above 93 (omega arith),
      below 40 (omega arith),
      below 41 (omega arith),
      above 61 (omega arith),
      above 58 (omega arith),
      below 44 (omega arith),
      above 64 (omega arith),
      below 43 (omega arith),
      below 45 (omega arith),
      d,
    ))
    (λ d. rw (eqb-true a 45 d))

pub starts_zero : starts_number 0 ≡ false
unfolding starts_number is_digit
starts_zero = refl

pub number_lexeme : (limit : ℕ) (s : List ℕ) → starts_number (byte s 0) ≡ true → lexeme_in Strict limit s ≡ lex_number s
unfolding lexeme_in lexeme_of class_at lex_by
number_lexeme limit s e =
    let h = in_text starts_number s 0 starts_zero e in
    rw (ne_eqb (length s) 0 (λ q. omega arith), number_class (byte s 0) (byte s 1) (byte s 2) e)

-- it ends in the text
pub number_inside : (s : List ℕ) → starts_number (byte s 0) ≡ true → (lex_number s).len ≤ length s
unfolding starts_number
number_inside s e =
    let o : is_sign (byte s 0) || is_digit (byte s 0) ≡ true =
    or_case (is_digit (byte s 0)) (eqb (byte s 0) (code "-")) e (λ d. rw d (or-true (is_sign (byte s 0)))) (λ d. rw (eqb-true (byte s 0) 45 d)) in
    (number_on_line s o).scanned.within.ends

-- ---- and no other is a Duration

-- the first byte of a written duration
first_written : {neg : Bool} {ps : List WrittenPart} {run : List ℕ} → Duration neg ps run
    → (starts_number (byte run 0) ≡ true) ⊎ (byte run 0 ≡ code ".")
unfolding starts_number is_digit
first_written {neg} d = rw d.bytes (go neg d.parts d.some)
  where
    part : (p : WrittenPart) (s : List ℕ) → IsPart p → (starts_number (byte (part_bytes p ++ s) 0) ≡ true) ⊎ (byte (part_bytes p ++ s) 0 ≡ code ".")
    part p s i = front p.whole p.point p.fraction i.whole_digits i.no_point i.some_digit
      where
        front : (w : List ℕ) (b : Bool) (f : List ℕ) → each is_digit w ≡ true → (b ≡ false → f ≡ []) → 0 < length w + length f
            → (starts_number (byte ((w ++ (pick b (code "." ∷ f) [] ++ p.unit)) ++ s) 0) ≡ true)
            ⊎ (byte ((w ++ (pick b (code "." ∷ f) [] ++ p.unit)) ++ s) 0 ≡ code ".")
        front (d ∷ w) b f e n h = inl (rw (and_left (is_digit d) (each is_digit w) e))
        front [] true f e n h = inr refl
        front [] false f e n h = absurd (omega (arith, ap length (n refl)))

    go : (n : Bool) {ps : List WrittenPart} {s : List ℕ} → Parts ps s → 0 < length ps
        → (starts_number (byte (pick n (code "-" ∷ s) s) 0) ≡ true) ⊎ (byte (pick n (code "-" ∷ s) s) 0 ≡ code ".")
    go true w h = inl refl
    go false written.none h = absurd (omega arith)
    go false (written.more {p} {ps} {s} i w) h = part p s i

-- a point begins no Duration
point_lexeme : (limit : ℕ) (s : List ℕ) → byte s 0 ≡ code "." → lexeme_in Strict limit s ≡ lex_other s
unfolding lexeme_in lexeme_of class_at class_of lex_by is_digit is_ident_start
point_lexeme limit s e =
    let h = in_text (λ b. eqb b (code ".")) s 0 refl (rw e) in
    rw (ne_eqb (length s) 0 (λ q. omega arith), e)

point_other : (limit : ℕ) (s : List ℕ) → byte s 0 ≡ code "." → kind_number (lexeme_in Strict limit s).kind ≡ duration_number → ⊥
unfolding lex_other kind_number
point_other limit s e k = let q = rw (point_lexeme limit s e) at k in omega arith

rest_first : (text : List ℕ) (i : ℕ) → byte (drop i text) 0 ≡ byte text i
rest_first text i = get_or-drop i text 0 0 ∙ rw add-zero

-- the token after an offset, by the text that is left there
module _ (limit : ℕ) (text : List ℕ) (at : ℕ) (h : at ≤ length text) where
  abbrev token : Token
  token = next_token Strict limit text at

  abbrev lexeme : Lexeme
  lexeme = lexeme_in Strict limit (drop (start_at text at) text)

  token_start : token.start.offset ≡ start_at text at
  unfolding next_token found_at
  token_start = place_offset text (start_at text at) (start_le text at h)

  token_end : token.end.offset ≡ start_at text at + lexeme.len
  unfolding next_token found_at
  token_end = end_offset Strict limit text at h _ refl

  token_kind : kind_number token.kind ≡ kind_number lexeme.kind
  unfolding next_token found_at
  token_kind = refl

  -- it is the Eof exactly where nothing but blanks is left
  at_end : start_at text at ≡ length text → IsEof token.kind
  unfolding lexeme_in lexeme_of kind_number
  at_end e = token_kind ∙ rw (e, drop-length text)

  not_end : (start_at text at ≡ length text → ⊥) → IsEof token.kind → ⊥
  not_end n k = n (sym token_start ∙ (reads Strict limit text at h).eof_start k)

  -- a Duration begins with a digit or `-`
  starts : kind_number token.kind ≡ duration_number → starts_number (byte text (start_at text at)) ≡ true
  starts k =
      let r = reads Strict limit text at h in
      let d = drop token.start.offset text in
      let n = token.end.offset - token.start.offset in
      let g = r.forward (λ z. omega arith) in
      let f : byte (take n d) 0 ≡ byte text (start_at text at) =
      get_or-take n d 0 0 (omega arith) ∙ get_or-drop token.start.offset text 0 0 ∙ rw (add-zero, token_start) in
      ⊎_elim (λ a. rw f at a)
      (λ a. absurd (point_other limit (drop (start_at text at) text) (rest_first text (start_at text at) ∙ sym f ∙ a) (sym token_kind ∙ k)))
      (first_written (r.duration k).form)

-- ---- the whole reading

module _ (limit : ℕ) (text : List ℕ) where
  -- what the reading hands over, with no word of its checks
  abbrev pub handed : Option ℤ
  handed = only_duration (whole_laid Strict limit text).records

  -- where the first token ends
  abbrev pub end : ℕ
  end = (next_token Strict limit text 0).end.offset

  -- where the first token is no Duration
  pub not_duration : (kind_number (next_token Strict limit text 0).kind ≡ duration_number → ⊥) → handed ≡ None
  unfolding tokens records_of
  not_duration n = let t = from_head Strict limit text 0 zero-le in rw t.1 (go t.0)
    where
      go : (ts : List Token) → only_duration (records_of 0 (next_token Strict limit text 0 ∷ ts)) ≡ None
      go [] = refl
      go (u ∷ []) = rw (ne_eqb _ _ n)
      go (u ∷ v ∷ ts) = refl

  module _ (k : kind_number (next_token Strict limit text 0).kind ≡ duration_number) where
    inside : end ≤ length text
    inside = (reads Strict limit text 0 zero-le).inside

    two : tokens_from Strict limit text 0 ≡ next_token Strict limit text 0 ∷ tokens_from Strict limit text end
    two = from_more Strict limit text 0 zero-le (λ z. omega arith)

    -- where it is one, and nothing but blanks is left
    pub alone : start_at text end ≡ length text → handed ≡ Some (next_token Strict limit text 0).nanos
    unfolding tokens records_of
    alone e =
        let z = at_end limit text end inside e in
        rw (two, from_eof Strict limit text end inside z, eq-eqb _ _ k, eq-eqb _ _ z)

    -- and where something is
    pub followed : (start_at text end ≡ length text → ⊥) → handed ≡ None
    unfolding tokens records_of
    followed n =
        let z = not_end limit text end inside n in
        let u = next_token Strict limit text end in
        let t = from_head Strict limit text u.end.offset (reads Strict limit text end inside).inside in
        rw (two, from_more Strict limit text end inside z, t.1)

  -- what is seen by the first number is handed over by the reading
  pub seen_handed : seen_of text ≡ handed
  unfolding seen_of seen_by next_token found_at
  seen_handed =
      by_cases (starts_number (byte text (start_at text 0)))
      (λ q.
      let x = number_lexeme limit (drop (start_at text 0) text) (rw rest_first q) in
      let d = is_duration (lexeme limit text 0 zero-le).kind in
      rw (q, ← x, ← token_end limit text 0 zero-le)
      (by_cases d
      (λ k.
      let e = eqb (start_at text (next_token Strict limit text 0).end.offset) (length text) in
      by_cases e (λ z. rw (z, k) (sym (alone (eqb-true _ _ k) (eqb-true _ _ z)))) (λ z. rw z (sym (followed (eqb-true _ _ k) (eqb-false _ _ z)))))
      (λ k. rw (k, and-false) (sym (not_duration (eqb-false _ _ k))))))
      (λ q. rw q (sym (not_duration (λ k. true_false _ (starts limit text 0 zero-le k) q))))
