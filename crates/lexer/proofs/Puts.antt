-- For `put_string` and `put_reports`: what a token lays into the buffers, where it lays something. Its class is one of few, and the
-- lexer of that class says what. By cases on the class. Assumes nothing.
use mathlib.Core.Path.{◌≡◌, refl, sym, ap, ◌∙◌, subst}
use mathlib.Core.Bool.{Bool, true, false, ◌&&◌}
use mathlib.Core.Logic.{⊎_elim, ◌⊎◌, inl, inr}
use mathlib.Core.List.{List, [], ◌∷◌}
use Prim.Native.Nat.{ℕ, ◌+◌, ◌-◌, ◌≤◌, ◌<◌}
use native.Mathlib.Nat.{add-zero}
use native.Mathlib.Omega.{arith}
use lib.Dec.{ltb, eqb}
use lib.IntN.{ℤ}
use lib.ListN.{length, take, drop, length-drop}
use borrow.Author.Tests.{eqb-true, ne_eqb}
use Rattle.base.specs.Choice.{pick}
use Rattle.base.specs.Bytes.{byte}
use Rattle.base.proofs.Reaches.{rest_is}
use Rattle.base.proofs.Tests.{and_left, and_right, by_cases, true_false}
use Rattle.std.specs.Prelude.{Option, Some, None}
use Rattle.token.specs.Reason.{reason_number}
use Rattle.token.specs.Helpers.{ReportFits}
use Rattle.token.specs.Layout.{report_width, report_numbers}
use Rattle.token.specs.declared.reason.Reason.{Reason}
use Rattle.token.specs.declared.kind.TokenKind.TheVariants as K
use Rattle.token.specs.declared.place.Place.{Place}
use Rattle.lexeme.specs.Lexeme.{Note, note_at_start}
use Rattle.lexeme.specs.Reports.{report_at, report_of}
use Rattle.lexeme.specs.Helpers.{notes_numbers}
use Rattle.lexeme.specs.declared.Lexeme.{Lexeme}
use Rattle.lexeme.specs.declared.Mode.{Mode}
use Rattle.lexeme.specs.declared.Mode.TheVariants.{Strict, Tolerant}
use Rattle.lexeme.proofs.Notes.{notes_length, report_fits}
use Rattle.scan.specs.Comment as comment
use Rattle.scan.specs.Comment.{body_end, block_notes}
use Rattle.scan.specs.Bytes.{bytes_stop, bytes_notes, stop_notes}
use Rattle.scan.specs.Helpers.{stop_reason}
use Rattle.scan.specs.declared.bytes.Stop.{Stop}
use Rattle.scan.specs.declared.bytes.Stop.TheVariants as stop
use Rattle.strings.specs.Literal.{literal_of, lex_string, string_bytes, string_notes}
use Rattle.strings.specs.Helpers.{Sized, NotesFit}
use Rattle.strings.proofs.Laws.{string_kind, string_bytes_lem, string_sized, illegal_bytes}
use Rattle.triple_strings.specs.Dedent.{dedent}
use Rattle.triple_strings.specs.Triple as literal
use Rattle.triple_strings.specs.Triple.{quotes, closed, raw_bytes, triple_bytes, triple_notes}
use Rattle.triple_strings.proofs.Triples.{triple_size, triple_bytes_lem}
use Rattle.lexer.specs.Lexer as lexer
use Rattle.lexer.specs.Lexer.{class_of, class_at, lex_by, lexeme_of, string_by, string_of, notes_of}
use Rattle.lexer.specs.Reading.{mode_of, lexeme_in, string_in, notes_in}
use Rattle.lexer.specs.Helpers.{start_reason, ReportRoom}
use Rattle.lexer.specs.declared.reading.Reading.{Reading}
use Rattle.lexer.specs.declared.class.Class.{Class}
use Rattle.lexer.specs.declared.class.Class.TheVariants as C
use Rattle.lexer.proofs.FirstBytes.{FirstBytes, first_bytes_at}
use Rattle.lexer.proofs.Lexed.{triple_kind}

-- ---- the string

-- three quotes make the class
triple_class : (s : List ℕ) → quotes s ≡ true → class_at s ≡ C.Triple
unfolding class_at class_of quotes
triple_class s e =
    let a : Bool = eqb (byte s 0) 34 in
    let b : Bool = eqb (byte s 1) 34 in
    let d : Bool = eqb (byte s 2) 34 in
    let r = and_right a (b && d) e in
    let p = eqb-true (byte s 0) 34 (and_left a (b && d) e) in
    rw (p, and_left b d r, and_right b d r)

-- a class that lays a string is one of two
string_class : (m : Mode) (s : List ℕ) (k : Class) → 0 < length (string_by k m s) → (k ≡ C.Triple) ⊎ (k ≡ C.Quote)
unfolding string_by
string_class m s C.Newline h = absurd (omega arith)
string_class m s C.LineComment h = absurd (omega arith)
string_class m s C.BlockComment h = absurd (omega arith)
string_class m s C.Triple h = inl refl
string_class m s C.Quote h = inr refl
string_class m s C.Bytes h = absurd (omega arith)
string_class m s (C.Single k) h = absurd (omega arith)
string_class m s C.Directive h = absurd (omega arith)
string_class m s C.Number h = absurd (omega arith)
string_class m s C.Name h = absurd (omega arith)
string_class m s C.Other h = absurd (omega arith)

-- a list for which something is laid is not empty: f of its length is, and f of 0 is 0
not_empty : (f : ℕ → ℕ) (s : List ℕ) → f 0 ≡ 0 → 0 < f (length s) → 0 < length s
not_empty f [] z h = absurd (omega arith)
not_empty f (a ∷ s) z h = omega arith

module _ (r : Reading) (s : List ℕ) (h : 0 < length (string_in r s)) where
  pub string_in_lem : 0 < length s
  unfolding string_in string_of
  string_in_lem = not_empty (λ (k : ℕ). length (pick (eqb k 0) [] (string_by (class_at s) (mode_of r) s))) s refl h

  by_class : string_in r s ≡ string_by (class_at s) (mode_of r) s
  unfolding string_in string_of
  by_class = rw (ne_eqb (length s) 0 (λ e. absurd (omega (arith, string_in_lem))))

  pub triple_value : quotes s ≡ true → string_in r s ≡ dedent (raw_bytes s)
  unfolding string_by
  triple_value q =
      let e : string_in r s ≡ triple_bytes (mode_of r) s = by_class ∙ rw (triple_class s q) in
      e
      ∙ ⊎_elim (λ k. triple_bytes_lem (mode_of r) s k)
      (λ k. absurd (omega (arith, h, ap length (e ∙ (triple_size (mode_of r) s).illegal_none k)))) (triple_kind (mode_of r) s)

  quote_class : quotes s ≡ false → class_at s ≡ C.Quote
  unfolding quotes
  quote_class q =
      ⊎_elim
      (λ k.
      let w = subst (FirstBytes (byte s 0) (byte s 1) (byte s 2)) k (first_bytes_at s) in
      true_false (quotes s) (rw (w.0, w.1.0, w.1.1)) q)
      (λ k. k) (string_class (mode_of r) s (class_at s) (rw by_class at h))

  quote_bytes : quotes s ≡ false → string_in r s ≡ string_bytes (mode_of r) s
  unfolding string_by
  quote_bytes q = by_class ∙ rw (quote_class q)

  -- what lays a string is no Illegal
  quote_kind : quotes s ≡ false → (lex_string (mode_of r) s).kind ≡ K.String
  quote_kind q =
      ⊎_elim (λ k. k) (λ k. absurd (omega (arith, h, ap length (quote_bytes q ∙ illegal_bytes (mode_of r) s k)))) (string_kind (mode_of r) s)

  pub literal_value : quotes s ≡ false → string_in r s ≡ (literal_of (mode_of r) s).bytes
  literal_value q = quote_bytes q ∙ string_bytes_lem (mode_of r) s (quote_kind q)

  -- its length and its size are those of the literal
  pub literal_sized : quotes s ≡ false → (limit : ℕ) → Sized (mode_of r) s (lexeme_in r limit s).len (length (string_in r s))
  unfolding lexeme_in lexeme_of lex_by
  literal_sized q limit =
      let e : lexeme_in r limit s ≡ lex_string (mode_of r) s = rw (ne_eqb (length s) 0 (λ z. absurd (omega (arith, string_in_lem))), quote_class q) in
      let z = string_sized (mode_of r) s (quote_kind q) in
      record { count = ap length (sym (literal_value q)); stop = z.stop ∙ ap (λ (x : Lexeme). x.len) (sym e); closed = z.closed }

-- ---- the reports

-- a literal that can be open has one report where it has some
open_one : {note : Note} (notes : Mode → List Note) → notes Strict ≡ [] → notes Tolerant ≡ note ∷ []
    → (b : Bool) (m : Mode) → 0 < length (pick b [] (notes m)) → pick b [] (notes m) ≡ note ∷ []
open_one notes s t true m h = absurd (omega arith)
open_one notes s t false Strict h = absurd (omega (arith, ap length s))
open_one notes s t false Tolerant h = t

-- the reports of a token, by the reason of the one at its start
abbrev Said : Mode → List ℕ → List Note → Option Reason → Type 0
Said m s ns (Some r) = ns ≡ note_at_start r ∷ []
Said m s ns None = ns ≡ string_notes m s

bytes_said : (s : List ℕ) (m : Mode) (e : Stop) → 0 < length (stop_notes m e) → Said m s (stop_notes m e) (stop_reason e)
unfolding stop_reason
bytes_said s Strict e h = absurd (omega arith)
bytes_said s Tolerant (stop.Over n) h = absurd (omega arith)
bytes_said s Tolerant (stop.Closed n) h = absurd (omega arith)
bytes_said s Tolerant (stop.Newline n) h = refl
bytes_said s Tolerant (stop.Open n) h = refl

-- they are told by the class, where it has some
said : (m : Mode) (limit : ℕ) (s : List ℕ) (k : Class) → class_at s ≡ k → 0 < length (lexer.notes_by k m limit s)
    → FirstBytes (byte s 0) (byte s 1) (byte s 2) k → Said m s (lexer.notes_by k m limit s) (start_reason limit s)
unfolding lexer.notes_by start_reason block_notes triple_notes bytes_notes quotes
said m limit s C.BlockComment c h w = rw w.0 (open_one comment.open_comment_notes refl refl (ltb (body_end s) (length s)) m h)
said m limit s C.Triple c h w = rw (w.0, w.1.0, w.1.1) (open_one literal.open_triple_notes refl refl (closed s) m h)
said m limit s C.Bytes c h w = rw w.0 (bytes_said s m (bytes_stop limit 0 (drop 2 s)) h)
said m limit s C.Quote c h w =
    rw w
    (by_cases (eqb (byte s 1) 34 && eqb (byte s 2) 34) (λ e. let t : class_at s ≡ C.Triple = triple_class s (rw (w, e)) in absurd cc) (λ e. rw e refl))
said m limit s C.Newline c h w = absurd (omega arith)
said m limit s C.LineComment c h w = absurd (omega arith)
said m limit s (C.Single k) c h w = absurd (omega arith)
said m limit s C.Directive c h w = absurd (omega arith)
said m limit s C.Number c h w = absurd (omega arith)
said m limit s C.Name c h w = absurd (omega arith)
said m limit s C.Other c h w = absurd (omega arith)

module _ {r : Reading} {limit : ℕ} {text : List ℕ} {p : Place} {room at : ℕ} (q : ReportRoom r limit text p room at) where
  abbrev rest : List ℕ
  rest = drop p.offset text

  not_end : 0 < length rest
  unfolding notes_in notes_of
  not_end = not_empty (λ (k : ℕ). length (pick (eqb k 0) [] (lexer.notes_by (class_at rest) (mode_of r) limit rest))) rest refl q.some

  notes_by_lem : notes_in r limit rest ≡ lexer.notes_by (class_at rest) (mode_of r) limit rest
  unfolding notes_in notes_of
  notes_by_lem = rw (ne_eqb (length rest) 0 (λ z. absurd (omega (arith, z, not_end))))

  module _ {o : Option Reason} (e : o ≡ start_reason limit (take (length text - p.offset) rest)) where
    said_here : Said (mode_of r) rest (notes_in r limit rest) o
    said_here = rw (e, rest_is, notes_by_lem) (said (mode_of r) limit rest (class_at rest) refl (rw notes_by_lem at q.some) (first_bytes_at rest))

  -- one report at the token's start
  module _ {k : Reason} (e : Some k ≡ start_reason limit (take (length text - p.offset) rest)) where
    pub one_fits : (n : ℕ) → n ≡ reason_number k → (at + report_width ≤ room) × ReportFits (report_at p n 0)
    one_fits n v =
        let w = q.walkable in (
          omega (arith, q.fits, notes_length text p.offset (notes_in r limit rest), ap length (said_here e)),
          report_fits text p.offset p k n 0 w.true_place w.inside w.short v (omega arith),
        )

    pub one_numbers : (n : ℕ) → n ≡ reason_number k → notes_numbers text p.offset (notes_in r limit rest) ≡ report_numbers (report_at p n 0)
    unfolding notes_numbers report_of
    one_numbers n v =
        rw (said_here e, add-zero p.offset, v) (ap (λ (x : Place). report_numbers (report_at x (reason_number k) 0)) (sym q.walkable.true_place))

  -- or those of a string of one line
  module _ (e : None ≡ start_reason limit (take (length text - p.offset) rest)) where
    pub string_fits : {out : List ℤ} → length out ≡ room → NotesFit (mode_of r) text p out at
    string_fits l =
        let w = q.walkable in
        record {
          true_place = w.true_place;
          inside = omega (arith, not_end, length-drop p.offset text);
          short = w.short;
          room = rw (l, ← said_here e) q.fits;
        }

    pub string_said : notes_in r limit rest ≡ string_notes (mode_of r) rest
    string_said = said_here e
