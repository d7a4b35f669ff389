-- For `Lexes` and `Puts`: what is known of the token at the front of a text that is not at its end. By cases on its class, from the laws of each lexer.
-- Assumes nothing.
use mathlib.Core.Path.{◌≡◌, refl, sym, ap, ◌∙◌}
use mathlib.Core.Bool.{true, false}
use mathlib.Core.Logic.{⊎_elim, ◌⊎◌, inl, inr}
use mathlib.Core.List.Memᴰ
use mathlib.Core.List.{List, [], ◌∷◌, Memᴰ}
use Prim.Native.Nat.{ℕ, ◌≤◌, ◌<◌}
use native.Mathlib.Omega.{arith}
use lib.Dec.{ltb, eqb, lit<}
use lib.ListN.{length, take, drop}
use borrow.Author.Tests.{eq-eqb, ne_eqb}
use Rattle.std.specs.Prelude.{Some}
use Rattle.base.specs.Bytes.{byte}
use Rattle.base.specs.Classes.{is_ident_start}
use Rattle.base.proofs.Tests.{in_text, pick_case, true_false, zero_one}
use Rattle.utf8.specs.Grammar as octets
use Rattle.utf8.specs.Grammar.{Octets}
use Rattle.utf8.specs.Onward.{Boundary}
use Rattle.utf8.proofs.Boundaries.{ascii_boundary, boundary_rest}
use Rattle.go_duration.specs.Written.{SumOfParts}
use Rattle.go_duration.proofs.WrittenSums.{sum_of_parts}
use Rattle.token.specs.Kind.{kind_number, string_number}
use Rattle.token.specs.Reason.{number_of, reason_number}
use Rattle.token.specs.declared.reason.Reason.TheVariants as R
use Rattle.token.specs.Helpers.{on_one_line, Flat}
use Rattle.token.proofs.KindNumbers.{number_kind_lem}
use Rattle.token.specs.declared.kind.TokenKind.{TokenKind}
use Rattle.token.specs.declared.kind.TokenKind.TheVariants as K
use Rattle.lexeme.specs.Lexeme.{bare, whole, Note}
use Rattle.lexeme.specs.declared.Lexeme.{Lexeme}
use Rattle.lexeme.specs.declared.Mode.{Mode}
use Rattle.lexeme.specs.declared.Mode.TheVariants.{Strict, Tolerant}
use Rattle.lexeme.proofs.Notes.{NotesIn, none, more}
use Rattle.lexeme.proofs.Within.{Within}
use Rattle.scan.specs.Comment.{lex_line_comment, body_end, open_comment, lex_block_comment, block_notes}
use Rattle.scan.specs.Name.{lex_ident, lex_directive}
use Rattle.scan.specs.Number.{lex_number}
use Rattle.scan.specs.Bytes.{bytes_by, bytes_stop, lex_bytes, bytes_notes}
use Rattle.scan.specs.declared.bytes.Stop.{Stop}
use Rattle.scan.specs.declared.bytes.Stop.TheVariants as stop
use Rattle.scan.specs.Other.{lex_other}
use Rattle.scan.proofs.Silent.{line_silent, ident_silent, other_silent, directive_silent, number_silent}
use Rattle.scan.proofs.Scanned.{Plain, plain, StampRun, no_stamp, Scanned, OnLine, Ends, whole_scanned, extent_scanned}
use Rattle.scan.proofs.Comments.{line_scanned, block_scanned, block_notes_size, block_notes_start}
use Rattle.scan.proofs.Names.{ident_on_line, directive_on_line}
use Rattle.scan.proofs.Numbers.{number_on_line}
use Rattle.scan.proofs.Literals.{bytes_scanned, bytes_notes_size, bytes_notes_start}
use Rattle.scan.proofs.Others.{other_scanned}
use Rattle.strings.proofs.Laws.{string_within, string_reason, string_kind, string_size_lem, string_notes_size, illegal_bytes, notes_in_lem, string_utf8}
use Rattle.strings.proofs.Laws.{string_boundary}
use Rattle.strings.specs.Literal.{lex_string, string_bytes, string_notes}
use Rattle.triple_strings.specs.Triple.{quotes, closed, open_triple, lex_triple_string, triple_bytes, triple_notes}
use Rattle.triple_strings.proofs.QuoteSearch.{quotes_long}
use Rattle.triple_strings.proofs.Triples.{triple_within, triple_size, triple_boundary}
use Rattle.triple_strings.proofs.ValueOctets.{triple_utf8}
use Rattle.lexer.specs.Lexer.{class_at, lex_by, lexeme_of, string_by, string_of, notes_by, notes_of}
use Rattle.lexer.specs.Token.{string_size}
use Rattle.lexer.specs.declared.class.Class.{Class}
use Rattle.lexer.specs.declared.class.Class.TheVariants as C
use Rattle.lexer.proofs.FirstBytes.{FirstBytes, Mark, l_brace, r_brace, l_bracket, r_bracket, l_paren, r_paren, equals, colon, comma, first_bytes_at}

notes_all : (n : ℕ) (xs : List Note) → ((x : Note) → Memᴰ x xs → x.offset ≤ n) → NotesIn n xs
notes_all n [] f = none
notes_all n (x ∷ xs) f = more (f x (Memᴰ.head refl)) (notes_all n xs (λ y i. f y (Memᴰ.tail i)))

-- what is known of a token at the front of s, of the bytes of its string and of its reports
pub record Facts (s : List ℕ) (r : Lexeme) (bytes : List ℕ) (ns : List Note) : Type 0 where
  pub within : Within s r
  pub not_eof : r.kind ≡ K.Eof → ⊥
  pub string : length bytes ≡ string_size r.kind r.size
  pub notes : length ns ≡ r.reports
  pub notes_in_lem : NotesIn (length s) ns
  pub duration : r.kind ≡ K.Duration → SumOfParts (take r.len s) r.nanos
  pub timestamp : StampRun r.kind r.reason (take r.len s)
  pub boundary : Boundary s 0 → Boundary s r.len
  pub utf8 : Boundary s 0 → Octets bytes
  pub on_line : on_one_line r.kind ≡ true → Flat s r.len

-- a kind that is no String lays nothing into the string buffer
other_size : (k : TokenKind) (n : ℕ) → (k ≡ K.String → ⊥) → string_size k n ≡ 0
unfolding string_size
other_size k n f = rw (ne_eqb (kind_number k) string_number (λ e. f (number_kind_lem k string_number e)))

string_is : (k : TokenKind) (n : ℕ) → k ≡ K.String → string_size k n ≡ n
unfolding string_size kind_number
string_is k n e = rw e

-- what a lexer of `scan` finds, with its reports
scanned_facts : (s : List ℕ) (r : Lexeme) (ns : List Note) → Scanned s r → length ns ≡ r.reports → ((x : Note) → Memᴰ x ns → x.offset ≡ 0)
    → (on_one_line r.kind ≡ true → Flat s r.len) → Facts s r [] ns
scanned_facts s r ns c e f g =
    record {
      within = c.within;
      not_eof = c.not_eof;
      string = sym (other_size r.kind r.size c.not_string);
      notes = e;
      notes_in_lem = notes_all (length s) ns (λ x i. omega (arith, f x i));
      duration = λ q. let d = c.duration q in sum_of_parts (take r.len s) r.nanos d.value d.no_plus d.not_zero;
      timestamp = c.timestamp;
      boundary = c.boundary;
      utf8 = λ _. octets.none;
      on_line = g;
    }

-- one that makes no report
silent_facts : (s : List ℕ) (r : Lexeme) → Scanned s r → r.reports ≡ 0 → (on_one_line r.kind ≡ true → Flat s r.len) → Facts s r [] []
silent_facts s r c e g = scanned_facts s r [] c (sym e) (λ x i. absurd (Memᴰ.not-nil i)) g

-- one that makes none and stays on its line
line_facts : (s : List ℕ) (r : Lexeme) → OnLine s r → r.reports ≡ 0 → Facts s r [] []
line_facts s r c e = silent_facts s r c.scanned e (λ _. c.flat)

-- tokens of a kind that can have a newline
other_kind : {X : Type 0} (k : TokenKind) → on_one_line k ≡ false → on_one_line k ≡ true → X
other_kind k e f = true_false (on_one_line k) f e

block_kind : (m : Mode) (s : List ℕ) → on_one_line (lex_block_comment m s).kind ≡ false
unfolding lex_block_comment open_comment on_one_line kind_number
block_kind m s = pick_case (λ (r : Lexeme). on_one_line r.kind ≡ false) (ltb (body_end s) (length s)) (λ _. refl) (λ _. go m)
  where
    go : (n : Mode) → on_one_line (open_comment n s).kind ≡ false
    go Strict = refl
    go Tolerant = refl

bytes_kind : (m : Mode) (s : List ℕ) (e : Stop) → on_one_line (bytes_by m s e).kind ≡ false
unfolding on_one_line kind_number
bytes_kind m s (stop.Over n) = refl
bytes_kind m s (stop.Closed n) = refl
bytes_kind Strict s (stop.Newline n) = refl
bytes_kind Tolerant s (stop.Newline n) = refl
bytes_kind Strict s (stop.Open n) = refl
bytes_kind Tolerant s (stop.Open n) = refl

-- what a literal of the two string lexers finds
literal_facts : (s : List ℕ) (r : Lexeme) (bytes : List ℕ) (ns : List Note) → Within s r → (r.reason ≡ Some R.BadTimestamp → ⊥)
    → (r.kind ≡ K.String) ⊎ (r.kind ≡ K.Illegal) → length bytes ≡ r.size → (r.kind ≡ K.Illegal → bytes ≡ []) → length ns ≡ r.reports
    → NotesIn (length s) ns → (Boundary s 0 → Boundary s r.len) → (Boundary s 0 → Octets bytes) → Facts s r bytes ns
unfolding on_one_line kind_number
literal_facts s r bytes ns w h k e f n i b u =
    record {
      within = w;
      not_eof = λ q. ⊎_elim (λ p. zero_one (cc)) (λ p. zero_one (cc)) k;
      string =
          ⊎_elim (λ p. e ∙ sym (string_is r.kind r.size p))
          (λ p. ap length (f p) ∙ sym (other_size r.kind r.size (λ q. zero_one (cc)))) k;
      notes = n;
      notes_in_lem = i;
      duration = λ q. ⊎_elim (λ p. zero_one (cc)) (λ p. zero_one (cc)) k;
      timestamp = no_stamp (λ q. ⊎_elim (λ p. zero_one (cc)) (λ p. zero_one (cc)) k) h;
      boundary = b;
      utf8 = u;
      on_line = ⊎_elim (λ p. other_kind r.kind (rw p)) (λ p. other_kind r.kind (rw p)) k;
    }

-- where a byte that is not 0 stands, the text has it
byte_in : (s : List ℕ) (i n : ℕ) → 0 < n → byte s i ≡ n → i < length s
byte_in s i n h e = in_text (λ x. eqb x n) s i (ne_eqb 0 n (λ q. absurd (omega arith))) (eq-eqb (byte s i) n e)

-- a mark of one byte is ASCII, no newline, and a kind of its own
mark_facts : {a : ℕ} {k : TokenKind} → Mark a k → (a < 0x80) × (a ≡ 10 → ⊥) × Plain k
unfolding kind_number
mark_facts l_brace = (lit< tt, λ e. omega arith, plain K.LBrace refl)
mark_facts r_brace = (lit< tt, λ e. omega arith, plain K.RBrace refl)
mark_facts l_bracket = (lit< tt, λ e. omega arith, plain K.LBracket refl)
mark_facts r_bracket = (lit< tt, λ e. omega arith, plain K.RBracket refl)
mark_facts l_paren = (lit< tt, λ e. omega arith, plain K.LParen refl)
mark_facts r_paren = (lit< tt, λ e. omega arith, plain K.RParen refl)
mark_facts equals = (lit< tt, λ e. omega arith, plain K.Equals refl)
mark_facts colon = (lit< tt, λ e. omega arith, plain K.Colon refl)
mark_facts comma = (lit< tt, λ e. omega arith, plain K.Comma refl)

-- the first byte is an ASCII byte, and the token is that byte
one_byte_lem : (s : List ℕ) → 0 < length s → byte s 0 < 0x80 → Ends s 1
one_byte_lem s h a = record { some = omega arith; inside = h; between = ascii_boundary s 0 h a }

pub triple_kind : (m : Mode) (s : List ℕ) → ((lex_triple_string m s).kind ≡ K.String) ⊎ ((lex_triple_string m s).kind ≡ K.Illegal)
unfolding lex_triple_string
triple_kind m s = pick_case (λ (r : Lexeme). (r.kind ≡ K.String) ⊎ (r.kind ≡ K.Illegal)) (closed s) (λ _. inl refl) (λ _. go m)
  where
    go : (n : Mode) → ((open_triple n s).kind ≡ K.String) ⊎ ((open_triple n s).kind ≡ K.Illegal)
    go Strict = inr refl
    go Tolerant = inl refl

-- the reason of a string is none of a timestamp
triple_reason : (m : Mode) (s : List ℕ) → (lex_triple_string m s).reason ≡ Some R.BadTimestamp → ⊥
unfolding lex_triple_string
triple_reason m s = pick_case (λ (r : Lexeme). r.reason ≡ Some R.BadTimestamp → ⊥) (closed s) (λ _ e. absurd cc) (λ _. go m)
  where
    go : (n : Mode) → (open_triple n s).reason ≡ Some R.BadTimestamp → ⊥
    go Strict e = absurd cc
    go Tolerant e = absurd cc

literal_reason : (m : Mode) (s : List ℕ) → 0 < length s → (lex_string m s).reason ≡ Some R.BadTimestamp → ⊥
unfolding reason_number
literal_reason m s h e = omega (arith, string_reason m s h, ap number_of e)

module _ (m : Mode) (limit : ℕ) (s : List ℕ) (h : 0 < length s) where
  single_facts : (k : TokenKind) → Mark (byte s 0) k → Facts s (whole k 1) [] []
  single_facts k q =
      let f = mark_facts q in
      let flat : Flat s 1 = λ j l e. (let z : j ≡ 0 = omega arith in f.1 (rw z at e)) in
      line_facts s (whole k 1) (record { scanned = whole_scanned s 1 (one_byte_lem s h f.0) k f.2; flat = flat }) refl

  pub by_class : (k : Class) → FirstBytes (byte s 0) (byte s 1) (byte s 2) k → Facts s (lex_by k m limit s) (string_by k m s) (notes_by k m limit s)
  unfolding lex_by string_by notes_by quotes kind_number on_one_line is_ident_start lex_line_comment lex_bytes lex_other
  by_class C.Newline q =
      silent_facts s (bare K.Newline 1)
      (extent_scanned s 1 (one_byte_lem s h (omega arith)) K.Newline 1 0 0 (plain K.Newline refl) (omega arith) (omega arith)) refl (other_kind K.Newline refl)
  by_class C.LineComment q =
      let n = ne_eqb (byte s 0) 10 (λ e. ⊎_elim (λ a. absurd (omega arith)) (λ a. absurd (omega (arith, a.0))) q) in
      silent_facts s (lex_line_comment s) (line_scanned s h n) (line_silent s) (other_kind K.Comment refl)
  by_class C.BlockComment q =
      scanned_facts s (lex_block_comment m s) (block_notes m s) (block_scanned s (byte_in s 1 42 (omega arith) q.1) m) (block_notes_size m s)
      (block_notes_start m s) (other_kind (lex_block_comment m s).kind (block_kind m s))
  by_class C.Triple q =
      let z : quotes s ≡ true = rw (q.0, q.1.0, q.1.1) in
      let c = triple_size m s in
      literal_facts s (lex_triple_string m s) (triple_bytes m s) (triple_notes m s) (triple_within m s (quotes_long s z))
      (triple_reason m s) (triple_kind m s) c.bytes_counted c.illegal_none c.notes_counted
      (notes_all (length s) (triple_notes m s) (λ x i. omega (arith, c.at_start x i))) (λ b. triple_boundary m s b z)
      (λ b. triple_utf8 m s (boundary_rest s 0 b) z)
  by_class C.Quote q =
      literal_facts s (lex_string m s) (string_bytes m s) (string_notes m s) (string_within m s h) (literal_reason m s h)
      (string_kind m s) (string_size_lem m s) (illegal_bytes m s) (string_notes_size m s)
      (notes_all (length s) (string_notes m s) (λ x i. (notes_in_lem m s h x i).offset_in)) (λ b. string_boundary m s h b) (λ b. string_utf8 m s)
  by_class C.Bytes q =
      scanned_facts s (lex_bytes m limit s) (bytes_notes m limit s) (bytes_scanned s (byte_in s 1 34 (omega arith) q.1) m limit)
      (bytes_notes_size m limit s) (bytes_notes_start m limit s)
      (other_kind (lex_bytes m limit s).kind (bytes_kind m s (bytes_stop limit 0 (drop 2 s))))
  by_class (C.Single k) q = single_facts k q
  by_class C.Directive q = line_facts s (lex_directive s) (directive_on_line s q) (directive_silent s)
  by_class C.Number q = line_facts s (lex_number s) (number_on_line s q) (number_silent s)
  by_class C.Name q = line_facts s (lex_ident s) (ident_on_line s (⊎_elim (λ e. rw e) (λ e. e) q)) (ident_silent s)
  by_class C.Other q = silent_facts s (lex_other s) (other_scanned s h) (other_silent s) (other_kind K.Illegal refl)

-- what is known of the token at the front of a text that is not at its end
abbrev pub Lexed : Mode → ℕ → List ℕ → Lexeme → Type 0
Lexed m limit s r = Facts s r (string_of m s) (notes_of m limit s)

pub lexed : (m : Mode) (limit : ℕ) (s : List ℕ) → 0 < length s → Lexed m limit s (lexeme_of m limit s)
unfolding lexeme_of string_of notes_of
lexed m limit s h = rw (ne_eqb (length s) 0 (λ e. absurd (omega arith))) (by_class m limit s h (class_at s) (first_bytes_at s))
