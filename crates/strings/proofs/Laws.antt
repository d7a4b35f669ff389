-- Laws of `lex_string` for the crate above, `lexer`: its numbers are in bounds, its bytes and reports counted, its bytes UTF-8,
-- and it ends between characters of a well-formed text. By steps of `decode`, and by cases on the ending. Assumes nothing.
use mathlib.Core.Path.{◌≡◌, refl}
use mathlib.Core.Bool.{Bool, true, false}
use mathlib.Core.List.Memᴰ
use mathlib.Core.List.{List, [], ◌∷◌, Memᴰ}
use Rattle.std.proofs.Common.{Option, Some, None, is_some}
use Rattle.std.specs.Option.{option_or}
use mathlib.Core.Logic.{◌⊎◌, inl, inr, ⊎_elim}
use Prim.Native.Nat.{ℕ, ◌+◌, ◌-◌, ◌≤◌, ◌<◌, zero-le}
use native.Mathlib.Omega.{arith}
use borrow.Author.Tests.{eqb-true}
use lib.Dec.{lit≤}
use lib.ListN.{length, drop, length-append, length-drop}
use lib.Seq.{get_or-drop}
use Rattle.base.specs.Choice.{pick}
use Rattle.base.specs.Bytes.{byte, AreBytes}
use Rattle.base.proofs.Tests.{pick_case, pick_le, zero_one}
use Rattle.utf8.specs.Grammar.{Octets, none, valid_to}
use Rattle.utf8.specs.Onward.{Boundary}
use Rattle.utf8.specs.Check.{char_end}
use Rattle.utf8.proofs.Valid.{valid_octets}
use Rattle.utf8.proofs.Boundaries.{boundary_at, ascii_boundary, char_end_ge, char_end_le, char_end_boundary}
use Rattle.utf8.proofs.Concatenations.{ascii_no_tail}
use Rattle.utf8.specs.declared.character.Encoded.{Encoded}
use Rattle.token.specs.Reason as reasons
use Rattle.token.specs.Reason.{reason_number, is_unknown_escape, number_of}
use Rattle.token.specs.declared.kind.TokenKind.TheVariants as K
use Rattle.token.specs.declared.reason.Reason.{Reason}
use Rattle.token.specs.declared.reason.Reason.TheVariants as R
use Rattle.lexeme.specs.Lexeme.{Note, note_at_start, extent, illegal_reported}
use Rattle.lexeme.specs.declared.Lexeme.{Lexeme}
use Rattle.lexeme.specs.declared.Mode.{Mode}
use Rattle.lexeme.specs.declared.Mode.TheVariants.{Strict, Tolerant}
use Rattle.lexeme.proofs.Within.{Within, extent_within, illegal_within}
use Rattle.strings.specs.Decode.{Decoded, letter_detail, step_notes}
use Rattle.strings.specs.Literal.{well_formed, literal_of, end_reason, literal_reason, end_detail, literal_end, end_notes, literal_notes}
use Rattle.strings.specs.Literal.{bytes_reason, token_for, lex_string, string_bytes, string_notes}
use Rattle.strings.specs.Helpers.{Sized}
use Rattle.strings.specs.declared.literal.End.{End}
use Rattle.strings.specs.declared.literal.End.TheVariants as end
use Rattle.strings.proofs.PieceFacts.{Taken}
use Rattle.strings.proofs.Decodes.{Went, Named, Clean, at_end, after, before, Ended, by_steps}
use Rattle.strings.proofs.Judges.{end_le}
use Rattle.strings.proofs.Bounds.{Bounds, literal_bounds, Sound, zero_sound, tolerant_sound}

-- ---- a literal is a String with its bytes, or Illegal with none

module _ (m : Mode) (s : List ℕ) (P : Lexeme → List ℕ → Type 0) where
  by_verdict : let d = literal_of m s in
      let reports = length (literal_notes m d) in
      (literal_reason m d ≡ None → P (extent K.String d.stop 0 (length d.bytes) reports) d.bytes)
      → ((r : Reason) → literal_reason m d ≡ Some r → P (illegal_reported r (end_detail d.ending) (literal_end s d.ending d.stop) reports) [])
      → P (lex_string m s) (string_bytes m s)
  unfolding lex_string string_bytes
  by_verdict f g = go (literal_reason m (literal_of m s)) refl
    where
      go : let d = literal_of m s in
          (v : Option Reason) → literal_reason m d ≡ v → P (token_for v m s d) (pick (is_some v) [] d.bytes)
      go None e = f e
      go (Some r) e = g r e

-- without a reason the bytes are UTF-8, and a strict ending has none
utf8_pick : (w : Bool) → pick w None (Some R.StringNotUtf8) ≡ None → w ≡ true
utf8_pick true z = refl
utf8_pick false z = zero_one (cc)

strict_none : (x y : Option Reason) → option_or x y ≡ None → (x ≡ None) × (y ≡ None)
strict_none None y z = (refl, z)
strict_none (Some r) y z = zero_one (cc)

formed : (m : Mode) (d : Decoded) → literal_reason m d ≡ None → well_formed d.bytes ≡ true
unfolding literal_reason
formed Strict d z = utf8_pick (well_formed d.bytes) (strict_none (end_reason d.ending) (bytes_reason d) z).1
formed Tolerant d z = utf8_pick (well_formed d.bytes) z

unreasoned : (d : Decoded) → literal_reason Strict d ≡ None → end_reason d.ending ≡ None
unfolding literal_reason
unreasoned d z = (strict_none (end_reason d.ending) (bytes_reason d) z).0

-- so a strict String is closed
none_closed : (e : End) → end_reason e ≡ None → e ≡ end.Closed
unfolding end_reason
none_closed end.Closed z = refl
none_closed end.AtNewline z = zero_one (cc)
none_closed end.Cut z = zero_one (cc)
none_closed end.Open z = zero_one (cc)
none_closed (end.Bad y) z = zero_one (cc)

string_closed : (m : Mode) (s : List ℕ) → literal_reason m (literal_of m s) ≡ None → m ≡ Strict → (literal_of m s).ending ≡ end.Closed
string_closed Strict s z e = none_closed (literal_of Strict s).ending (unreasoned (literal_of Strict s) z)
string_closed Tolerant s z e = zero_one (cc)

-- and no String's ending is a bad escape
string_sound : (m : Mode) (s : List ℕ) → 0 < length s → literal_reason m (literal_of m s) ≡ None → Sound s (literal_of m s).ending
string_sound Strict s h z = zero_sound s (literal_of Strict s).ending (unreasoned (literal_of Strict s) z)
string_sound Tolerant s h z = tolerant_sound s h

module _ (m : Mode) (s : List ℕ) where
  -- the size is the length of the bytes that go to the string buffer, in either case
  pub string_size_lem : length (string_bytes m s) ≡ (lex_string m s).size
  string_size_lem = by_verdict m s (λ r bs. length bs ≡ r.size) (λ _. refl) (λ _ _. refl)

  pub string_notes_size : length (string_notes m s) ≡ (lex_string m s).reports
  unfolding string_notes
  string_notes_size = by_verdict m s (λ r bs. length (literal_notes m (literal_of m s)) ≡ r.reports) (λ _. refl) (λ _ _. refl)

  -- it is a String or Illegal
  pub string_kind : ((lex_string m s).kind ≡ K.String) ⊎ ((lex_string m s).kind ≡ K.Illegal)
  string_kind = by_verdict m s (λ r bs. (r.kind ≡ K.String) ⊎ (r.kind ≡ K.Illegal)) (λ _. inl refl) (λ _ _. inr refl)

  -- a String has the decoded bytes
  pub string_bytes_lem : (lex_string m s).kind ≡ K.String → string_bytes m s ≡ (literal_of m s).bytes
  string_bytes_lem = by_verdict m s (λ r bs. r.kind ≡ K.String → bs ≡ (literal_of m s).bytes) (λ _ _. refl) (λ _ _ k. cc)

  -- its length and its size are those of the literal
  pub string_sized : (lex_string m s).kind ≡ K.String → Sized m s (lex_string m s).len (lex_string m s).size
  string_sized =
      by_verdict m s (λ r bs. r.kind ≡ K.String → Sized m s r.len r.size)
      (λ z _. record { count = refl; stop = refl; closed = string_closed m s z })
      (λ _ _ k. zero_one (cc))

  pub string_utf8 : Octets (string_bytes m s)
  unfolding well_formed
  string_utf8 =
      let l : List ℕ = (literal_of m s).bytes in
      by_verdict m s (λ r bs. Octets bs) (λ z. valid_octets l (eqb-true (valid_to l) (length l) (formed m (literal_of m s) z))) (λ _ _. none)

  -- an Illegal literal has none
  pub illegal_bytes : (lex_string m s).kind ≡ K.Illegal → string_bytes m s ≡ []
  illegal_bytes = by_verdict m s (λ r bs. r.kind ≡ K.Illegal → bs ≡ []) (λ _ k. cc) (λ _ _ _. refl)

-- ---- bounds

utf8_le : (w : Bool) → number_of (pick w None (Some R.StringNotUtf8)) ≤ reasons.string_not_utf8
unfolding reason_number
utf8_le true = lit≤ tt
utf8_le false = lit≤ tt

or_le : (x y : Option Reason) (n : ℕ) → number_of x ≤ n → number_of y ≤ n → number_of (option_or x y) ≤ n
or_le None y n h k = k
or_le (Some r) y n h k = h

reason_le : (m : Mode) (d : Decoded) → number_of (end_reason d.ending) ≤ reasons.open_string → number_of (literal_reason m d) ≤ reasons.string_not_utf8
unfolding literal_reason
reason_le Strict d h = or_le (end_reason d.ending) (bytes_reason d) reasons.string_not_utf8 (omega arith) (utf8_le (well_formed d.bytes))
reason_le Tolerant d h = utf8_le (well_formed d.bytes)

notes_le : (m : Mode) (d : Decoded) → length (literal_notes m d) ≤ length d.notes + 1
unfolding literal_notes
notes_le Strict d = omega arith
notes_le Tolerant d = omega (arith, length-append d.notes (end_notes d.ending), end_le d.ending)

-- an ending leaves the end where it is, or moves it to the end of a character
end_case : (s : List ℕ) (p : ℕ) (P : ℕ → Type 0) → P p → P (char_end s p) → (e : End) → P (literal_end s e p)
unfolding literal_end
end_case s p P f g end.Closed = f
end_case s p P f g end.AtNewline = f
end_case s p P f g end.Cut = f
end_case s p P f g end.Open = f
end_case s p P f g (end.Bad y) = pick_case P (is_unknown_escape y.reason) (λ _. g) (λ _. f)

letter_le : (reason : Reason) (letter : ℕ) → letter < 256 → letter_detail reason letter ≤ 255
unfolding letter_detail
letter_le reason letter h = pick_le (is_unknown_escape reason) (omega arith) (omega arith)

-- a report of a literal
pub record NoteIn (s : List ℕ) (n : Note) : Type 0 where
  pub detail_in : AreBytes s → n.detail ≤ 255
  pub offset_in : n.offset ≤ length s

-- the report of an ending
start_note : (s : List ℕ) (x : Note) (r : Reason) → Memᴰ x (note_at_start r ∷ []) → NoteIn s x
start_note s x r q = rw (Memᴰ.eq_of_singleton q) (record { detail_in = λ _. zero-le; offset_in = zero-le })

end_note : (s : List ℕ) (x : Note) (e : End) → Memᴰ x (end_notes e) → NoteIn s x
unfolding end_notes
end_note s x end.Closed q = absurd (Memᴰ.not-nil q)
end_note s x end.AtNewline q = start_note s x R.StringEndedAtNewline q
end_note s x end.Cut q = start_note s x R.OpenEscape q
end_note s x end.Open q = start_note s x R.OpenString q
end_note s x (end.Bad y) q = absurd (Memᴰ.not-nil q)

module _ (m : Mode) (s : List ℕ) (h : 0 < length s) where
  letter_in : AreBytes s → (i letter : ℕ) → letter ≡ byte (drop i s) 1 → letter < 256
  letter_in bytes i letter e = rw (e, get_or-drop i s 1 0) (bytes (i + 1))

  ending_detail : (n : Mode) (i : ℕ) (e : End) → Named n (drop i s) e → AreBytes s → end_detail e ≤ 255
  unfolding end_detail
  ending_detail w i end.Closed n bytes = lit≤ tt
  ending_detail w i end.AtNewline n bytes = lit≤ tt
  ending_detail w i end.Cut n bytes = lit≤ tt
  ending_detail w i end.Open n bytes = lit≤ tt
  ending_detail Strict i (end.Bad y) n bytes = letter_le y.reason y.letter (letter_in bytes i y.letter n.named)
  ending_detail Tolerant i (end.Bad y) n bytes = absurd n

  step_notes_lem : (i : ℕ) (enc : Encoded) (used : ℕ) (reason : Option Reason) → i ≤ length s → Went (drop i s) enc used reason → (x : Note)
      → Memᴰ x (step_notes reason (byte enc.bytes 1) i) → NoteIn s x
  unfolding step_notes
  step_notes_lem i enc used None k w x q = absurd (Memᴰ.not-nil q)
  step_notes_lem i enc used (Some r) k w x q =
      let t : Taken enc.len used (length (drop i s)) = w.taken in
      rw (Memᴰ.eq_of_singleton q)
      (record {
        detail_in = λ bytes. letter_le r (byte enc.bytes 1) (letter_in bytes i (byte enc.bytes 1) (w.named r refl));
        offset_in = omega (arith, length-drop i s);
      })

  -- what the letters of the text from i on give
  record Lettered (d : Decoded) : Type 0 where
    detail : AreBytes s → end_detail d.ending ≤ 255
    noted : (x : Note) → Memᴰ x d.notes → NoteIn s x

  lettered : Lettered (literal_of m s)
  unfolding literal_of
  lettered =
      by_steps m s (λ (i : ℕ) (d : Decoded). Lettered d)
      (λ i e p k g u. record { detail = ending_detail m i e u.named; noted = λ x q. absurd (Memᴰ.not-nil q) })
      (λ i enc used reason r k w v.
      record {
        detail = v.detail;
        noted = λ x q. ⊎_elim (step_notes_lem i enc used reason k w x) (v.noted x) (Memᴰ.append_cases (step_notes reason (byte enc.bytes 1) i) q);
      })
      1 h

  pub string_within : Within s (lex_string m s)
  string_within =
      let d : Decoded = literal_of m s in
      let b : Bounds s 1 d = literal_bounds m s h in
      let n = notes_le m d in
      let lo = end_case s d.stop (λ (x : ℕ). d.stop ≤ x) (omega arith) (char_end_ge s d.stop) d.ending in
      let hi = end_case s d.stop (λ (x : ℕ). x ≤ length s) b.upto (char_end_le s d.stop b.upto) d.ending in
      by_verdict m s (λ r bs. Within s r)
      (λ _. extent_within s K.String d.stop (omega (arith, b.bytes_in)) b.upto 0 (length d.bytes) (length (literal_notes m d))
      (omega (arith, b.bytes_in)) (omega (arith, b.notes_in_lem)))
      (λ _ _. illegal_within s _ _ _ _ (omega (arith, b.bytes_in)) hi (omega (arith, b.notes_in_lem)) (λ bytes. omega (arith, lettered.detail bytes)))

  -- its reason is at most the last of strings
  pub string_reason : number_of (lex_string m s).reason ≤ reasons.string_not_utf8
  string_reason =
      let le = reason_le m (literal_of m s) (literal_bounds m s h).reason in
      by_verdict m s (λ r bs. number_of r.reason ≤ reasons.string_not_utf8) (λ _. lit≤ tt) (λ r e. rw e at le)

  -- every report of it
  pub notes_in_lem : (x : Note) → Memᴰ x (string_notes m s) → NoteIn s x
  unfolding string_notes literal_notes
  notes_in_lem x q = go m q lettered
    where
      go : (n : Mode) → Memᴰ x (literal_notes n (literal_of n s)) → Lettered (literal_of n s) → NoteIn s x
      go Strict q l = absurd (Memᴰ.not-nil q)
      go Tolerant q l =
          let d : Decoded = literal_of Tolerant s in
          ⊎_elim (l.noted x) (end_note s x d.ending) (Memᴰ.append_cases d.notes q)

-- ---- the end of a literal in a well-formed text

module _ (m : Mode) (s : List ℕ) (h : 0 < length s) (b : Boundary s 0) where
  clean_boundary : (i k : ℕ) → i + k ≤ length s → Clean (drop i s) k → Boundary s (i + k)
  clean_boundary i k l (at_end e) =
      boundary_at s (i + k) l (λ g. absurd (omega (arith, length-drop i s))) 0 zero-le b
  clean_boundary i k l (before a) =
      boundary_at s (i + k) l (λ g. ascii_no_tail (byte s (i + k)) (rw (get_or-drop i s k 0) at a)) 0 zero-le b
  clean_boundary i k l (after p a) =
      let j = i + (k - 1) in
      let q : i + (k - 1) + 1 ≡ i + k = omega arith in
      let c : byte s (i + (k - 1)) < 0x80 = rw (get_or-drop i s (k - 1) 0) at a in
      rw q at (ascii_boundary s j (omega arith) c (boundary_at s j (omega arith) (λ _. ascii_no_tail (byte s j) c) 0 zero-le b))

  module _ (i p : ℕ) (l : i ≤ length s) (g : i ≤ p) where
    stop_in : (e : End) → Ended m (drop i s) e (p - i) → p ≤ length s
    stop_in e u = omega (arith, u.upto, length-drop i s)

    stop_boundary : (e : End) → Ended m (drop i s) e (p - i) → ((r : Reason) → end_reason e ≡ Some r → is_unknown_escape r ≡ false) → Boundary s p
    stop_boundary e u n =
        let q : i + (p - i) ≡ p = omega arith in
        rw q at (clean_boundary i (p - i) (omega (arith, stop_in e u)) (u.clean n))

    end_boundary : (e : End) → Ended m (drop i s) e (p - i) → Boundary s (literal_end s e p)
    unfolding literal_end end_reason reason_number
    end_boundary end.Closed u = stop_boundary end.Closed u (λ r z. zero_one (cc))
    end_boundary end.AtNewline u = stop_boundary end.AtNewline u (λ r z. let e : R.NewlineInString ≡ r = cc in rw (← e) refl)
    end_boundary end.Cut u = stop_boundary end.Cut u (λ r z. let e : R.OpenEscape ≡ r = cc in rw (← e) refl)
    end_boundary end.Open u = stop_boundary end.Open u (λ r z. let e : R.OpenString ≡ r = cc in rw (← e) refl)
    end_boundary (end.Bad y) u =
        pick_case (Boundary s) (is_unknown_escape y.reason) (λ _. char_end_boundary s p (stop_in (end.Bad y) u) b)
        (λ e. stop_boundary (end.Bad y) u (λ r z. let q : y.reason ≡ r = cc in rw (← q) e))

  -- a literal at the front of a well-formed text ends between characters
  pub string_boundary : Boundary s (lex_string m s).len
  unfolding literal_of
  string_boundary =
      let d : Decoded = literal_of m s in
      let v : Boundary s (literal_end s d.ending d.stop) =
      by_steps m s (λ (i : ℕ) (x : Decoded). Boundary s (literal_end s x.ending x.stop)) (λ i e p k g u. end_boundary i p k g e u)
      (λ i enc used reason r k w v. v) 1 h in
      by_verdict m s (λ r bs. Boundary s r.len) (λ z. rw ((string_sound m s h z).stays d.stop) at v) (λ _ _. v)
