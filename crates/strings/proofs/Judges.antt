-- For `lex_string`: what it makes of what is measured is the definition's token. By the measured state. Assumes nothing.
use mathlib.Core.Path.{◌≡◌, refl, sym, ap, ◌∙◌}
use mathlib.Core.List.{List, [], ◌∷◌}
use lib.Dec.{lit≤}
use mir.Val.{bool_byte}
use Rattle.strings.specs.declared.literal.End.{End}
use Rattle.strings.specs.declared.literal.End.TheVariants as end
use Rattle.std.proofs.Common.{Bool, Option, Some, None, is_some, MatchOption}
use Rattle.std.specs.Option.{option_or}
use Rattle.base.specs.Choice.{pick}
use Prim.Native.Nat.{ℕ, ◌+◌, ◌^◌, ◌≤◌, ◌<◌}
use native.Mathlib.Omega.{arith}
use lib.ListN.{length, length-append}
use mir.Syntax.{w64}
use mir.Val.{Fits}
use Rattle.utf8.specs.State.{is_between}
use Rattle.utf8.specs.declared.state.State.TheVariants.{Between}
use Rattle.utf8.proofs.States.{state_law}
use Rattle.token.specs.declared.kind.TokenKind.TheVariants as K
use Rattle.token.specs.declared.reason.Reason.{Reason}
use Rattle.token.specs.declared.reason.Reason.TheVariants as R
use Rattle.lexeme.specs.Lexeme.{Note, note_at_start, extent, illegal_reported}
use Rattle.lexeme.specs.declared.Lexeme.{Lexeme}
use Rattle.lexeme.specs.declared.Mode.{Mode}
use Rattle.lexeme.specs.declared.Mode.TheVariants.{Strict, Tolerant}
use Rattle.strings.specs.Decode.{Decoded}
use Rattle.strings.specs.Helpers.{measured}
use Rattle.strings.specs.Literal.{well_formed, literal_of, bytes_reason, token_for, end_reason, literal_reason, end_detail}
use Rattle.strings.specs.Literal.{literal_end, end_notes, literal_notes, lex_string}
use Rattle.strings.specs.declared.literal.Measure.{Measure}
use Rattle.strings.proofs.Bounds.{Bounds, literal_bounds}

-- the state that is measured says whether the bytes are UTF-8
module _ (d : Decoded) (m : Measure) (em : m ≡ measured 0 0 Between d) where
  formed : well_formed d.bytes ≡ is_between m.state
  unfolding well_formed
  formed = state_law d.bytes ∙ rw em refl

  counted : m.count ≡ length d.bytes
  counted = rw em (omega arith)

  stopped : m.stop ≡ d.stop
  stopped = ap (λ (x : Measure). x.stop) em

  ended : m.end ≡ d.ending
  ended = ap (λ (x : Measure). x.end) em

  reported : m.reports ≡ length d.notes
  reported = rw em (omega arith)

-- an ending is reported once or not
one_report : (f : Option Reason) (l : List Note) → MatchOption f (l ≡ []) (λ r. l ≡ note_at_start r ∷ []) → bool_byte (is_some f) ≡ length l
one_report None l e = rw e refl
one_report (Some r) l e = rw e refl

pub end_le : (e : End) → length (end_notes e) ≤ 1
unfolding end_notes
end_le end.Closed = lit≤ tt
end_le end.AtNewline = lit≤ tt
end_le end.Cut = lit≤ tt
end_le end.Open = lit≤ tt
end_le (end.Bad x) = lit≤ tt

-- the token of the reason and of the reports, k of them
abbrev Made : List ℕ → Measure → ℕ → Lexeme → Option Reason → Type 0
Made s m k r found =
    MatchOption found (r ≡ extent K.String m.stop 0 m.count k) (λ x. r ≡ illegal_reported x (end_detail m.end) (literal_end s m.end m.stop) k)

module _ (w : Mode) (s : List ℕ) (m : Measure) (em : m ≡ measured 0 0 Between (literal_of w s)) where
  utf8 : {b : Option Reason} → b ≡ pick (is_between m.state) None (Some R.StringNotUtf8) → b ≡ bytes_reason (literal_of w s)
  utf8 e = e ∙ rw (formed (literal_of w s) m em) refl

  judged : (v : Option Reason) (k : ℕ) (r : Lexeme) → v ≡ literal_reason w (literal_of w s) → k ≡ length (literal_notes w (literal_of w s))
      → Made s m k r v → r ≡ lex_string w s
  unfolding lex_string
  judged v k r ev ek e = go (literal_reason w (literal_of w s)) (rw ev at e)
    where
      go : (x : Option Reason) → Made s m k r x → r ≡ token_for x w s (literal_of w s)
      go None e = e ∙ rw (stopped (literal_of w s) m em, counted (literal_of w s) m em, ek) refl
      go (Some y) e = e ∙ rw (ended (literal_of w s) m em, stopped (literal_of w s) m em, ek) refl

  pub judged_strict : w ≡ Strict → (b v x : Option Reason) (r : Lexeme) → b ≡ pick (is_between m.state) None (Some R.StringNotUtf8)
      → x ≡ end_reason m.end → v ≡ option_or x b → Made s m 0 r v → r ≡ lex_string w s
  unfolding literal_reason literal_notes
  judged_strict z b v x r eb ex ev = judged v 0 r (ev ∙ rw (ex, utf8 eb, ended (literal_of w s) m em, z) refl) (rw z refl)

  -- whether the ending is reported
  module _ (z : w ≡ Tolerant) (f : Option Reason) (ef : MatchOption f (end_notes m.end ≡ []) (λ r. end_notes m.end ≡ note_at_start r ∷ []))
      (y : Bool) (ey : y ≡ is_some f) (n : ℕ) (ny : n ≡ bool_byte y) where
    en : n ≡ length (end_notes m.end)
    en = ny ∙ rw ey (one_report f (end_notes m.end) ef)

    noted : m.reports + n ≡ length (literal_notes w (literal_of w s))
    unfolding literal_notes
    noted =
        let d : Decoded = literal_of w s in
        rw (reported d m em, en, ended d m em, z) (sym (length-append (literal_of Tolerant s).notes (end_notes (literal_of Tolerant s).ending)))

    pub notes_fit : 0 < length s → length s < 2 ^ 64 → Fits w64 (m.reports + n)
    notes_fit h l =
        let b : Bounds s 1 (literal_of w s) = literal_bounds w s h in
        omega (arith, reported (literal_of w s) m em, en, end_le m.end)

    pub judged_tolerant : (b : Option Reason) (r : Lexeme) → b ≡ pick (is_between m.state) None (Some R.StringNotUtf8) → Made s m (m.reports + n) r b
        → r ≡ lex_string w s
    unfolding literal_reason
    judged_tolerant b r eb = judged b (m.reports + n) r (utf8 eb ∙ rw z refl) noted
