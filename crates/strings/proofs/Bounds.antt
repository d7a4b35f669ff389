-- For `lex_string`'s laws and the last copy of `put_string`: a literal gives no more bytes and reports than it takes bytes of text, and ends
-- within it; a tolerant one never at a bad escape. By steps of `decode`. Assumes nothing.
use mathlib.Core.Path.{◌≡◌, refl}
use mathlib.Core.List.{List}
use Rattle.std.proofs.Common.{Option, Some, None}
use Rattle.base.proofs.Tests.{zero_one}
use Prim.Native.Nat.{ℕ, ◌+◌, ◌-◌, ◌≤◌, ◌<◌}
use native.Mathlib.Omega.{arith}
use lib.Dec.{lit≤}
use lib.ListN.{length, drop, length-append, length-drop}
use Rattle.base.specs.Bytes.{byte}
use Rattle.utf8.specs.Character.{octets_of}
use Rattle.utf8.specs.declared.character.Encoded.{Encoded}
use Rattle.token.specs.Reason as reasons
use Rattle.token.specs.Reason.{reason_number, number_of}
use Rattle.token.specs.declared.reason.Reason.{Reason}
use Rattle.lexeme.specs.declared.Mode.{Mode}
use Rattle.lexeme.specs.declared.Mode.TheVariants.{Strict, Tolerant}
use Rattle.strings.specs.Decode.{Decoded, step_notes, prepend, stopped}
use Rattle.strings.specs.Literal.{literal_of, end_reason, end_detail, literal_end}
use Rattle.strings.specs.declared.literal.End.{End}
use Rattle.strings.specs.declared.piece.BadEscape.{BadEscape}
use Rattle.strings.specs.declared.literal.End.TheVariants as end
use Rattle.strings.proofs.PieceFacts.{Taken}
use Rattle.strings.proofs.Decodes.{from, Went, Named, Ended, by_steps}
use Rattle.strings.proofs.Turns.{notes_le}

-- what the text from i on stands for
pub record Bounds (s : List ℕ) (i : ℕ) (d : Decoded) : Type 0 where
  pub bytes_in : i + length d.bytes ≤ d.stop
  pub notes_in_lem : i + length d.notes ≤ d.stop
  pub upto : d.stop ≤ length s
  pub reason : number_of (end_reason d.ending) ≤ reasons.open_string

reason_le : (m : Mode) (l : List ℕ) (e : End) → Named m l e → number_of (end_reason e) ≤ reasons.open_string
unfolding end_reason reason_number
reason_le m l end.Closed n = lit≤ tt
reason_le m l end.AtNewline n = lit≤ tt
reason_le m l end.Cut n = lit≤ tt
reason_le m l end.Open n = lit≤ tt
reason_le Strict l (end.Bad x) n = omega (arith, n.high)
reason_le Tolerant l (end.Bad x) n = absurd n

pub bounds : (m : Mode) (s : List ℕ) (i : ℕ) → i ≤ length s → Bounds s i (from m s i)
bounds m s = by_steps m s (Bounds s) stops goes
  where
    stops : (i : ℕ) (e : End) (p : ℕ) → i ≤ length s → i ≤ p → Ended m (drop i s) e (p - i) → Bounds s i (stopped e p)
    stops i e p h g u =
        record { bytes_in = omega arith; notes_in_lem = omega arith; upto = omega (arith, u.upto, length-drop i s); reason = reason_le m (drop i s) e u.named }

    goes : (i : ℕ) (enc : Encoded) (used : ℕ) (reason : Option Reason) (r : Decoded) → i ≤ length s → Went (drop i s) enc used reason → Bounds s (i + used) r
        → Bounds s i (prepend (octets_of enc) (step_notes reason (byte enc.bytes 1) i) r)
    goes i enc used reason r h w v =
        let t : Taken enc.len used (length (drop i s)) = w.taken in
        let bs : List ℕ = octets_of enc in
        let ns = step_notes reason (byte enc.bytes 1) i in
        record {
          bytes_in = omega (arith, length-append bs r.bytes, w.count, v.bytes_in);
          notes_in_lem = omega (arith, length-append ns r.notes, notes_le reason (byte enc.bytes 1) i, v.notes_in_lem);
          upto = v.upto;
          reason = v.reason;
        }

-- the whole literal
pub literal_bounds : (m : Mode) (s : List ℕ) → 0 < length s → Bounds s 1 (literal_of m s)
unfolding literal_of
literal_bounds m s h = bounds m s 1 h

-- an ending that is no bad escape
pub record Sound (s : List ℕ) (e : End) : Type 0 where
  pub detail : end_detail e ≡ 0
  pub stays : (x : ℕ) → literal_end s e x ≡ x

other_sound : (s : List ℕ) (e : End) → ((x : BadEscape) → e ≡ end.Bad x → Sound s e) → Sound s e
unfolding end_detail literal_end
other_sound s end.Closed f = record { detail = refl; stays = λ x. refl }
other_sound s end.AtNewline f = record { detail = refl; stays = λ x. refl }
other_sound s end.Cut f = record { detail = refl; stays = λ x. refl }
other_sound s end.Open f = record { detail = refl; stays = λ x. refl }
other_sound s (end.Bad x) f = f x refl

-- a strict ending without a reason is none
pub zero_sound : (s : List ℕ) (e : End) → end_reason e ≡ None → Sound s e
unfolding end_reason
zero_sound s e z = other_sound s e (λ x q. let n : Some x.reason ≡ None = rw q at z in zero_one (cc))

-- a tolerant one is none
pub tolerant_sound : (s : List ℕ) → 0 < length s → Sound s (literal_of Tolerant s).ending
unfolding literal_of
tolerant_sound s h =
    by_steps Tolerant s (λ (i : ℕ) (d : Decoded). Sound s d.ending) (λ i e p k g u. other_sound s e (λ x q. absurd (rw q at u.named)))
    (λ i enc used reason r k w v. v) 1 h
