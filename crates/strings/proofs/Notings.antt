-- For `put_tolerant_notes`: the reports that are left, stored from here on, make the whole. By the parts of
-- the text, one turn at a time. Assumes nothing.
use mathlib.Core.Path.{◌≡◌, refl, sym, ap, ◌∙◌}
use mathlib.Core.List.{List, [], ◌∷◌, ◌++◌, append_assoc}
use Rattle.std.proofs.Common.{Option, Some, None}
use Prim.Native.Nat.{ℕ, ◌+◌, ◌-◌, ◌^◌, ◌≤◌, ◌<◌}
use native.Mathlib.Nat.{add-zero, add_assoc}
use native.Mathlib.Omega.{arith}
use lib.IntN.{ℤ}
use lib.ListN.{length, drop, take, length-drop}
use lib.Seq.{sets}
use mir.Syntax.{w64}
use mir.Val.{Fits}
use Rattle.base.specs.Runs.{reach}
use Rattle.base.proofs.Reaches.{rest_is}
use Rattle.base.specs.Bytes.{byte}
use Rattle.utf8.specs.Character.{octets_of}
use Rattle.utf8.specs.declared.character.Encoded.{Encoded}
use Rattle.token.specs.Reason.{reason_number}
use Rattle.token.specs.Place.{place_at}
use Rattle.token.specs.Helpers.{Walkable, ReportFits}
use Rattle.token.specs.declared.reason.Reason.{Reason}
use Rattle.token.specs.Layout.{report_width, report_numbers}
use Rattle.token.specs.declared.place.Place.{Place}
use Rattle.token.proofs.Places.{place_offset}
use Rattle.lexeme.specs.Lexeme.{Note, note_at_start}
use Rattle.lexeme.specs.Reports.{report_at, report_of}
use Rattle.lexeme.specs.Helpers.{notes_numbers}
use Rattle.lexeme.proofs.Notes.{report_fits}
use Rattle.lexeme.specs.declared.Mode.TheVariants.{Tolerant}
use Rattle.strings.specs.Piece.{piece_of}
use Rattle.strings.specs.Plain.{in_ordinary}
use Rattle.strings.specs.Decode.{Decoded, step_of, letter_detail, step_notes}
use Rattle.strings.specs.Literal.{literal_of, end_notes, literal_notes, string_notes}
use Rattle.strings.specs.Helpers.{string_numbers, NotesFit}
use Rattle.strings.specs.declared.literal.End.{End}
use Rattle.strings.specs.declared.literal.Step.{Step}
use Rattle.strings.specs.declared.literal.Step.TheVariants.{Go, Stop}
use Rattle.strings.proofs.Decodes.{from, Gives, Went, went, from_stop, step_gives, run_ge, run_gives}
use Rattle.base.proofs.Storings.{Storing, storing_first, storing_end, storing_room, storing_more}

-- ---- `put_tolerant_notes`

-- the numbers of the reports of the literal's text from i on
abbrev left : List ℕ → Place → List ℕ → ℕ → List ℤ
left text start s i = notes_numbers text start.offset (literal_notes Tolerant (from Tolerant s i))

-- at i, with the next number to go to p, and a place that is not past i
pub record Noting (text : List ℕ) (start : Place) (out₀ : List ℤ) (at : ℕ) (s : List ℕ) (out : List ℤ) (i p : ℕ) (place : Place) : Type 0 where
  pub fit : NotesFit Tolerant text start out₀ at
  pub rest : s ≡ drop start.offset text
  pub inside : i ≤ length s
  pub known : place ≡ place_at text place.offset
  pub behind : place.offset ≤ start.offset + i
  pub store : Storing (string_numbers Tolerant text start.offset) out₀ at (left text start s i) out p

pub noting_first : (text : List ℕ) (start : Place) (out : List ℤ) (at : ℕ) → NotesFit Tolerant text start out at
    → Noting text start out at (take (length text - start.offset) (drop start.offset text)) out 1 at start
unfolding string_notes literal_of
noting_first text start out at f =
    rw (rest_is text start.offset)
    (record {
      fit = f;
      rest = refl;
      inside = omega (arith, f.inside, length-drop start.offset text);
      known = f.true_place;
      behind = omega arith;
      store = storing_first f.room;
    })

-- the reports of a part come before those of the rest
notes_left : {s : List ℕ} {i : ℕ} {bs : List ℕ} {ns : List Note} {n j : ℕ} → Gives Tolerant s i bs ns n j
    → literal_notes Tolerant (from Tolerant s i) ≡ ns ++ literal_notes Tolerant (from Tolerant s j)
unfolding literal_notes
notes_left {s} {ns = ns} {j = j} g =
    let r : Decoded = from Tolerant s j in
    ap (literal_notes Tolerant) g.is ∙ append_assoc ns r.notes (end_notes r.ending)

-- the report of an ending, as `end_report` finds it
ending_notes : (text : List ℕ) (a : ℕ) (reason : Reason)
    → notes_numbers text a (note_at_start reason ∷ []) ≡ report_numbers (report_at (place_at text a) (reason_number reason) 0)
unfolding notes_numbers report_of
ending_notes text a reason = rw (add-zero a)

module _ {text : List ℕ} {start : Place} {out₀ : List ℤ} {at : ℕ} {s : List ℕ} {out : List ℤ} {i p : ℕ} {place : Place}
    (u : Noting text start out₀ at s out i p place) where
  -- a part without a report
  passed : {bs : List ℕ} {ns : List Note} {n j : ℕ} → Gives Tolerant s i bs ns n j → ns ≡ [] → i ≤ j → Noting text start out₀ at s out j p place
  passed {j = j} g e h =
      let l : left text start s i ≡ left text start s j = ap (notes_numbers text start.offset) (notes_left g ∙ rw e) in
      record { fit = u.fit; rest = u.rest; inside = g.inside; known = u.known; behind = omega (arith, u.behind); store = rw l at u.store }

-- after the run from i to e
module _ (text : List ℕ) (start : Place) (out₀ : List ℤ) (at : ℕ) (s : List ℕ) (out : List ℤ) (i p : ℕ) (place : Place)
    (u : Noting text start out₀ at s out i p place) (e : ℕ) (ee : e ≡ reach in_ordinary s i) where
  ran : Noting text start out₀ at s out e p place
  ran = passed u (run_gives s i e ee u.inside Tolerant) refl (run_ge s i e ee)

  module _ {q : Step} (is : q ≡ step_of Tolerant e (piece_of (drop e s))) where
    module _ {x : End} {y : ℕ} (h : q ≡ Stop x y) where
      last_left : literal_notes Tolerant (from Tolerant s e) ≡ end_notes x
      unfolding literal_notes
      last_left = ap (literal_notes Tolerant) (from_stop Tolerant s e is h)

      pub noting_none : end_notes x ≡ [] → out ≡ sets out₀ at (string_numbers Tolerant text start.offset)
      unfolding notes_numbers
      noting_none n = storing_end ran.store (ap (notes_numbers text start.offset) (last_left ∙ n))

      module _ {reason : Reason} (n : end_notes x ≡ note_at_start reason ∷ []) where
        end_numbers : left text start s e ≡ report_numbers (report_at start (reason_number reason) 0)
        end_numbers =
            ap (notes_numbers text start.offset) (last_left ∙ n) ∙ ending_notes text start.offset reason
            ∙ ap (λ (q : Place). report_numbers (report_at q (reason_number reason) 0)) (sym ran.fit.true_place)

        pub end_room : p + report_width ≤ length out
        end_room = omega (arith, ap length end_numbers, ran.store.room, ran.store.same)

        pub end_fits : (k : ℕ) → k ≡ reason_number reason → ReportFits (report_at start k 0)
        end_fits k v =
            let f = ran.fit in
            report_fits text start.offset start reason k 0 f.true_place (omega (arith, f.inside)) f.short v (omega arith)

        pub noting_end : (k : ℕ) (o : List ℤ) → k ≡ reason_number reason → o ≡ sets out p (report_numbers (report_at start k 0))
            → o ≡ sets out₀ at (string_numbers Tolerant text start.offset)
        noting_end k o v eo = rw v at eo ∙ sym (ran.store.is ∙ ap (sets out p) end_numbers)

    module _ {enc : Encoded} {used : ℕ} {found : Option Reason} (h : q ≡ Go enc used found) where
      w : Went (drop e s) enc used found
      w = went Tolerant s e is h

      gives : Gives Tolerant s e (octets_of enc) (step_notes found (byte enc.bytes 1) e) enc.len (e + used)
      gives = step_gives Tolerant s e is h ran.inside

      long : length s ≡ length text - start.offset
      long = ap length ran.rest ∙ length-drop start.offset text

      pub text_fits : length text < 2 ^ 64 → Fits w64 (e + used)
      text_fits l = omega (arith, gives.inside, long)

      -- a step without a report
      pub noting_go : found ≡ None → Noting text start out₀ at s out (e + used) p place
      unfolding step_notes
      noting_go z = passed ran gives (rw z) (omega arith)

      -- a step with one
      module _ {reason : Reason} (z : found ≡ Some reason) where
        to_in : start.offset + e + 1 ≤ length text
        to_in = omega (arith, gives.inside, w.taken.some, long, ran.fit.inside)

        pub to_fits : length text < 2 ^ 64 → Fits w64 (start.offset + e)
        to_fits l = omega (arith, to_in)

        pub to_fits_2 : length text < 2 ^ 64 → Fits w64 (start.offset + e + 1)
        to_fits_2 l = omega (arith, to_in)

        pub note_walks : Walkable text place (start.offset + e + 1)
        note_walks = record { true_place = ran.known; forward = omega (arith, ran.behind); inside = to_in; short = ran.fit.short }

        numbers : List ℤ
        numbers = report_numbers (report_at (place_at text (start.offset + e + 1)) (reason_number reason) (letter_detail reason (byte enc.bytes 1)))

        step_numbers : left text start s e ≡ numbers ++ left text start s (e + used)
        unfolding notes_numbers report_of step_notes numbers
        step_numbers = ap (notes_numbers text start.offset) (notes_left gives) ∙ rw (z, ← add_assoc start.offset e 1)

        pub note_room : p + report_width ≤ length out
        unfolding numbers
        note_room = storing_room ran.store numbers (left text start s (e + used)) step_numbers refl

        pub note_fits : length out₀ < 2 ^ 64 → Fits w64 (p + report_width)
        note_fits l = omega (arith, note_room, ran.store.same)

        pub note_report : (place₂ : Place) (k detail : ℕ) → place₂ ≡ place_at text (start.offset + e + 1) → k ≡ reason_number reason → detail ≤ 255
            → ReportFits (report_at place₂ k detail)
        note_report place₂ k detail ep v h = report_fits text (start.offset + e + 1) place₂ reason k detail ep to_in ran.fit.short v h

        pub noting_note : (place₂ : Place) (k detail : ℕ) (o : List ℤ) → place₂ ≡ place_at text (start.offset + e + 1) → k ≡ reason_number reason
            → detail ≡ letter_detail reason (byte enc.bytes 1) → o ≡ sets out p (report_numbers (report_at place₂ k detail))
            → Noting text start out₀ at s o (e + used) (p + report_width) place₂
        unfolding numbers
        noting_note place₂ k detail o ep v ed eo =
            let at-to : place₂.offset ≡ start.offset + e + 1 = ap (λ (x : Place). x.offset) ep ∙ place_offset text (start.offset + e + 1) to_in in
            record {
              fit = ran.fit;
              rest = ran.rest;
              inside = gives.inside;
              known = ep ∙ ap (place_at text) (sym at-to);
              behind = omega (arith, w.taken.some);
              store = storing_more ran.store numbers (left text start s (e + used)) step_numbers refl o (rw (← ep, ← v, ← ed) eo);
            }
