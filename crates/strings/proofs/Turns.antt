-- For the loop of `Literal::measure`: what is left to measure from here on, with what is measured, makes the whole. By the parts of the text, one
-- turn at a time. Assumes nothing.
use mathlib.Core.Path.{◌≡◌, refl, sym, ap, ◌∙◌}
use mathlib.Core.Bool.{Bool, true, false}
use mathlib.Core.List.{List, []}
use Rattle.std.proofs.Common.{Option, Some, None, is_some}
use mir.Syntax.{w64}
use mir.Val.{Fits, bool_byte}
use Prim.Native.Nat.{ℕ, ◌+◌, ◌-◌, ◌^◌, ◌≤◌, ◌<◌}
use native.Mathlib.Nat.{add-zero, add_assoc}
use native.Mathlib.Omega.{arith}
use lib.Dec.{eqb, lit≤}
use lib.ListN.{length, drop, length-append}
use lib.Seq.{drop-cons}
use Rattle.base.specs.Bytes.{byte}
use Rattle.base.proofs.Stores.{empty}
use Rattle.base.proofs.Tests.{by_cases, in_text, one_or_zero}
use Rattle.utf8.specs.Grammar.{Octets}
use Rattle.utf8.specs.State.{is_between, push_all}
use Rattle.utf8.specs.declared.state.State.{State}
use Rattle.utf8.specs.declared.state.State.TheVariants.{Between}
use Rattle.utf8.specs.Character.{octets_of}
use Rattle.utf8.specs.declared.character.Encoded.{Encoded}
use Rattle.utf8.proofs.States.{push_append, between_is, octets_fed}
use Rattle.token.specs.declared.reason.Reason.{Reason}
use Rattle.lexeme.specs.Lexeme.{Note}
use Rattle.lexeme.specs.declared.Mode.{Mode}
use Rattle.strings.specs.Piece.{piece_of}
use Rattle.strings.specs.Plain.{Spells}
use Rattle.strings.specs.Decode.{Decoded, step_of, step_notes, prepend}
use Rattle.strings.specs.Helpers.{measured}
use Rattle.strings.specs.Literal.{literal_of}
use Rattle.strings.specs.declared.literal.End.{End}
use Rattle.strings.specs.declared.literal.End.TheVariants as end
use Rattle.strings.specs.declared.literal.Step.{Step}
use Rattle.strings.specs.declared.literal.Step.TheVariants.{Go, Stop}
use Rattle.strings.proofs.PieceFacts.{Taken}
use Rattle.strings.proofs.Decodes.{from, Gives, went, from_stop, step_gives, step_less}
use Rattle.strings.proofs.Parts.{spells_ge}

-- where a quote stands, the text goes on
pub quote_in : (s : List ℕ) (e : ℕ) → byte s e ≡ 0x22 → e < length s
quote_in s e q = in_text (λ x. eqb x 0x22) s e refl (rw q)

-- a step makes one report or none
notes_count : (reason : Option Reason) (letter at : ℕ) → length (step_notes reason letter at) ≡ bool_byte (is_some reason)
unfolding step_notes
notes_count None letter at = refl
notes_count (Some r) letter at = refl

pub notes_le : (reason : Option Reason) (letter at : ℕ) → length (step_notes reason letter at) ≤ 1
notes_le reason letter at = rw (notes_count reason letter at) (one_or_zero (is_some reason))

measured_prepend : (c r : ℕ) (t : State) (bs : List ℕ) (ns : List Note) (d : Decoded)
    → measured c r t (prepend bs ns d) ≡ measured (c + length bs) (r + length ns) (push_all t bs) d
measured_prepend c r t bs ns d = simp (length-append, add_assoc, push_append)

-- whole characters leave the state as it is, where none has begun
fed_still : (t : State) (l : List ℕ) → Octets l → (is_between t ≡ false → length l ≡ 0) → push_all t l ≡ t
unfolding push_all
fed_still t l o none =
    by_cases (is_between t) (λ e. rw (between_is t e) (octets_fed o)) (λ e. rw (empty l (none e)))

-- a quote closes a literal
pub quote_stop : (m : Mode) (s : List ℕ) (e x : ℕ) → x ≡ byte s e → x ≡ 0x22 → Stop end.Closed (e + 1) ≡ step_of m e (piece_of (drop e s))
unfolding piece_of step_of
quote_stop m s e x is q = rw (drop-cons s e 0 (quote_in s e (sym is ∙ q)), sym is ∙ q)

-- ---- `Literal::measure`

-- at i: the bytes and the reports that are counted are fewer than the bytes of text before i
pub record Measuring (m : Mode) (s : List ℕ) (i count reports : ℕ) (state : State) : Type 0 where
  pub inside : i ≤ length s
  pub few_bytes : count + 1 ≤ i
  pub few_reports : reports + 1 ≤ i
  pub is : measured 0 0 Between (from m s 1) ≡ measured count reports state (from m s i)

pub measuring_first : (m : Mode) (s : List ℕ) (t : State) → 0 < length s → t ≡ Between → Measuring m s 1 0 0 t
measuring_first m s t h e = record { inside = h; few_bytes = lit≤ tt; few_reports = lit≤ tt; is = rw e refl }

-- after a part, which ends at e and stands for `size` bytes
module _ {m : Mode} {s : List ℕ} {i count reports : ℕ} {state : State} (u : Measuring m s i count reports state) {e size : ℕ}
    (part : Spells s i e size) (none : is_between state ≡ false → size ≡ 0) where
  parted : Measuring m s e (count + size) reports state
  parted =
      record {
        inside = part.inside;
        few_bytes = omega (arith, u.few_bytes, part.later);
        few_reports = omega (arith, u.few_reports, part.later);
        is =
            u.is
            ∙ ap (measured count reports state) (part.is m)
            ∙ measured_prepend count reports state part.bytes [] (from m s e)
            ∙ rw (part.count, fed_still state part.bytes part.whole (λ n. part.count ∙ none n), add-zero reports);
      }

  pub part_in : e ≤ length s
  part_in = parted.inside

  pub part_fits : length s < 2 ^ 64 → Fits w64 (count + size)
  part_fits l = omega (arith, parted.few_bytes, parted.inside)

  -- the literal stops there
  module _ {q : Step} (is : q ≡ step_of m e (piece_of (drop e s))) where
    pub measuring_stop : {x : End} {p : ℕ} → q ≡ Stop x p
        → record { count = count + size; reports = reports; stop = p; end = x; state = state } ≡ measured 0 0 Between (literal_of m s)
    unfolding push_all literal_of
    measuring_stop h = sym (parted.is ∙ ap (measured (count + size) reports state) (from_stop m s e is h) ∙ simp add-zero)

  -- at a quote
  module _ (x : ℕ) (ex : x ≡ byte s e) (q : x ≡ 0x22) where
    pub quote_fits : length s < 2 ^ 64 → Fits w64 (e + 1)
    quote_fits l = omega (arith, quote_in s e (sym ex ∙ q))

    pub measuring_quote : record { count = count + size; reports = reports; stop = e + 1; end = end.Closed; state = state }
        ≡ measured 0 0 Between (literal_of m s)
    measuring_quote = measuring_stop (quote_stop m s e x ex q) refl

  -- a step goes on
  module _ {q : Step} (is : q ≡ step_of m e (piece_of (drop e s))) {enc : Encoded} {used : ℕ} {reason : Option Reason} (h : q ≡ Go enc used reason) where
    gives : Gives m s e (octets_of enc) (step_notes reason (byte enc.bytes 1) e) enc.len (e + used)
    gives = step_gives m s e is h part_in

    pub measuring_less : length s - (e + used) < length s - i
    measuring_less = step_less m s e is h part_in i (spells_ge part)

    pub measuring_go : (t : State) (b : Bool) (k : ℕ) → t ≡ push_all state (octets_of enc) → b ≡ is_some reason → k ≡ bool_byte b
        → Measuring m s (e + used) (count + size + enc.len) (reports + k) t
    measuring_go t b k et es ek =
        let f : Taken enc.len used (length (drop e s)) = (went m s e is h).taken in
        record {
          inside = gives.inside;
          few_bytes = omega (arith, parted.few_bytes);
          few_reports = omega (arith, parted.few_reports, one_or_zero b);
          is =
              parted.is
              ∙ ap (measured (count + size) reports state) gives.is
              ∙ measured_prepend (count + size) reports state (octets_of enc) (step_notes reason (byte enc.bytes 1) e) (from m s (e + used))
              ∙ rw (gives.count, notes_count reason (byte enc.bytes 1) e, et, ek, es) refl;
        }

    pub step_fits : length s < 2 ^ 64 → Fits w64 (count + size + enc.len)
    step_fits l = let f = (went m s e is h).taken in omega (arith, parted.few_bytes, gives.inside)

    pub reports_fit : (b : Bool) (k : ℕ) → k ≡ bool_byte b → length s < 2 ^ 64 → Fits w64 (reports + k)
    reports_fit b k ek l = let f = (went m s e is h).taken in omega (arith, parted.few_reports, gives.inside, one_or_zero b)

    pub used_fits : length s < 2 ^ 64 → Fits w64 (e + used)
    used_fits l = omega (arith, gives.inside)
