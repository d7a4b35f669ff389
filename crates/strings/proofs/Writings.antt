-- For the loop of `put_string`: what is left to store from here on, with what is stored, makes the whole. By the parts of the text, one turn at a
-- time: a run of bytes that stand for themselves, escapes of one letter, a step. Assumes nothing.
use mathlib.Core.Path.{◌≡◌, refl, sym, ap, ◌∙◌}
use mathlib.Core.List.{List, [], ◌++◌, append-nil, append_assoc}
use Prim.Native.Nat.{ℕ, ◌+◌, ◌-◌, ◌*◌, ◌^◌, ◌≤◌, ◌<◌}
use native.Mathlib.Nat.{add-zero, zero-add}
use native.Mathlib.Omega.{arith}
use lib.ListN.{length, take, drop, length-append, length-drop, drop_of_length-le}
use lib.Seq.{sets, drop-drop}
use mir.Syntax.{w64}
use mir.Val.{Fits}
use borrow.Rule.Slice.PartMut.{put_mid}
use Rattle.std.proofs.Common.{Option}
use Rattle.std.proofs.lemmas.List.Edits.{sets-eq}
use Rattle.base.specs.Bytes.{byte}
use Rattle.base.specs.Runs.{reach}
use Rattle.base.proofs.Reaches.{rest_is}
use Rattle.base.proofs.Storings.{Storing, storing_first, storing_end, storing_room, storing_more}
use Rattle.utf8.specs.Character.{octets_of}
use Rattle.utf8.specs.declared.character.Encoded.{Encoded}
use Rattle.token.specs.declared.reason.Reason.{Reason}
use Rattle.lexeme.specs.Lexeme.{Note}
use Rattle.lexeme.specs.declared.Mode.{Mode}
use Rattle.lexeme.specs.declared.Mode.TheVariants.{Strict}
use Rattle.strings.specs.Piece.{piece_of}
use Rattle.strings.specs.Plain.{in_ordinary, simple_bytes}
use Rattle.strings.specs.Decode.{Decoded, step_of, step_notes}
use Rattle.strings.specs.Helpers.{Sized}
use Rattle.strings.specs.Literal.{literal_of}
use Rattle.strings.specs.declared.literal.End.{End}
use Rattle.strings.specs.declared.literal.End.TheVariants as end
use Rattle.strings.specs.declared.literal.Step.{Step}
use Rattle.strings.specs.declared.literal.Step.TheVariants.{Go, Stop}
use Rattle.strings.proofs.Decodes.{from, Gives, from_stop, step_gives, step_less, run_ge, run_gives, simple_gives}
use Rattle.strings.proofs.Turns.{quote_stop}

-- at i, with the next byte to go to p. The literal takes `len` bytes of text, and its bytes go to places before `until`
pub record Writing (m : Mode) (s : List ℕ) (len : ℕ) (out₀ : List ℕ) (place until : ℕ) (out : List ℕ) (i p : ℕ) : Type 0 where
  pub inside : i ≤ length s
  pub store : Storing (from m s 1).bytes out₀ place (from m s i).bytes out p
  pub count : p + length (from m s i).bytes ≡ until
  pub stop : (from m s i).stop ≡ len
  pub closed : m ≡ Strict → (from m s i).ending ≡ end.Closed

pub writing_first : (m : Mode) (s : List ℕ) (len size : ℕ) (out : List ℕ) (place : ℕ) → 0 < length s → place + size ≤ length out → Sized m s len size
    → Writing m s len out place (place + size) out 1 place
unfolding literal_of
writing_first m s len size out place h r z =
    record { inside = h; store = storing_first (omega (arith, z.count)); count = omega (arith, z.count); stop = z.stop; closed = z.closed }

module _ {m : Mode} {s : List ℕ} {len : ℕ} {out₀ : List ℕ} {place until : ℕ} {out : List ℕ} {i p : ℕ} (u : Writing m s len out₀ place until out i p) where
  -- a run, escapes of one letter or a step gives the next n bytes
  module _ {bs : List ℕ} {ns : List Note} {n j : ℕ} (g : Gives m s i bs ns n j) where
    bytes_are : (from m s i).bytes ≡ bs ++ (from m s j).bytes
    bytes_are = ap (λ (d : Decoded). d.bytes) g.is

    pub writing_room : p + n ≤ length out
    writing_room = storing_room u.store bs (from m s j).bytes bytes_are g.count

    pub writing_more : (o : List ℕ) → o ≡ sets out p bs → Writing m s len out₀ place until o j (p + n)
    writing_more o q =
        record {
          inside = g.inside;
          store = storing_more u.store bs (from m s j).bytes bytes_are g.count o q;
          count = omega (arith, u.count, g.count, ap length bytes_are, length-append bs (from m s j).bytes);
          stop = sym (ap (λ (d : Decoded). d.stop) g.is) ∙ u.stop;
          closed = λ t. sym (ap (λ (d : Decoded). d.ending) g.is) ∙ u.closed t;
        }

  pub writing_stop : {q : Step} → q ≡ step_of m i (piece_of (drop i s)) → {x : End} {y : ℕ} → q ≡ Stop x y → out ≡ sets out₀ place (literal_of m s).bytes
  unfolding literal_of
  writing_stop is h = storing_end u.store (ap (λ (d : Decoded). d.bytes) (from_stop m s i is h))

-- what is stored in the rest of a buffer is stored in the buffer
rest_stored : (o : List ℕ) (q : ℕ) (bs y : List ℕ) → q + length bs ≤ length o → y ≡ sets (take (length o - q) (drop q o)) 0 bs
    → put_mid q (length o - q) o y ≡ sets o q bs
rest_stored o q bs y h e =
    let r : 0 + length bs ≤ length (drop q o) = omega (arith, length-drop q o) in
    let f : length (drop q o) ≤ length o - q = omega (arith, length-drop q o) in
    let y : sets (drop q o) 0 bs ≡ bs ++ drop (length bs) (drop q o) = sets-eq bs (drop q o) 0 r ∙ rw (zero-add (length bs)) refl in
    rw (e, rest_is o q, y, drop_of_length-le (drop q o) f, append-nil, drop-drop (length bs) q o, sets-eq bs o q h)
    (sym (append_assoc (take q o) bs (drop (q + length bs) o)))

-- the run from i to e is copied
module _ {m : Mode} {s : List ℕ} {len : ℕ} {out₀ : List ℕ} {place until : ℕ} {out : List ℕ} {i p : ℕ} (u : Writing m s len out₀ place until out i p)
    {e : ℕ} (ee : e ≡ reach in_ordinary s i) where
  run : Gives m s i (take (e - i) (drop i s)) [] (e - i) e
  run = run_gives s i e ee u.inside m

  pub run_room : p + length (take (e - i) (drop i s)) ≤ length out
  run_room = rw run.count (writing_room u run)

  module _ {o : List ℕ} (eo : o ≡ sets out p (take (e - i) (drop i s))) where
    copied : Writing m s len out₀ place until o e (p + (e - i))
    copied = writing_more u run o eo

    pub run_closed : (x : ℕ) → x ≡ byte s e → x ≡ 0x22 → o ≡ sets out₀ place (literal_of m s).bytes
    run_closed x ex z = writing_stop copied (quote_stop m s e x ex z) refl

    pub next_in : p + (e - i) ≤ length o
    next_in = omega (arith, copied.store.room, copied.store.same)

    escapes_room : p + (e - i) + length (simple_bytes (drop e s)) ≤ length o
    escapes_room = writing_room copied (simple_gives s e (length (simple_bytes (drop e s))) copied.inside refl m)

    pub escapes_fit : length (simple_bytes (take (length s - e) (drop e s))) ≤ length (take (length o - (p + (e - i))) (drop (p + (e - i)) o))
    escapes_fit = rw (rest_is s e, rest_is o (p + (e - i))) (omega (arith, length-drop (p + (e - i)) o, escapes_room))

    -- then escapes of one letter are stored, which there may be none of
    module _ {n : ℕ} (en : n ≡ length (simple_bytes (take (length s - e) (drop e s)))) {y : List ℕ}
        (ey : y ≡ sets (take (length o - (p + (e - i))) (drop (p + (e - i)) o)) 0 (simple_bytes (take (length s - e) (drop e s)))) where
      same_count : n ≡ length (simple_bytes (drop e s))
      same_count = rw (rest_is s e) at en

      pub escaped : Writing m s len out₀ place until (put_mid (p + (e - i)) (length o - (p + (e - i))) o y) (e + 2 * n) (p + (e - i) + n)
      escaped =
          writing_more copied (simple_gives s e n copied.inside same_count m) _
          (rest_stored o (p + (e - i)) (simple_bytes (drop e s)) y escapes_room (rw (rest_is s e) at ey))

      pub escaped_fits : length out₀ < 2 ^ 64 → Fits w64 (p + (e - i) + n)
      escaped_fits l = omega (arith, escaped.store.room)

      -- there are none: a step
      module _ (z : n ≡ 0) where
        still : Writing m s len out₀ place until (put_mid (p + (e - i)) (length o - (p + (e - i))) o y) e (p + (e - i))
        still = rw (z, add-zero e, add-zero (p + (e - i))) at escaped

        module _ {t : Step} (is : t ≡ step_of m e (piece_of (drop e s))) where
          pub step_closed : {x : End} {k : ℕ} → t ≡ Stop x k
              → put_mid (p + (e - i)) (length o - (p + (e - i))) o y ≡ sets out₀ place (literal_of m s).bytes
          step_closed h = writing_stop still is h

          module _ {enc : Encoded} {used : ℕ} {reason : Option Reason} (h : t ≡ Go enc used reason) where
            gives : Gives m s e (octets_of enc) (step_notes reason (byte enc.bytes 1) e) enc.len (e + used)
            gives = step_gives m s e is h still.inside

            pub step_room : p + (e - i) + enc.len ≤ length (put_mid (p + (e - i)) (length o - (p + (e - i))) o y)
            step_room = writing_room still gives

            pub stepped : (o₃ : List ℕ) → o₃ ≡ sets (put_mid (p + (e - i)) (length o - (p + (e - i))) o y) (p + (e - i)) (octets_of enc)
                → Writing m s len out₀ place until o₃ (e + used) (p + (e - i) + enc.len)
            stepped o₃ eo₃ = writing_more still gives o₃ eo₃

            pub step_fits : length out₀ < 2 ^ 64 → Fits w64 (p + (e - i) + enc.len)
            step_fits l = omega (arith, step_room, still.store.same)

            pub used_fits : length s < 2 ^ 64 → Fits w64 (e + used)
            used_fits l = omega (arith, gives.inside)

            pub stepped_less : length s - (e + used) < length s - i
            stepped_less = step_less m s e is h still.inside i (run_ge s i e ee)
