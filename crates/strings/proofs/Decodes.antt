-- Laws of `decode` at an offset of the token, for all that reads a literal: what a step, a run of bytes that stand for themselves and escapes
-- of one letter give, and a claim from the claims of its steps. By induction on the bytes that are left. Assumes nothing.
use mathlib.Core.Path.{◌≡◌, refl, sym, ap, ◌∙◌, subst}
use mathlib.Core.Bool.{Bool, true, false, not, ◌&&◌}
use mathlib.Core.List.{List, [], ◌∷◌}
use Rattle.std.proofs.Common.{Option, Some, None}
use Prim.Native.Nat.{ℕ, zero, suc, ◌+◌, ◌-◌, ◌*◌, ◌≤◌, ◌<◌}
use native.Mathlib.Nat.{add-zero, add-suc, suc-add}
use native.Mathlib.Omega.{arith}
use borrow.Author.Tests.{not-true, eqb-true}
use lib.Dec.{eqb, lit≤, eqb-suc-zero}
use lib.ListN.{length, drop, take, length-drop}
use lib.Seq.{drop-drop, length-take-le}
use Rattle.base.specs.Choice.{pick}
use Rattle.base.specs.Bytes.{byte}
use Rattle.base.specs.Runs.{run, reach}
use Rattle.base.proofs.Reaches.{reach_le, reach_ge}
use Rattle.base.proofs.Tests.{and_left, and_right, zero_one}
use Rattle.utf8.specs.Character.{octets_of}
use Rattle.utf8.specs.declared.character.Encoded.{Encoded}
use Rattle.token.specs.Reason as reasons
use Rattle.token.specs.Reason.{reason_number, is_unknown_escape}
use Rattle.token.specs.declared.reason.Reason.{Reason}
use Rattle.lexeme.specs.Lexeme.{Note}
use Rattle.lexeme.specs.declared.Mode.{Mode}
use Rattle.lexeme.specs.declared.Mode.TheVariants.{Strict, Tolerant}
use Rattle.strings.specs.Piece.{simple_of, bytes_piece, escape_piece, piece_of}
use Rattle.strings.specs.Plain.{is_ordinary, in_ordinary, simple_at, simple_bytes}
use Rattle.strings.specs.Plain as plain
use Rattle.strings.specs.Decode.{Decoded, step_of, step_notes, prepend, stopped, follow, decode}
use Rattle.strings.specs.Literal.{end_reason}
use Rattle.strings.specs.declared.piece.BadEscape.{BadEscape}
use Rattle.strings.specs.declared.piece.Piece.{Piece}
use Rattle.strings.specs.declared.piece.Piece.TheVariants as piece
use Rattle.strings.specs.declared.literal.End.{End}
use Rattle.strings.specs.declared.literal.End.TheVariants as end
use Rattle.strings.specs.declared.literal.Step.{Step}
use Rattle.strings.specs.declared.literal.Step.TheVariants.{Go, Stop}
use Rattle.strings.proofs.PieceFacts.{PieceFacts, Taken, Front, piece_facts}

-- ---- what a step takes, and how it ends a literal

-- a step that goes on, at the front of l
pub record Went (l : List ℕ) (enc : Encoded) (used : ℕ) (reason : Option Reason) : Type 0 where
  pub taken : Taken enc.len used (length l)
  pub count : length (octets_of enc) ≡ enc.len
  pub named : (r : Reason) → reason ≡ Some r → byte enc.bytes 1 ≡ byte l 1

-- the first k bytes of l end where a character can: at the end of l, after an ASCII byte or before one
pub data Clean (l : List ℕ) (k : ℕ) : Type 0 where
  at_end : k ≡ length l → Clean l k
  after : 0 < k → byte l (k - 1) < 0x80 → Clean l k
  before : byte l k < 0x80 → Clean l k

-- a bad escape that ends a literal, which only a strict one can have
pub record Blamed (l : List ℕ) (x : BadEscape) : Type 0 where
  pub high : reason_number x.reason ≤ reasons.unknown_escape
  pub named : x.letter ≡ byte l 1

abbrev pub Named : Mode → List ℕ → End → Type 0
Named m l end.Closed = Unit
Named m l end.AtNewline = Unit
Named m l end.Cut = Unit
Named m l end.Open = Unit
Named Strict l (end.Bad x) = Blamed l x
Named Tolerant l (end.Bad x) = ⊥

-- a step that ends the literal, k bytes of l being taken
pub record Ended (m : Mode) (l : List ℕ) (e : End) (k : ℕ) : Type 0 where
  pub upto : k ≤ length l
  pub named : Named m l e
  pub clean : ((r : Reason) → end_reason e ≡ Some r → is_unknown_escape r ≡ false) → Clean l k

-- what a step at the offset `at` is, l being left
abbrev Apt : Mode → ℕ → List ℕ → Step → Type 0
Apt m at l (Go enc used reason) = Went l enc used reason
Apt m at l (Stop e p) = (at ≤ p) × Ended m l e (p - at)

-- a literal that ends after one ASCII byte, or before it
module _ (m : Mode) (at : ℕ) (l : List ℕ) (e : End) (named : Named m l e) (f : Front l) where
  ends_after : (at ≤ at + 1) × Ended m l e (at + 1 - at)
  ends_after =
      let k : at + 1 - at ≡ 1 = omega arith in
      (omega arith, rw k (record { upto = f.some; named = named; clean = λ _. after (lit≤ tt) f.ascii }))

  ends_before : (at ≤ at) × Ended m l e (at - at)
  ends_before =
      let k : at - at ≡ 0 = omega arith in
      (omega arith, rw k (record { upto = omega arith; named = named; clean = λ _. before f.ascii }))

apt : (m : Mode) (at : ℕ) (l : List ℕ) (q : Piece) → PieceFacts l q → Apt m at l (step_of m at q)
unfolding step_of end_reason
apt m at l (piece.Bytes enc used) f = record { taken = f.bytes; count = f.count; named = λ r z. zero_one (cc) }
apt Tolerant at l (piece.Bad x used) f = record { taken = f.bytes; count = refl; named = λ _ _. f.named }
apt Strict at l (piece.Bad x used) f =
    let k : at + used - at ≡ used = omega arith in (
      omega arith,
      rw k
          (record {
            upto = f.bytes.left;
            named = record { high = f.high; named = f.named };
            clean = λ n. after f.bytes.some (f.last (n x.reason refl));
          }),
    )
apt m at l piece.Close f = ends_after m at l end.Closed tt f
apt Strict at l piece.Newline f = ends_after Strict at l end.AtNewline tt f
apt Tolerant at l piece.Newline f = ends_before Tolerant at l end.AtNewline tt f
apt m at l piece.Cut f = ends_after m at l end.Cut tt f
apt m at l piece.Open f =
    let k : at - at ≡ 0 = omega arith in
    (omega arith, rw k (record { upto = omega arith; named = tt; clean = λ _. at_end (sym f) }))

decode_skip : (m : Mode) (at k : ℕ) (l : List ℕ) → k ≤ length l → decode m at k l ≡ decode m (at + k) 0 (drop k l)
unfolding decode
decode_skip m at zero l h = rw (add-zero at)
decode_skip m at (suc k) [] h = absurd (omega arith)
decode_skip m at (suc k) (x ∷ l) h = decode_skip m (suc at) k l (omega arith) ∙ rw (add-suc at k, suc-add at k)

decode_at : (m : Mode) (at : ℕ) (l : List ℕ) → decode m at 0 l ≡ follow (step_of m at (piece_of l)) at (λ k. decode m (suc at) k (drop 1 l))
unfolding decode step_of piece_of
decode_at m at [] = refl
decode_at m at (x ∷ l) = refl

-- what the text from i on stands for
abbrev pub from : Mode → List ℕ → ℕ → Decoded
from m s i = decode m i 0 (drop i s)

-- the text from i to j stands for n bytes, and makes reports
pub record Gives (m : Mode) (s : List ℕ) (i : ℕ) (bytes : List ℕ) (notes : List Note) (n j : ℕ) : Type 0 where
  pub count : length bytes ≡ n
  pub inside : j ≤ length s
  pub is : from m s i ≡ prepend bytes notes (from m s j)

-- ---- a step

module _ (m : Mode) (s : List ℕ) (i : ℕ) {q : Step} (is : q ≡ step_of m i (piece_of (drop i s))) where
  fit : Apt m i (drop i s) q
  fit = rw is (apt m i (drop i s) (piece_of (drop i s)) (piece_facts (drop i s)))

  pub from_stop : {e : End} {p : ℕ} → q ≡ Stop e p → from m s i ≡ stopped e p
  from_stop h = decode_at m i (drop i s) ∙ rw (sym is ∙ h)

  module _ {enc : Encoded} {used : ℕ} {reason : Option Reason} (h : q ≡ Go enc used reason) where
    pub went : Went (drop i s) enc used reason
    went = subst (λ (x : Step). Apt m i (drop i s) x) h fit

    pub from_go : from m s i ≡ prepend (octets_of enc) (step_notes reason (byte enc.bytes 1) i) (from m s (i + used))
    from_go =
        let t : Taken enc.len used (length (drop i s)) = went.taken in
        let l : List ℕ = drop i s in
        let k : used - 1 ≤ length (drop 1 l) = omega (arith, length-drop 1 l) in
        let x : suc i + (used - 1) ≡ i + used = omega arith in
        let y : 1 + (used - 1) ≡ used = omega arith in
        let r : decode m (suc i) (used - 1) (drop 1 l) ≡ from m s (i + used) =
        decode_skip m (suc i) (used - 1) (drop 1 l) k ∙ rw (drop-drop (used - 1) 1 l, x, y, drop-drop used i s) in
        decode_at m i l ∙ rw (sym is ∙ h, r)

    pub step_four : enc.len ≤ 4
    step_four = went.taken.four

    module _ (k : i ≤ length s) where
      pub step_gives : Gives m s i (octets_of enc) (step_notes reason (byte enc.bytes 1) i) enc.len (i + used)
      step_gives =
          let t : Taken enc.len used (length (drop i s)) = went.taken in
          record { count = went.count; inside = omega (arith, length-drop i s); is = from_go }

      -- the measure of a loop that was at j
      pub step_less : (j : ℕ) → j ≤ i → length s - (i + used) < length s - j
      step_less j g = let t : Taken enc.len used (length (drop i s)) = went.taken in omega (arith, step_gives.inside)

-- ---- a claim of each step makes the claim of the whole

module _ (m : Mode) (s : List ℕ) (P : ℕ → Decoded → Type 0)
    (stops : (i : ℕ) (e : End) (p : ℕ) → i ≤ length s → i ≤ p → Ended m (drop i s) e (p - i) → P i (stopped e p))
    (goes : (i : ℕ) (enc : Encoded) (used : ℕ) (reason : Option Reason) (r : Decoded) → i ≤ length s → Went (drop i s) enc used reason → P (i + used) r
    → P i (prepend (octets_of enc) (step_notes reason (byte enc.bytes 1) i) r)) where
  step : (n i : ℕ) → length s ≤ i + n → i ≤ length s → ((j : ℕ) → length s + 1 ≤ j + n → j ≤ length s → P j (from m s j))
      → (q : Step) → q ≡ step_of m i (piece_of (drop i s)) → Apt m i (drop i s) q → P i (from m s i)
  step n i h k ih (Stop e p) is f = rw (from_stop m s i is refl) (stops i e p k f.0 f.1)
  step n i h k ih (Go enc used reason) is f =
      let t : Taken enc.len used (length (drop i s)) = f.taken in
      rw (from_go m s i is refl)
      (goes i enc used reason (from m s (i + used)) k f (ih (i + used) (omega arith) (omega (arith, length-drop i s))))

  along : (n i : ℕ) → length s ≤ i + n → i ≤ length s → P i (from m s i)
  along zero i h k = step zero i h k (λ j x y. absurd (omega arith)) (step_of m i (piece_of (drop i s))) refl (fit m s i refl)
  along (suc n) i h k =
      step (suc n) i h k (λ j x y. along n j (omega arith) y) (step_of m i (piece_of (drop i s))) refl (fit m s i refl)

  pub by_steps : (i : ℕ) → i ≤ length s → P i (from m s i)
  by_steps i h = along (length s) i (omega arith) h

-- ---- bytes that stand for themselves

-- one of them
ordinary_piece : (x : ℕ) (l : List ℕ) → is_ordinary x ≡ true → piece_of (x ∷ l) ≡ bytes_piece (x ∷ []) 1
unfolding is_ordinary piece_of
ordinary_piece x l e =
    let p = not (eqb x 0x22) in
    let q = not (eqb x 0x0A) in
    let r = not (eqb x 0x5C) in
    let u = and_left (p && q) r e in
    simp (not-true (eqb x 0x22) (and_left p q u), not-true (eqb x 0x0A) (and_right p q u), not-true (eqb x 0x5C) (and_right (p && q) r e))

-- as many as there are
decode_run : (m : Mode) (at : ℕ) (l : List ℕ)
    → let n = run in_ordinary l in decode m at 0 l ≡ prepend (take n l) [] (decode m (at + n) 0 (drop n l))
unfolding run decode step_of step_notes
decode_run m at [] = rw add-zero
decode_run m at (x ∷ l) = go (is_ordinary x) refl (decode_run m (suc at) l)
  where
    n : ℕ
    n = run in_ordinary l

    go : (b : Bool) → is_ordinary x ≡ b → decode m (suc at) 0 l ≡ prepend (take n l) [] (decode m (suc at + n) 0 (drop n l))
        → let k = pick b (suc n) 0 in decode m at 0 (x ∷ l) ≡ prepend (take k (x ∷ l)) [] (decode m (at + k) 0 (drop k (x ∷ l)))
    go true q ih =
        let j : suc at + n ≡ at + suc n = omega arith in
        rw (ordinary_piece x l q) (ap (prepend (x ∷ []) []) (ih ∙ rw j))
    go false q ih = rw add-zero

-- the run from i to e
module _ (s : List ℕ) (i e : ℕ) (ee : e ≡ reach in_ordinary s i) where
  pub run_ge : i ≤ e
  run_ge = rw ee (reach_ge in_ordinary s i)

  module _ (h : i ≤ length s) where
    pub run_in : e ≤ length s
    run_in = rw ee (reach_le in_ordinary s i h)

    pub run_gives : (m : Mode) → Gives m s i (take (e - i) (drop i s)) [] (e - i) e
    unfolding reach
    run_gives m =
        let n : ℕ = run in_ordinary (drop i s) in
        let k : e - i ≡ n = omega arith in
        record {
          count = length-take-le (e - i) (drop i s) (omega (arith, length-drop i s, run_in));
          inside = run_in;
          is = rw (k, ee) (decode_run m i (drop i s) ∙ rw (drop-drop n i s));
        }

-- ---- escapes of one letter

-- a claim of each escape makes the claim of all that follow each other at the front
module _ (P : List ℕ → List ℕ → Type 0) (ends : (l : List ℕ) → P l [])
    (more : (x y b : ℕ) (l : List ℕ) → simple_at x y ≡ Some b → P l (simple_bytes l) → P (x ∷ y ∷ l) (b ∷ simple_bytes l)) where
  pub by_escapes : (l : List ℕ) → P l (simple_bytes l)
  unfolding simple_bytes
  by_escapes [] = ends []
  by_escapes (x ∷ []) = ends (x ∷ [])
  by_escapes (x ∷ y ∷ l) = go (simple_at x y) refl (by_escapes l)
    where
      go : (v : Option ℕ) → simple_at x y ≡ v → P l (simple_bytes l) → P (x ∷ y ∷ l) (plain.before v (simple_bytes l))
      go None e ih = ends (x ∷ y ∷ l)
      go (Some b) e ih = more x y b l e ih

pub simple_le : (l : List ℕ) → 2 * length (simple_bytes l) ≤ length l
simple_le = by_escapes (λ l v. 2 * length v ≤ length l) (λ l. omega arith) (λ x y b l e ih. omega arith)

-- an escape of one letter
simple_piece : (x y b : ℕ) (l : List ℕ) → simple_at x y ≡ Some b → piece_of (x ∷ y ∷ l) ≡ bytes_piece (b ∷ []) 2
unfolding simple_at piece_of escape_piece
simple_piece x y b l e = go (eqb x 0x5C) refl e
  where
    go : (t : Bool) → eqb x 0x5C ≡ t → pick t (simple_of y) None ≡ Some b → piece_of (x ∷ y ∷ l) ≡ bytes_piece (b ∷ []) 2
    go true q f = let z = eqb-true x 0x5C q in rw (z, eqb-suc-zero (length l), f)
    go false q f = zero_one (cc)

-- as many as there are
decode_simple : (m : Mode) (l : List ℕ) (at : ℕ)
    → let n = length (simple_bytes l) in decode m at 0 l ≡ prepend (simple_bytes l) [] (decode m (at + 2 * n) 0 (drop (2 * n) l))
unfolding decode step_of step_notes
decode_simple m =
    by_escapes (λ l v. (at : ℕ) → decode m at 0 l ≡ prepend v [] (decode m (at + 2 * length v) 0 (drop (2 * length v) l)))
    (λ l at. rw add-zero)
    (λ x y b l e ih at.
    let n : ℕ = length (simple_bytes l) in
    let k : 2 * suc n ≡ suc (suc (2 * n)) = omega arith in
    let j : suc (suc at) + 2 * n ≡ at + suc (suc (2 * n)) = omega arith in
    rw (simple_piece x y b l e, k) (ap (prepend (b ∷ []) []) (ih (suc (suc at)) ∙ rw j)))

module _ (s : List ℕ) (i n : ℕ) (h : i ≤ length s) (e : n ≡ length (simple_bytes (drop i s))) where
  pub simple_in : i + 2 * n ≤ length s
  simple_in = omega (arith, simple_le (drop i s), length-drop i s)

  pub simple_gives : (m : Mode) → Gives m s i (simple_bytes (drop i s)) [] n (i + 2 * n)
  simple_gives m = record { count = sym e; inside = simple_in; is = decode_simple m (drop i s) i ∙ rw (← e, drop-drop (2 * n) i s) }
