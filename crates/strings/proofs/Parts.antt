-- For `part_at`, which reads parts of a literal at once: parts that follow each other are one part, and each leaves a well-formed rest. By the
-- escapes. Assumes nothing.
use mathlib.Core.Path.{◌≡◌, refl, sym, ap, ◌∙◌}
use mathlib.Core.Bool.{Bool, true, false, not, ◌&&◌, ◌||◌}
use mathlib.Core.List.{List, [], ◌∷◌, ◌++◌, append_assoc}
use Rattle.std.proofs.Common.{Option, Some}
use Prim.Native.Nat.{ℕ, suc, ◌+◌, ◌-◌, ◌*◌, ◌≤◌, ◌<◌}
use native.Mathlib.Omega.{arith}
use borrow.Author.Tests.{ne_eqb, eqb-true, ltb-true, ltb-false, not-false}
use lib.Dec.{eqb, ltb}
use lib.ListN.{length, take, drop, length-drop, length-append}
use lib.Seq.{drop-drop, get_or-drop}
use Rattle.base.specs.Runs.{reach}
use Rattle.base.proofs.Reaches.{rest_is}
use Rattle.base.proofs.Tests.{and_left, and_right, or_left, or_right, pick_case, true_false, zero_one}
use Rattle.utf8.specs.Grammar.{Octets, none, valid_to}
use Rattle.utf8.proofs.Valid.{valid_octets}
use Rattle.utf8.specs.Onward.{Boundary}
use Rattle.utf8.specs.Check.{is_tail, inside_char}
use Rattle.utf8.proofs.Boundaries.{boundary_rest, rest_boundary, octets_cut, boundary_between, stop_boundary}
use Rattle.utf8.proofs.Concatenations.{octets_append, ascii_octets, ascii_rest, ascii_no_tail}
use Rattle.lexeme.specs.declared.Mode.{Mode}
use Rattle.lexeme.specs.declared.Mode.TheVariants.{Strict}
use Rattle.strings.specs.Piece.{look, letters, simple_of}
use Rattle.strings.specs.Plain.{is_ordinary, in_ordinary, simple_at, simple_bytes, Spells}
use Rattle.strings.specs.Decode.{prepend}
use Rattle.strings.proofs.Decodes.{from, Gives, run_ge, run_in, run_gives, by_escapes, simple_in, simple_gives}

-- ---- text

-- a byte that does not stand for itself is ASCII, and so no UTF8-tail
stop_clean : (a : ℕ) → is_ordinary a ≡ false → is_tail a ≡ false
unfolding is_ordinary
stop_clean a e = go (ltb a 0x80) refl
  where
    go : (b : Bool) → ltb a 0x80 ≡ b → is_tail a ≡ false
    go true l = ascii_no_tail a (ltb-true a 0x80 l)
    go false l =
        let h : 0x80 ≤ a = ltb-false a 0x80 l in
        true_false (is_ordinary a) (rw (ne_eqb a 0x22 (λ q. omega arith), ne_eqb a 0x0A (λ q. omega arith), ne_eqb a 0x5C (λ q. omega arith))) e

-- ---- escapes of one letter

-- the letters of the list and what they stand for are ASCII
abbrev ascii_pairs : List (ℕ × ℕ) → Bool
ascii_pairs [] = true
ascii_pairs (p ∷ ps) = (ltb p.0 0x80 && ltb p.1 0x80) && ascii_pairs ps

look_ascii : (e b : ℕ) (ps : List (ℕ × ℕ)) → ascii_pairs ps ≡ true → look ps e ≡ Some b → (b < 0x80) × (e < 0x80)
look_ascii e b [] h = λ q. zero_one (cc)
look_ascii e b (p ∷ ps) h =
    let k = ltb p.0 0x80 in
    let v = ltb p.1 0x80 in
    let both = and_left (k && v) (ascii_pairs ps) h in
    let rest = look_ascii e b ps (and_right (k && v) (ascii_pairs ps) h) in
    pick_case (λ (x : Option ℕ). x ≡ Some b → (b < 0x80) × (e < 0x80)) (eqb e p.0)
    (λ t q. let f : p.1 ≡ b = cc in (rw f at (ltb-true p.1 0x80 (and_right k v both)), rw (eqb-true e p.0 t) (ltb-true p.0 0x80 (and_left k v both))))
    (λ _. rest)

at_ascii : (x y b : ℕ) → simple_at x y ≡ Some b → (b < 0x80) × (x < 0x80) × (y < 0x80)
unfolding simple_at simple_of letters
at_ascii x y b =
    pick_case (λ (v : Option ℕ). v ≡ Some b → (b < 0x80) × (x < 0x80) × (y < 0x80)) (eqb x 0x5C)
    (λ t q. let l = look_ascii y b letters refl q in (l.0, omega (arith, eqb-true x 0x5C t), l.1)) (λ _ q. zero_one (cc))

simple_whole : (l : List ℕ) → Octets (simple_bytes l)
simple_whole =
    by_escapes (λ l v. Octets v) (λ l. none) (λ x y b l e ih. octets_append (ascii_octets b (at_ascii x y b e).0) ih)

-- the rest after them is well formed
simples_rest : (l : List ℕ) → Octets l → Octets (drop (2 * length (simple_bytes l)) l)
simples_rest =
    by_escapes (λ l v. Octets l → Octets (drop (2 * length v) l)) (λ l o. o)
    (λ x y b l e ih o.
    let a = at_ascii x y b e in
    let k : 2 * suc (length (simple_bytes l)) ≡ suc (suc (2 * length (simple_bytes l))) = omega arith in
    rw k (ih (ascii_rest y l a.2 (ascii_rest x (y ∷ l) a.1 o))))

-- ---- parts

pub spells_none : (s : List ℕ) (i : ℕ) → i ≤ length s → Spells s i i 0
spells_none s i h = record { bytes = []; count = refl; whole = none; later = omega arith; inside = h; is = λ m. refl }

pub spells_ge : {s : List ℕ} {i r n : ℕ} → Spells s i r n → i ≤ r
spells_ge p = omega (arith, p.later)

spells_then : {s : List ℕ} {i e r n k : ℕ} → Spells s i e n → Spells s e r k → Spells s i r (n + k)
spells_then {s} {r = r} t u =
    record {
      bytes = t.bytes ++ u.bytes;
      count = length-append t.bytes u.bytes ∙ rw (t.count, u.count) refl;
      whole = octets_append t.whole u.whole;
      later = omega (arith, t.later, u.later);
      inside = u.inside;
      is = λ m. t.is m ∙ ap (prepend t.bytes []) (u.is m) ∙ rw (append_assoc t.bytes u.bytes (from m s r).bytes);
    }

-- the run of bytes that stand for themselves, in a well-formed rest: it ends between characters
module _ (s : List ℕ) (i e : ℕ) (ee : e ≡ reach in_ordinary s i) (h : i ≤ length s) (o : Octets (drop i s)) where
  run_boundary : Boundary s e
  run_boundary = rw ee (stop_boundary in_ordinary (λ a b. stop_clean a) s i i (omega arith) h (rest_boundary s i h o))

  run_whole : Octets (take (e - i) (drop i s))
  unfolding inside_char
  run_whole =
      let k : i + (e - i) ≡ e = omega (arith, run_ge s i e ee) in
      (octets_cut o (e - i) (omega (arith, length-drop i s, run_in s i e ee h)) (rw (get_or-drop i s (e - i) 0, k) (boundary_between s e run_boundary))).0

  spells_run : Spells s i e (e - i)
  spells_run =
      let g : (m : Mode) → Gives m s i (take (e - i) (drop i s)) [] (e - i) e = run_gives s i e ee h in
      record {
        bytes = take (e - i) (drop i s);
        count = (g Strict).count;
        whole = run_whole;
        later = omega (arith, run_ge s i e ee);
        inside = run_in s i e ee h;
        is = λ m. (g m).is;
      }

spells_simple : (s : List ℕ) (i n : ℕ) → i ≤ length s → n ≡ length (simple_bytes (drop i s)) → Spells s i (i + 2 * n) n
spells_simple s i n h e =
    record {
      bytes = simple_bytes (drop i s);
      count = sym e;
      whole = simple_whole (drop i s);
      later = omega arith;
      inside = simple_in s i n h e;
      is = λ m. (simple_gives s i n h e m).is;
    }

-- `part_at` at `end`
pub record Parting (s : List ℕ) (i end count : ℕ) : Type 0 where
  pub spells : Spells s i end count
  pub rest : Octets (drop end s)

-- where no character has begun, in what is decoded or in the text
pub none_begun : (x y : Bool) → not x || y ≡ false → (x ≡ true) × (y ≡ false)
none_begun x y e = (not-false x (or_left (not x) y e), or_right (not x) y e)

pub parting_first : (s : List ℕ) (i : ℕ) → i ≤ length s → valid_to s ≡ length s → (x y : Bool) → y ≡ inside_char s i → not x || y ≡ false → Parting s i i 0
unfolding inside_char
parting_first s i h v x y is e =
    let f : inside_char s i ≡ false = sym is ∙ (none_begun x y e).1 in
    record { spells = spells_none s i h; rest = (octets_cut (valid_octets s v) i h f).1 }

module _ (s : List ℕ) (i end count : ℕ) (u : Parting s i end count) (e : ℕ) (t : e ≡ reach in_ordinary s end) where
  pub run_inside : e ≤ length s
  run_inside = run_in s end e t u.spells.inside

  module _ (n : ℕ) (is : n ≡ length (simple_bytes (take (length s - e) (drop e s)))) where
    same_count : n ≡ length (simple_bytes (drop e s))
    same_count = rw (rest_is s e) at is

    pub spells_more : Spells s i (e + 2 * n) (count + (e - end + n))
    spells_more = spells_then u.spells (spells_then (spells_run s end e t u.spells.inside u.rest) (spells_simple s e n run_inside same_count))

    pub parting_more : Parting s i (e + 2 * n) (count + (e - end + n))
    parting_more =
        let o : Octets (drop e s) = boundary_rest s e (run_boundary s end e t u.spells.inside u.rest) in
        record { spells = spells_more; rest = rw (← same_count, drop-drop (2 * n) e s) at (simples_rest (drop e s) o) }
