-- For the crate above, `lexer`: the value of a triple-quoted string of a well-formed text is well-formed, since a text is cut at newlines and
-- quotes, which are ASCII, and at the indent, which is whole characters. By induction on the text and on its lines. Assumes nothing.
use mathlib.Core.Path.{◌≡◌, refl}
use mathlib.Core.Bool.{Bool, true, false}
use mathlib.Core.List.{List, [], ◌∷◌, ◌++◌, map, append-nil}
use Prim.Native.Nat.{ℕ, ◌<◌}
use native.Mathlib.Nat.{add-zero}
use native.Mathlib.Omega.{arith}
use borrow.Author.Tests.{eqb-true, ltb-true, ltb-false}
use lib.Dec.{eqb, ltb}
use lib.ListN.{length, take, drop, length-append}
use lib.Seq.{append_snoc, take-append_seam, drop-append_seam, get_or-append_seam, get_or-drop, take_all}
use Rattle.base.specs.Choice.{pick}
use Rattle.base.specs.Bytes.{byte}
use Rattle.base.proofs.Tests.{pick_case, and_left, and_right, true_false}
use Rattle.utf8.specs.Grammar.{Octets, none}
use Rattle.utf8.proofs.Boundaries.{octets_cut}
use Rattle.lexeme.specs.declared.Mode.{Mode}
use Rattle.lexeme.specs.declared.Mode.TheVariants.{Strict, Tolerant}
use Rattle.triple_strings.specs.Dedent.{first, others, join_rest, join, last_of, init_of, blank, prefix, strip, unlead, unindent, dedent}
use Rattle.triple_strings.specs.Triple.{quotes, until_quotes, raw_size, raw_bytes, closed, open_triple_bytes, triple_bytes}
use Rattle.utf8.proofs.Concatenations.{ascii_no_tail, ascii_octets, ascii_rest, octets_append, octets_rest}
use Rattle.triple_strings.proofs.QuoteSearch.{quote_0, quote_1, quote_2, until_le, until_found}

-- ---- lines

abbrev AllOctets : List (List ℕ) → Type 0
AllOctets [] = Unit
AllOctets (l ∷ ls) = Octets l × AllOctets ls

-- at an ASCII byte a text falls in two
cut_at : (a : List ℕ) (x : ℕ) (s : List ℕ) → x < 0x80 → Octets (a ++ x ∷ s) → Octets a × Octets s
cut_at a x s h o =
    let c = octets_cut o (length a) (omega (arith, length-append a (x ∷ s))) (rw (get_or-append_seam a x s 0) (ascii_no_tail x h)) in
    (rw take-append_seam at c.0, ascii_rest x s h (rw drop-append_seam at c.1))

-- the lines of a text; a is what stands before it in the first line
lines_octets : (a s : List ℕ) → Octets (a ++ s) → Octets (a ++ first s) × AllOctets (others s)
unfolding first others
lines_octets a [] o = (o, tt)
lines_octets a (x ∷ s) o = go (eqb x 0x0A) refl (lines_octets (a ++ (x ∷ [])) s) (lines_octets [] s)
  where
    go : (b : Bool) → eqb x 0x0A ≡ b
        → (Octets ((a ++ (x ∷ [])) ++ s) → Octets ((a ++ (x ∷ [])) ++ first s) × AllOctets (others s))
        → (Octets s → Octets (first s) × AllOctets (others s))
        → Octets (a ++ pick b [] (x ∷ first s)) × AllOctets (pick b (first s ∷ []) [] ++ others s)
    go true e same new =
        let c = cut_at a x s (omega (arith, eqb-true x 0x0A e)) o in
        (rw append-nil c.0, new c.1)
    go false e same new =
        let r = same (rw append_snoc o) in
        (rw append_snoc at r.0, r.1)

last_octets : (l : List ℕ) (ls : List (List ℕ)) → Octets l → AllOctets ls → Octets (last_of l ls)
last_octets l [] o os = o
last_octets l (m ∷ ls) o os = last_octets m ls os.0 os.1

init_octets : (l : List ℕ) (ls : List (List ℕ)) → Octets l → AllOctets ls → AllOctets (init_of l ls)
init_octets l [] o os = tt
init_octets l (m ∷ ls) o os = (o, init_octets m ls os.0 os.1)

join_rest_lem : (ls : List (List ℕ)) → AllOctets ls → Octets (join_rest ls)
join_rest_lem [] os = none
join_rest_lem (l ∷ ls) os = octets_append (ascii_octets 0x0A (omega arith)) (octets_append os.0 (join_rest_lem ls os.1))

join_octets : (ls : List (List ℕ)) → AllOctets ls → Octets (join ls)
join_octets [] os = none
join_octets (l ∷ ls) os = octets_append os.0 (join_rest_lem ls os.1)

-- ---- the indent

prefix_split : (p l : List ℕ) → prefix p l ≡ true → p ++ drop (length p) l ≡ l
unfolding prefix
prefix_split [] l e = refl
prefix_split (a ∷ p) [] e = true_false false e refl
prefix_split (a ∷ p) (x ∷ l) e =
    let h = eqb-true a x (and_left (eqb a x) (prefix p l) e) in
    let q = prefix_split p l (and_right (eqb a x) (prefix p l) e) in
    cc

module _ (ind : List ℕ) (o : Octets ind) where
  strip_octets : (l : List ℕ) → Octets l → Octets (strip ind l)
  unfolding strip
  strip_octets l q =
      pick_case Octets (prefix ind l) (λ e. octets_rest (drop (length ind) l) o (rw (prefix_split ind l e) q)) (λ _. q)

  map_octets : (ls : List (List ℕ)) → AllOctets ls → AllOctets (map (strip ind) ls)
  map_octets [] os = tt
  map_octets (l ∷ ls) os = (strip_octets l os.0, map_octets ls os.1)

-- ---- the dedent

unindent_octets : (s : List ℕ) → Octets s → Octets (unindent s)
unfolding unindent
unindent_octets s o =
    let r = lines_octets [] s o in
    let i = last_octets (first s) (others s) r.0 r.1 in
    pick_case Octets (blank 0 (last_of (first s) (others s)))
    (λ _.
    join_octets (map (strip (last_of (first s) (others s))) (init_of (first s) (others s)))
    (map_octets (last_of (first s) (others s)) i (init_of (first s) (others s)) (init_octets (first s) (others s) r.0 r.1)))
    (λ _. o)

unlead_octets : (s : List ℕ) → Octets s → Octets (unlead s)
unfolding unlead
unlead_octets [] o = o
unlead_octets (x ∷ s) o =
    pick_case Octets (eqb x 0x0A) (λ e. ascii_rest x s (omega (arith, eqb-true x 0x0A e)) o) (λ _. o)

dedent_octets : (raw : List ℕ) → Octets raw → Octets (dedent raw)
unfolding dedent
dedent_octets raw o = unindent_octets (unlead raw) (unlead_octets raw o)

-- ---- the raw bytes

-- the text after three quotes
content : (s : List ℕ) → quotes s ≡ true → Octets s → Octets (drop 3 s)
content [] q o = o
content (a ∷ []) q o = none
content (a ∷ b ∷ []) q o = none
content (a ∷ b ∷ c ∷ s) q o =
    let x : a ≡ 0x22 = quote_0 (a ∷ b ∷ c ∷ s) q in
    let y : b ≡ 0x22 = quote_1 (a ∷ b ∷ c ∷ s) q in
    let z : c ≡ 0x22 = quote_2 (a ∷ b ∷ c ∷ s) q in
    ascii_rest c s (omega arith) (ascii_rest b (c ∷ s) (omega arith) (ascii_rest a (b ∷ c ∷ s) (omega arith) o))

-- the text before three quotes, or all of it
until_octets : (t : List ℕ) → Octets t → Octets (take (until_quotes t) t)
until_octets t o = go (ltb (until_quotes t) (length t)) refl
  where
    go : (b : Bool) → ltb (until_quotes t) (length t) ≡ b → Octets (take (until_quotes t) t)
    go true e =
        let q = quote_0 (drop (until_quotes t) t) (until_found t (ltb-true (until_quotes t) (length t) e)) in
        let h : byte t (until_quotes t) ≡ 0x22 = rw (get_or-drop, add-zero) at q in
        (octets_cut o (until_quotes t) (until_le t) (ascii_no_tail (byte t (until_quotes t)) (omega arith))).0
    go false e = rw (take_all (until_quotes t) t (ltb-false (until_quotes t) (length t) e)) o

raw_octets : (s : List ℕ) → quotes s ≡ true → Octets s → Octets (raw_bytes s)
unfolding raw_bytes raw_size
raw_octets s q o = until_octets (drop 3 s) (content s q o)

open_octets : (m : Mode) (s : List ℕ) → quotes s ≡ true → Octets s → Octets (open_triple_bytes m s)
open_octets Strict s q o = none
open_octets Tolerant s q o = dedent_octets (raw_bytes s) (raw_octets s q o)

pub triple_utf8 : (m : Mode) (s : List ℕ) → Octets s → quotes s ≡ true → Octets (triple_bytes m s)
unfolding triple_bytes
triple_utf8 m s o q = pick_case Octets (closed s) (λ _. dedent_octets (raw_bytes s) (raw_octets s q o)) (λ _. open_octets m s q o)
