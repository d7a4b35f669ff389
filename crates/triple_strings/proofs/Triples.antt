-- Laws of `lex_triple_string` for the crate above, `lexer`: its numbers are in bounds, it counts the bytes and the reports that it stands for, and it
-- ends between characters. By cases, closed or open. Assumes nothing.
use mathlib.Core.Path.{◌≡◌, refl, ap, sym}
use mathlib.Core.Bool.{Bool, true, false}
use mathlib.Core.List.Memᴰ
use mathlib.Core.List.{List, [], Memᴰ}
use Prim.Native.Nat.{ℕ, ◌+◌, ◌-◌, ◌≤◌}
use native.Mathlib.Nat.{add-zero}
use native.Mathlib.Omega.{arith}
use borrow.Author.Tests.{ltb-true, leb-true}
use lib.Dec.{leb}
use lib.ListN.{length, take, drop, length-drop}
use lib.Seq.{drop-drop, get_or-drop, length-take-le}
use Rattle.base.specs.Choice.{pick}
use Rattle.base.specs.Bytes.{byte}
use Rattle.base.proofs.Tests.{pick_case}
use Rattle.utf8.specs.Onward.{Boundary}
use Rattle.utf8.proofs.Boundaries.{boundary_at, ascii_boundary, end_boundary, char_end_ge, char_end_le, char_end_boundary}
use Rattle.token.specs.declared.kind.TokenKind.TheVariants as K
use Rattle.token.specs.declared.reason.Reason.TheVariants as R
use Rattle.lexeme.specs.Lexeme.{extent, Note}
use Rattle.lexeme.specs.declared.Lexeme.{Lexeme}
use Rattle.lexeme.specs.declared.Mode.{Mode}
use Rattle.lexeme.specs.declared.Mode.TheVariants.{Strict, Tolerant}
use Rattle.lexeme.proofs.Within.{Within, extent_within, illegal_within}
use Rattle.triple_strings.specs.Dedent.{dedent}
use Rattle.triple_strings.specs.Triple.{quotes, raw_size, raw_bytes, closed, open_triple_end, open_triple, lex_triple_string}
use Rattle.triple_strings.specs.Triple.{open_triple_bytes, triple_bytes, open_triple_notes, triple_notes}
use Rattle.utf8.proofs.Concatenations.{ascii_no_tail}
use Rattle.triple_strings.proofs.QuoteSearch.{quote_0, quote_1, quote_2, quotes_long, until_found}
use Rattle.triple_strings.proofs.Stripping.{dedent_le}
use Rattle.triple_strings.proofs.RawParts.{raw_le}

-- ---- the ends

module _ (s : List ℕ) where
  -- the value is no longer than the raw bytes
  value_le : 3 ≤ length s → length (dedent (raw_bytes s)) ≤ raw_size s
  unfolding raw_bytes
  value_le h =
      let l : length (take (raw_size s) (drop 3 s)) ≡ raw_size s = length-take-le (raw_size s) (drop 3 s) (omega (arith, raw_le s h, length-drop 3 s)) in
      omega (arith, dedent_le (take (raw_size s) (drop 3 s)))

  -- the closing quotes stand after the raw bytes
  closing : closed s ≡ true → quotes (drop (raw_size s + 3) s) ≡ true
  unfolding closed raw_size
  closing c =
      let l = ltb-true (raw_size s + 3) (length s) c in
      let z : 3 + raw_size s ≡ raw_size s + 3 = omega arith in
      rw (← z, ← drop-drop (raw_size s) 3 s) (until_found (drop 3 s) (omega (arith, length-drop 3 s)))

  closed_long : closed s ≡ true → raw_size s + 6 ≤ length s
  closed_long c = omega (arith, quotes_long (drop (raw_size s + 3) s) (closing c), length-drop (raw_size s + 3) s)

  -- where the strict reader stops in an open one, before it goes to the end of the character
  stop : ℕ
  stop = pick (leb 5 (length s)) (length s - 2) 3

  stop_in : 3 ≤ length s → (3 ≤ stop) × (stop ≤ length s)
  unfolding stop
  stop_in h =
      pick_case (λ (n : ℕ). (3 ≤ n) × (n ≤ length s)) (leb 5 (length s)) (λ e. let l = leb-true 5 (length s) e in omega arith) (λ _. omega arith)

  open_ge : 3 ≤ length s → 3 ≤ open_triple_end s
  unfolding open_triple_end stop
  open_ge h = omega (arith, (stop_in h).0, char_end_ge s stop)

  open_le : 3 ≤ length s → open_triple_end s ≤ length s
  unfolding open_triple_end stop
  open_le h = char_end_le s stop (stop_in h).1

-- closed, or open
module _ (m : Mode) (s : List ℕ) (P : Lexeme → List ℕ → List Note → Type 0) where
  by_closed : let v = dedent (raw_bytes s) in
      (closed s ≡ true → P (extent K.String (raw_size s + 6) 0 (length v) 0) v []) → P (open_triple m s) (open_triple_bytes m s) (open_triple_notes m)
      → P (lex_triple_string m s) (triple_bytes m s) (triple_notes m s)
  unfolding lex_triple_string triple_bytes triple_notes
  by_closed f g = go (closed s) refl
    where
      go : let v = dedent (raw_bytes s) in
          (b : Bool) → closed s ≡ b
          → P (pick b (extent K.String (raw_size s + 6) 0 (length v) 0) (open_triple m s)) (pick b v (open_triple_bytes m s)) (pick b [] (open_triple_notes m))
      go true e = f e
      go false e = g

-- ---- the numbers are in bounds

open_within : (m : Mode) (s : List ℕ) → 3 ≤ length s → Within s (open_triple m s)
open_within Strict s h =
    illegal_within s R.OpenTripleString 0 (open_triple_end s) 0 (omega (arith, open_ge s h)) (open_le s h) (omega arith) (λ _. omega arith)
open_within Tolerant s h =
    extent_within s K.String (length s) (omega arith) (omega arith) 0 (length (dedent (raw_bytes s))) 1
    (omega (arith, value_le s h, raw_le s h)) (omega arith)

pub triple_within : (m : Mode) (s : List ℕ) → 3 ≤ length s → Within s (lex_triple_string m s)
triple_within m s h =
    by_closed m s (λ r bs ns. Within s r)
    (λ c. extent_within s K.String (raw_size s + 6) (omega arith) (closed_long s c) 0 (length (dedent (raw_bytes s))) 0
    (omega (arith, value_le s h)) (omega arith))
    (open_within m s h)

-- ---- the bytes and the reports

not_illegal : K.String ≡ K.Illegal → ⊥
not_illegal e = let z : ◌≡◌ {A = ℕ} 0 1 = cc in omega arith

-- the bytes of a String, open or closed, are what `put_triple_string` writes
open_bytes_lem : (m : Mode) (s : List ℕ) → (open_triple m s).kind ≡ K.String → open_triple_bytes m s ≡ dedent (raw_bytes s)
open_bytes_lem Strict s e = absurd (not_illegal (sym e))
open_bytes_lem Tolerant s e = refl

pub triple_bytes_lem : (m : Mode) (s : List ℕ) → (lex_triple_string m s).kind ≡ K.String → triple_bytes m s ≡ dedent (raw_bytes s)
triple_bytes_lem m s = by_closed m s (λ r bs ns. r.kind ≡ K.String → bs ≡ dedent (raw_bytes s)) (λ _ _. refl) (open_bytes_lem m s)

-- a lexeme counts its decoded bytes and its reports; an Illegal has no bytes, and each report stands at the token's start
pub record Counted (r : Lexeme) (bytes : List ℕ) (notes : List Note) : Type 0 where
  pub bytes_counted : length bytes ≡ r.size
  pub illegal_none : r.kind ≡ K.Illegal → bytes ≡ []
  pub notes_counted : length notes ≡ r.reports
  pub at_start : (n : Note) → Memᴰ n notes → n.offset ≡ 0

open_size : (m : Mode) (s : List ℕ) → Counted (open_triple m s) (open_triple_bytes m s) (open_triple_notes m)
open_size Strict s =
    record { bytes_counted = refl; illegal_none = λ _. refl; notes_counted = refl; at_start = λ n k. absurd (Memᴰ.not-nil k) }
open_size Tolerant s =
    record {
      bytes_counted = refl;
      illegal_none = λ e. absurd (not_illegal e);
      notes_counted = refl;
      at_start = λ n k. ap (λ (x : Note). x.offset) (Memᴰ.eq_of_singleton k);
    }

pub triple_size : (m : Mode) (s : List ℕ) → Counted (lex_triple_string m s) (triple_bytes m s) (triple_notes m s)
triple_size m s =
    by_closed m s Counted
    (λ _. record { bytes_counted = refl; illegal_none = λ e. absurd (not_illegal e); notes_counted = refl; at_start = λ n k. absurd (Memᴰ.not-nil k) })
    (open_size m s)

-- ---- the end is between characters

module _ (s : List ℕ) (b : Boundary s 0) where
  closed_boundary : closed s ≡ true → Boundary s (raw_size s + 6)
  closed_boundary c =
      let n = raw_size s + 3 in
      let q = closing s c in
      let l = closed_long s c in
      let x : byte s n ≡ 0x22 = rw (get_or-drop, add-zero) at (quote_0 (drop n s) q) in
      let y : byte s (n + 1) ≡ 0x22 = rw get_or-drop at (quote_1 (drop n s) q) in
      let two : n + 2 ≡ n + 1 + 1 = omega arith in
      let z : byte s (n + 1 + 1) ≡ 0x22 = rw (get_or-drop, two) at (quote_2 (drop n s) q) in
      let e : n + 1 + 1 + 1 ≡ raw_size s + 6 = omega arith in
      let b₀ = boundary_at s n (omega arith) (λ _. ascii_no_tail (byte s n) (omega arith)) 0 (omega arith) b in
      let b₁ = ascii_boundary s n (omega arith) (omega arith) b₀ in
      let b₂ = ascii_boundary s (n + 1) (omega arith) (omega arith) b₁ in
      rw e at (ascii_boundary s (n + 1 + 1) (omega arith) (omega arith) b₂)

  open_boundary : (m : Mode) → 3 ≤ length s → Boundary s (open_triple m s).len
  unfolding open_triple_end stop
  open_boundary Strict h = char_end_boundary s (stop s) (stop_in s h).1 b
  open_boundary Tolerant h = end_boundary s b

pub triple_boundary : (m : Mode) (s : List ℕ) → Boundary s 0 → quotes s ≡ true → Boundary s (lex_triple_string m s).len
triple_boundary m s b q = by_closed m s (λ r bs ns. Boundary s r.len) (closed_boundary s b) (open_boundary s b m (quotes_long s q))
