-- For the last copy of `put_string`: a closed strict literal takes at least one byte of text more than it stands for, the closing quote's;
-- where no more, it stands for its text. By induction on the list. Assumes nothing.
use mathlib.Core.Path.{◌≡◌, refl, sym, ap, ◌∙◌}
use mathlib.Core.Bool.{Bool, true, ◌&&◌}
use mathlib.Core.List.{List, [], ◌∷◌, ◌++◌}
use Prim.Native.Nat.{ℕ, zero, suc, ◌+◌, ◌-◌, ◌≤◌}
use native.Mathlib.Nat.{add-zero}
use native.Mathlib.Omega.{arith}
use borrow.Author.Tests.{eqb-true}
use borrow.Author.Rules.{rules}
use denote.Enum.Bare.{sameb, same_true}
use Rattle.lexeme.specs.contracts.Mode.{the_type}
use lib.Dec.{eqb}
use lib.ListN.{length, take, drop, length-append}
use lib.Seq.{sets}
use Rattle.base.proofs.Tests.{and_left, and_right, zero_one}
use Rattle.utf8.specs.Character.{octets_of}
use Rattle.lexeme.specs.declared.Mode.{Mode}
use Rattle.lexeme.specs.declared.Mode.TheVariants.{Strict}
use Rattle.strings.specs.Piece.{piece_of}
use Rattle.strings.specs.Decode.{Decoded, step_of, follow, decode}
use Rattle.strings.specs.Literal.{literal_of}
use Rattle.strings.specs.declared.piece.Piece.{Piece}
use Rattle.strings.specs.declared.piece.Piece.TheVariants as piece
use Rattle.strings.specs.declared.literal.End.TheVariants as end
use Rattle.strings.proofs.PieceFacts.{Taken, PieceFacts, piece_facts}
use Rattle.strings.proofs.Decodes.{from}
use Rattle.strings.proofs.Writings.{Writing}
use Rattle.strings.proofs.Bounds.{Bounds, bounds}

-- what l stands for from the offset `at` on, as a closed strict literal
record Closing (at : ℕ) (l : List ℕ) (d : Decoded) : Type 0 where
  longer : at + length d.bytes + 1 ≤ d.stop
  text : at + length d.bytes + 1 ≡ d.stop → d.bytes ≡ take (length d.bytes) l

closing : (at k : ℕ) (l : List ℕ) → (decode Strict at k l).ending ≡ end.Closed → Closing (at + k) (drop k l) (decode Strict at k l)
unfolding decode step_of
closing at k [] z = zero_one (cc)
closing at (suc k) (x ∷ l) z =
    let j : suc at + k ≡ at + suc k = omega arith in
    rw j at (closing (suc at) k l z)
closing at zero (x ∷ l) z = rw (add-zero at) (go (piece_of (x ∷ l)) (piece_facts (x ∷ l)) (λ k. closing (suc at) k l) z)
  where
    rest : ℕ → Decoded
    rest k = decode Strict (suc at) k l

    go : (q : Piece) → PieceFacts (x ∷ l) q → ((k : ℕ) → (rest k).ending ≡ end.Closed → Closing (suc at + k) (drop k l) (rest k))
        → (follow (step_of Strict at q) at rest).ending ≡ end.Closed → Closing at (x ∷ l) (follow (step_of Strict at q) at rest)
    go (piece.Bytes enc used) f ih z =
        let r : Decoded = rest (used - 1) in
        let v : Closing (suc at + (used - 1)) (drop (used - 1) l) r = ih (used - 1) z in
        let t : Taken enc.len used (length (x ∷ l)) = f.bytes in
        let bs : List ℕ = octets_of enc in
        let k : length (bs ++ r.bytes) ≡ enc.len + length r.bytes = length-append bs r.bytes ∙ rw f.count refl in
        record {
          longer = omega (arith, v.longer);
          text = λ e.
              let w = f.own (omega (arith, v.longer)) in
              let y : used - 1 ≡ 0 = omega (arith, w.0) in
              let g : r.bytes ≡ take (length r.bytes) l =
              v.text (omega (arith, v.longer)) ∙ ap (λ (j : ℕ). take (length r.bytes) (drop j l)) y in
              rw w.1 (ap (λ (j : List ℕ). x ∷ j) g);
        }
    go (piece.Bad x used) f ih z = zero_one (cc)
    go piece.Close f ih z = record { longer = omega arith; text = λ e. refl }
    go piece.Newline f ih z = zero_one (cc)
    go piece.Cut f ih z = zero_one (cc)
    go piece.Open f ih z = zero_one (cc)

-- what is left from the offset i on
strict_closing : (m : Mode) (s : List ℕ) (i : ℕ) → m ≡ Strict → (from m s i).ending ≡ end.Closed → Closing i (drop i s) (from m s i)
strict_closing m s i e z = rw e (rw (add-zero i) at (closing i 0 (drop i s) (rw e at z)))

-- `put_string` at i
module _ {m : Mode} {s : List ℕ} {len : ℕ} {out₀ : List ℕ} {place until : ℕ} {out : List ℕ} {i p : ℕ} (u : Writing m s len out₀ place until out i p) where
  pub left_source : i + (until - p) ≤ length s
  left_source = let b : Bounds s i (from m s i) = bounds m s i u.inside in omega (arith, b.bytes_in, b.upto, u.count)

  pub text_left : i ≤ len
  text_left = let b : Bounds s i (from m s i) = bounds m s i u.inside in omega (arith, b.bytes_in, u.stop)

  -- as much text before the closing quote as bytes to write
  pub last_copied : (o : List ℕ) → o ≡ sets out p (take (i + (until - p) - i) (drop i s)) → (strict : Bool) → strict ≡ sameb the_type m Strict
      → strict && eqb (until - p + 1) (len - i) ≡ true → o ≡ sets out₀ place (literal_of m s).bytes
  unfolding literal_of
  last_copied o eo strict is h =
      let t : Bool = eqb (until - p + 1) (len - i) in
      let f : i + (until - p) - i ≡ until - p = omega arith in
      let q : m ≡ Strict = same_true the_type (search rules) _ _ (sym is ∙ and_left strict t h) in
      let k : Closing i (drop i s) (from m s i) = strict_closing m s i q (u.closed q) in
      let e : until - p + 1 ≡ len - i = eqb-true (until - p + 1) (len - i) (and_right strict t h) in
      let n : length (from m s i).bytes ≡ until - p = omega (arith, u.count) in
      let w : (from m s i).bytes ≡ take (until - p) (drop i s) =
      k.text (omega (arith, u.stop, text_left)) ∙ ap (λ (j : ℕ). take j (drop i s)) n in
      eo ∙ rw f (sym (u.store.is ∙ ap (sets out p) w))
