-- For the crate above, `lexer`: comments are within the text and end between characters; their reports stand at their start. By cases, closed or
-- open. Assumes nothing.
use mathlib.Core.Path.{◌≡◌, refl}
use mathlib.Core.Bool.{Bool, true, false, ◌&&◌}
use mathlib.Core.List.Memᴰ
use mathlib.Core.List.{List, Memᴰ}
use Prim.Native.Nat.{ℕ, ◌+◌, ◌-◌, ◌≤◌, ◌<◌, zero-le}
use native.Mathlib.Omega.{arith}
use borrow.Author.Tests.{eqb-true, ltb-true, leb-true, not-false}
use lib.Dec.{ltb, leb, eqb}
use lib.ListN.{length}
use Rattle.base.specs.Choice.{pick}
use Rattle.base.specs.Bytes.{byte}
use Rattle.base.specs.Runs.{reach}
use Rattle.base.proofs.Reaches.{reach_le, reach_one, reach_fails}
use Rattle.base.proofs.Tests.{and_left, and_right, pick_case, in_text}
use Rattle.token.specs.Kind.{kind_number}
use Rattle.token.specs.declared.kind.TokenKind.TheVariants as K
use Rattle.token.specs.declared.reason.Reason.TheVariants as R
use Rattle.lexeme.specs.Lexeme.{Note}
use Rattle.lexeme.specs.declared.Mode.{Mode}
use Rattle.lexeme.specs.declared.Mode.TheVariants.{Strict, Tolerant}
use Rattle.utf8.specs.Onward.{Boundary}
use Rattle.utf8.proofs.Boundaries.{ascii_boundary, end_boundary, char_end_ge, char_end_le, char_end_boundary}
use Rattle.scan.specs.Run.{in_line, in_body}
use Rattle.scan.specs.Comment.{lex_line_comment, open_end, body_end, open_comment, lex_block_comment, open_comment_notes, block_notes}
use Rattle.scan.proofs.Runs.{body_boundary, line_boundary}
use Rattle.scan.proofs.Scanned.{Plain, plain, Scanned, Ends, extent_scanned, whole_scanned, illegal_scanned}

comment : Plain K.Comment
unfolding kind_number
comment = plain K.Comment refl

pub line_scanned : (s : List ℕ) → 0 < length s → eqb (byte s 0) 10 ≡ false → Scanned s (lex_line_comment s)
unfolding lex_line_comment
line_scanned s h e =
    let n = reach in_line s 0 in
    let g = reach_one in_line s 0 h (rw e) in
    whole_scanned s n (record { some = omega arith; inside = reach_le in_line s 0 zero-le; between = line_boundary s 0 }) K.Comment comment

-- the body ends at `*/`
closes : (s : List ℕ) → body_end s < length s → eqb (byte s (body_end s)) 42 && eqb (byte s (body_end s + 1)) 47 ≡ true
unfolding body_end
closes s l = not-false _ (reach_fails in_body s 2 l)

module _ (s : List ℕ) (h : 2 ≤ length s) where
  body_between : Boundary s 0 → Boundary s (body_end s)
  unfolding body_end
  body_between b = body_boundary s 0 2 zero-le h b

  closed_ends : body_end s < length s → Ends s (body_end s + 2)
  closed_ends l =
      let n = body_end s in
      let a = eqb-true (byte s n) 42 (and_left (eqb (byte s n) 42) (eqb (byte s (n + 1)) 47) (closes s l)) in
      let f = and_right (eqb (byte s n) 42) (eqb (byte s (n + 1)) 47) (closes s l) in
      let i = in_text (λ b. eqb b 47) s (n + 1) refl f in
      let c = eqb-true (byte s (n + 1)) 47 f in
      let two : n + 1 + 1 ≡ n + 2 = omega arith in
      record {
        some = omega arith;
        inside = omega arith;
        between = λ b. rw two at (ascii_boundary s (n + 1) i (omega arith) (ascii_boundary s n l (omega arith) (body_between b)));
      }

  open_ends : Ends s (open_end s)
  unfolding open_end
  open_ends =
      let i = pick (leb 3 (length s)) (length s - 1) 2 in
      let l : i ≤ length s = pick_case (λ n. n ≤ length s) (leb 3 (length s)) (λ e. omega arith) (λ e. omega arith) in
      let g : 2 ≤ i = pick_case (λ n. 2 ≤ n) (leb 3 (length s)) (λ e. omega (arith, leb-true 3 (length s) e)) (λ e. omega arith) in
      record { some = omega (arith, g, char_end_ge s i); inside = char_end_le s i l; between = char_end_boundary s i l }

  open_scanned : (m : Mode) → Scanned s (open_comment m s)
  unfolding open_comment
  open_scanned Strict = illegal_scanned s (open_end s) open_ends R.OpenBlockComment 0 (λ q. cc) (omega arith)
  open_scanned Tolerant =
      extent_scanned s (length s) (record { some = omega arith; inside = omega arith; between = end_boundary s }) K.Comment 0 (length s) 1 comment
      (omega arith) (omega arith)

  pub block_scanned : (m : Mode) → Scanned s (lex_block_comment m s)
  unfolding lex_block_comment
  block_scanned m =
      pick_case (Scanned s) (ltb (body_end s) (length s))
      (λ q. whole_scanned s (body_end s + 2) (closed_ends (ltb-true (body_end s) (length s) q)) K.Comment comment)
      (λ q. open_scanned m)

-- its reports: as many as the token says, and at its start
module _ (m : Mode) (s : List ℕ) where
  pub block_notes_size : length (block_notes m s) ≡ (lex_block_comment m s).reports
  unfolding block_notes lex_block_comment open_comment
  block_notes_size = go m (ltb (body_end s) (length s)) refl
    where
      go : (m : Mode) (b : Bool) → ltb (body_end s) (length s) ≡ b → length (block_notes m s) ≡ (lex_block_comment m s).reports
      go m true e = rw e
      go Strict false e = rw e
      go Tolerant false e = rw e

  pub block_notes_start : (n : Note) → Memᴰ n (block_notes m s) → n.offset ≡ 0
  unfolding block_notes
  block_notes_start n = pick_case (λ l. Memᴰ n l → n.offset ≡ 0) (ltb (body_end s) (length s)) (λ e i. absurd (Memᴰ.not-nil i)) (λ e. go m)
    where
      go : (m : Mode) → Memᴰ n (open_comment_notes m) → n.offset ≡ 0
      go Strict i = absurd (Memᴰ.not-nil i)
      go Tolerant i = rw (Memᴰ.eq_of_singleton i)
