-- For `lex_triple_string` and `put_triple_string`: the bytes that the code takes from the text are the raw bytes, and each return is a row of its
-- definition. Assumes nothing.
use mathlib.Core.Path.{◌≡◌, ap, ◌∙◌}
use mathlib.Core.Bool.{true, false}
use mathlib.Core.List.{List, [], ◌++◌, append-nil}
use Prim.Native.Nat.{ℕ, ◌+◌, ◌-◌, ◌≤◌, ◌<◌, ◌^◌}
use native.Mathlib.Nat.{zero-add}
use native.Mathlib.Omega.{arith}
use borrow.Author.Tests.{lt-ltb, le-ltb}
use lib.Dec.{ltb}
use lib.ListN.{length, take, drop, length-drop, drop_of_length-le}
use lib.Seq.{sets, drop-drop}
use Rattle.std.proofs.Common.{append_assoc}
use Rattle.std.proofs.lemmas.List.Edits.{sets-eq}
use borrow.Rule.Slice.PartMut.{put_mid}
use mir.Syntax.{w64}
use mir.Val.{Fits}
use Rattle.base.proofs.Reaches.{rest_is}
use Rattle.token.specs.declared.kind.TokenKind.TheVariants as K
use Rattle.token.specs.declared.reason.Reason.TheVariants as R
use Rattle.lexeme.specs.Lexeme.{extent, illegal}
use Rattle.lexeme.specs.declared.Lexeme.{Lexeme}
use Rattle.lexeme.specs.declared.Mode.{Mode}
use Rattle.lexeme.specs.declared.Mode.TheVariants.{Strict, Tolerant}
use Rattle.triple_strings.specs.Dedent.{dedent}
use Rattle.triple_strings.specs.Triple.{until_quotes, raw_size, raw_bytes, closed, open_triple_end, lex_triple_string}
use Rattle.triple_strings.proofs.QuoteSearch.{until_le}

-- the raw bytes end within the text
pub raw_le : (s : List ℕ) → 3 ≤ length s → raw_size s + 3 ≤ length s
unfolding raw_size
raw_le s h = omega (arith, until_le (drop 3 s), length-drop 3 s)

-- ---- after `find_quotes`

module _ (s : List ℕ) (n : ℕ) (e : n ≡ until_quotes (take (length s - 3) (drop 3 s))) where
  size_is : n ≡ raw_size s
  unfolding raw_size
  size_is = rw rest_is at e

  bytes_are : take (n + 3 - 3) (drop 3 s) ≡ raw_bytes s
  unfolding raw_bytes
  bytes_are =
      let z : n + 3 - 3 ≡ raw_size s = omega (arith, size_is) in
      rw z

  module _ (h : 3 ≤ length s) where
    pub raw_in : n + 3 ≤ length s
    raw_in = omega (arith, raw_le s h, size_is)

    pub raw_fits : length s < 2 ^ 64 → Fits w64 (n + 3)
    raw_fits l = omega (arith, raw_in)

  value_is : {v : List ℕ} → v ≡ dedent (take (n + 3 - 3) (drop 3 s)) → v ≡ dedent (raw_bytes s)
  value_is w = w ∙ ap dedent bytes_are

  module _ (m : Mode) (r : Lexeme) where
    pub lex_closed : (v : List ℕ) (size : ℕ) → n + 3 < length s → v ≡ dedent (take (n + 3 - 3) (drop 3 s)) → size ≡ length v
        → r ≡ extent K.String (n + 6) 0 size 0 → r ≡ lex_triple_string m s
    unfolding lex_triple_string closed
    lex_closed v size l w d e =
        let c : ltb (raw_size s + 3) (length s) ≡ true = lt-ltb (raw_size s + 3) (length s) (omega (arith, size_is)) in
        rw (c, ← size_is, ← value_is w, ← d) e

    module _ (l : length s ≤ n + 3) where
      not_closed : closed s ≡ false
      unfolding closed
      not_closed = le-ltb (raw_size s + 3) (length s) (omega (arith, size_is))

      pub lex_strict : (end : ℕ) → m ≡ Strict → end ≡ open_triple_end s → r ≡ illegal R.OpenTripleString 0 end → r ≡ lex_triple_string m s
      unfolding lex_triple_string
      lex_strict end k d e = rw (not_closed, k, ← d) e

      pub lex_tolerant : (v : List ℕ) (size : ℕ) → m ≡ Tolerant → v ≡ dedent (take (n + 3 - 3) (drop 3 s)) → size ≡ length v
          → r ≡ extent K.String (length s) 0 size 1 → r ≡ lex_triple_string m s
      unfolding lex_triple_string
      lex_tolerant v size k w d e = rw (not_closed, k, ← value_is w, ← d) e

  -- the value goes to the part of a buffer from a place on
  module _ (out : List ℕ) (place : ℕ) (h : place + length (dedent (raw_bytes s)) ≤ length out) (v : List ℕ) (w : v ≡ dedent (take (n + 3 - 3) (drop 3 s))) where
    pub put_room : length v ≤ length (take (length out - place) (drop place out))
    put_room = rw (value_is w, rest_is out place) (omega (arith, length-drop place out))

    pub put_out : (o : List ℕ) → o ≡ sets (take (length out - place) (drop place out)) 0 v
        → put_mid place (length out - place) out o ≡ sets out place (dedent (raw_bytes s))
    put_out o e =
        let u = dedent (raw_bytes s) in
        let l : length (drop place out) ≡ length out - place = length-drop place out in
        let z : drop (length out - place) (drop place out) ≡ [] = drop_of_length-le (drop place out) (omega arith) in
        let a : sets (drop place out) 0 u ≡ u ++ drop (0 + length u) (drop place out) = sets-eq u (drop place out) 0 (omega arith) in
        let b : sets out place u ≡ take place out ++ u ++ drop (place + length u) out = sets-eq u out place h in
        rw (e, value_is w, rest_is out place, z, append-nil, a, b, zero-add, drop-drop, append_assoc)

-- what `put_triple_string` needs for its places, and `lex_triple_string` for its places and at each return
pub ruleset places = (raw_in, raw_fits)

pub ruleset lexing = (places, lex_closed, lex_strict, lex_tolerant)
