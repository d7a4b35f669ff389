-- For `lines_size`: the lines of a text's tokens, counted token by token; what is left of them from a place on makes the whole with what is counted.
-- By induction on the tokens. Assumes nothing.
use mathlib.Core.Path.{◌≡◌, refl}
use mathlib.Core.List.{List, [], ◌∷◌, ◌++◌}
use Prim.Native.Nat.{ℕ, ◌+◌, ◌-◌, ◌*◌, ◌≤◌, ◌<◌}
use native.Mathlib.Omega.{arith}
use lib.ListN.{length}
use Rattle.base.specs.Bytes.{AreBytes}
use Rattle.limits.specs.Limits.{max_message_size, max_bytes_literal_length}
use Rattle.token.specs.Helpers.{RecordFits, Walkable}
use Rattle.token.specs.Place.{first_place}
use Rattle.token.specs.declared.place.Place.{Place}
use Rattle.token.proofs.KindNumbers.{IsEof}
use Rattle.token.proofs.Places.{first_walkable, to_place}
use Rattle.lexer.specs.declared.reading.Reading.TheVariants.{Strict}
use Rattle.lexer.specs.Token.{next_token, string_size}
use Rattle.lexer.specs.declared.next.Token.{Token}
use Rattle.reading.specs.Tokens.{tokens_from, tokens}
use Rattle.reading.specs.Buffers.{record_of, records_of}
use Rattle.reading.proofs.Turns.{read_of, eof_of, more_of, record_fits}
use Rattle.listing_lines.specs.Lines.{line_text, line_numbers, lines_of}
use Rattle.listing_lines.specs.Listing.{token_lines}
use Rattle.listing_lines.proofs.Lines.{line_most}
use Rattle.listing_lines.proofs.Pieces.{Counting, counting_start, counting_turn, counting_end}

-- the line of a token does not tell where its string stands
lines_any : (p q : ℕ) (ts : List Token) → lines_of (records_of p ts) ≡ lines_of (records_of q ts)
unfolding records_of lines_of
lines_any p q [] = refl
lines_any p q (t ∷ ts) = let z = string_size t.kind t.size in rw (lines_any (p + z) (q + z) ts)

lines_more : (t : Token) (ts : List Token) → lines_of (records_of 0 (t ∷ ts)) ≡ line_text (line_numbers (record_of 0 t)) ++ lines_of (records_of 0 ts)
unfolding records_of lines_of
lines_more t ts = rw (lines_any (0 + string_size t.kind t.size) 0 ts)

-- the lines from an offset on
abbrev lines_from : List ℕ → ℕ → List ℕ
lines_from text at = lines_of (records_of 0 (tokens_from Strict max_bytes_literal_length text at))

-- n bytes are counted of the lines before a place; no line has more than 154
pub record Measuring (text : List ℕ) (p : Place) (n : ℕ) : Type 0 where
  pub walkable : Walkable text p p.offset
  pub few : n ≤ p.offset * 154
  pub counted : Counting (token_lines text) n (lines_from text p.offset)

pub measuring_start : (text : List ℕ) (p : Place) → p ≡ first_place → length text ≤ max_message_size → Measuring text p 0
unfolding tokens
measuring_start text p e h =
    rw e (record { walkable = first_walkable text first_place refl h 0 (omega arith); few = omega arith; counted = counting_start (token_lines text) })

module _ {text : List ℕ} {p : Place} {n : ℕ} (w : Measuring text p n) {t : Token} (e : t ≡ next_token Strict max_bytes_literal_length text p.offset) where
  pub token_fits : AreBytes text → RecordFits (record_of 0 t)
  token_fits bytes = record_fits Strict max_bytes_literal_length text p.offset w.walkable.inside t e bytes w.walkable.short 0 (omega arith)

  pub line_few : length (line_text (line_numbers (record_of 0 t))) ≤ 154
  line_few = omega (arith, line_most (line_numbers (record_of 0 t)))

  pub measuring_end : {k : ℕ} → k ≡ length (line_text (line_numbers (record_of 0 t))) → IsEof t.kind → n + k ≡ length (token_lines text)
  unfolding records_of lines_of
  measuring_end l c =
      let d = eof_of Strict max_bytes_literal_length text p.offset w.walkable.inside t e c in
      counting_end (counting_turn w.counted (line_text (line_numbers (record_of 0 t))) (rw d) (omega arith)) refl

  module _ (c : IsEof t.kind → ⊥) where
    pub measuring_less : length text - t.end.offset < length text - p.offset
    measuring_less =
        let r = read_of Strict max_bytes_literal_length text p.offset w.walkable.inside t e in
        omega (arith, r.forward c, r.after, r.inside)

    pub measuring_turn : {k : ℕ} → k ≡ length (line_text (line_numbers (record_of 0 t))) → Measuring text t.end (n + k)
    measuring_turn l =
        let r = read_of Strict max_bytes_literal_length text p.offset w.walkable.inside t e in
        let q = more_of Strict max_bytes_literal_length text p.offset w.walkable.inside t e c in
        let rest = tokens_from Strict max_bytes_literal_length text t.end.offset in
        record {
          walkable = to_place t.end w.walkable.short r.end_true r.inside;
          few = omega (arith, w.few, line_few, r.forward c, r.after);
          counted = counting_turn w.counted (line_text (line_numbers (record_of 0 t))) (rw q (lines_more t rest)) (omega arith);
        }
