-- The call that decodes a run into a lent buffer; document 02, #104, with its checks 13 and 14.
use Rattle.std.specs.Prelude.{◌≡◌, Bool, ◌&&◌, List, ℕ, eqb, ltb, length, Result, Ok, Err}
use Rattle.base.specs.Answers.{answer_number, answer_value}
use Rattle.base.specs.Choice.{pick}
use Rattle.base.specs.Buffers.{after}
use Rattle.utf8.specs.Grammar.{valid_to}
use Rattle.base64_lenient.specs.Lenient.{decodes, decoded}
use Rattle.base64_lenient.specs.declared.decode.Refusal.{Refusal}
use Rattle.base64_lenient.specs.declared.decode.Refusal.TheVariants.{BadRun, BufferShort}

-- Types of the code (src/decode.rt). `Refusal`: `BadRun`, `BufferShort`, numbered below.

-- document 02's number of each refusal
abbrev pub refusal_number : Refusal → ℕ
refusal_number BadRun = 13
refusal_number BufferShort = 14

-- the number of the answer, 0 where the call is accepted
abbrev pub decoded_number : Result ℕ Refusal → ℕ
decoded_number r = answer_number refusal_number r

-- its value: "Every added call that fills a buffer gives the count too"
abbrev pub decoded_value : Result ℕ Refusal → ℕ
decoded_value r = answer_value r

-- none that check 13 refuses: "the run isn't UTF-8 or doesn't decode"
unfoldable pub is_decodable : List ℕ → Bool
is_decodable run = eqb (valid_to run) (length run) && decodes run

-- the answer where a buffer of n bytes is lent: 13, "then 14, the decode buffer is short"
unfoldable pub decode_answer : List ℕ → ℕ → Result ℕ Refusal
decode_answer run n = pick (is_decodable run) (pick (ltb n (length (decoded run))) (Err BufferShort) (Ok (length (decoded run)))) (Err BadRun)

-- the contract
pub record DecodesBytes (run out : List ℕ) (r : Result ℕ Refusal) (out' : List ℕ) : Type 0 where
  pub answer : r ≡ decode_answer run (length out)
  pub buffer : out' ≡ after (decoded_number r) (decoded run) out
