-- What listing a text answers and writes, for every input.
use Rattle.std.specs.Prelude.{◌≡◌, List, ℕ, ◌*◌, ◌≤◌, ◌<◌, eqb, ltb, ℤ, length, Result, Ok, Err}
use Rattle.base.specs.Buffers.{overlay}
use Rattle.base.specs.Choice.{pick}
use Rattle.limits.specs.Limits.{max_bytes_literal_length}
use Rattle.token.specs.Layout.{record_width}
use Rattle.lexer.specs.declared.reading.Reading.TheVariants.{Strict}
use Rattle.utf8.specs.Check.{check_of}
use Rattle.reading.specs.Buffers.{whole_laid}
use Rattle.reading.specs.Refusals.{refusal_number, after_check, judge_of, after_judge}
use Rattle.reading.specs.Answers.{read_text_answer, read_text_number}
use Rattle.reading.specs.Calls.{ReadsText}
use Rattle.reading.specs.declared.counts.Counts.{Counts}
use Rattle.reading.specs.declared.refusal.Refusal.{Refusal}
use Rattle.reading.specs.declared.refusal.Refusal.TheVariants.{NotUtf8}
use Rattle.listing_lines.specs.Lines.{lines_of, refused_line}
use Rattle.listing_lines.specs.declared.OutShort.{OutShort}

-- Types of the code (src/lib.rt). `OutShort`: the out buffer is shorter than the lines.
-- Types that other files explain: `Reading` in lexer/specs/Reading.antt; `Counts` in reading/specs/Buffers.antt; `Refusal` in
-- reading/specs/Refusals.antt.

-- "strict, default limit": the whole reading with buffers of nt numbers, ns bytes and nr numbers
abbrev pub answer_of : List ℕ → ℕ → ℕ → ℕ → Result Counts Refusal
answer_of text nt ns nr = read_text_answer Strict max_bytes_literal_length text nt ns nr

-- the lines of the text's tokens
abbrev pub token_lines : List ℕ → List ℕ
token_lines text = lines_of (whole_laid Strict max_bytes_literal_length text).records

-- what is listed where a reading answers r: "one token a line", "or `refused` and the number"
abbrev pub listing_of : List ℕ → Result Counts Refusal → List ℕ
listing_of text r = pick (eqb (read_text_number r) 0) (token_lines text) (refused_line (read_text_number r))

-- these lines from the out buffer's start, and how many bytes they have; or the buffer as it was, where it is shorter
pub record Fills (lines O : List ℕ) (r : Result ℕ OutShort) (O' : List ℕ) : Type 0 where
  pub answer : r ≡ pick (ltb (length O) (length lines)) (Err (record {})) (Ok (length lines))
  pub out : O' ≡ pick (ltb (length O) (length lines)) O (overlay lines O)

-- how many bytes the lines of a text's tokens have; 0 where the text is refused by its length or as no UTF-8
unfoldable pub lines_size : List ℕ → ℕ
lines_size text = after_judge (judge_of text) (λ r. 0) (length (token_lines text))

-- the out buffer is short, and nothing is written to any buffer
pub record Untouched (T : List ℤ) (S : List ℕ) (R : List ℤ) (O : List ℕ) (r : Result ℕ OutShort)
    (T' : List ℤ) (S' : List ℕ) (R' : List ℤ) (O' : List ℕ) : Type 0 where
  pub answer : r ≡ Err (record {})
  pub tokens : T' ≡ T
  pub strings : S' ≡ S
  pub reports : R' ≡ R
  pub out : O' ≡ O

-- the text is read, and what is listed of it fills the out buffer
pub record Filled (text : List ℕ) (T : List ℤ) (S : List ℕ) (R : List ℤ) (O : List ℕ) (r : Result ℕ OutShort)
    (T' : List ℤ) (S' : List ℕ) (R' : List ℤ) (O' : List ℕ) : Type 0 where
  pub reads : ReadsText Strict max_bytes_literal_length text T S R (answer_of text (length T) (length S) (length R)) T' S' R'
  pub fills : Fills (listing_of text (answer_of text (length T) (length S) (length R))) O r O'

-- the contract: an out buffer that is shorter than the lines is told before anything is written
pub record Lists (text : List ℕ) (T : List ℤ) (S : List ℕ) (R : List ℤ) (O : List ℕ) (r : Result ℕ OutShort)
    (T' : List ℤ) (S' : List ℕ) (R' : List ℤ) (O' : List ℕ) : Type 0 where
  pub short : length O < lines_size text → Untouched T S R O r T' S' R' O'
  pub enough : lines_size text ≤ length O → Filled text T S R O r T' S' R' O'

-- what is printed of a text of at most 8,192 bytes: the lines of its tokens, or `refused 2` where it isn't UTF-8
unfoldable pub printed : List ℕ → List ℕ
printed text = after_check (check_of text) (λ n. refused_line (refusal_number (NotUtf8 n))) (token_lines text)

-- lengths that suffice for any text of at most 8,192 bytes: a token for each byte and the Eof, each of a line of at most 48 bytes; the strict
-- reading makes no report
pub record Suffice (len nt ns no : ℕ) : Type 0 where
  pub text : len ≤ 8192
  pub tokens : 8193 * record_width ≤ nt
  pub strings : 8192 ≤ ns
  pub out : 8193 * 48 ≤ no

-- it stands from the buffer's start on, and has r bytes
pub record Prints (text O : List ℕ) (r : ℕ) (O' : List ℕ) : Type 0 where
  pub count : r ≡ length (printed text)
  pub inside : r ≤ length O'
  pub out : O' ≡ overlay (printed text) O
