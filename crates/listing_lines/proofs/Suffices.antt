-- For the crate `listing`: buffers that suffice for a text of at most 8,192 bytes. Nothing is refused but what isn't UTF-8, and a line has at most
-- 48 bytes. By induction on the tokens. Assumes nothing.
use mathlib.Core.Path.{◌≡◌, refl, ap}
use mathlib.Core.List.{List}
use Prim.Native.Nat.{ℕ, ◌+◌, ◌*◌, ◌≤◌, ◌<◌}
use native.Mathlib.Omega.{arith}
use lib.ListN.{length, drop, length-append}
use lib.IntN.{ℤ, pos}
use Rattle.std.specs.Prelude.{Result, Ok, Err, IsOk}
use borrow.Author.Tests.{le-ltb}
use Rattle.base.specs.Buffers.{overlay}
use Rattle.limits.specs.Limits.{max_message_size, max_bytes_literal_length}
use Rattle.token.specs.Kind.{kind_number}
use Rattle.token.specs.Reason.{number_of}
use Rattle.token.specs.Layout.{record_width, report_width}
use Rattle.token.proofs.KindNumbers.{number_le}
use Rattle.utf8.specs.Check.{check_of}
use Rattle.utf8.specs.declared.check.Utf8Error.{Utf8Error}
use Rattle.lexer.specs.declared.reading.Reading.TheVariants.{Strict}
use Rattle.lexer.specs.Token.{string_size}
use Rattle.lexer.specs.declared.next.Token.{Token}
use Rattle.notation.specs.Decimal.{number_text}
use Rattle.notation.proofs.Digits.{digits_few, number_most}
use Rattle.reading.specs.Tokens.{tokens}
use Rattle.reading.specs.Buffers.{record_of, records_of, whole_laid}
use Rattle.reading.specs.Refusals.{refusal_number, after_check, judge_of, after_judge, room_of}
use Rattle.reading.specs.Answers.{read_text_answer}
use Rattle.reading.specs.Passes.{Room}
use Rattle.reading.specs.declared.counts.Counts.{Counts}
use Rattle.reading.specs.declared.refusal.Refusal.TheVariants.{NotUtf8}
use Rattle.reading.proofs.NextToken.{reason_in, Read, start_bounded}
use Rattle.reading.proofs.From.{by_each}
use Rattle.reading.proofs.Fits.{tokens_fit, suffice_room}
use Rattle.reading.proofs.Refusals.{room_answer}
use Rattle.listing_lines.specs.Lines.{line_text, line_numbers, lines_of, refused_line}
use Rattle.listing_lines.specs.Listing.{answer_of, token_lines, listing_of, lines_size, Fills, Lists, printed, Suffice, Prints}
use Rattle.listing_lines.specs.declared.OutShort.{OutShort}
use Rattle.listing_lines.proofs.Lines.{refused_length}

-- a number below 10,000 has at most four digits, one below 100 at most two
four : (n : ℕ) → n < 10000 → length (number_text (pos n)) ≤ 4
four n h = digits_few 4 n (omega arith) (omega arith) (omega arith)

two : (n : ℕ) → n < 100 → length (number_text (pos n)) ≤ 2
two n h = digits_few 2 n (omega arith) (omega arith) (omega arith)

-- the line of a token of a text of at most 8,192 bytes
module _ (text : List ℕ) (h : length text ≤ 8192) where
  line_fits : {at : ℕ} {t : Token} → Read Strict max_bytes_literal_length text at t → (p : ℕ) → length (line_text (line_numbers (record_of p t))) ≤ 48
  unfolding line_text
  line_fits {t = t} r p =
      let l = start_bounded r in
      let a = four t.start.offset (omega arith) in
      let b = four t.end.offset (omega arith) in
      let c = four t.start.line (omega arith) in
      let d = four t.start.column (omega arith) in
      let e = two (kind_number t.kind) (omega (arith, number_le t.kind)) in
      let f = two (number_of t.reason) (omega (arith, reason_in t.reason)) in
      let g = number_most t.nanos in
      simp length-append (omega arith)

  lines_most : length (token_lines text) ≤ 8193 * 48
  unfolding tokens records_of lines_of
  lines_most =
      let w =
      by_each Strict max_bytes_literal_length text (λ at ts. (p : ℕ) → length (lines_of (records_of p ts)) ≤ length ts * 48) (λ p. omega arith)
      (λ at t ts r w p. simp length-append (omega (arith, line_fits r p, w (p + string_size t.kind t.size)))) 0 (omega arith) 0 in
      omega (arith, tokens_fit Strict max_bytes_literal_length text)

module _ (text : List ℕ) (nt ns nr no : ℕ) (h : Suffice (length text) nt ns no) where
  room : Room (whole_laid Strict max_bytes_literal_length text) nt ns nr
  unfolding room_of
  room =
      suffice_room Strict max_bytes_literal_length text nt ns nr
      (rw (
        le-ltb nt ((length text + 1) * record_width) (omega (arith, h.text, h.tokens)),
        le-ltb ns (length text) (omega (arith, h.text, h.strings)),
        le-ltb nr (0 * report_width) (omega arith),
      ))

  -- the reading is refused for bad UTF-8 alone
  pub printed_is : listing_of text (answer_of text nt ns nr) ≡ printed text
  unfolding read_text_answer judge_of printed
  printed_is =
      rw (le-ltb max_message_size (length text) (omega (arith, h.text)), room_answer room) (go (check_of text) _)
    where
      go : (v : Result (Unit {0}) Utf8Error) (c : Counts) → listing_of text (after_judge (after_check v (λ n. Err (NotUtf8 n)) (Ok tt)) Err (Ok c))
          ≡ after_check v (λ n. refused_line (refusal_number (NotUtf8 n))) (token_lines text)
      go (Ok u) c = refl
      go (Err e) c = refl

  -- the out buffer is not shorter than the lines
  pub lines_fit_out : lines_size text ≤ no
  unfolding lines_size judge_of
  lines_fit_out = rw (le-ltb max_message_size (length text) (omega (arith, h.text))) (go (check_of text))
    where
      go : (v : Result (Unit {0}) Utf8Error) → after_judge (after_check v (λ n. Err (NotUtf8 n)) (Ok tt)) (λ r. 0) (length (token_lines text)) ≤ no
      go (Ok u) = omega (arith, lines_most text h.text, h.out)
      go (Err e) = omega arith

  -- and it holds what is printed
  pub printed_fits : length (printed text) ≤ no
  unfolding printed
  printed_fits = go (check_of text)
    where
      go : (v : Result (Unit {0}) Utf8Error) → length (after_check v (λ n. refused_line (refusal_number (NotUtf8 n))) (token_lines text)) ≤ no
      go (Ok u) = omega (arith, lines_most text h.text, h.out)
      go (Err e) = omega (arith, refused_length 2, number_most (pos 2), h.out)

-- where the buffers suffice, the listing is what is printed, and no buffer is short
module _ {text : List ℕ} {T : List ℤ} {S : List ℕ} {R : List ℤ} {O : List ℕ} {r : Result ℕ OutShort} {T' : List ℤ} {S' : List ℕ} {R' : List ℤ}
    {O' : List ℕ} (h : Suffice (length text) (length T) (length S) (length O)) (w : Lists text T S R O r T' S' R' O') where
  fits : length (printed text) ≤ length O
  fits = printed_fits text (length T) (length S) (length R) (length O) h

  filled : Fills (printed text) O r O'
  filled =
      rw (printed_is text (length T) (length S) (length R) (length O) h) at
      (w.enough (omega (arith, lines_fit_out text (length T) (length S) (length R) (length O) h))).fills

  bytes_listed : r ≡ Ok (length (printed text))
  bytes_listed = rw (le-ltb _ _ fits) at filled.answer

  pub prints : {n : ℕ} → r ≡ Ok n → Prints text O n O'
  prints {n} e =
      let q : n ≡ length (printed text) = cc bytes_listed in
      let o : O' ≡ overlay (printed text) O = rw (le-ltb _ _ fits) at filled.out in
      record { count = q; inside = omega (arith, ap length o, length-append (printed text) (drop (length (printed text)) O)); out = o }

  pub never_short : IsOk r
  never_short = rw bytes_listed
