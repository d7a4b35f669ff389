-- `list` tests whether the lines fit, then reads, and writes the lines of what it has read, or the refusal's. Assumes nothing.
use mathlib.Core.Path.{sym, ◌∙◌}
use Prim.Native.Nat.{◌≤◌}
use native.Mathlib.Omega.{arith}
use lib.ListN.{length}
use lib.Seq.{length-take-le}
use borrow.Author.Tests.{leb-true, leb-false}
use Rattle.limits.specs.Limits.{max_bytes_literal_length}
use Rattle.lexer.specs.declared.reading.Reading.TheVariants.{Strict}
use Rattle.reading.specs.Calls.{ReadsText}
use Rattle.listing_lines.specs.Listing.{lines_size}
use Rattle.listing_lines.proofs.Listings.{size_is, rows_inside, lines_are, tokens_listed, refusal_listed, short_listed}
use Rattle.listing_lines.proofs.list.Goals.{After-read_text}
use Rattle.listing_lines.proofs.list.Goals as goal

-- the reading, with the default limit
reading : (c : After-read_text) → let a = c.args in let w = c.read_text in ReadsText Strict max_bytes_literal_length a.text.now a.tokens.now
    a.strings.now a.reports.now w.result w.new.tokens w.new.strings w.new.reports
reading c = rw (c.strictly.ensures.mode, c.strictly.ensures.limit) at c.read_text.ensures

-- the lines fit the out buffer
room : (c : After-read_text) → let a = c.args in lines_size a.text.now ≤ length a.out.now
room c = leb-true _ _ (sym c.holds_lines.ensures ∙ c.if-not-holds_lines.false)

pub returns-then-not-holds_lines : goal.returns-then-not-holds_lines
returns-then-not-holds_lines c = short_listed _ _ _ _ _ (leb-false _ _ (sym c.holds_lines.ensures ∙ c.if-not-holds_lines.true))

pub slice_bounds-put_lines-end : goal.slice_bounds-put_lines-end
slice_bounds-put_lines-end c =
    let at = goal.at.slice_bounds-put_lines-end c in
    let k = c.as_chunks.ensures in
    sym (length-take-le _ _ (rows_inside (reading at.After-read_text) c.in-Ok.is k.front k.front_len))

pub put_lines-requires : goal.put_lines-requires
put_lines-requires c =
    let at = goal.at.put_lines-requires c in
    let w = (reading at.After-read_text) in
    let k = c.as_chunks.ensures in
    rw (lines_are w c.in-Ok.is k.front k.front_len) (omega (arith, size_is w c.in-Ok.is, (room at.After-read_text)))

pub returns-in-Ok : goal.returns-in-Ok
returns-in-Ok c =
    let at = goal.at.returns-in-Ok c in
    let w = (reading at.After-read_text) in
    let k = c.as_chunks.ensures in
    let l = lines_are w c.in-Ok.is k.front k.front_len in
    tokens_listed w c.in-Ok.is (room at.After-read_text) l c.put_lines.ensures.0 c.put_lines.ensures.1

pub returns-in-Err : goal.returns-in-Err
returns-in-Err c =
    let at = goal.at.returns-in-Err c in
    refusal_listed (reading at.After-read_text) c.in-Err.is c.number.result c.number.ensures (room at.After-read_text) c.put_refusal.ensures
