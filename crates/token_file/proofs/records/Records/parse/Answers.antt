-- `parse` gives the records where `records_ok` is true: the slice has so many, and they keep the rules. Assumes nothing.
use Rattle.token_file.proofs.Judging.{checked_short, checked_not, checked_all}
use Rattle.token_file.proofs.records.Records.parse.Goals as goal

pub returns-then-chunks-count : goal.returns-then-chunks-count
returns-then-chunks-count c = checked_short c.args.records.now c.as_chunks.ensures.front c.as_chunks.ensures.front_len c.if-chunks-count.true

pub returns-then-not-rules_hold : goal.returns-then-not-rules_hold
returns-then-not-rules_hold c =
    checked_not c.args.records.now c.as_chunks.ensures.front c.as_chunks.ensures.front_len c.if-chunks-count.false c.rules_hold.ensures c.if-not-rules_hold.true

pub returns : goal.returns
returns c = checked_all c.args.records.now c.as_chunks.ensures.front c.as_chunks.ensures.front_len c.if-chunks-count.false c.rules_hold.ensures c.if-not-rules_hold.false
