-- `read_token_file` answers as `read_answer` says and leaves the buffer that it says: a law for each answer. Assumes nothing.
use mathlib.Core.Path.{sym, ◌∙◌}
use Rattle.token_file.proofs.Reading.{read_bad_file, read_bad_records, read_no_room, read_all}
use Rattle.token_file.proofs.read.read_token_file.Goals as goal

pub returns-in_default : goal.returns-in_default
returns-in_default c = read_bad_file c.version1.ensures c.in_default.ensures

pub returns-then-not-rules_hold : goal.returns-then-not-rules_hold
returns-then-not-rules_hold c = read_bad_records c.version1.ensures c.in-Some.ensures (sym c.rules_hold.ensures ∙ c.if-not-rules_hold.true)

pub returns-then-tokens-count : goal.returns-then-tokens-count
returns-then-tokens-count c =
    read_no_room c.version1.ensures c.in-Some.ensures (sym c.rules_hold.ensures ∙ c.if-not-rules_hold.false) c.if-tokens-count.true

pub returns : goal.returns
returns c =
    read_all c.version1.ensures c.in-Some.ensures (sym c.rules_hold.ensures ∙ c.if-not-rules_hold.false) c.if-tokens-count.false c.store.ensures
