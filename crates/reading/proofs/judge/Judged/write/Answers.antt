-- `write` stores and counts what the definitions say: a turn stores and counts one token. Assumes nothing.
use mathlib.Core.Path.{sym, ◌∙◌}
use native.Mathlib.Omega.{arith}
use borrow.Author.Tests.{eqb-true, eqb-false}
use Rattle.utf8.proofs.Valid.{octets_valid}
use Rattle.reading.proofs.Refusals.{fitting, well_octets}
use Rattle.reading.proofs.Turns.{none_is, passing_start, passing_less, passing_few, passing_room, passing_turn, passing_end}
use Rattle.reading.proofs.judge.Judged.write.Goals as goal

pub tokens-init : goal.tokens-init
tokens-init c = let short = (fitting _ c.args.self.fit).0 in rw (none_is c.default-counts.ensures) (search passing_start)

pub invariant_of-here : goal.invariant_of-here
invariant_of-here c = record { walkable = c.tokens.invariant.walkable; well_formed = octets_valid (well_octets _ (fitting _ c.args.self.fit).1) }

pub put-requires : goal.put-requires
put-requires c = passing_room c.tokens.invariant c.each_token-t.ensures c.args.self.bytes

pub returns-then-is_eof : goal.returns-then-is_eof
returns-then-is_eof c =
    let p = c.put.ensures in
    let e = passing_end c.tokens.invariant c.each_token-t.ensures p.same_buffers p.put (eqb-true _ _ (sym c.is_eof.ensures ∙ c.if-is_eof.true)) in
    record { same_buffers = e.0; counted = e.1; stored = e.2 }

pub count-requires : goal.count-requires
count-requires c =
    let w = c.tokens.invariant in
    let m = passing_few w c.each_token-t.ensures in
    let short = w.walkable.short in
    (omega arith, omega arith)

pub tokens-smaller : goal.tokens-smaller
tokens-smaller c = passing_less c.tokens.invariant c.each_token-t.ensures (eqb-false _ _ (sym c.is_eof.ensures ∙ c.if-is_eof.false))

pub tokens-preserved : goal.tokens-preserved
tokens-preserved c =
    let p = c.put.ensures in
    rw c.count.ensures
    (passing_turn c.tokens.invariant c.each_token-t.ensures p.same_buffers p.put (eqb-false _ _ (sym c.is_eof.ensures ∙ c.if-is_eof.false)))
