-- `measure` counts what the definitions say: a turn counts one token. Assumes nothing.
use mathlib.Core.Path.{sym, ◌∙◌}
use native.Mathlib.Omega.{arith}
use borrow.Author.Tests.{eqb-true, eqb-false}
use Rattle.reading.proofs.Refusals.{fitting, well_octets}
use Rattle.reading.proofs.Turns.{none_is, measuring_start, measuring_few, measuring_less, measuring_turn, measuring_end}
use Rattle.reading.proofs.judge.Judged.measure.Goals as goal

pub tokens-init : goal.tokens-init
tokens-init c = rw (none_is c.default-counts.ensures) (measuring_start _ _ _)

pub next_lexeme-found-requires : goal.next_lexeme-found-requires
next_lexeme-found-requires c = (c.tokens.invariant.inside, well_octets _ (fitting _ c.args.self.fit).1)

pub returns-then-is_eof : goal.returns-then-is_eof
returns-then-is_eof c = measuring_end c.tokens.invariant c.next_lexeme-found.ensures (eqb-true _ _ (sym c.is_eof.ensures ∙ c.if-is_eof.true))

pub count-requires : goal.count-requires
count-requires c =
    let m = measuring_few c.tokens.invariant c.next_lexeme-found.ensures in
    let short = (fitting _ c.args.self.fit).0 in
    (omega arith, omega arith)

pub overflow_add-at : goal.overflow_add-at
overflow_add-at c = record { fits = omega (arith, measuring_few c.tokens.invariant c.next_lexeme-found.ensures, (fitting _ c.args.self.fit).0) }

pub tokens-smaller : goal.tokens-smaller
tokens-smaller c = measuring_less c.tokens.invariant c.next_lexeme-found.ensures
    (eqb-false _ _ (sym c.is_eof.ensures ∙ c.if-is_eof.false))

pub tokens-preserved : goal.tokens-preserved
tokens-preserved c = rw c.count.ensures
    (measuring_turn c.tokens.invariant c.next_lexeme-found.ensures
    (eqb-false _ _ (sym c.is_eof.ensures ∙ c.if-is_eof.false)))
