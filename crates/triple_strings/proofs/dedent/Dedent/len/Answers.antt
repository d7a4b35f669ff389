-- `len` is the length of `stripped`: what is measured, with what is left, is as long as the whole. Assumes nothing.
use mathlib.Core.Path.{ap, sym, ◌∙◌}
use native.Mathlib.Omega.{arith}
use borrow.Author.Tests.{eqb-true}
use lib.ListN.{length}
use Rattle.triple_strings.proofs.Stripping.{stripped_empty, stripped_le, left_first, left_more, after_less, left_end}
use Rattle.triple_strings.proofs.dedent.Dedent.len.Goals as goal

pub returns-then-is_empty : goal.returns-then-is_empty
returns-then-is_empty c = sym (ap length (stripped_empty _ _ (eqb-true _ 0 (sym c.is_empty.ensures ∙ c.if-is_empty.true))))

pub loop-rest-init : goal.loop-rest-init
loop-rest-init c = rw (c.strip-rest.ensures, left_first _ c.args.self.now.one_line) (omega arith)

pub overflow_add-size : goal.overflow_add-size
overflow_add-size c =
    omega (
      arith,
      c.loop-rest.invariant,
      ap length (left_more _ c.args.self.now.one_line c.loop-rest.rest.now c.in-len1-up.len_at_least),
      stripped_le c.args.self.now.indent.now c.args.self.now.body.now,
    )

pub loop-rest-smaller : goal.loop-rest-smaller
loop-rest-smaller c = rw c.after-rest.ensures (after_less _ _ c.in-len1-up.len_at_least)

pub loop-rest-preserved : goal.loop-rest-preserved
loop-rest-preserved c =
    rw c.after-rest.ensures
    (omega (arith, c.loop-rest.invariant, ap length (left_more _ c.args.self.now.one_line c.loop-rest.rest.now c.in-len1-up.len_at_least)))

pub returns : goal.returns
returns c = omega (arith, c.loop-rest.invariant, ap length (left_end c.args.self.now.indent.now c.loop-rest.rest.now c.in_default.len_below))
