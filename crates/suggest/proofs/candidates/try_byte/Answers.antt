-- `try_byte` adds what is seen in the text, which is what the strict reader sees. Assumes nothing.
use borrow.Author.Rules.{rules}
use native.Mathlib.Omega.{arith}
use mir.Syntax.{w64}
use mir.Val.{SFits}
use mir.ValLaws.{to_z-of_z}
use Rattle.limits.specs.Limits.{max_bytes_literal_length}
use Rattle.suggest.proofs.SeenTexts.{seen_same}
use Rattle.suggest.proofs.Fills.{adds_none, adds_one}
use Rattle.suggest.proofs.candidates.try_byte.Goals as goal

pub returns-in-Some-clause-tried : goal.returns-in-Some-clause-tried
returns-in-Some-clause-tried c = let a = c.args in
    let f : SFits w64 c.in-Some.nanos = search rules in
    record {
      one = omega arith;
      adds = λ h.
          rw (← seen_same max_bytes_literal_length a.text.now (omega arith), ← c.see_around.ensures, c.in-Some.is, c.add.ensures.counted)
          (adds_one c.in-Some.nanos a.offset a.byte (rw (to_z-of_z w64 c.in-Some.nanos f) at c.add.ensures.added));
    }

pub returns-in_default-clause-tried : goal.returns-in_default-clause-tried
returns-in_default-clause-tried c = let a = c.args in
    record {
      one = omega arith;
      adds = λ h. rw (← seen_same max_bytes_literal_length a.text.now (omega arith), ← c.see_around.ensures, c.in_default.is) adds_none;
    }
