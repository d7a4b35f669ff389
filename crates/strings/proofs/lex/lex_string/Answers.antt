-- `lex_string` is `lex_string`: the mode decides. Assumes nothing.
use Rattle.utf8.proofs.Valid.{octets_valid}
use Rattle.strings.proofs.Judges.{judged_strict, judged_tolerant, notes_fit}
use Rattle.strings.proofs.lex.lex_string.Goals as goal

pub invariant_of-measure : goal.invariant_of-measure
invariant_of-measure c = record { not_empty = c.requires.0; well_formed = octets_valid c.requires.1 }

pub overflow_add-m : goal.overflow_add-m
overflow_add-m c = search notes_fit

pub returns-in-Strict : goal.returns-in-Strict
returns-in-Strict c = search judged_strict

pub returns-in-Tolerant : goal.returns-in-Tolerant
returns-in-Tolerant c = search judged_tolerant
