-- `Fraction::nanos` is `frac_of`: what is truncated is `product_of`, which is in range. Assumes nothing.
use Rattle.std.proofs.Common.{◌∙◌, pos_of_ne-zero}
use Rattle.go_duration.proofs.Distance.{product_range, product_nanos}
use Rattle.go_duration.proofs.DigitsRead.{frac_some, frac_none}
use Rattle.go_duration.proofs.fraction.Fraction.nanos.Goals as goal

pub returns-then-self-eq0 : goal.returns-then-self-eq0
returns-then-self-eq0 c = search frac_none

pub truncating_f64_to_u64-requires : goal.truncating_f64_to_u64-requires
truncating_f64_to_u64-requires c =
    let s = c.args.self in
    let r = product_range s.f s.kept c.args.unit _ _ _ c.nearest_u64_to_f64.ensures c.nearest_u64_to_f64-size.ensures c.scale_of.ensures
    (record { some = pos_of_ne-zero c.if-self-eq0.false; fits = s.fits; digits = s.digits }) c.requires in
    record { lower_bound = r.0; upper_bound = r.1 }

pub returns : goal.returns
returns c =
    let s = c.args.self in
    product_nanos s.f s.kept c.args.unit _ _ _ c.nearest_u64_to_f64.ensures c.nearest_u64_to_f64-size.ensures c.scale_of.ensures _
    c.truncating_f64_to_u64.ensures
    ∙ frac_some _ _ _ _ _ c.if-self-eq0.false
