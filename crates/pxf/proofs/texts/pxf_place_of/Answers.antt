-- `pxf_place_of` passes the answer of the place of an offset on as numbers. Assumes nothing.
use Rattle.pxf.proofs.Given.{place_fit, place_given}
use Rattle.pxf.proofs.texts.pxf_place_of.Goals as goal

pub give-requires : goal.give-requires
give-requires c = place_fit _ _ c.place_of-r.ensures

pub returns : goal.returns
returns c = search place_given
