-- `pxf_read_text` passes the answer of the whole reading on as numbers. Assumes nothing.
use Rattle.pxf.proofs.Given.{text_fit, text_read}
use Rattle.pxf.proofs.texts.pxf_read_text.Goals as goal

pub give-requires : goal.give-requires
give-requires c = text_fit _ _ _ _ _ _ c.read_text-r.ensures.answer

pub returns : goal.returns
returns c = search text_read
