-- `pxf_read_token` passes the answer of the reading of one token on as numbers. Assumes nothing.
use Rattle.pxf.proofs.Given.{token_fit, token_read}
use Rattle.pxf.proofs.texts.pxf_read_token.Goals as goal

pub give-requires : goal.give-requires
give-requires c = token_fit _ _ _ _ _ _ _ c.read_token-r.ensures.answer

pub returns : goal.returns
returns c = search token_read
