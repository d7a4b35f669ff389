-- `put_triple_string` stores the dedent of the raw bytes, which `find_quotes` ends. Assumes nothing.
use Rattle.triple_strings.proofs.RawParts.{put_room, put_out}
use Rattle.triple_strings.proofs.lex.put_triple_string.Goals as goal

pub put-requires : goal.put-requires
put-requires c = search put_room

pub returns : goal.returns
returns c = search put_out
