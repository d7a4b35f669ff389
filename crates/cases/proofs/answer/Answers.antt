-- `answer` prints what an accepted reading counts, which lies in the buffers that it was lent.
use Rattle.reading.proofs.AnswerBounds.{text_inside, one_inside}
use Rattle.cases.proofs.answer.Goals as goal

pub print_counts-requires : goal.print_counts-requires
print_counts-requires c = text_inside c.read_text.ensures c.in-Ok.is

pub print_counts-requires-in-Ok-read_token : goal.print_counts-requires-in-Ok-read_token
print_counts-requires-in-Ok-read_token c = one_inside c.read_token.ensures c.in-Ok-read_token.is
