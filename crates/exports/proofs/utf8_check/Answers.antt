-- `utf8_check` meets its contract: the verdict says where the valid prefix ends. Assumes nothing.
use Rattle.utf8.proofs.Valid.{whole_end_lem, ill_end}
use Rattle.exports.proofs.utf8_check.Goals as goal

pub returns-in-Ok : goal.returns-in-Ok
returns-in-Ok c = search whole_end_lem

pub returns-in-Err : goal.returns-in-Err
returns-in-Err c = search ill_end
