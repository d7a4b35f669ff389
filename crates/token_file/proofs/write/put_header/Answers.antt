-- `put_header` stores the header: mark, version and count. Assumes nothing.
use Rattle.token_file.proofs.Rows.{header_put}
use Rattle.token_file.proofs.write.put_header.Goals as goal

pub returns : goal.returns
returns c = header_put c.args.y c.args.count c.args.out.now (rw c.store.ensures at c.put_little.ensures) c.put_little-2.ensures
