-- The key is copied, then the two words after it are set.
use Rattle.std.proofs.Common.{arith, rules}
use Rattle.reader.proofs.Tables.{put_words}
use Rattle.reader.proofs.table.put.Goals as goal

pub returns : goal.returns
returns c = put_words c.args.table.now c.args.key.now c.args.at c.args.place _ _ c.copy_from_slice.ensures.after (omega arith) (search rules) c.requires
