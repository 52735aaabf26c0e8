use Rattle.index.proofs.Linked.{linked_start}
use Rattle.index.proofs.Index.new.Goals as goal

pub returns-clause-indexes : goal.returns-clause-indexes
returns-clause-indexes c = linked_start
