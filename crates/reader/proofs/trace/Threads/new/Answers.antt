-- Before the first event: nobody holds anything, and there are no rows.
use Rattle.std.proofs.Common.{◌∙◌}
use Rattle.std.proofs.lemmas.List.{get_or-replicate}
use Rattle.reader.proofs.Owners.{owned_start}
use Rattle.reader.proofs.trace.Threads.new.Goals as goal

pub returns-clause-start : goal.returns-clause-start
returns-clause-start c = λ t₀ rows T. record { rows = T; owned = owned_start; held = λ d t l. get_or-replicate 32 t c.none.result d l ∙ c.none.ensures }
