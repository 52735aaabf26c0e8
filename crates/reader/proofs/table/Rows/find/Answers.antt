-- A row that is found is one of those in the index.
use Rattle.std.proofs.Common.{ℕ, ◌<◌, List, Option, None, Some, refl, IfSome}
use Rattle.index.specs.Index.{Found}
use Rattle.reader.proofs.table.Rows.find.Goals as goal

within : {ws key : List ℕ} {n : ℕ} (r : Option ℕ) → Found ws key n r → IfSome r (λ row. row < n)
within None F = tt
within (Some row) F = (F.some row refl).within

pub returns-clause-within : goal.returns-clause-within
returns-clause-within c = within c.find.result c.find.ensures
