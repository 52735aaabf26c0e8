-- What parsing an image's header answers. The private functions alone speak of it; no public contract does.
--     header_of b       what the header of the image b says
--     IsHeaderOf b r    r is what the header says where checks 1 to 5 pass, and otherwise the refusal of the first that fails
use Rattle.std.specs.Prelude.{ℕ, ◌≡◌, List, Result, MatchResult}
use Rattle.model.specs.declared.Refusal.{Refusal}
use Rattle.model.specs.Refusals.{passes, refuses}
use Rattle.model.specs.Image.{header, limits_of, events, offset, whole}
use Rattle.reader.specs.declared.image.Header.{Header}

abbrev pub header_of : List ℕ → Header
header_of b = record { limits = limits_of b; events = events b; offset = offset b; whole = whole b }

abbrev pub IsHeaderOf : List ℕ → Result Header Refusal → Type 0
IsHeaderOf b r = MatchResult r (λ h. (header b ≡ passes) × (h ≡ header_of b)) (λ e. header b ≡ refuses e)
