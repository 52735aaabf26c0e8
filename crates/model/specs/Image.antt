-- The trace image: what its bytes say (docs/RULES.md, "The trace image"). An image is the list of its bytes.
--     mark             the four bytes that an image begins with
--     header_size, event_size     how many bytes the header has, and an event
--     threads, locks, events, offset, whole     the header's numbers T, M, E, O and the whole length
--     within lo hi n   the test: lo ≤ n ≤ hi
--     counts_fit b, places_fit b     the tests behind checks 4 and 5. Numbers are true ones: no sum wraps
--     header b         the verdict of checks 1 to 5
--     limits_of b       T and M as the trace's limits
--     notes_of b        the recorder's notes: the bytes from 20 to O
--     event_of b        the event that six bytes write
--     events_from n b   n events, one after the other
--     events_of b       the E events from O on
use Rattle.std.specs.Prelude.{ℕ, zero, suc, ◌+◌, ◌*◌, ◌-◌, Bool, not, ◌&&◌, List, [], ◌∷◌, length, drop, eqb, leb, ltb}
use Rattle.laws.specs.Lists.{same}
use Rattle.laws.specs.Memory.{part, field}
use Rattle.model.specs.declared.Event.{Event}
use Rattle.model.specs.declared.Limits.{Limits}
use Rattle.model.specs.Rows.{widest}
use Rattle.model.specs.Refusals.{Verdict, passes, ◌if◌else◌, Short, Long, Mark, Counts, Places}

abbrev pub mark : List ℕ
mark = 0x4C ∷ 0x4B ∷ 0x54 ∷ 0x31 ∷ []

abbrev pub header_size : ℕ
header_size = 20

abbrev pub event_size : ℕ
event_size = 6

abbrev pub threads : List ℕ → ℕ
threads b = field 4 2 b

abbrev pub locks : List ℕ → ℕ
locks b = field 6 2 b

abbrev pub events : List ℕ → ℕ
events b = field 8 4 b

abbrev pub offset : List ℕ → ℕ
offset b = field 12 4 b

abbrev pub whole : List ℕ → ℕ
whole b = field 16 4 b

abbrev pub within : ℕ → ℕ → ℕ → Bool
within lo hi n = leb lo n && leb n hi

unfoldable pub counts_fit : List ℕ → Bool
counts_fit b = within 1 widest.threads (threads b) && (within 1 widest.locks (locks b) && leb (events b) 4096)

unfoldable pub places_fit : List ℕ → Bool
places_fit b = leb header_size (offset b) && (eqb (whole b) (length b) && eqb (offset b + event_size * events b) (whole b))

unfoldable pub header : List ℕ → Verdict
header b =
    Short if ltb (length b) header_size else
    Long if ltb 65536 (length b) else
    Mark if not (same (part 0 4 b) mark) else
    Counts if not (counts_fit b) else
    Places if not (places_fit b) else
    passes

abbrev pub limits_of : List ℕ → Limits
limits_of b = record { threads = threads b; locks = locks b }

unfoldable pub notes_of : List ℕ → List ℕ
notes_of b = part header_size (offset b - header_size) b

abbrev pub event_of : List ℕ → Event
event_of b = record { kind = field 0 1 b; thread = field 1 1 b; lock = field 2 2 b; site = field 4 2 b }

unfoldable pub events_from : ℕ → List ℕ → List Event
events_from zero b = []
events_from (suc n) b = event_of b ∷ events_from n (drop event_size b)

abbrev pub events_of : List ℕ → List Event
events_of b = events_from (events b) (drop (offset b) b)
