-- What is printed of a refusal, for a person to read: no call answers it, and no rule speaks of it.
--     text_of r           the words for the refusal r
--     at_event p r        before them the position p of the event that was refused
--     text_with p r       the words for r: with the position p, if it is a refusal at an event
--     refused_text e      the words for a refusal of reading
use Rattle.std.specs.Prelude.{ℕ, List, ◌++◌, codes, decimal}
use Rattle.model.specs.declared.Refused.{Refused}
use Rattle.model.specs.Refusals.{Refusal, Short, Long, Mark, Counts, Places, Kind, Thread, Lock, Taken, Deep, NotHeld, Full, Small, Rows}

abbrev pub text_of : Refusal → List ℕ
text_of Short = codes "the image is too short for a header"
text_of Long = codes "the image is too long"
text_of Mark = codes "the image does not begin with its mark"
text_of Counts = codes "threads, locks or events are out of range"
text_of Places = codes "the events do not lie where the header says"
text_of Kind = codes "the event neither acquires nor releases"
text_of Thread = codes "the header does not count the thread"
text_of Lock = codes "the header does not count the lock"
text_of Taken = codes "another thread holds the lock"
text_of Deep = codes "the thread holds eight locks already"
text_of NotHeld = codes "the thread does not hold the lock"
text_of Full = codes "the table is full"
text_of Small = codes "the lent memory is too short"
text_of Rows = codes "the table is not well formed"

abbrev pub at_event : ℕ → Refusal → List ℕ
at_event p r = codes "event " ++ decimal p ++ codes ": " ++ text_of r

abbrev pub text_with : ℕ → Refusal → List ℕ
text_with p Kind = at_event p Kind
text_with p Thread = at_event p Thread
text_with p Lock = at_event p Lock
text_with p Taken = at_event p Taken
text_with p Deep = at_event p Deep
text_with p NotHeld = at_event p NotHeld
text_with p Full = at_event p Full
text_with p r = text_of r

abbrev pub refused_text : Refused → List ℕ
refused_text e = text_with e.place e.refusal
