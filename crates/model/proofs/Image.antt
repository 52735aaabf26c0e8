-- What is so of an image whose header passes.
--     accepted     the facts that checks 1 to 5 leave
use Rattle.std.proofs.Common.{ℕ, ◌+◌, ◌*◌, ◌≤◌, ◌≡◌, ◌∙◌, true, false, not, List, ltb-false, length, ltb}
use Rattle.std.proofs.lemmas.Bool.{not-false}
use Rattle.laws.specs.Lists.{same}
use Rattle.laws.specs.Memory.{part}
use Rattle.laws.proofs.Tests.{tells_same, tells_most, tells_and}
use Rattle.model.specs.Refusals.{passes, Short, Long, Mark, Counts, Places}
use Rattle.model.specs.Rows.{widest}
use Rattle.model.specs.Image.{mark, header_size, event_size, threads, locks, events, offset, whole, counts_fit, places_fit, header}
use Rattle.model.proofs.Refusals.{if_passes}

pub record Accepted (b : List ℕ) : Type 0 where
  pub long : header_size ≤ length b
  pub short : length b ≤ 65536
  pub few_threads : threads b ≤ widest.threads
  pub few_locks : locks b ≤ widest.locks
  pub few_events : events b ≤ 4096
  pub after : header_size ≤ offset b
  pub ends : offset b + event_size * events b ≡ length b

-- each test fails
tested : (b : List ℕ) → header b ≡ passes → (ltb (length b) header_size ≡ false) × (ltb 65536 (length b) ≡ false) × (counts_fit b ≡ true) × (places_fit b ≡ true)
unfolding header
tested b h =
    let s = if_passes Short (ltb (length b) header_size) _ h in
    let l = if_passes Long (ltb 65536 (length b)) _ s.1 in
    let m = if_passes Mark (not (same (part 0 4 b) mark)) _ l.1 in
    let c = if_passes Counts (not (counts_fit b)) _ m.1 in
    let p = if_passes Places (not (places_fit b)) passes c.1 in
    (s.0, l.0, not-false (counts_fit b) c.0, not-false (places_fit b) p.0)

pub accepted : (b : List ℕ) → header b ≡ passes → Accepted b
unfolding counts_fit places_fit
accepted b h =
    let t = tested b h in
    let k =
    (tells_and (tells_and (tells_most 1 (threads b)) (tells_most (threads b) 32))
    (tells_and (tells_and (tells_most 1 (locks b)) (tells_most (locks b) 256)) (tells_most (events b) 4096))).0 t.2 in
    let q = (tells_and (tells_most header_size (offset b)) (tells_and (tells_same (whole b) (length b)) (tells_same (offset b + event_size * events b) (whole b)))).0 t.3 in
    record {
      long = ltb-false (length b) header_size t.0;
      short = ltb-false 65536 (length b) t.1;
      few_threads = k.0.1;
      few_locks = k.1.0.1;
      few_events = k.1.1;
      after = q.0;
      ends = q.1.1 ∙ q.1.0;
    }
