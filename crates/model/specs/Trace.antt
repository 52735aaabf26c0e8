-- What a recorded trace means: a fold of its events over what the threads hold and the rows so far (docs/RULES.md, "From events to rows").
--     acquires, releases     the tests of an event's kind (`Event` of src/lib.rt: kind, thread, lock, and a site that no rule reads)
--     State            what each thread holds, and the rows so far; `start`: before event 0
--     holds_it s e      the test: the event's thread holds the event's lock
--     elsewhere n s e  the test: another thread holds it
--     dependency s e   (t, m, H) for an acquire of m by t, with H what t holds
--     arises s e       the test: it arises, since m is not held already and H is not empty
--     refusal n s e    the verdict on event e in state s: tests 6 to 12 in order
--     acquired s p e, gave_up s e     the state after an acquire, and after a release
--     after s p e      the state after event e at position p, where it passes
--     Read             how far events were read: the verdict, its place, and the state reached
--     reads n s p es   the events es from state s and position p on. The first that is refused ends it, in the state before that event
--     trace n es       all of a trace
use Rattle.std.specs.Prelude.{ℕ, suc, Bool, not, ◌&&◌, ◌||◌, List, [], ◌∷◌, length, eqb, leb, ltb, if◌then◌else◌}
use Rattle.laws.specs.Tests.{update}
use Rattle.laws.specs.Lists.{any, below}
use Rattle.model.specs.declared.Event.{Event}
use Rattle.model.specs.declared.Limits.{Limits}
use Rattle.model.specs.Refusals.{Verdict, passes, refuses, ◌if◌else◌, Kind, Thread, Lock, Taken, Deep, NotHeld, Full}
use Rattle.model.specs.Holds.{most_held, Holding, nothing, locks, holds, taken, released}
use Rattle.model.specs.Rows.{Dependency, Row, full_for, arose}

abbrev pub acquires : Event → Bool
acquires e = eqb e.kind 1

abbrev pub releases : Event → Bool
releases e = eqb e.kind 2

pub record State : Type 0 where
  pub held : ℕ → Holding
  pub rows : List Row

abbrev pub start : State
start = record { held = λ t. nothing; rows = [] }

abbrev pub holds_it : State → Event → Bool
holds_it s e = holds e.lock (s.held e.thread)

abbrev pub elsewhere : Limits → State → Event → Bool
elsewhere n s e = any (λ u. not (eqb u e.thread) && holds e.lock (s.held u)) (below n.threads)

abbrev pub dependency : State → Event → Dependency
dependency s e = record { thread = e.thread; wanted = e.lock; held = locks (s.held e.thread) }

abbrev pub arises : State → Event → Bool
arises s e = not (holds_it s e) && ltb 0 (length (locks (s.held e.thread)))

unfoldable pub refusal : Limits → State → Event → Verdict
refusal n s e =
    Kind if not (acquires e || releases e) else
    Thread if leb n.threads e.thread else
    Lock if leb n.locks e.lock else
    Taken if acquires e && elsewhere n s e else
    Deep if acquires e && (not (holds_it s e) && leb most_held (length (locks (s.held e.thread)))) else
    NotHeld if releases e && not (holds_it s e) else
    Full if acquires e && (arises s e && full_for (dependency s e) s.rows) else
    passes

abbrev pub acquired : State → ℕ → Event → State
acquired s p e =
    record {
      held = update s.held e.thread (taken e.lock (s.held e.thread));
      rows = if arises s e then arose (dependency s e) p s.rows else s.rows;
    }

abbrev pub gave_up : State → Event → State
gave_up s e = record { held = update s.held e.thread (released e.lock (s.held e.thread)); rows = s.rows }

unfoldable pub after : State → ℕ → Event → State
after s p e = if acquires e then acquired s p e else if releases e then gave_up s e else s

pub record Read : Type 0 where
  pub verdict : Verdict
  pub place : ℕ
  pub state : State

unfoldable pub reads : Limits → State → ℕ → List Event → Read
reads n s p [] = record { verdict = passes; place = 0; state = s }
reads n s p (e ∷ es) =
    elim (refusal n s e) [
      | passes ↦ reads n (after s p e) (suc p) es
      | refuses r ↦ record { verdict = refuses r; place = p; state = s }
    ]

abbrev pub trace : Limits → List Event → Read
trace n es = reads n start 0 es
