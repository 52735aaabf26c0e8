-- How the working memory of reading stands for the meaning of the trace. The private functions alone speak of it; no public contract does.
--     Tabled rs t₀ x       x has the rows rs, in a table that held t₀ before the call
--     CanCount x           each row can be counted once more
--     Keyed d rs           d and the rows can be told apart by their keys
--     Noted key p x a y    noting the key of a dependency makes of x what the meaning of the trace says
--     Owned held owner     for each lock one more than the thread that holds it, or 0
--     Within n e           the names of event e are within the limits n
--     names_verdict n e    the verdict on them
--     Stands s t₀ x r      the threads x and the rows r have the state s
--     stepped n s p e      the state after event e, or the same one where it is refused
--     Did x r p e a y v    a step answers what the meaning of the trace says of event e at position p, and makes the threads y of x and the rows v of r
use Rattle.std.specs.Prelude.{ℕ, suc, ◌+◌, ◌*◌, ◌≤◌, ◌<◌, ◌≡◌, List, length, get_or, eqb, leb, if◌then◌else◌, Result}
use Rattle.laws.specs.Lists.{In, Pairwise}
use Rattle.laws.specs.Memory.{over}
use Rattle.model.specs.declared.Event.{Event}
use Rattle.model.specs.declared.Limits.{Limits}
use Rattle.model.specs.declared.Refusal.{Refusal}
use Rattle.model.specs.declared.Refusal.TheVariants.{Thread, Lock, Full}
use Rattle.model.specs.Refusals.{Verdict, passes, refuses, verdict_of, ◌if◌else◌}
use Rattle.model.specs.Holds.{Holding, holds}
use Rattle.model.specs.Rows.{Dependency, Row, deps, full_for, arose}
use Rattle.model.specs.Table.{row_size, key_words, table_words}
use Rattle.model.specs.Trace.{State, refusal, after}
use Rattle.model.proofs.Sound.{Sound}
use Rattle.holds.specs.declared.Hold.{Hold}
use Rattle.holds.specs.Hold.{laid}
use Rattle.reader.specs.declared.table.Rows.{Rows}
use Rattle.reader.specs.declared.trace.Threads.{Threads}

-- ---- rows

pub record Tabled (rs : List Row) (t₀ : List ℕ) (x : Rows) : Type 0 where
  pub count : length rs ≡ x.count
  pub same : length t₀ ≡ length x.table.now
  pub words : x.table.now ≡ over (table_words rs) t₀

abbrev pub CanCount : Rows → Type 0
CanCount x = (r : ℕ) → r < x.count → get_or x.table.now (r * row_size + 11) 0 < 65535

pub record Keyed (d : Dependency) (rs : List Row) : Type 0 where
  pub this : length d.held ≤ 7
  pub each : (r : Row) → In r rs → length r.what.held ≤ 7
  pub apart : Pairwise (λ d e. d ≡ e → ⊥) (deps rs)

pub record NotedRow (d : Dependency) (p : ℕ) (rs : List Row) (t₀ : List ℕ) (a : Result (Unit {0}) Refusal) (y : Rows) : Type 0 where
  pub verdict : verdict_of a ≡ (Full if full_for d rs else passes)
  pub rows : Tabled (if full_for d rs then rs else arose d p rs) t₀ y

abbrev pub Noted : List ℕ → ℕ → Rows → Result (Unit {0}) Refusal → Rows → Type 0
Noted key p x a y = (rs : List Row) (t₀ : List ℕ) (d : Dependency) → key ≡ key_words d → Keyed d rs → Tabled rs t₀ x → NotedRow d p rs t₀ a y

-- ---- holds

pub record Owned (held : ℕ → Holding) (owner : List ℕ) : Type 0 where
  pub most : (m : ℕ) → get_or owner m 0 ≤ 32
  pub tells : (t m : ℕ) → t < 32 → m < 256 → holds m (held t) ≡ eqb (get_or owner m 0) (suc t)

-- ---- a step

pub record Within (n : Limits) (e : Event) : Type 0 where
  pub thread : e.thread < n.threads
  pub lock : e.lock < n.locks

abbrev pub names_verdict : Limits → Event → Verdict
names_verdict n e =
    Thread if leb n.threads e.thread else
    Lock if leb n.locks e.lock else
    passes

pub record Stands (s : State) (t₀ : List ℕ) (x : Threads) (r : Rows) : Type 0 where
  pub rows : Tabled s.rows t₀ r
  pub owned : Owned s.held x.owner
  pub held : (d : Hold) (t : ℕ) → t < 32 → get_or x.holds t d ≡ laid (s.held t)

abbrev pub stepped : Limits → State → ℕ → Event → State
stepped n s p e = elim (refusal n s e) [ passes ↦ after s p e | refuses r ↦ s ]

pub record DidStep (n : Limits) (s : State) (p : ℕ) (e : Event) (t₀ : List ℕ) (a : Result (Unit {0}) Refusal) (y : Threads) (v : Rows) : Type 0 where
  pub verdict : verdict_of a ≡ refusal n s e
  pub stands : Stands (stepped n s p e) t₀ y v

abbrev pub Did : Threads → Rows → ℕ → Event → Result (Unit {0}) Refusal → Threads → Rows → Type 0
Did x r p e a y v = (s : State) (t₀ : List ℕ) → Sound x.limits p s → Stands s t₀ x r → DidStep x.limits s p e t₀ a y v
