-- Tied sets of locks, the largest of them, and the rows that it keeps (docs/RULES.md, "Which rows are kept"). A set of locks is S : ℕ → Type 0.
--     Ties ds S m      some row wants lock m and holds a lock of S, some row holds m and wants a lock of S, and their threads differ
--     Tied ds S        this is so of each lock of S
--     Largest ds K     K is tied, and every tied set lies within K
--     Kept K d         row d wants a lock of K and holds a lock of K
use Rattle.std.specs.Prelude.{ℕ, ◌≡◌, List}
use Rattle.laws.specs.Lists.{In}
use Rattle.model.specs.Rows.{Dependency}

pub record Ties (ds : List Dependency) (S : ℕ → Type 0) (m : ℕ) : Type 0 where
  pub asker : Dependency
  pub asks : In asker ds
  pub wants : asker.wanted ≡ m
  pub lock : ℕ
  pub locked : In lock asker.held
  pub within : S lock
  pub holder : Dependency
  pub stands : In holder ds
  pub holds : In m holder.held
  pub follows : S holder.wanted
  pub differ : asker.thread ≡ holder.thread → ⊥

abbrev pub Tied : List Dependency → (ℕ → Type 0) → Type 0
Tied ds S = (m : ℕ) → S m → Ties ds S m

pub record Largest (ds : List Dependency) (K : ℕ → Type 0) : Type 1 where
  pub tied : Tied ds K
  pub every : (S : ℕ → Type 0) → Tied ds S → (m : ℕ) → S m → K m

pub record Kept (K : ℕ → Type 0) (d : Dependency) : Type 0 where
  pub wanted : K d.wanted
  pub lock : ℕ
  pub locked : In lock d.held
  pub within : K lock
