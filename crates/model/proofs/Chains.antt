-- A chain: how long it is, what extends it, and that all its rows are kept. For any rule.
--     chain_two        it has two rows at least
--     stands_few       and 32 at most, as has whatever stands; stands_run: so the bound of `Run` cuts nothing off
--     chain_ends       nothing extends a chain whose rows have disjoint sets
--     WantedBy ds p    the locks that the rows of p want
--     chain_tied       they are a tied set, for a chain p
--     chain_kept       so each of its rows is kept by every set that has the tied sets within
--     chain_rows_kept  each of its rows passes the test; chain_in_kept: so it stands in the list of kept rows
use Rattle.std.proofs.Common.{ℕ, ◌≤◌, ◌<◌, arith, ◌≡◌, refl, sym, subst, true, inl, inr, ⊎_elim, List, [], ◌∷◌, ◌++◌, length}
use Rattle.laws.specs.Lists.{In}
use Rattle.laws.proofs.Lists.{distinct_few}
use Rattle.model.specs.Rows.{Dependency, row, WellFormed}
use Rattle.model.specs.Tied.{Tied, Kept}
use Rattle.model.specs.Kept.{K, kept, kept_rows}
use Rattle.model.specs.Runs.{most_run, Rule, Disjoint, Differ, Feeds, Stands, Run, Chain, last, Within}
use Rattle.model.proofs.Rows.{row_in}
use Rattle.model.proofs.Kept.{K_largest, tells_kept, in_kept}
use Rattle.model.proofs.Runs.{last_in, linked_both, linked_back, linked_on, stands_fits}

-- the locks that the rows of p want
abbrev pub WantedBy : List Dependency → List ℕ → ℕ → Type 0
WantedBy ds p m = (j : ℕ) × In j p × ((row ds j).wanted ≡ m)

module _ (R : Rule) (ds : List Dependency) (wf : WellFormed ds) where
  -- a row does not hold what it wants
  not_own : (i : ℕ) → i < length ds → Feeds ds i i → ⊥
  not_own i h = (wf.fair (row ds i) (row_in ds i h)).other

  pub chain_two : (p : List ℕ) → Chain R ds p → 2 ≤ length p
  chain_two [] c = absurd c.closed
  chain_two (f ∷ []) c = absurd (not_own f (c.run.stands.rows f (inl refl)) c.closed)
  chain_two (f ∷ g ∷ p) c = omega arith

  -- threads are below 32 and all differ
  pub stands_few : (p : List ℕ) → Stands R ds p → length p ≤ most_run
  stands_few p s = distinct_few (λ i. (row ds i).thread) most_run p s.threads (λ i h. (wf.fair (row ds i) (row_in ds i (s.rows i h))).thread)

  pub stands_run : (p : List ℕ) → 1 ≤ length p → Stands R ds p → Run R ds p
  stands_run p h s = record { some = h; few = stands_few p s; stands = s }

  -- around a chain: what a row wants the next one holds, which is of another thread
  before_it : (f g : ℕ) (p : List ℕ) → Chain R ds (f ∷ g ∷ p) → (j : ℕ) → In j (f ∷ g ∷ p) → (i : ℕ) × In i (f ∷ g ∷ p) × Feeds ds i j
  before_it f g p c j (inl e) = (last g p, inr (last_in g p), subst (Feeds ds (last g p)) (sym e) c.closed)
  before_it f g p c j (inr h) = linked_back (Feeds ds) f (g ∷ p) c.run.stands.link j h

  after_it : (f g : ℕ) (p : List ℕ) → Chain R ds (f ∷ g ∷ p) → (j : ℕ) → In j (f ∷ g ∷ p) → (k : ℕ) × In k (f ∷ g ∷ p) × ((Feeds ds j k) × (Differ ds j k))
  after_it f g p c j h =
      ⊎_elim
      (λ e. (f, inl refl, subst (λ (i : ℕ). (Feeds ds i f) × (Differ ds i f)) (sym e) (c.closed, λ z. s.threads.0 (last g p) (last_in g p) (sym z))))
      (λ w. (w.0, inr w.1, w.2))
      (linked_on (λ a b. (Feeds ds a b) × (Differ ds a b)) f (g ∷ p) (linked_both (Feeds ds) (Differ ds) (f ∷ g ∷ p) s.link s.threads) j h)
    where
      s : Stands R ds (f ∷ g ∷ p)
      s = c.run.stands

  pub chain_tied : (p : List ℕ) → Chain R ds p → Tied ds (WantedBy ds p)
  chain_tied [] c m w = absurd c.closed
  chain_tied (f ∷ []) c m w = absurd (not_own f (c.run.stands.rows f (inl refl)) c.closed)
  chain_tied (f ∷ g ∷ p) c m w =
      let j = w.0 in
      let b = before_it f g p c j w.1 in
      let a = after_it f g p c j w.1 in
      record {
        asker = row ds j;
        asks = row_in ds j (c.run.stands.rows j w.1);
        wants = w.2;
        lock = (row ds b.0).wanted;
        locked = b.2;
        within = (b.0, b.1, refl);
        holder = row ds a.0;
        stands = row_in ds a.0 (c.run.stands.rows a.0 a.1);
        holds = subst (λ (k : ℕ). In k (row ds a.0).held) w.2 a.2.0;
        follows = (a.0, a.1, refl);
        differ = a.2.1;
      }

  pub chain_kept : (K : ℕ → Type 0) → ((S : ℕ → Type 0) → Tied ds S → (m : ℕ) → S m → K m) → (p : List ℕ) → Chain R ds p → (j : ℕ) → In j p → Kept K (row ds j)
  chain_kept K most [] c j h = absurd h
  chain_kept K most (f ∷ []) c j h = absurd (not_own f (c.run.stands.rows f (inl refl)) c.closed)
  chain_kept K most (f ∷ g ∷ p) c j h =
      let b = before_it f g p c j h in
      let into = most (WantedBy ds (f ∷ g ∷ p)) (chain_tied (f ∷ g ∷ p) c) in
      record { wanted = into (row ds j).wanted (j, h, refl); lock = (row ds b.0).wanted; locked = b.2; within = into (row ds b.0).wanted (b.0, b.1, refl) }

  pub chain_rows_kept : (p : List ℕ) → Chain R ds p → (j : ℕ) → In j p → kept ds (row ds j) ≡ true
  chain_rows_kept p c j h = (tells_kept ds (row ds j)).1 (chain_kept (λ m. In m (K ds)) (K_largest ds).every p c j h)

  pub chain_in_kept : (p : List ℕ) → Chain R ds p → Within (kept_rows ds) p
  chain_in_kept p c j h = in_kept ds j (c.run.stands.rows j h) (chain_rows_kept p c j h)

-- no row can follow a chain whose rows have disjoint sets: it would hold what the first row holds
pub chain_ends : (R : Rule) (ds : List Dependency) → ((d e : Dependency) → R.Beside d e → Disjoint d e) → (p : List ℕ) (i : ℕ) (r : List ℕ) → Chain R ds p → Stands R ds (p ++ (i ∷ r)) → ⊥
chain_ends R ds disjoint [] i r c s = c.closed
chain_ends R ds disjoint (f ∷ p) i r c s =
    let w = stands_fits R ds (f ∷ p) i r s in
    disjoint (row ds f) (row ds i) (w.1 f (inl refl)).1 ((row ds (last f p)).wanted, c.closed, w.2)
