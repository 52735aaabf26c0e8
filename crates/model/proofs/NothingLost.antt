-- Nothing is lost by searching kept rows alone, for every rule that has its test.
--     chains_every, _only, _rising     the list of chains made of chosen rows: each of them, nothing else, in order
--     chains_exact, chains_none        made of all rows: the chains of the table
--     Safe R ds f      the rows that pass f are enough: each row of each chain passes
--     safe_chains, complete_chains, same_chains, no_more_steps, full_begins, complete_exact, none_means_none     what is so of every safe choice of rows
--     kept_safe        the kept rows of a well-formed table are a safe choice
--     nothing_lost     so `NothingLost` holds
--     short_chains, short_exact        the short search, complete, lists the chains of the whole table
use Rattle.std.proofs.Common.{ℕ, ◌≤◌, ◌<◌, arith, ◌≡◌, sym, ap, subst, ◌∙◌, Bool, true, ◌↔◌, List, [], length}
use Rattle.laws.specs.Lists.{In, Pairwise, all, filter, Begins}
use Rattle.laws.specs.Sets.{Rising}
use Rattle.laws.proofs.Tests.{tells_itself}
use Rattle.laws.proofs.Lists.{in_filter, filter_in, filter_under, in_none, length_filter, flat_begins, in_below, below_in, below_rising, tells_all, pairwise_filter}
use Rattle.model.specs.Rows.{Dependency, row, WellFormed}
use Rattle.model.specs.Kept.{kept}
use Rattle.model.specs.Runs.{Rule, Decides, closed, Chain, Before, Within, runs, all_rows}
use Rattle.model.specs.Answer.{complete, walk}
use Rattle.model.specs.Searches.{chains_of, search, full, short, NothingLost}
use Rattle.model.proofs.Runs.{tells_closed}
use Rattle.model.proofs.Listed.{runs_every, runs_only, runs_rising, runs_filter}
use Rattle.model.proofs.Chains.{chain_rows_kept}
use Rattle.model.proofs.Walks.{walk_complete, walk_fewer}

abbrev pub Safe : Rule → List Dependency → (ℕ → Bool) → Type 0
Safe R ds f = (p : List ℕ) → Chain R ds p → (i : ℕ) → In i p → f i ≡ true

-- ---- the chains made of chosen rows

pub chains_rising : (R : Rule) (ds : List Dependency) (us : List ℕ) → Rising us → Pairwise Before (chains_of R ds us)
chains_rising R ds us h = pairwise_filter Before (closed ds) (runs R ds us) (runs_rising R ds us h)

module _ (R : Rule) (D : Decides R) (ds : List Dependency) where
  pub chains_every : (us : List ℕ) (p : List ℕ) → Chain R ds p → Within us p → In p (chains_of R ds us)
  chains_every us p c h = in_filter (closed ds) p (runs R ds us) (runs_every R D ds us p c.run h) ((tells_closed ds p).1 c.closed)

  pub chains_only : (us : List ℕ) → ((i : ℕ) → In i us → i < length ds) → (p : List ℕ) → In p (chains_of R ds us) → (Chain R ds p) × (Within us p)
  chains_only us b p h =
      let w = filter_in (closed ds) p (runs R ds us) h in
      let v = runs_only R D ds us b p w.0 in
      (record { run = v.0; closed = (tells_closed ds p).0 w.1 }, v.1)

  -- ---- those made of all rows

  all_below : (i : ℕ) → In i (all_rows ds) → i < length ds
  all_below i = below_in i (length ds)

  pub chains_exact : (p : List ℕ) → In p (chains_of R ds (all_rows ds)) ↔ Chain R ds p
  chains_exact p = (
    λ h. (chains_only (all_rows ds) all_below p h).0,
    λ c. chains_every (all_rows ds) p c (λ i h. in_below i (length ds) (c.run.stands.rows i h)),
  )

  pub chains_none : (chains_of R ds (all_rows ds) ≡ []) ↔ ((p : List ℕ) → Chain R ds p → ⊥)
  chains_none = (
    λ e p c. subst (λ (l : List (List ℕ)). In p l) e ((chains_exact p).1 c),
    λ h. in_none (chains_of R ds (all_rows ds)) (λ p i. h p ((chains_exact p).0 i)),
  )

  -- ---- any safe choice of rows

  module _ (lay : List ℕ → List ℕ) (f : ℕ → Bool) (safe : Safe R ds f) where
    abbrev chosen : List ℕ
    chosen = filter f (all_rows ds)

    part : filter (all f) (runs R ds (all_rows ds)) ≡ runs R ds chosen
    part = runs_filter R D ds (all_rows ds) (below_rising (length ds)) all_below f

    closed_pass : (p : List ℕ) → In p (runs R ds (all_rows ds)) → closed ds p ≡ true → all f p ≡ true
    closed_pass p h e =
        (tells_all f (λ i. tells_itself (f i)) p).1
        (safe p (record { run = (runs_only R D ds (all_rows ds) all_below p h).0; closed = (tells_closed ds p).0 e }))

    pub safe_chains : chains_of R ds (filter f (all_rows ds)) ≡ chains_of R ds (all_rows ds)
    safe_chains = ap (filter (closed ds)) (sym part) ∙ filter_under (all f) (closed ds) (runs R ds (all_rows ds)) closed_pass

    pub complete_chains : (b room : ℕ) → (search R ds lay (filter f (all_rows ds)) b room).ending ≡ complete
        → (search R ds lay (filter f (all_rows ds)) b room).chains ≡ chains_of R ds (all_rows ds)
    complete_chains b room e = (walk_complete (closed ds) lay (runs R ds chosen) b room e).0 ∙ safe_chains

    pub same_chains : (b b' room room' : ℕ) → (full R ds lay b room).ending ≡ complete → (search R ds lay (filter f (all_rows ds)) b' room').ending ≡ complete
        → (search R ds lay (filter f (all_rows ds)) b' room').chains ≡ (full R ds lay b room).chains
    same_chains b b' room room' e e' = complete_chains b' room' e' ∙ sym (walk_complete (closed ds) lay (runs R ds (all_rows ds)) b room e).0

    pub no_more_steps : (b b' room room' : ℕ) → (full R ds lay b room).ending ≡ complete → (search R ds lay (filter f (all_rows ds)) b' room').ending ≡ complete
        → (search R ds lay (filter f (all_rows ds)) b' room').steps ≤ (full R ds lay b room).steps
    no_more_steps b b' room room' e e' =
        omega (
          arith,
          (walk_complete (closed ds) lay (runs R ds chosen) b' room' e').1,
          (walk_complete (closed ds) lay (runs R ds (all_rows ds)) b room e).1,
          length_filter (all f) (runs R ds (all_rows ds)),
          ap length part,
        )

    pub full_begins : (b room : ℕ) → Begins (full R ds lay b room).chains (search R ds lay (filter f (all_rows ds)) b room).chains
    full_begins b room =
        subst (λ (l : List (List ℕ)). Begins (full R ds lay b room).chains (walk (closed ds) lay l b room).chains) part
        (walk_fewer (closed ds) lay (all f) (runs R ds (all_rows ds)) closed_pass b b room (omega arith))

    pub complete_exact : (b room : ℕ) → (search R ds lay (filter f (all_rows ds)) b room).ending ≡ complete
        → (p : List ℕ) → In p (search R ds lay (filter f (all_rows ds)) b room).chains ↔ Chain R ds p
    complete_exact b room e p = subst (λ (l : List (List ℕ)). In p l ↔ Chain R ds p) (sym (complete_chains b room e)) (chains_exact p)

    pub none_means_none : (b room : ℕ) → (search R ds lay (filter f (all_rows ds)) b room).ending ≡ complete
        → ((search R ds lay (filter f (all_rows ds)) b room).chains ≡ []) ↔ ((p : List ℕ) → Chain R ds p → ⊥)
    none_means_none b room e = subst (λ (l : List (List ℕ)). (l ≡ []) ↔ ((p : List ℕ) → Chain R ds p → ⊥)) (sym (complete_chains b room e)) chains_none

-- ---- kept rows

pub kept_safe : (R : Rule) (ds : List Dependency) → WellFormed ds → Safe R ds (λ i. kept ds (row ds i))
kept_safe R ds wf = chain_rows_kept R ds wf

module _ (R : Rule) (D : Decides R) (ds : List Dependency) (lay : List ℕ → List ℕ) (wf : WellFormed ds) where
  pub nothing_lost : NothingLost R ds lay
  nothing_lost =
      let f : ℕ → Bool = λ i. kept ds (row ds i) in
      let safe : Safe R ds f = kept_safe R ds wf in
      record {
        same = same_chains R D ds lay f safe;
        steps = no_more_steps R D ds lay f safe;
        begins = full_begins R D ds lay f safe;
        written = λ b room. flat_begins lay (full R ds lay b room).chains (short R ds lay b room).chains (full_begins R D ds lay f safe b room);
        none = none_means_none R D ds lay f safe;
        none_full = λ b room e.
            subst (λ (l : List (List ℕ)). (l ≡ []) ↔ ((p : List ℕ) → Chain R ds p → ⊥)) (sym (walk_complete (closed ds) lay (runs R ds (all_rows ds)) b room e).0) (chains_none R D ds);
      }

  pub short_chains : (b room : ℕ) → (short R ds lay b room).ending ≡ complete → (short R ds lay b room).chains ≡ chains_of R ds (all_rows ds)
  short_chains = complete_chains R D ds lay (λ i. kept ds (row ds i)) (kept_safe R ds wf)

  pub short_exact : (b room : ℕ) → (short R ds lay b room).ending ≡ complete → (p : List ℕ) → In p (short R ds lay b room).chains ↔ Chain R ds p
  short_exact = complete_exact R D ds lay (λ i. kept ds (row ds i)) (kept_safe R ds wf)
