-- Nothing is counted twice, and nothing is left out: the rows of a trace are a tally of what arises in it.
--     Arising                 a dependency that arises, and the position of its event
--     arisings n s p es       those of the events es, in order, up to the first that is refused
--     tally rs as             the rows rs after the arisings as
--     times_of d, count_of d    how often d arose, by the rows; by the arisings
--     reads_tally             the rows of a trace are the tally of its arisings
--     trace_times             a row's occurrences are how often its dependency arises
--     trace_first             its position is that of the first such event
--     trace_rows              a dependency has a row exactly if it arises
use Rattle.std.proofs.Common.{ℕ, suc, ◌+◌, arith, ◌≡◌, refl, sym, ap, subst, ◌∙◌, Bool, true, false, ◌&&◌, ◌⊎◌, inl, inr, ⊎_elim, List, [], ◌∷◌, ◌++◌, map, if◌then◌else◌}
use Rattle.laws.specs.Lists.{In, Pairwise, cons_if}
use Rattle.laws.proofs.Tests.{either, never, fails}
use Rattle.laws.proofs.Lists.{in_map, in_append, in_left, in_right, map_append, pairwise_append}
use Rattle.model.specs.declared.Event.{Event}
use Rattle.model.specs.declared.Limits.{Limits}
use Rattle.model.specs.Refusals.{Refusal, passes, refuses}
use Rattle.model.specs.Rows.{Dependency, Row, same_dep, is_of, known, new_row, counted, arose, deps, placed}
use Rattle.model.specs.Trace.{acquires, releases, State, start, dependency, arises, refusal, acquired, gave_up, after, reads, trace}
use Rattle.model.proofs.Rows.{tells_same_dep, tells_known, Arose, repeats, begins, arose_either, deps_counted, placed_counted, counted_none}
use Rattle.model.proofs.Traces.{Way, on, stop, way, reads_end, reads_on, reads_stop}

abbrev pub Arising : Type 0
Arising = Dependency × ℕ

unfoldable pub arisings : Limits → State → ℕ → List Event → List Arising
arisings n s p [] = []
arisings n s p (e ∷ es) =
    elim (refusal n s e) [
      | passes ↦ cons_if (acquires e && arises s e) (dependency s e, p) (arisings n (after s p e) (suc p) es)
      | refuses r ↦ []
    ]

abbrev pub tally : List Row → List Arising → List Row
tally rs [] = rs
tally rs (a ∷ xs) = tally (arose a.0 a.1 rs) xs

abbrev pub times_of : Dependency → List Row → ℕ
times_of d [] = 0
times_of d (r ∷ rs) = (if is_of d r then r.times else 0) + times_of d rs

abbrev pub count_of : Dependency → List Arising → ℕ
count_of d [] = 0
count_of d (a ∷ xs) = (if same_dep d a.0 then 1 else 0) + count_of d xs

abbrev pub whats : List Arising → List Dependency
whats xs = map (λ a. a.0) xs

-- ---- the rows of a trace are a tally

module _ (n : Limits) (s : State) (p : ℕ) (e : Event) (es : List Event) where
  arisings_on : refusal n s e ≡ passes → arisings n s p (e ∷ es) ≡ cons_if (acquires e && arises s e) (dependency s e, p) (arisings n (after s p e) (suc p) es)
  unfolding arisings
  arisings_on q = rw (q, arisings)

  arisings_stop : (r : Refusal) → refusal n s e ≡ refuses r → arisings n s p (e ∷ es) ≡ []
  unfolding arisings
  arisings_stop r q = rw (q, arisings)

tally_cons_if : (b : Bool) (a : Arising) (rs : List Row) (xs : List Arising) → tally rs (cons_if b a xs) ≡ tally (if b then arose a.0 a.1 rs else rs) xs
tally_cons_if true a rs xs = refl
tally_cons_if false a rs xs = refl

rows_after : (s : State) (p : ℕ) (e : Event) → (after s p e).rows ≡ (if acquires e && arises s e then arose (dependency s e) p s.rows else s.rows)
unfolding after
rows_after s p e = go (acquires e) (releases e)
  where
    go : (a b : Bool) → (if a then acquired s p e else if b then gave_up s e else s).rows ≡ (if a && arises s e then arose (dependency s e) p s.rows else s.rows)
    go true b = refl
    go false true = refl
    go false false = refl

pub reads_tally : (n : Limits) (s : State) (p : ℕ) (es : List Event) → (reads n s p es).state.rows ≡ tally s.rows (arisings n s p es)
unfolding arisings
reads_tally n s p [] = rw (reads_end n s p)
reads_tally n s p (e ∷ es) = go (way (refusal n s e)) (reads_tally n (after s p e) (suc p) es)
  where
    go : Way (refusal n s e) → (reads n (after s p e) (suc p) es).state.rows ≡ tally (after s p e).rows (arisings n (after s p e) (suc p) es) → (reads n s p (e ∷ es)).state.rows ≡ tally s.rows (arisings n s p (e ∷ es))
    go (on q) ih =
        rw (
          reads_on n s p e es q,
          arisings_on n s p e es q,
          tally_cons_if (acquires e && arises s e) (dependency s e, p) s.rows (arisings n (after s p e) (suc p) es),
          ← rows_after s p e,
        ) ih
    go (stop r q) ih = rw (reads_stop n s p e es r q, arisings_stop n s p e es r q)

-- ---- occurrences

abbrev Apart : List Row → Type 0
Apart rs = Pairwise (λ d e. d ≡ e → ⊥) (deps rs)

times_append : (d : Dependency) (rs qs : List Row) → times_of d (rs ++ qs) ≡ times_of d rs + times_of d qs
times_append d [] qs = omega arith
times_append d (r ∷ rs) qs = omega (arith, times_append d rs qs)

-- no row of d is there
times_none : (d : Dependency) (rs : List Row) → (In d (deps rs) → ⊥) → times_of d rs ≡ 0
times_none d [] h = refl
times_none d (r ∷ rs) h = rw (fails (tells_same_dep d r.what) (λ e. h (inl e))) (omega (arith, times_none d rs (λ i. h (inr i))))

-- of another dependency
times_other : (d x : Dependency) → (d ≡ x → ⊥) → (rs : List Row) → times_of d (map (counted x) rs) ≡ times_of d rs
times_other d x n [] = refl
times_other d x n (r ∷ rs) = go (either (is_of x r)) (times_other d x n rs)
  where
    go : (is_of x r ≡ true) ⊎ (is_of x r ≡ false) → times_of d (map (counted x) rs) ≡ times_of d rs → times_of d (map (counted x) (r ∷ rs)) ≡ times_of d (r ∷ rs)
    go (inl e) ih =
        let q = (tells_same_dep x r.what).0 e in
        rw (e, fails (tells_same_dep d r.what) (λ z. n (z ∙ sym q))) (omega (arith, ih))
    go (inr e) ih = rw (e, ih)

-- of the one that arises
times_repeat : (d : Dependency) (rs : List Row) → Apart rs → In d (deps rs) → times_of d (map (counted d) rs) ≡ times_of d rs + 1
times_repeat d [] a i = absurd i
times_repeat d (r ∷ rs) a i = go (either (is_of d r)) i (times_repeat d rs a.1)
  where
    go : (is_of d r ≡ true) ⊎ (is_of d r ≡ false) → In d (deps (r ∷ rs)) → (In d (deps rs) → times_of d (map (counted d) rs) ≡ times_of d rs + 1)
        → times_of d (map (counted d) (r ∷ rs)) ≡ times_of d (r ∷ rs) + 1
    go (inl e) i ih =
        let q = (tells_same_dep d r.what).0 e in
        let z = counted_none d rs (λ j. a.0 d j (sym q)) in
        rw (e, z, e) (omega arith)
    go (inr e) (inl q) ih = absurd (never ((tells_same_dep d r.what).1 q) e)
    go (inr e) (inr j) ih = rw (e, e) (omega (arith, ih j))

times_arose : (d x : Dependency) (p : ℕ) (rs : List Row) → Apart rs → times_of d (arose x p rs) ≡ times_of d rs + (if same_dep d x then 1 else 0)
times_arose d x p rs a = go (arose_either x p rs) (either (same_dep d x))
  where
    go : Arose x p rs → (same_dep d x ≡ true) ⊎ (same_dep d x ≡ false) → times_of d (arose x p rs) ≡ times_of d rs + (if same_dep d x then 1 else 0)
    go (repeats k e) (inl q) =
        rw (e, q) (subst (λ (z : Dependency). times_of z (map (counted x) rs) ≡ times_of z rs + 1) (sym ((tells_same_dep d x).0 q)) (times_repeat x rs a ((tells_known x rs).0 k)))
    go (repeats k e) (inr q) = rw (e, q) (omega (arith, times_other d x (λ z. never ((tells_same_dep d x).1 z) q) rs))
    go (begins k e) q = rw (e, times_append d rs (new_row x p ∷ [])) (omega arith)

-- what a row says of itself
times_row : (rs : List Row) → Apart rs → (r : Row) → In r rs → times_of r.what rs ≡ r.times
times_row [] a r i = absurd i
times_row (x ∷ rs) a r (inl e) =
    let P : Row → Type 0 = λ z. times_of z.what (x ∷ rs) ≡ z.times in
    let here : P x = rw ((tells_same_dep x.what x.what).1 refl) (omega (arith, times_none x.what rs (λ j. a.0 x.what j refl))) in
    subst P (sym e) here
times_row (x ∷ rs) a r (inr i) =
    rw (fails (tells_same_dep r.what x.what) (λ e. a.0 r.what (in_map (λ (z : Row). z.what) r rs i) (sym e))) (omega (arith, times_row rs a.1 r i))

-- ---- which dependencies have a row

module _ (x : Dependency) (p : ℕ) (rs : List Row) where
  deps_new : deps (rs ++ (new_row x p ∷ [])) ≡ deps rs ++ (x ∷ [])
  deps_new = map_append (λ (r : Row). r.what) rs (new_row x p ∷ [])

  in_arose : (d : Dependency) → In d (deps (arose x p rs)) → In d (deps rs) ⊎ (d ≡ x)
  in_arose d i = go (arose_either x p rs)
    where
      last : In d (x ∷ []) → d ≡ x
      last (inl e) = e
      last (inr j) = absurd j

      go : Arose x p rs → In d (deps rs) ⊎ (d ≡ x)
      go (repeats k e) = inl (rw (e, deps_counted x rs) at i)
      go (begins k e) = ⊎_elim inl (λ j. inr (last j)) (in_append d (deps rs) (x ∷ []) (rw (e, deps_new) at i))

  arose_in : (d : Dependency) → In d (deps rs) ⊎ (d ≡ x) → In d (deps (arose x p rs))
  arose_in d i = go (arose_either x p rs) i
    where
      go : Arose x p rs → In d (deps rs) ⊎ (d ≡ x) → In d (deps (arose x p rs))
      go (repeats k e) (inl j) = rw (e, deps_counted x rs) j
      go (repeats k e) (inr q) = rw (e, deps_counted x rs) (subst (λ (z : Dependency). In z (deps rs)) (sym q) ((tells_known x rs).0 k))
      go (begins k e) (inl j) = rw (e, deps_new) (in_left d (deps rs) (x ∷ []) j)
      go (begins k e) (inr q) = rw (e, deps_new) (in_right d (deps rs) (x ∷ []) (inl q))

  apart_arose : Apart rs → Apart (arose x p rs)
  apart_arose a = go (arose_either x p rs)
    where
      differ : known x rs ≡ false → (d e : Dependency) → In d (deps rs) → In e (x ∷ []) → d ≡ e → ⊥
      differ k d e i (inl q) z = never ((tells_known x rs).1 (subst (λ (y : Dependency). In y (deps rs)) (z ∙ q) i)) k
      differ k d e i (inr j) z = j

      go : Arose x p rs → Apart (arose x p rs)
      go (repeats k e) = rw (e, deps_counted x rs) a
      go (begins k e) = rw (e, deps_new) (pairwise_append (λ d e. d ≡ e → ⊥) (deps rs) (x ∷ []) a (λ y i. absurd i, tt) (differ k))

-- ---- over all arisings

tally_apart : (rs : List Row) (xs : List Arising) → Apart rs → Apart (tally rs xs)
tally_apart rs [] a = a
tally_apart rs (x ∷ xs) a = tally_apart (arose x.0 x.1 rs) xs (apart_arose x.0 x.1 rs a)

tally_times : (d : Dependency) (rs : List Row) (xs : List Arising) → Apart rs → times_of d (tally rs xs) ≡ times_of d rs + count_of d xs
tally_times d rs [] a = omega arith
tally_times d rs (x ∷ xs) a = omega (arith, tally_times d (arose x.0 x.1 rs) xs (apart_arose x.0 x.1 rs a), times_arose d x.0 x.1 rs a)

tally_in : (d : Dependency) (rs : List Row) (xs : List Arising) → In d (deps (tally rs xs)) → In d (deps rs) ⊎ In d (whats xs)
tally_in d rs [] i = inl i
tally_in d rs (x ∷ xs) i =
    ⊎_elim (λ j. ⊎_elim inl (λ e. inr (inl e)) (in_arose x.0 x.1 rs d j)) (λ j. inr (inr j)) (tally_in d (arose x.0 x.1 rs) xs i)

in_tally : (d : Dependency) (rs : List Row) (xs : List Arising) → In d (deps rs) ⊎ In d (whats xs) → In d (deps (tally rs xs))
in_tally d rs [] (inl i) = i
in_tally d rs [] (inr i) = absurd i
in_tally d rs (x ∷ xs) (inl i) = in_tally d (arose x.0 x.1 rs) xs (inl (arose_in x.0 x.1 rs d (inl i)))
in_tally d rs (x ∷ xs) (inr (inl e)) = in_tally d (arose x.0 x.1 rs) xs (inl (arose_in x.0 x.1 rs d (inr e)))
in_tally d rs (x ∷ xs) (inr (inr i)) = in_tally d (arose x.0 x.1 rs) xs (inr i)

-- the first arising of row r's dependency among xs is at row r's position
pub record First (r : Row) (xs : List Arising) : Type 0 where
  pub earlier : List Arising
  pub later : List Arising
  pub split : xs ≡ earlier ++ (placed r ∷ later)
  pub new : In r.what (whats earlier) → ⊥

-- row r is one of rs, in all but occurrences, or came after them
abbrev Came : Row → List Row → List Arising → Type 0
Came r rs xs = In (placed r) (map placed rs) ⊎ ((In r.what (deps rs) → ⊥) × First r xs)

tally_first : (r : Row) (rs : List Row) (xs : List Arising) → In r (tally rs xs) → Came r rs xs
tally_first r rs [] i = inl (in_map placed r rs i)
tally_first r rs (x ∷ xs) i = go (arose_either x.0 x.1 rs) (tally_first r (arose x.0 x.1 rs) xs i)
  where
    last : known x.0 rs ≡ false → In (placed r) (x ∷ []) → Came r rs (x ∷ xs)
    last k (inl e) =
        inr (
          λ j. never ((tells_known x.0 rs).1 (subst (λ (z : Dependency). In z (deps rs)) (ap (λ (y : Arising). y.0) e) j)) k,
          record { earlier = []; later = xs; split = ap (λ (y : Arising). y ∷ xs) (sym e); new = λ j. j },
        )
    last k (inr j) = absurd j

    next : (In r.what (deps (arose x.0 x.1 rs)) → ⊥) → (f : First r xs) → In r.what (x.0 ∷ whats f.earlier) → ⊥
    next n f (inl e) = n (arose_in x.0 x.1 rs r.what (inr e))
    next n f (inr j) = f.new j

    go : Arose x.0 x.1 rs → Came r (arose x.0 x.1 rs) xs → Came r rs (x ∷ xs)
    go k (inr w) =
        inr (
          λ j. w.0 (arose_in x.0 x.1 rs r.what (inl j)),
          record { earlier = x ∷ w.1.earlier; later = w.1.later; split = ap (λ (l : List Arising). x ∷ l) w.1.split; new = next w.0 w.1 },
        )
    go (repeats k e) (inl j) = inl (rw (e, placed_counted x.0 rs) at j)
    go (begins k e) (inl j) = ⊎_elim inl (last k) (in_append (placed r) (map placed rs) (x ∷ []) (rw (e, map_append placed rs (new_row x.0 x.1 ∷ [])) at j))

-- ---- of a trace

abbrev pub arisings_of : Limits → List Event → List Arising
arisings_of n es = arisings n start 0 es

module _ (n : Limits) (es : List Event) where
  pub trace_times : (r : Row) → In r (trace n es).state.rows → r.times ≡ count_of r.what (arisings_of n es)
  trace_times r i =
      let xs = arisings_of n es in
      let j : In r (tally [] xs) = rw (reads_tally n start 0 es) at i in
      omega (arith, times_row (tally [] xs) (tally_apart [] xs tt) r j, tally_times r.what [] xs tt)

  pub trace_first : (r : Row) → In r (trace n es).state.rows → First r (arisings_of n es)
  trace_first r i = ⊎_elim (λ j. absurd j) (λ w. w.1) (tally_first r [] (arisings_of n es) (rw (reads_tally n start 0 es) at i))

  pub trace_rows : (d : Dependency) → (In d (deps (trace n es).state.rows) → In d (whats (arisings_of n es))) × (In d (whats (arisings_of n es)) → In d (deps (trace n es).state.rows))
  trace_rows d = rw (reads_tally n start 0 es) (λ i. ⊎_elim (λ j. absurd j) (λ j. j) (tally_in d [] (arisings_of n es) i), λ i. in_tally d [] (arisings_of n es) (inr i))
