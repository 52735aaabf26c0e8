-- What reading a trace gives, over all its events.
--     reads_end, _on, _stop    one event at a time
--     reads_sound              every state that is reached is sound
--     trace_well_formed        the rows of a trace make a well-formed table
--     reads_more, reads_append a trace and what is added to it
--     trace_longer             the rows of a longer trace begin with the rows of a shorter one, in all but occurrences
--     trace_cut                a refusal at an event leaves what the trace cut before that event leaves
use Rattle.std.proofs.Common.{ℕ, suc, ◌+◌, ◌≤◌, ◌<◌, arith, ◌≡◌, refl, sym, ap, ◌∙◌, Bool, true, false, List, [], ◌∷◌, ◌++◌, map, length, take, if◌then◌else◌}
use Rattle.std.proofs.lemmas.List.{length-map}
use Rattle.laws.specs.Lists.{Begins}
use Rattle.laws.proofs.Lists.{map_in, map_append, begins_itself, begins_longer, begins_through}
use Rattle.model.specs.declared.Event.{Event}
use Rattle.model.specs.declared.Limits.{Limits}
use Rattle.model.specs.Refusals.{Refusal, Verdict, passes, refuses}
use Rattle.model.specs.Rows.{widest, Dependency, Row, new_row, arose, deps, placed, Fair, WellFormed}
use Rattle.model.specs.Trace.{acquires, releases, State, start, dependency, arises, refusal, acquired, gave_up, after, Read, reads, trace}
use Rattle.model.proofs.Refusals.{refuses_passes}
use Rattle.model.proofs.Rows.{Arose, repeats, begins, arose_either, placed_counted}
use Rattle.model.proofs.Sound.{Sound, sound_start, sound_after}

-- ---- one event at a time

pub reads_end : (n : Limits) (s : State) (p : ℕ) → reads n s p [] ≡ record { verdict = passes; place = 0; state = s }
unfolding reads
reads_end n s p = refl

module _ (n : Limits) (s : State) (p : ℕ) (e : Event) (es : List Event) where
  pub reads_on : refusal n s e ≡ passes → reads n s p (e ∷ es) ≡ reads n (after s p e) (suc p) es
  unfolding reads
  reads_on q = rw (q, reads)

  pub reads_stop : (r : Refusal) → refusal n s e ≡ refuses r → reads n s p (e ∷ es) ≡ record { verdict = refuses r; place = p; state = s }
  unfolding reads
  reads_stop r q = rw (q, reads)

-- a verdict, with what it says
pub data Way (v : Verdict) : Type 0 where
  on : v ≡ passes → Way v
  stop : (r : Refusal) → v ≡ refuses r → Way v

pub way : (v : Verdict) → Way v
way passes = on refl
way (refuses r) = stop r refl

-- ---- sound states

-- after how many events of es, from position p on
pub reads_sound : (n : Limits) (p : ℕ) (s : State) (es : List Event) → Sound n p s → (q : ℕ) × (q ≤ p + length es) × Sound n q (reads n s p es).state
reads_sound n p s [] S = (p, omega arith, rw (reads_end n s p) S)
reads_sound n p s (e ∷ es) S = go (way (refusal n s e)) (λ q. reads_sound n (suc p) (after s p e) es (sound_after n p s e S q))
  where
    go : Way (refusal n s e) → (refusal n s e ≡ passes → (q : ℕ) × (q ≤ suc p + length es) × Sound n q (reads n (after s p e) (suc p) es).state) → (q : ℕ) × (q ≤ p + suc (length es)) × Sound n q (reads n s p (e ∷ es)).state
    go (on q) ih = let w = ih q in (w.0, omega (arith, w.1), rw (reads_on n s p e es q) w.2)
    go (stop r q) ih = (p, omega arith, rw (reads_stop n s p e es r q) S)

fair_wider : (n : Limits) (d : Dependency) → n.threads ≤ widest.threads → n.locks ≤ widest.locks → Fair n d → Fair widest d
fair_wider n d t m f =
    record {
      thread = omega (arith, f.thread);
      wanted = omega (arith, f.wanted);
      locks = λ k i. omega (arith, f.locks k i);
      some = f.some;
      few = f.few;
      rising = f.rising;
      other = f.other;
    }

pub trace_well_formed : (n : Limits) (es : List Event) → n.threads ≤ widest.threads → n.locks ≤ widest.locks → WellFormed (deps (trace n es).state.rows)
trace_well_formed n es t m =
    let S = (reads_sound n 0 start es (sound_start n)).2.rows in
    record {
      few = rw (length-map (trace n es).state.rows (λ (r : Row). r.what)) S.few;
      fair = λ d i. let w = map_in (λ (r : Row). r.what) d (trace n es).state.rows i in rw w.2 (fair_wider n w.0.what t m (S.each w.0 w.1).fair);
      apart = S.apart;
    }

-- ---- longer traces

arose_begins : (d : Dependency) (p : ℕ) (rs : List Row) → Begins (map placed rs) (map placed (arose d p rs))
arose_begins d p rs = go (arose_either d p rs)
  where
    go : Arose d p rs → Begins (map placed rs) (map placed (arose d p rs))
    go (repeats k e) = rw (e, placed_counted d rs) (begins_itself (map placed rs))
    go (begins k e) = rw (e, map_append placed rs (new_row d p ∷ [])) (begins_longer (map placed rs) (map placed (new_row d p ∷ [])))

after_begins : (s : State) (p : ℕ) (e : Event) → Begins (map placed s.rows) (map placed (after s p e).rows)
unfolding after
after_begins s p e = go (acquires e) (releases e)
  where
    grown : (c : Bool) → Begins (map placed s.rows) (map placed (if c then arose (dependency s e) p s.rows else s.rows))
    grown true = arose_begins (dependency s e) p s.rows
    grown false = begins_itself (map placed s.rows)

    go : (a b : Bool) → Begins (map placed s.rows) (map placed (if a then acquired s p e else if b then gave_up s e else s).rows)
    go true b = grown (arises s e)
    go false true = begins_itself (map placed s.rows)
    go false false = begins_itself (map placed s.rows)

reads_begins : (n : Limits) (s : State) (p : ℕ) (es : List Event) → Begins (map placed s.rows) (map placed (reads n s p es).state.rows)
reads_begins n s p [] = rw (reads_end n s p) (begins_itself (map placed s.rows))
reads_begins n s p (e ∷ es) = go (way (refusal n s e)) (reads_begins n (after s p e) (suc p) es)
  where
    go : Way (refusal n s e) → Begins (map placed (after s p e).rows) (map placed (reads n (after s p e) (suc p) es).state.rows)
        → Begins (map placed s.rows) (map placed (reads n s p (e ∷ es)).state.rows)
    go (on q) ih =
        rw (reads_on n s p e es q)
        (begins_through (map placed s.rows) (map placed (after s p e).rows) (map placed (reads n (after s p e) (suc p) es).state.rows) (after_begins s p e) ih)
    go (stop r q) ih = rw (reads_stop n s p e es r q) (begins_itself (map placed s.rows))

-- with fs added: as before where es is refused, and on from the state reached where it passes
pub reads_more : (n : Limits) (s : State) (p : ℕ) (es fs : List Event) (r : Refusal) → (reads n s p es).verdict ≡ refuses r → reads n s p (es ++ fs) ≡ reads n s p es
reads_more n s p [] fs r h = absurd (refuses_passes r (sym h ∙ ap (λ (x : Read). x.verdict) (reads_end n s p)))
reads_more n s p (e ∷ es) fs r h = go (way (refusal n s e)) (reads_more n (after s p e) (suc p) es fs r)
  where
    go : Way (refusal n s e) → ((reads n (after s p e) (suc p) es).verdict ≡ refuses r → reads n (after s p e) (suc p) (es ++ fs) ≡ reads n (after s p e) (suc p) es)
        → reads n s p (e ∷ (es ++ fs)) ≡ reads n s p (e ∷ es)
    go (on q) ih = reads_on n s p e (es ++ fs) q ∙ ih (rw (reads_on n s p e es q) at h) ∙ sym (reads_on n s p e es q)
    go (stop x q) ih = reads_stop n s p e (es ++ fs) x q ∙ sym (reads_stop n s p e es x q)

pub reads_append : (n : Limits) (s : State) (p : ℕ) (es fs : List Event) → (reads n s p es).verdict ≡ passes → reads n s p (es ++ fs) ≡ reads n (reads n s p es).state (p + length es) fs
reads_append n s p [] fs h = let e : p ≡ p + 0 = omega arith in rw (reads_end n s p, ← e)
reads_append n s p (e ∷ es) fs h = go (way (refusal n s e)) (reads_append n (after s p e) (suc p) es fs)
  where
    go : Way (refusal n s e) → ((reads n (after s p e) (suc p) es).verdict ≡ passes → reads n (after s p e) (suc p) (es ++ fs) ≡ reads n (reads n (after s p e) (suc p) es).state (suc p + length es) fs)
        → reads n s p (e ∷ (es ++ fs)) ≡ reads n (reads n s p (e ∷ es)).state (p + suc (length es)) fs
    go (on q) ih =
        let k : suc p + length es ≡ p + suc (length es) = omega arith in
        reads_on n s p e (es ++ fs) q ∙ ih (rw (reads_on n s p e es q) at h) ∙ rw (reads_on n s p e es q, k)
    go (stop r q) ih = absurd (refuses_passes r (sym (ap (λ (x : Read). x.verdict) (reads_stop n s p e es r q)) ∙ h))

pub trace_longer : (n : Limits) (es fs : List Event) → Begins (map placed (trace n es).state.rows) (map placed (trace n (es ++ fs)).state.rows)
trace_longer n es fs = go (way (trace n es).verdict)
  where
    go : Way (trace n es).verdict → Begins (map placed (trace n es).state.rows) (map placed (trace n (es ++ fs)).state.rows)
    go (on q) = rw (reads_append n start 0 es fs q) (reads_begins n (trace n es).state (0 + length es) fs)
    go (stop r q) = rw (reads_more n start 0 es fs r q) (begins_itself (map placed (trace n es).state.rows))

-- ---- a refusal at an event

-- where it was refused, and what was read until then
pub record Refused (n : Limits) (s : State) (p : ℕ) (es : List Event) (r : Refusal) : Type 0 where
  pub number : ℕ
  pub within : number < length es
  pub place : (reads n s p es).place ≡ p + number
  pub before : reads n s p (take number es) ≡ record { verdict = passes; place = 0; state = (reads n s p es).state }

pub reads_cut : (n : Limits) (s : State) (p : ℕ) (es : List Event) (r : Refusal) → (reads n s p es).verdict ≡ refuses r → Refused n s p es r
reads_cut n s p [] r h = absurd (refuses_passes r (sym h ∙ ap (λ (x : Read). x.verdict) (reads_end n s p)))
reads_cut n s p (e ∷ es) r h = go (way (refusal n s e)) (reads_cut n (after s p e) (suc p) es r)
  where
    go : Way (refusal n s e) → ((reads n (after s p e) (suc p) es).verdict ≡ refuses r → Refused n (after s p e) (suc p) es r) → Refused n s p (e ∷ es) r
    go (on q) ih =
        let w = ih (rw (reads_on n s p e es q) at h) in
        record {
          number = suc w.number;
          within = omega (arith, w.within);
          place = ap (λ (x : Read). x.place) (reads_on n s p e es q) ∙ omega (arith, w.place);
          before = reads_on n s p e (take w.number es) q ∙ w.before ∙ rw (reads_on n s p e es q);
        }
    go (stop x q) ih =
        record {
          number = 0;
          within = omega arith;
          place = ap (λ (y : Read). y.place) (reads_stop n s p e es x q) ∙ omega arith;
          before = reads_end n s p ∙ rw (reads_stop n s p e es x q);
        }

pub trace_cut : (n : Limits) (es : List Event) (r : Refusal) → (trace n es).verdict ≡ refuses r
    → ((trace n es).place < length es) × (trace n (take (trace n es).place es) ≡ record { verdict = passes; place = 0; state = (trace n es).state })
trace_cut n es r h =
    let w = reads_cut n start 0 es r h in
    let e : (trace n es).place ≡ w.number = omega (arith, w.place) in
    (omega (arith, w.within), rw e w.before)
