-- All events, one after the other.
--     events_are       the events that bytes write, six by six
--     Runs             p events have been read, and `left` are the others: the working memory has the state that is reached, and the events left decide
--     runs_on      after each event that passes
--     runs_can_count   what a step relies on
--     runs_stop, runs_end      the answer at a refusal, and at the end
use Rattle.std.proofs.Common.{ℕ, zero, suc, ◌+◌, ◌*◌, ◌/◌, ◌≤◌, ◌<◌, ◌≡◌, refl, sym, ap, ◌∙◌, List, [], ◌∷◌, map, length, get_or, take, drop, length-drop, length-take-le, drop-cons, arith, add-one, Ok, Err, Result, drop_of_length-le, take-append-drop}
use Rattle.std.specs.Simd.{first_chunks}
use Rattle.laws.specs.Memory.{field, little}
use Rattle.laws.proofs.Memory.{part_first}
use Rattle.model.specs.declared.Event.{Event}
use Rattle.model.specs.declared.Limits.{Limits}
use Rattle.model.specs.declared.Refusal.{Refusal}
use Rattle.model.specs.Refusals.{passes, refuses, number, number_of}
use Rattle.model.specs.Image.{event_size, event_of, events_from}
use Rattle.model.specs.Reading.{outcome, answer_of, told}
use Rattle.model.specs.Table.{row_size}
use Rattle.model.specs.Trace.{State, after, Read, reads, trace}
use Rattle.model.proofs.Sound.{Sound, sound_after}
use Rattle.model.proofs.Traces.{reads_end, reads_on, reads_stop}
use Rattle.reader.specs.declared.table.Rows.{Rows}
use Rattle.reader.specs.declared.trace.Threads.{Threads}
use Rattle.reader.specs.Working.{CanCount, Tabled, Stands, stepped, Did, DidStep}
use Rattle.reader.proofs.Tables.{split, split_in, times_there}

-- ---- six bytes are an event

module _ (b : List ℕ) (h : 6 ≤ length b) where
  six : length (take 6 b) ≡ 6
  six = length-take-le 6 b h

  same_field : (at n : ℕ) → at + n ≤ 6 → field at n (take 6 b) ≡ field at n b
  same_field at n l =
      sym (ap little (part_first (take 6 b) (drop 6 b) at n (omega (arith, six))))
      ∙ ap (field at n) (take-append-drop 6 b)

  event_first : event_of (take 6 b) ≡ event_of b
  event_first =
      λ i. record {
        kind = same_field 0 1 (omega arith) i;
        thread = same_field 1 1 (omega arith) i;
        lock = same_field 2 2 (omega arith) i;
        site = same_field 4 2 (omega arith) i;
      }

events_by_six : (n : ℕ) (b : List ℕ) → length b ≡ event_size * n → events_from n b ≡ map event_of (first_chunks 6 n b)
unfolding events_from
events_by_six zero b h = refl
events_by_six (suc n) b h =
    rw (event_first b (omega arith), events_by_six n (drop 6 b) (length-drop 6 b ∙ omega arith))

pub events_are : (b : List ℕ) (all : List (List ℕ)) → all ≡ first_chunks 6 (length b / 6) b → (n : ℕ) → length b ≡ event_size * n → events_from n b ≡ map event_of all
events_are b all q n h =
    let e : length b / 6 ≡ n = omega arith in
    events_by_six n b h ∙ ap (map event_of) (sym (q ∙ ap (λ (k : ℕ). first_chunks 6 k b) e))

-- ---- one after the other

pub record Runs (n : Limits) (all : List (List ℕ)) (t₀ : List ℕ) (p : ℕ) (x : Threads) (m : Rows) : Type 0 where
  pub limits : x.limits ≡ n
  pub state : State
  pub sound : Sound n p state
  pub stands : Stands state t₀ x m
  pub left : trace n (map event_of all) ≡ reads n state p (map event_of (drop p all))

-- the answer, and what the table holds
told_is : (r : Read) (t₀ : List ℕ) (m : Rows) (a place rows : ℕ) (ws : List ℕ) → a ≡ number r.verdict → place ≡ r.place → rows ≡ m.count → ws ≡ m.table.now → Tabled r.state.rows t₀ m
    → outcome (record { number = a; place = place; rows = rows }) ws ≡ told r t₀
told_is r t₀ m a place rows ws p q c w t = λ i. record { answer = record { number = p i; place = q i; rows = (c ∙ sym t.count) i }; table = (w ∙ t.words) i }

module _ {n : Limits} {all : List (List ℕ)} {t₀ : List ℕ} {p : ℕ} {x : Threads} {m : Rows} (R : Runs n all t₀ p x m) where
  pub runs_can_count : p < 65535 → CanCount m
  runs_can_count l r h =
      let S = R.sound.rows in
      let w = split R.state.rows r (omega (arith, R.stands.rows.count)) in
      omega (
        arith,
        ap (λ (v : List ℕ). get_or v (r * row_size + 11) 0) R.stands.rows.words,
        times_there R.state.rows (λ q i. (S.each q i).fair.few) t₀ r w,
        (S.each w.row (split_in R.state.rows r w)).often,
      )

  -- the events end
  pub runs_end : length all ≤ p → (rows : ℕ) (ws : List ℕ) → rows ≡ m.count → ws ≡ m.table.now → outcome (answer_of (Ok rows)) ws ≡ told (trace n (map event_of all)) t₀
  runs_end h rows ws c w =
      rw (R.left, drop_of_length-le all h, reads_end n R.state p) (told_is (record { verdict = passes; place = 0; state = R.state }) t₀ m 0 0 rows ws refl refl c w R.stands.rows)

  -- the next event, and what a step makes of it
  module _ (h : p < length all) (e : Event) (q : e ≡ event_of (get_or all p [])) where
    next_one : trace n (map event_of all) ≡ reads n R.state p (e ∷ map event_of (drop (suc p) all))
    next_one = R.left ∙ ap (λ (es : List (List ℕ)). reads n R.state p (map event_of es)) (drop-cons all p [] h) ∙ rw (sym q)

    did : {a : Result (Unit {0}) Refusal} {y : Threads} {v : Rows} → Did x m p e a y v → DidStep n R.state p e t₀ a y v
    did D = rw R.limits at (D R.state t₀ (rw R.limits R.sound) R.stands)

    pub runs_stop : {r : Refusal} {y : Threads} {v : Rows} → Did x m p e (Err r) y v → (rows : ℕ) (ws : List ℕ) → rows ≡ v.count → ws ≡ v.table.now
        → outcome (answer_of (Err (record { refusal = r; place = p; rows = rows }))) ws ≡ told (trace n (map event_of all)) t₀
    runs_stop {r} {y} {v} D rows ws c w' =
        let w = did D in
        rw (next_one, reads_stop n R.state p e (map event_of (drop (suc p) all)) r (sym w.verdict))
        (told_is (record { verdict = refuses r; place = p; state = R.state }) t₀ v (number_of r) p rows ws refl refl c w' (rw (sym w.verdict, stepped) at w.stands.rows))

    pub runs_on : {u : Unit {0}} {y : Threads} {v : Rows} → y.limits ≡ x.limits → Did x m p e (Ok u) y v → Runs n all t₀ (p + 1) y v
    runs_on l D =
        let w = did D in
        let g = sym w.verdict in
        rw (add-one p)
        (record {
          limits = l ∙ R.limits;
          state = after R.state p e;
          sound = sound_after n p R.state e R.sound g;
          stands = rw (g, stepped) at w.stands;
          left = next_one ∙ reads_on n R.state p e (map event_of (drop (suc p) all)) g;
        })
