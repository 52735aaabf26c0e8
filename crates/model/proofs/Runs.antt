-- The tests of runs tell what they test, and a run grows row by row.
--     plain_decides    the base's rule has its test
--     tells_closed, tells_fits     the tests of a closed run and of the next row
--     stands_none      no rows stand; stands_snoc: a row that fits stands after those that do; stands_fits: each row of what stands fits after those before it
--     last_in, linked_..       of rows next to each other
use Rattle.std.proofs.Common.{ℕ, ◌<◌, ◌≡◌, refl, sym, subst, ◌⊎◌, inl, inr, ⊎_elim, List, [], ◌∷◌, ◌++◌, length}
use Rattle.std.proofs.lemmas.Bool.{false≢true}
use Rattle.laws.specs.Tests.{Tells}
use Rattle.laws.specs.Lists.{In, Pairwise, Linked}
use Rattle.laws.specs.Sets.{has}
use Rattle.laws.proofs.Tests.{tells_same, tells_less, tells_not, tells_and, tells_as}
use Rattle.laws.proofs.Lists.{in_append, in_right, tells_any, tells_all, tells_in, pairwise_append, append_pairwise}
use Rattle.model.specs.Rows.{Dependency, row}
use Rattle.model.specs.Runs.{Rule, Decides, plain, Differ, Feeds, Stands, last, Closed, closed, apart, Fits, fits}

pub plain_decides : Decides plain
plain_decides d e = tells_not (tells_any (λ m. has m e.held) (λ m. tells_in m e.held) d.held)

pub tells_closed : (ds : List Dependency) (p : List ℕ) → Tells (closed ds p) (Closed ds p)
tells_closed ds [] = (λ h. absurd (false≢true h), λ h. absurd h)
tells_closed ds (f ∷ p) = tells_in (row ds (last f p)).wanted (row ds f).held

pub tells_fits : (R : Rule) → Decides R → (ds : List Dependency) (p : List ℕ) (i : ℕ) → Tells (fits R ds p i) (Fits R ds p i)
tells_fits R D ds [] i = (λ h. tt, λ h. refl)
tells_fits R D ds (f ∷ p) i =
    tells_as
    (tells_and (tells_less (row ds f).thread (row ds i).thread)
    (tells_and
    (tells_all (λ j. apart R ds j i)
    (λ j. tells_and (tells_not (tells_same (row ds j).thread (row ds i).thread)) (D (row ds j) (row ds i))) (f ∷ p))
    (tells_in (row ds (last f p)).wanted (row ds i).held)))
    (λ w. (w.0, w.1.0, w.1.1))
    (λ w. (w.0, (w.1, w.2)))

-- ---- rows next to each other

pub last_in : (f : ℕ) (p : List ℕ) → In (last f p) (f ∷ p)
last_in f [] = inl refl
last_in f (g ∷ p) = inr (last_in g p)

module _ (L : ℕ → ℕ → Type 0) where
  pub linked_snoc : (f : ℕ) (p : List ℕ) (i : ℕ) → Linked L (f ∷ p) → L (last f p) i → Linked L (f ∷ (p ++ (i ∷ [])))
  linked_snoc f [] i l h = (h, tt)
  linked_snoc f (g ∷ p) i l h = (l.0, linked_snoc g p i l.1 h)

  pub linked_next : (f : ℕ) (p : List ℕ) (i : ℕ) (r : List ℕ) → Linked L (f ∷ (p ++ (i ∷ r))) → L (last f p) i
  linked_next f [] i r h = h.0
  linked_next f (g ∷ p) i r h = linked_next g p i r h.1

  -- each but the first has one before it, each but the last one after it
  pub linked_back : (f : ℕ) (p : List ℕ) → Linked L (f ∷ p) → (j : ℕ) → In j p → (i : ℕ) × In i (f ∷ p) × L i j
  linked_back f [] l j h = absurd h
  linked_back f (g ∷ p) l j (inl e) = (f, inl refl, subst (L f) (sym e) l.0)
  linked_back f (g ∷ p) l j (inr h) = let w = linked_back g p l.1 j h in (w.0, inr w.1, w.2)

  pub linked_on : (f : ℕ) (p : List ℕ) → Linked L (f ∷ p) → (j : ℕ) → In j (f ∷ p) → (j ≡ last f p) ⊎ ((k : ℕ) × In k p × L j k)
  linked_on f [] l j h = ⊎_elim inl (λ z. absurd z) h
  linked_on f (g ∷ p) l j (inl e) = inr (g, inl refl, subst (λ (i : ℕ). L i g) (sym e) l.0)
  linked_on f (g ∷ p) l j (inr h) = ⊎_elim inl (λ w. inr (w.0, inr w.1, w.2)) (linked_on g p l.1 j h)

  pairwise_snoc : (p : List ℕ) (i : ℕ) → Pairwise L p → ((j : ℕ) → In j p → L j i) → Pairwise L (p ++ (i ∷ []))
  pairwise_snoc p i g c = pairwise_append L p (i ∷ []) g ((λ y h. absurd h), tt) last_of
    where
      last_of : (a b : ℕ) → In a p → In b (i ∷ []) → L a b
      last_of a b s (inl e) = subst (L a) (sym e) (c a s)
      last_of a b s (inr h) = absurd h

pub linked_both : (L Q : ℕ → ℕ → Type 0) (p : List ℕ) → Linked L p → Pairwise Q p → Linked (λ i j. (L i j) × (Q i j)) p
linked_both L Q [] l q = tt
linked_both L Q (x ∷ []) l q = tt
linked_both L Q (x ∷ y ∷ p) l q = ((l.0, q.0 y (inl refl)), linked_both L Q (y ∷ p) l.1 q.1)

pub in_snoc : (P : ℕ → Type 0) (p : List ℕ) (i : ℕ) → ((j : ℕ) → In j p → P j) → P i → (j : ℕ) → In j (p ++ (i ∷ [])) → P j
in_snoc P p i h e j m = ⊎_elim (h j) (λ k. ⊎_elim (λ z. subst P (sym z) e) (λ z. absurd z) k) (in_append j p (i ∷ []) m)

-- ---- what stands, row by row

module _ (R : Rule) (ds : List Dependency) where
  pub stands_none : Stands R ds []
  stands_none = record { rows = λ i h. absurd h; threads = tt; lowest = tt; beside = tt; link = tt }

  pub stands_fits : (p : List ℕ) (i : ℕ) (r : List ℕ) → Stands R ds (p ++ (i ∷ r)) → Fits R ds p i
  stands_fits [] i r s = tt
  stands_fits (f ∷ p) i r s = (
    s.lowest i (in_right i p (i ∷ r) (inl refl)),
    λ j h. (
      (append_pairwise (Differ ds) (f ∷ p) (i ∷ r) s.threads).2 j i h (inl refl),
      (append_pairwise (λ a b. R.Beside (row ds a) (row ds b)) (f ∷ p) (i ∷ r) s.beside).2 j i h (inl refl),
    ),
    linked_next (Feeds ds) f p i r s.link,
  )

  pub stands_snoc : (p : List ℕ) (i : ℕ) → Stands R ds p → i < length ds → Fits R ds p i → Stands R ds (p ++ (i ∷ []))
  stands_snoc [] i s u w =
      record {
        rows = in_snoc (λ j. j < length ds) [] i s.rows u;
        threads = ((λ y h. absurd h), tt);
        lowest = λ j h. absurd h;
        beside = ((λ y h. absurd h), tt);
        link = tt;
      }
  stands_snoc (f ∷ p) i s u w =
      record {
        rows = in_snoc (λ j. j < length ds) (f ∷ p) i s.rows u;
        threads = pairwise_snoc (Differ ds) (f ∷ p) i s.threads (λ j h. (w.1 j h).0);
        lowest = in_snoc (λ j. (row ds f).thread < (row ds j).thread) p i s.lowest w.0;
        beside = pairwise_snoc (λ a b. R.Beside (row ds a) (row ds b)) (f ∷ p) i s.beside (λ j h. (w.1 j h).1);
        link = linked_snoc (Feeds ds) f p i s.link w.2;
      }
