-- What a test tells, and what a test made of tests tells.
--     either               a test passes or fails
--     never                and not both
--     tells_same, _less, _most     the tests of numbers
--     tells_not, _and, _or         a test made of tests tells what is made of their propositions
--     tells_itself         a test tells that it passes
--     tells_as             a test tells whatever is equivalent to what it tells
--     fails                a test of what is not so fails
--     tells_equal          two tests of equivalent propositions are one
--     update_here, _there  a changed function at the place of the change, and elsewhere
use Rattle.std.proofs.Common.{ℕ, ◌≤◌, ◌<◌, ◌≡◌, refl, sym, ◌∙◌, Bool, true, false, not, ◌&&◌, ◌||◌, true≢false, ◌⊎◌, inl, inr, eqb, leb, ltb, eqb-true, eq-eqb, ne_eqb, ltb-true, lt-ltb, leb-true, le-leb}
use Rattle.std.proofs.lemmas.Bool.{false≢true}
use Rattle.laws.specs.Tests.{Tells, update}

pub either : (b : Bool) → (b ≡ true) ⊎ (b ≡ false)
either true = inl refl
either false = inr refl

pub never : {b : Bool} → b ≡ true → b ≡ false → ⊥
never p q = true≢false (sym p ∙ q)

pub tells_same : (a b : ℕ) → Tells (eqb a b) (a ≡ b)
tells_same a b = (eqb-true a b, eq-eqb a b)

pub tells_less : (a b : ℕ) → Tells (ltb a b) (a < b)
tells_less a b = (ltb-true a b, lt-ltb a b)

pub tells_most : (a b : ℕ) → Tells (leb a b) (a ≤ b)
tells_most a b = (leb-true a b, le-leb a b)

pub tells_itself : (b : Bool) → Tells b (b ≡ true)
tells_itself b = (λ e. e, λ e. e)

failed : (b : Bool) → not b ≡ true → b ≡ false
failed true e = sym e
failed false e = refl

passed : (b : Bool) → (b ≡ true → ⊥) → b ≡ false
passed true h = absurd (h refl)
passed false h = refl

pub fails : {b : Bool} {P : Type 0} → Tells b P → (P → ⊥) → b ≡ false
fails {b} d h = passed b (λ e. h (d.0 e))

pub tells_not : {b : Bool} {P : Type 0} → Tells b P → Tells (not b) (P → ⊥)
tells_not {b} d = (λ e p. never (d.1 p) (failed b e), λ h. rw (fails d h))

pub tells_and : {a b : Bool} {P Q : Type 0} → Tells a P → Tells b Q → Tells (a && b) (P × Q)
tells_and {a} {b} d e = (λ h. (d.0 (left a b h), e.0 (right a b h)), λ h. both (d.1 h.0) (e.1 h.1))
  where
    left : (a b : Bool) → (a && b) ≡ true → a ≡ true
    left true b h = refl
    left false b h = h

    right : (a b : Bool) → (a && b) ≡ true → b ≡ true
    right true b h = h
    right false b h = absurd (false≢true h)

    both : a ≡ true → b ≡ true → (a && b) ≡ true
    both p q = rw (p, q)

pub tells_or : {a b : Bool} {P Q : Type 0} → Tells a P → Tells b Q → Tells (a || b) (P ⊎ Q)
tells_or {a} {b} {P} {Q} d e = (λ h. down a b d e h, λ h. up h)
  where
    down : (a b : Bool) → Tells a P → Tells b Q → (a || b) ≡ true → P ⊎ Q
    down true b d e h = inl (d.0 refl)
    down false b d e h = inr (e.0 h)

    wide : (a : Bool) → b ≡ true → (a || b) ≡ true
    wide true q = refl
    wide false q = q

    up : P ⊎ Q → (a || b) ≡ true
    up (inl p) = rw (d.1 p)
    up (inr q) = wide a (e.1 q)

pub tells_as : {b : Bool} {P Q : Type 0} → Tells b P → (P → Q) → (Q → P) → Tells b Q
tells_as d f g = (λ h. f (d.0 h), λ q. d.1 (g q))

pub tells_equal : {a b : Bool} {P : Type 0} → Tells a P → Tells b P → a ≡ b
tells_equal {a} {b} {P} d e = go a b d e
  where
    go : (a b : Bool) → Tells a P → Tells b P → a ≡ b
    go true b d e = sym (e.1 (d.0 refl))
    go false true d e = d.1 (e.0 refl)
    go false false d e = refl

pub update_here : {A : Type 0} (f : ℕ → A) (t : ℕ) (x : A) (u : ℕ) → u ≡ t → update f t x u ≡ x
update_here f t x u e = rw (eq-eqb u t e)

pub update_there : {A : Type 0} (f : ℕ → A) (t : ℕ) (x : A) (u : ℕ) → (u ≡ t → ⊥) → update f t x u ≡ f u
update_there f t x u n = rw (ne_eqb u t n)
