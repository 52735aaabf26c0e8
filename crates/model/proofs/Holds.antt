-- What one thread holds after an acquire and after a release, as a set. Whoever reads a trace goes by these laws and not by the definitions.
--     tells_holds                        the test tells who is in the set
--     locks_taken_new, locks_taken_again      the set after an acquire of a lock that is not held, and of one that is
--     locks_released                     the set after a release
--     taken_swap                         the order of taking is forgotten
use Rattle.std.proofs.Common.{ℕ, ◌≡◌, refl, sym, ap, ◌∙◌, ⊎_elim, true, false}
use Rattle.laws.specs.Tests.{Tells}
use Rattle.laws.specs.Lists.{In}
use Rattle.laws.specs.Sets.{Rising, insert, remove}
use Rattle.laws.proofs.Tests.{never, fails}
use Rattle.laws.proofs.Lists.{tells_in}
use Rattle.laws.proofs.Sets.{insert_in, insert_swap}
use Rattle.model.specs.Holds.{Holding, locks, holds, taken, released}

pub tells_holds : (m : ℕ) (h : Holding) → Tells (holds m h) (In m (locks h))
tells_holds m h = tells_in m (locks h)

pub locks_taken_new : (m : ℕ) (h : Holding) → holds m h ≡ false → locks (taken m h) ≡ insert m (locks h)
unfolding taken
locks_taken_new m h e = rw e

pub locks_taken_again : (m : ℕ) (h : Holding) → holds m h ≡ true → locks (taken m h) ≡ locks h
unfolding taken
locks_taken_again m h e = rw e

pub locks_released : (m : ℕ) (h : Holding) → locks (released m h) ≡ remove m (locks h)
unfolding released
locks_released m h = refl

pub taken_swap : (a b : ℕ) (h : Holding) → Rising (locks h) → holds a h ≡ false → holds b h ≡ false → (a ≡ b → ⊥) → locks (taken a (taken b h)) ≡ locks (taken b (taken a h))
taken_swap a b h r p q n =
    both a b p q n ∙ insert_swap a b (locks h) r (λ i. never ((tells_holds a h).1 i) p) (λ i. never ((tells_holds b h).1 i) q) n ∙ sym (both b a q p (λ e. n (sym e)))
  where
    both : (c d : ℕ) → holds c h ≡ false → holds d h ≡ false → (c ≡ d → ⊥) → locks (taken c (taken d h)) ≡ insert c (insert d (locks h))
    both c d p q n =
        let e = locks_taken_new d h q in
        let f : holds c (taken d h) ≡ false = fails (tells_holds c (taken d h)) (λ i. ⊎_elim n (λ j. never ((tells_holds c h).1 j) p) (insert_in d (locks h) c (rw e at i))) in
        locks_taken_new c (taken d h) f ∙ ap (insert c) e
