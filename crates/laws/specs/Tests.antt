-- Tests, and what they tell.
--     Tells b P             the test b passes exactly if P holds
--     update f t x          f with x at t
use Rattle.std.specs.Prelude.{ℕ, ◌≡◌, Bool, true, eqb, if◌then◌else◌}

abbrev pub Tells : Bool → Type 0 → Type 0
Tells b P = (b ≡ true → P) × (P → b ≡ true)

abbrev pub update : {A : Type 0} → (ℕ → A) → ℕ → A → ℕ → A
update f t x u = if eqb u t then x else f u
