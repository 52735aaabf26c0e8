-- A set of numbers: the one list of them that rises. `proofs/Sets.antt` shows that it is one: who is in after each change, that a rising list
-- stays rising, and that the order of putting in is forgotten.
--     Rising xs       each number is above all those before it
--     has m xs        the test: m is in
--     insert m xs     m, which is not in, put in
--     remove m xs     m taken out
use Rattle.std.specs.Prelude.{ℕ, ◌<◌, Bool, not, List, [], ◌∷◌, eqb, ltb, if◌then◌else◌}
use Rattle.laws.specs.Lists.{Pairwise, any, filter}

abbrev pub Rising : List ℕ → Type 0
Rising xs = Pairwise ◌<◌ xs

abbrev pub has : ℕ → List ℕ → Bool
has m xs = any (eqb m) xs

unfoldable pub insert : ℕ → List ℕ → List ℕ
insert m [] = m ∷ []
insert m (x ∷ xs) = if ltb m x then m ∷ x ∷ xs else x ∷ insert m xs

abbrev pub remove : ℕ → List ℕ → List ℕ
remove m xs = filter (λ x. not (eqb m x)) xs
