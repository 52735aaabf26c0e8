-- Tied sets, decided or not, and of any locks.
--     ties_wider       what ties a lock to a set ties it to any wider set
--     union_tied       a union of two tied sets is tied; unions_tied: so is one of as many as there are
--     largest_only     two largest tied sets have the same locks
use Rattle.std.proofs.Common.{ℕ, ◌⊎◌, inl, inr, List}
use Rattle.model.specs.Rows.{Dependency}
use Rattle.model.specs.Tied.{Ties, Tied, Largest}

module _ (ds : List Dependency) where
  pub ties_wider : (S R : ℕ → Type 0) → ((k : ℕ) → S k → R k) → (m : ℕ) → Ties ds S m → Ties ds R m
  ties_wider S R sub m w =
      record {
        asker = w.asker;
        asks = w.asks;
        wants = w.wants;
        lock = w.lock;
        locked = w.locked;
        within = sub w.lock w.within;
        holder = w.holder;
        stands = w.stands;
        holds = w.holds;
        follows = sub w.holder.wanted w.follows;
        differ = w.differ;
      }

  pub union_tied : (S R : ℕ → Type 0) → Tied ds S → Tied ds R → Tied ds (λ m. S m ⊎ R m)
  union_tied S R s r m (inl h) = ties_wider S (λ k. S k ⊎ R k) (λ k. inl) m (s m h)
  union_tied S R s r m (inr h) = ties_wider R (λ k. S k ⊎ R k) (λ k. inr) m (r m h)

  pub unions_tied : (I : Type 0) (S : I → ℕ → Type 0) → ((i : I) → Tied ds (S i)) → Tied ds (λ m. (i : I) × S i m)
  unions_tied I S s m h = ties_wider (S h.0) (λ k. (i : I) × S i k) (λ k x. (h.0, x)) m (s h.0 m h.1)

  pub largest_only : (K L : ℕ → Type 0) → Largest ds K → Largest ds L → (m : ℕ) → K m → L m
  largest_only K L k l = l.every K k.tied
