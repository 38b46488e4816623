-- How many numbers have a property.
--     HowMany P n c    of the numbers below n exactly c have the property P
-- Assumes nothing.
use Rattle.std.specs.Prelude.{◌≡◌, ℕ, ◌<◌}

pub record HowMany (P : ℕ → Type 0) (n c : ℕ) : Type 0 where
  -- those that have it, c of them, in rising order
  pub number : ℕ → ℕ
  pub has : (i : ℕ) → i < c → (number i < n) × P (number i)
  pub rising : (i j : ℕ) → i < j → j < c → number i < number j
  -- and no other has it
  pub every : (k : ℕ) → k < n → P k → (i : ℕ) × (i < c) × (number i ≡ k)
