-- How much there is to keep for a stock.
use Rattle.std.specs.Prelude.{◌≡◌, ℕ, ◌+◌, ◌≤◌, List, length}
use Rattle.circuit_model.specs.declared.model.Fact.{Fact}
use Rattle.environment_sets.specs.Sets.{Set}
use Rattle.environment_sets.specs.Lists.{IsRoster}
use Rattle.circuit_model.specs.Stock.{Stock, IsInLabel, IsNogood}
use Rattle.circuit_model.specs.Laws.{IsPartOf}

-- the number of pairs of a fact and an environment of its label, plus the number of nogoods
pub record IsLoad {N : Type 0} (S : Stock N) (n : ℕ) : Type 0 where
  pub pairs : List (Fact × Set N)
  pub nogoods : List (Set N)
  pub pairs_exact : IsRoster (λ p. IsInLabel S p.0 p.1) pairs
  pub nogoods_exact : IsRoster (IsNogood S) nogoods
  pub count : n ≡ length pairs + length nogoods

module _ (N : Type 0) where
  -- a part of a stock has no larger load
  abbrev pub LoadsGrow : Type 0
  LoadsGrow = (S R : Stock N) → IsPartOf N S R → (m n : ℕ) → IsLoad S m → IsLoad R n → m ≤ n
