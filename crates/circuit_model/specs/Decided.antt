-- What lists, rounds and kept sets decide.
use Rattle.std.specs.Prelude.{ℕ, suc, ◌<◌, ◌↔◌, IsSome, List}
use Rattle.circuit_model.specs.declared.model.Fact.{Fact}
use Rattle.circuit_model.specs.Closure.{Holds, ClashesAt}
use Rattle.environment_sets.specs.Sets.{Set}
use Rattle.environment_sets.specs.Lists.{IsIn}
use Rattle.circuit_model.specs.Stock.{Stock, IsChosen, IsEnvironment, Has, IsRefutedBy, IsInLabel, IsNogood}
use Rattle.environment_sets.specs.Families.{IsCovered}
use Rattle.circuit_model.specs.Settled.{IsSettled, AreExact}

-- each name of the stock is below n
abbrev pub IsStockBelow : ℕ → Stock ℕ → Type 0
IsStockBelow n S = (k : ℕ) → IsSome (S k) → k < n

-- from a list of exactly a label: the closure of a consistent environment has the fact exactly where a listed set is a subset
abbrev pub ListedLabelsDecide : Type 0
ListedLabelsDecide =
    (n : ℕ) (S : Stock ℕ) → IsStockBelow n S → (f : Fact) (xs : List (Set ℕ)) → ((E : Set ℕ) → IsIn xs E ↔ IsInLabel S f E) → (E : Set ℕ) → IsEnvironment S E
    → (IsRefutedBy S E → ⊥) → Has S f E ↔ IsCovered (IsIn xs) E

-- from a list of exactly the nogoods: an environment clashes exactly where a listed set is a subset
abbrev pub ListedNogoodsDecide : Type 0
ListedNogoodsDecide =
    (n : ℕ) (S : Stock ℕ) → IsStockBelow n S → (xs : List (Set ℕ)) → ((E : Set ℕ) → IsIn xs E ↔ IsNogood S E) → (E : Set ℕ) → IsEnvironment S E → IsRefutedBy S E ↔ IsCovered (IsIn xs) E

module _ (N : Type 0) where
  -- where nothing waits, the kept lists are exactly the labels and the nogoods
  abbrev pub SettledListsAreExact : Type 0
  SettledListsAreExact =
      (S : Stock N) (kept : Fact → List (Set N)) (nogoods : List (Set N)) → IsSettled S (λ f E. IsIn (kept f) E) (λ E. IsIn nogoods E) → AreExact S (λ f E. IsIn (kept f) E) (λ E. IsIn nogoods E)

  -- the round after round n adds nothing
  abbrev pub IsLastRound : Stock N → Set N → ℕ → Type 0
  IsLastRound S E n = (f : Fact) → Holds (IsChosen S E) (suc n) f → Holds (IsChosen S E) n f

  -- the last round is the closure
  abbrev pub LastRoundsAreClosures : Type 0
  LastRoundsAreClosures = (S : Stock N) (E : Set N) (n : ℕ) → IsLastRound S E n → (f : Fact) → Has S f E ↔ Holds (IsChosen S E) n f

  -- an environment clashes exactly where it does at its last round
  abbrev pub LastRoundsDecideClashes : Type 0
  LastRoundsDecideClashes = (S : Stock N) (E : Set N) (n : ℕ) → IsLastRound S E n → IsRefutedBy S E ↔ ClashesAt (IsChosen S E) n
