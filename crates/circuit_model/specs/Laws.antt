-- Laws of closures, labels and nogoods.
use Rattle.std.specs.Prelude.{◌≡◌, ℕ, Some, IsSome, IsFalse, ◌<◌, ◌≢◌, ◌↔◌, List}
use Rattle.circuit_model.specs.declared.model.Fact.{Fact}
use Rattle.circuit_model.specs.declared.model.Assumption.{Assumption}
use Rattle.environment_sets.specs.Sets.{Set, ◌⊆◌}
use Rattle.environment_sets.specs.Lists.{IsIn}
use Rattle.circuit_model.specs.Closure.{IsForced}
use Rattle.circuit_model.specs.Stock.{Stock, IsChosen, IsEnvironment, Has, IsRefutedBy, IsInLabel, IsNogood}

module _ (N : Type 0) where
  -- a subset's closure is a subset of the closure
  abbrev pub ClosuresGrow : Type 0
  ClosuresGrow = (S : Stock N) (E F : Set N) → E ⊆ F → (f : Fact) → Has S f E → Has S f F

  -- a subset of a consistent environment is consistent
  abbrev pub SubsetsAreConsistent : Type 0
  SubsetsAreConsistent = (S : Stock N) (E F : Set N) → E ⊆ F → (IsRefutedBy S F → ⊥) → IsRefutedBy S E → ⊥

  -- what is forced from facts of the closure is in the closure
  abbrev pub ClosuresAreClosed : Type 0
  ClosuresAreClosed = (S : Stock N) (E : Set N) (f : Fact) → IsForced (IsChosen S E) (λ g. Has S g E) f → Has S f E

  -- S is a part of R
  abbrev pub IsPartOf : Stock N → Stock N → Type 0
  IsPartOf S R = (k : N) (a : Assumption) → S k ≡ Some a → R k ≡ Some a

  -- the labels of a part of a stock are those of the stock, as far as they are its environments
  abbrev pub LabelsOfAPart : Type 0
  LabelsOfAPart = (S R : Stock N) → IsPartOf S R → (f : Fact) (E : Set N) → IsInLabel S f E ↔ (IsInLabel R f E × IsEnvironment S E)

  -- so are the nogoods
  abbrev pub NogoodsOfAPart : Type 0
  NogoodsOfAPart = (S R : Stock N) → IsPartOf S R → (E : Set N) → IsNogood S E ↔ (IsNogood R E × IsEnvironment S E)

  -- R has one name more than S
  abbrev pub HasOneMore : Stock N → Stock N → N → Type 0
  HasOneMore S R one = IsPartOf S R × ((k : N) (a : Assumption) → k ≢ one → R k ≡ Some a → S k ≡ Some a)

  -- an environment without the further name is in both labels or in neither
  abbrev pub OneMoreForLabels : Type 0
  OneMoreForLabels = (S R : Stock N) (one : N) → HasOneMore S R one → (f : Fact) (E : Set N) → IsFalse (E one) → IsInLabel R f E ↔ IsInLabel S f E

  -- and it is a nogood of both or of neither
  abbrev pub OneMoreForNogoods : Type 0
  OneMoreForNogoods = (S R : Stock N) (one : N) → HasOneMore S R one → (E : Set N) → IsFalse (E one) → IsNogood R E ↔ IsNogood S E

-- over numbers below n: a list of exactly a label has a subset of each consistent environment whose closure has the fact
abbrev pub ListedLabelsCover : Type 0
ListedLabelsCover =
    (n : ℕ) (S : Stock ℕ) → ((k : ℕ) → IsSome (S k) → k < n) → (f : Fact) (xs : List (Set ℕ)) → ((E : Set ℕ) → IsIn xs E ↔ IsInLabel S f E) → (E : Set ℕ) → IsEnvironment S E
    → (IsRefutedBy S E → ⊥) → Has S f E → (m : Set ℕ) × IsIn xs m × (m ⊆ E)
