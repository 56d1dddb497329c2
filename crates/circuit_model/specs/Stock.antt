-- Stocks of named assumptions, and their labels and nogoods.
use Rattle.std.specs.Prelude.{◌≡◌, if◌then◌else◌, IsTrue, Option, Some, None, IsSome}
use Rattle.circuit_model.specs.declared.model.Fact.{Fact}
use Rattle.circuit_model.specs.declared.model.Assumption.{Assumption}
use Rattle.circuit_model.specs.Closure.{Follows, Clashes}
use Rattle.environment_sets.specs.Sets.{Set, IsMinimal}

-- what each name stands for, if it stands for anything
abbrev pub Stock : Type 0 → Type 0
Stock N = N → Option Assumption

module _ {N : Type 0} where
  -- the stock with these names alone
  abbrev pub within : Set N → Stock N → Stock N
  within E S name = if E name then S name else None

  -- the assumption is one that the environment names
  pub record IsChosen (S : Stock N) (E : Set N) (a : Assumption) : Type 0 where
    pub name : N
    pub chosen : IsTrue (E name)
    pub named : S name ≡ Some a

  -- each name is one of the stock
  abbrev pub IsEnvironment : Stock N → Set N → Type 0
  IsEnvironment S E = (k : N) → IsTrue (E k) → IsSome (S k)

  -- the closure of the environment has the fact
  abbrev pub Has : Stock N → Fact → Set N → Type 0
  Has S f E = Follows (IsChosen S E) f

  -- the environment clashes
  abbrev pub IsRefutedBy : Stock N → Set N → Type 0
  IsRefutedBy S E = Clashes (IsChosen S E)

  -- the environment is one of the fact's label
  pub record IsInLabel (S : Stock N) (f : Fact) (E : Set N) : Type 0 where
    pub environment : IsEnvironment S E
    pub consistent : IsRefutedBy S E → ⊥
    pub minimal : IsMinimal (Has S f) E

  -- an environment that clashes, and no smaller one does
  pub record IsNogood (S : Stock N) (E : Set N) : Type 0 where
    pub environment : IsEnvironment S E
    pub minimal : IsMinimal (IsRefutedBy S) E
