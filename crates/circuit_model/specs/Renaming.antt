-- One stock under other names.
use Rattle.std.specs.Prelude.{◌≡◌, Bool, false, ◌↔◌, Option, Some, None, IsSome}
use Rattle.circuit_model.specs.declared.model.Fact.{Fact}
use Rattle.environment_sets.specs.Sets.{Set}
use Rattle.circuit_model.specs.Stock.{Stock, IsEnvironment, Has, IsRefutedBy, IsInLabel, IsNogood}

-- the test's answer at the value, if there is one
abbrev pub passes : {A : Type 0} → (A → Bool) → Option A → Bool
passes p None = false
passes p (Some x) = p x

-- the set that has what the map takes into E
abbrev pub along : {N M : Type 0} → (M → Option N) → Set N → Set M
along g E m = passes E (g m)

module _ {N M : Type 0} where
  -- the two maps lead from the names of S to those of R and back, and each name has the same assumption on both sides
  pub record IsRenaming (S : Stock N) (R : Stock M) (to : N → Option M) (back : M → Option N) : Type 0 where
    pub each : (k : N) → IsSome (S k) → IsSome (to k)
    pub each_back : (m : M) → IsSome (R m) → IsSome (back m)
    pub there : (k : N) (m : M) → to k ≡ Some m → back m ≡ Some k
    pub here : (k : N) (m : M) → back m ≡ Some k → to k ≡ Some m
    pub same : (k : N) (m : M) → to k ≡ Some m → S k ≡ R m

module _ (N M : Type 0) where
  -- the closure of an environment has a fact exactly where that of its renamed names has it
  abbrev pub RenamedClosures : Type 0
  RenamedClosures = (S : Stock N) (R : Stock M) (to : N → Option M) (back : M → Option N) → IsRenaming S R to back → (f : Fact) (E : Set N) → Has S f E ↔ Has R f (along back E)

  -- an environment clashes exactly where its renamed names do
  abbrev pub RenamedClashes : Type 0
  RenamedClashes = (S : Stock N) (R : Stock M) (to : N → Option M) (back : M → Option N) → IsRenaming S R to back → (E : Set N) → IsRefutedBy S E ↔ IsRefutedBy R (along back E)

  -- an environment is one of a label exactly where its renamed names are
  abbrev pub RenamedLabels : Type 0
  RenamedLabels = (S : Stock N) (R : Stock M) (to : N → Option M) (back : M → Option N) → IsRenaming S R to back → (f : Fact) (E : Set N) → IsEnvironment S E → IsInLabel S f E ↔ IsInLabel R f (along back E)

  -- an environment is a nogood exactly where its renamed names are
  abbrev pub RenamedNogoods : Type 0
  RenamedNogoods = (S : Stock N) (R : Stock M) (to : N → Option M) (back : M → Option N) → IsRenaming S R to back → (E : Set N) → IsEnvironment S E → IsNogood S E ↔ IsNogood R (along back E)
