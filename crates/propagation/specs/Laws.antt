-- Laws of bringing labels up to date.
use Rattle.std.specs.Prelude.{ℕ, ◌<◌, Bool, IsTrue, IsFalse, List, Option}
use Rattle.circuit_model.specs.declared.model.Fact.{Fact}
use Rattle.environment_sets.specs.declared.environment.TheConstants.{SLOTS}
use Rattle.environment_sets.specs.Sets.{Set, IsBelow}
use Rattle.environment_sets.specs.Lists.{IsIn}
use Rattle.circuit_model.specs.Stock.{Stock, Has}
use Rattle.propagation.specs.Propagating.{Target, HasAt, Leads, HasMaker}
use Rattle.propagation.specs.Uncovered.{TargetFits, uncovered}

-- what an inference leads to follows where each of its facts does and its maker is there
abbrev pub InferencesAreSound : Type 0
InferencesAreSound =
    (S : Stock ℕ) (E : Set ℕ) (from : List Fact) (maker : Option ℕ) (to : Target) → Leads S from maker to → HasMaker maker E → ((f : Fact) → IsIn from f → Has S f E) → HasAt S to E

-- what was covered still is, and one environment more: fewer are not
abbrev pub UncoveredPairsFall : Type 0
UncoveredPairsFall =
    (old new : Target → Set ℕ → Bool) → ((t : Target) (E : Set ℕ) → IsTrue (old t E) → IsTrue (new t E)) → (t : Target) (E : Set ℕ) → TargetFits t → IsBelow SLOTS E → IsFalse (old t E)
    → IsTrue (new t E) → uncovered new < uncovered old
