-- When what is kept is exactly the labels and the nogoods.
use Rattle.std.specs.Prelude.{◌≡◌, ℕ, ◌⊎◌, ◌↔◌, IsTrue, List, Option, Some, slice_get}
use Rattle.circuit_model.specs.declared.model.Cell.{Cell}
use Rattle.circuit_model.specs.declared.model.Fact.{Fact}
use Rattle.circuit_model.specs.declared.model.Instance.{Instance}
use Rattle.circuit_model.specs.declared.model.Assumption.TheVariants.{Part, Reading}
use Rattle.circuit_model.specs.Inference.{Forces, Refutes}
use Rattle.circuit_model.specs.Closure.{fact, AreHeld}
use Rattle.environment_sets.specs.Sets.{Set, ◌⊆◌}
use Rattle.environment_sets.specs.Lists.{IsIn}
use Rattle.environment_sets.specs.Families.{IsCovered, IsAntichain}
use Rattle.circuit_model.specs.Stock.{Stock, IsEnvironment, Has, IsRefutedBy, IsInLabel, IsNogood}

module _ {N : Type 0} where
  -- what is kept: the environments at each fact, and the nogoods
  pub record IsSettled (S : Stock N) (kept : Fact → Set N → Type 0) (nogoods : Set N → Type 0) : Type 0 where
    pub environments : (f : Fact) (E : Set N) → kept f E → IsEnvironment S E
    pub sound : (f : Fact) (E : Set N) → kept f E → Has S f E
    pub nogood_environments : (E : Set N) → nogoods E → IsEnvironment S E
    pub nogood_sound : (E : Set N) → nogoods E → IsRefutedBy S E
    pub antichain : (f : Fact) → IsAntichain (kept f)
    pub nogood_antichain : IsAntichain nogoods
    pub clean : (f : Fact) (E g : Set N) → kept f E → nogoods g → g ⊆ E → ⊥
    pub readings : (k : N) (f : Fact) (E : Set N) → S k ≡ Some (Reading f) → IsTrue (E k) → IsCovered (kept f) E ⊎ IsCovered nogoods E
    pub forced :
        (k : N) (part : List Instance) (instance : Instance) (known : List (Option ℕ)) (p v : ℕ) (c : Cell) (E : Set N) → S k ≡ Some (Part part) → IsTrue (E k) → IsIn part instance
        → AreHeld (λ f. IsCovered (kept f) E) instance.cells known → slice_get instance.cells p ≡ Some c → Forces instance.prim instance.widths known p v
        → IsCovered (kept (fact c v)) E ⊎ IsCovered nogoods E
    pub refuted :
        (k : N) (part : List Instance) (instance : Instance) (known : List (Option ℕ)) (E : Set N) → S k ≡ Some (Part part) → IsTrue (E k) → IsIn part instance
        → AreHeld (λ f. IsCovered (kept f) E) instance.cells known → Refutes instance.prim instance.widths known → IsCovered nogoods E
    pub two_words : (c : Cell) (v w : ℕ) (E : Set N) → (v ≡ w → ⊥) → IsCovered (kept (fact c v)) E → IsCovered (kept (fact c w)) E → IsCovered nogoods E

  -- what is kept is exactly the labels and the nogoods
  pub record AreExact (S : Stock N) (kept : Fact → Set N → Type 0) (nogoods : Set N → Type 0) : Type 0 where
    pub labels : (f : Fact) (E : Set N) → kept f E ↔ IsInLabel S f E
    pub nogoods_exact : (E : Set N) → nogoods E ↔ IsNogood S E
