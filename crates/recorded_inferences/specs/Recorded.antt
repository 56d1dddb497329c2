-- Recorded inferences, told by their facts.
use Rattle.std.specs.Prelude.{◌≡◌, ◌⊎◌, ◌↔◌, ℕ, List, [], ◌∷◌, Option, Some, None}
use Rattle.environment_sets.specs.Lists.{IsIn}
use Rattle.circuit_model.specs.declared.model.Fact.{Fact}
use Rattle.justifications.specs.Woven.{Woven, fact_at, antecedent}
use Rattle.justifications.specs.declared.model.Target.{Target}
use Rattle.justifications.specs.declared.model.Target.TheVariants.{Node, Clash}
use Rattle.justifications.specs.declared.model.Inferred as woven
use Rattle.inference_search.specs.declared.inferred.Inferred.{Inferred}
use Rattle.inference_search.specs.Inferences.{facts}

-- the fact of the node of a number, if there is a number
abbrev pub fact_of : Woven → Option ℕ → Option Fact
fact_of w None = None
fact_of w (Some n) = fact_at w n

-- the fact that is led to, or none where it is a clash
abbrev pub fact_led_to : Woven → Target → Option Fact
fact_led_to w Clash = None
fact_led_to w (Node n) = fact_at w n.place

-- an inference between nodes, told by their facts
abbrev pub told : Woven → woven.Inferred → Inferred
told w x = record { first = fact_of w (antecedent 0 x); second = fact_of w (antecedent 1 x); to = fact_led_to w x.to; maker = x.maker }

-- those that are there, told by their facts
abbrev pub told_of : Woven → List (Option woven.Inferred) → List Inferred
told_of w [] = []
told_of w (None ∷ xs) = told_of w xs
told_of w (Some x ∷ xs) = told w x ∷ told_of w xs

-- the recorded inferences, told by their facts, in no order that is told
abbrev pub recorded_in : Woven → List Inferred
recorded_in w = told_of w w.inferences.records

-- the inference goes from the fact
abbrev pub GoesFrom : Fact → Inferred → Type 0
GoesFrom f i = IsIn (facts i.first i.second) f

-- the list has exactly the inferences with the property
abbrev pub AreExactly : (Inferred → Type 0) → List Inferred → Type 0
AreExactly P is = (i : Inferred) → IsIn is i ↔ P i

-- exactly the recorded inferences that go from the fact
abbrev pub AreUses : List Inferred → Fact → List Inferred → Type 0
AreUses recorded f found = AreExactly (λ i. IsIn recorded i × GoesFrom f i) found

-- one more is recorded
abbrev pub AreWith : Inferred → List Inferred → List Inferred → Type 0
AreWith i old new = AreExactly (λ j. IsIn old j ⊎ (j ≡ i)) new

-- the same are recorded
abbrev pub AreSame : List Inferred → List Inferred → Type 0
AreSame old new = AreExactly (IsIn old) new

-- exactly those with the property are recorded no more
abbrev pub AreWithout : (Inferred → Type 0) → List Inferred → List Inferred → Type 0
AreWithout P old new = AreExactly (λ i. IsIn old i × (P i → ⊥)) new
