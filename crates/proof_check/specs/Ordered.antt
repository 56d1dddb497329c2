-- Facts in order.
use Rattle.std.specs.Prelude.{◌≡◌, ℕ, ◌<◌, ◌≤◌, ◌⊎◌, ◌↔◌, false, IsTrue, List, length, Some, slice_get}
use Rattle.environment_sets.specs.Lists.{IsIn, IsRising}
use Rattle.circuit_model.specs.declared.model.Fact.{Fact}
use Rattle.circuit_model.specs.Derivation.{is_fact_before, AreFirstTwoWords}
use Rattle.proof_check.specs.declared.derivation.Ending.{Ending}
use Rattle.proof_check.specs.declared.derivation.Ending.TheVariants.{Holds, TwoValues, Refuted}

-- by cell, then by word, none twice
abbrev pub AreInOrder : List Fact → Type 0
AreInOrder facts = IsRising (λ f g. IsTrue (is_fact_before f g)) facts

-- those below the place come before the fact
abbrev pub AreBefore : List Fact → Fact → ℕ → Type 0
AreBefore facts f n = (k : ℕ) (g : Fact) → k < n → slice_get facts k ≡ Some g → IsTrue (is_fact_before g f)

-- those from the place on do not come before the fact
abbrev pub AreFrom : List Fact → Fact → ℕ → Type 0
AreFrom facts f n = (k : ℕ) (g : Fact) → n ≤ k → slice_get facts k ≡ Some g → is_fact_before g f ≡ false

-- the place where the fact stands, or would stand
pub record IsPlaceOf (facts : List Fact) (f : Fact) (place : ℕ) : Type 0 where
  pub within : place ≤ length facts
  pub before : AreBefore facts f place
  pub after : AreFrom facts f place

-- the same facts and this one
abbrev pub HasPut : Fact → (old new : List Fact) → Type 0
HasPut f old new = (g : Fact) → IsIn new g ↔ ((f ≡ g) ⊎ IsIn old g)

-- the first cell at which two words hold, and its two least words
abbrev pub IsFirstPair : (Fact → Type 0) → Ending → Type 0
IsFirstPair H (TwoValues c low high) = AreFirstTwoWords H c low high
IsFirstPair H Holds = ⊥
IsFirstPair H (Refuted part instance ports from) = ⊥
