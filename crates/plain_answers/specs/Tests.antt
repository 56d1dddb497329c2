-- What is asked of sets of assumptions.
use Rattle.std.specs.Prelude.{◌≡◌, ℕ, Bool, false, MatchBool, List, length, map}
use Rattle.environment_sets.specs.Sets.{Set, ◌⊆◌, others}
use Rattle.environment_sets.specs.Lists.{IsIn}
use Rattle.circuit_model.specs.declared.model.Cell.{Cell}
use Rattle.circuit_model.specs.declared.model.Fact.{Fact}
use Rattle.circuit_model.specs.Stock.{Has, IsRefutedBy}
use Rattle.circuit_model.specs.Diagnoses.{Place, AtPart, AtCell, AreRefuted}
use Rattle.circuit_model.specs.Present.{PresentView, circuit_of}
use Rattle.circuit_model.specs.Whole.{stock}
use Rattle.plain_answers.specs.declared.environment.Environment.{Environment}
use Rattle.plain_answers.specs.Members.{members}
use Rattle.plain_answers.specs.declared.keeping.Test.{Test}
use Rattle.plain_answers.specs.declared.keeping.Test.TheVariants as test

-- the answer is whether it holds
abbrev pub IsDecided : Bool → Type 0 → Type 0
IsDecided b P = MatchBool b P (P → ⊥)

-- the positions of its components
abbrev pub positions : Set Place → Set ℕ
positions E = λ i. E (AtPart i)

-- without these components the measurements are consistent
abbrev pub IsRepaired : PresentView → Set ℕ → Type 0
IsRepaired s D = AreRefuted (circuit_of s) (others (length (circuit_of s).parts) D) → ⊥

-- no measured cells
abbrev pub AreParts : Set Place → Type 0
AreParts E = (c : Cell) → E (AtCell c) ≡ false

-- F has the first n components that E has not, and nothing else
pub record AreOthers (n : ℕ) (E F : Set Place) : Type 0 where
  pub parts : (k : ℕ) → F (AtPart k) ≡ others n (positions E) k
  pub cells : AreParts F

-- it is consistent and the fact follows
pub record HasFact (s : PresentView) (f : Fact) (E : Set Place) : Type 0 where
  pub consistent : IsRefutedBy (stock s) E → ⊥
  pub follows : Has (stock s) f E

-- what the test asks holds of the set
abbrev pub Passes : PresentView → Test → Set Place → Type 0
Passes s (test.Has fact) E = HasFact s fact E
Passes s test.Clashes E = IsRefutedBy (stock s) E
Passes s test.Refuted E = AreRefuted (circuit_of s) (positions E)
Passes s test.Repaired E = IsRepaired s (positions E)

-- none of the list is a proper subset
abbrev pub IsLeastIn : List (Set Place) → Set Place → Type 0
IsLeastIn Es E = (F : Set Place) → IsIn Es F → F ⊆ E → E ⊆ F

-- the positions of each environment's components
abbrev pub position_sets : List Environment → List (Set ℕ)
position_sets es = map (λ e. positions (members e)) es
