-- Which words force a fact: those at the ports of some number, of an instance, in a component.
use Rattle.std.specs.Prelude.{◌≡◌, ℕ, ◌<◌, ◌≤◌, ◌⊎◌, List, length, Option, Some, map, slice_get}
use Rattle.environment_sets.specs.Sets.{Set}
use Rattle.circuit_model.specs.declared.model.Fact.{Fact}
use Rattle.circuit_model.specs.declared.model.Instance.{Instance}
use Rattle.circuit_model.specs.Inference.{Forces, WordsFit}
use Rattle.circuit_model.specs.Diagnoses.{Circuit, Place}
use Rattle.circuit_model.specs.Derivation.{Step, Measured, Inferred, by_instance, number_of, facts_at, HoldsAt, Justifies, IsFirst}
use Rattle.proof_check.specs.Closing.{Timed}
use Rattle.proof_check.specs.Written.{given}
use Rattle.explanations.specs.Words.{word_by, chosen_words}
use Rattle.explanations.specs.declared.forcing.Forcing.{Forcing}

-- a number of which Q holds, and Q holds of none below it
pub record IsLeast (Q : ℕ → Type 0) (k : ℕ) : Type 0 where
  pub holds : Q k
  pub least : (m : ℕ) → Q m → k ≤ m

-- words are known at all places of the number, and force the fact
pub record IsForcing (instance : Instance) (words : List (Option ℕ)) (f : Fact) (ports : ℕ) : Type 0 where
  pub known : number_of (chosen_words ports words) ≡ ports
  pub port : ℕ
  pub at : slice_get instance.cells port ≡ Some f.cell
  pub forces : Forces instance.prim instance.widths (chosen_words ports words) port f.value

-- the words that held at the cells of the instance by the round
abbrev pub words_of : List Timed → ℕ → Instance → List (Option ℕ)
words_of facts round instance = map (word_by facts round) instance.cells

-- there are three of them, and the known ones fit its widths
pub record IsFitting (facts : List Timed) (round : ℕ) (instance : Instance) : Type 0 where
  pub three : length instance.cells ≡ 3
  pub fit : WordsFit instance.widths (words_of facts round instance)

-- so for each instance of a component
abbrev pub AllFit : List Timed → ℕ → List Instance → Type 0
AllFit facts round part = (place : ℕ) (instance : Instance) → slice_get part place ≡ Some instance → IsFitting facts round instance

-- words that held by the round force the fact at the instance of this place
pub record IsForcingIn (facts : List Timed) (round : ℕ) (f : Fact) (part : List Instance) (place ports : ℕ) : Type 0 where
  pub instance : Instance
  pub at_place : slice_get part place ≡ Some instance
  pub forcing : IsForcing instance (words_of facts round instance) f ports

-- the first such words of the component, by place and then by number, with the facts at their ports
pub record IsFirstIn (facts : List Timed) (round : ℕ) (f : Fact) (part : List Instance) (found : Forcing) : Type 0 where
  pub instance : Instance
  pub at_place : slice_get part found.instance ≡ Some instance
  pub forcing : IsForcing instance (words_of facts round instance) f found.ports
  pub from : given found.from ≡ facts_at instance.cells (chosen_words found.ports (words_of facts round instance))
  pub first : (place ports : ℕ) → IsForcingIn facts round f part place ports → (found.instance < place) ⊎ ((found.instance ≡ place) × (found.ports ≤ ports))

-- words that held by the round force the fact at the instance of this place in the component at the position
pub record IsForcingAt (P : Circuit) (facts : List Timed) (round : ℕ) (f : Fact) (position place ports : ℕ) : Type 0 where
  pub part : List Instance
  pub at_position : slice_get P.parts position ≡ Some part
  pub forcing : IsForcingIn facts round f part place ports

-- the first such words of the component at the position
pub record IsFirstAt (P : Circuit) (facts : List Timed) (round : ℕ) (f : Fact) (position : ℕ) (found : Forcing) : Type 0 where
  pub part : List Instance
  pub at_position : slice_get P.parts position ≡ Some part
  pub first : IsFirstIn facts round f part found

-- the step infers the fact by the first justification from words that hold at the round
abbrev pub IsFirstStep : Circuit → Set Place → ℕ → Fact → Step → Type 0
IsFirstStep P E round f (Measured g) = ⊥
IsFirstStep P E round f (Inferred g part instance ports from) = (g ≡ f) × IsFirst (Justifies P E (HoldsAt P E round) f) (by_instance part instance ports from)
