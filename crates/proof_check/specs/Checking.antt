-- What is looked at in a step.
use Rattle.std.specs.Prelude.{◌≡◌, ℕ, ◌<◌, ◌^◌, ◌||◌, Bool, true, false, IsTrue, List, [], ◌∷◌, length, Option, Some, None, slice_get}
use Rattle.environment_sets.specs.Sets.{Set}
use Rattle.environment_sets.specs.Lists.{IsIn}
use Rattle.circuit_model.specs.declared.model.Cell.{Cell}
use Rattle.circuit_model.specs.declared.model.Fact.{Fact}
use Rattle.circuit_model.specs.declared.model.Instance.{Instance}
use Rattle.circuit_model.specs.Closure.{AreHeld}
use Rattle.circuit_model.specs.Lawful.{IsLawfulInstance}
use Rattle.circuit_model.specs.Diagnoses.{Place, AtPart}
use Rattle.circuit_model.specs.Derivation.{Justification, by_instance, number_of, facts_at, IsOfInstance}
use Rattle.circuit_model.specs.Present.{PresentView, width_of, circuit_of}
use Rattle.proof_check.specs.Written.{given}
use Rattle.proof_check.specs.declared.premises.Claim.{Claim}

-- its word
abbrev pub word_of : Option Fact → Option ℕ
word_of None = None
word_of (Some f) = Some f.value

-- the word at a place, if it is chosen: that of the second fact where an earlier place is chosen, else of the first
abbrev pub word_at : (chosen earlier : Bool) → (first second : Option Fact) → Option ℕ
word_at false earlier first second = None
word_at true true first second = word_of second
word_at true false first second = word_of first

-- the words of two facts, at the chosen ones of three places
abbrev pub words_at_choice : List Bool → List (Option Fact) → List (Option ℕ)
words_at_choice (a ∷ b ∷ z ∷ []) (first ∷ second ∷ []) = word_at a false first second ∷ word_at b a first second ∷ word_at z (a || b) first second ∷ []
words_at_choice _ _ = []

-- the words at the ports of this number, told by the facts there
pub record AreWords (ports : ℕ) (from : List Fact) (cells : List Cell) (known : List (Option ℕ)) : Type 0 where
  pub wide : length known ≡ 3
  pub number : ports ≡ number_of known
  pub told : from ≡ facts_at cells known

-- no two of the facts are two words at one cell
abbrev pub AreAlike : List Fact → Type 0
AreAlike facts = (f g : Fact) → IsIn facts f → IsIn facts g → f.cell ≡ g.cell → f.value ≡ g.value

-- each word fits the net of its cell
abbrev pub AllFit : PresentView → List Fact → Type 0
AllFit s facts = (f : Fact) → IsIn facts f → f.value < 2 ^ width_of s f.cell.net

-- the inference that is claimed
abbrev pub justification_of : Claim → Justification
justification_of c = by_instance c.part c.instance c.ports (given c.from)

-- the instance at the place in a component of the environment
pub record IsInstanceOf (s : PresentView) (E : Set Place) (position place : ℕ) (instance : Instance) : Type 0 where
  pub chosen : IsTrue (E (AtPart position))
  pub part : List Instance
  pub at_position : slice_get (circuit_of s).parts position ≡ Some part
  pub at_place : slice_get part place ≡ Some instance

-- it is at three cells of the present, and has the widths of their nets
pub record IsPlaced (s : PresentView) (instance : Instance) : Type 0 where
  pub lawful : IsLawfulInstance instance
  pub three : length instance.cells ≡ 3
  pub widths : length instance.widths ≡ 3
  pub at_nets : (port : ℕ) (c : Cell) → slice_get instance.cells port ≡ Some c → c.net < length s.nets
  pub at_cycles : (port : ℕ) (c : Cell) → slice_get instance.cells port ≡ Some c → c.cycle < s.cycles
  pub of_width : (port w : ℕ) (c : Cell) → slice_get instance.cells port ≡ Some c → slice_get instance.widths port ≡ Some w → w ≡ width_of s c.net

-- what the justification is inferred from: its instance, and words at its ports that hold
pub record IsPremise (s : PresentView) (E : Set Place) (H : Fact → Type 0) (j : Justification) (instance : Instance) (known : List (Option ℕ)) : Type 0 where
  pub of_instance : IsOfInstance (circuit_of s) E j instance known
  pub held : AreHeld H instance.cells known
