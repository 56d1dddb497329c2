-- One round of a closing: what the facts that are held force, and whether they refute.
use Rattle.std.specs.Prelude.{◌≡◌, ℕ, ◌<◌, ◌^◌, ◌⊎◌, Bool, true, false, if◌then◌else◌, List, [], ◌∷◌, length, Option, Some, None, MatchOption, slice_get, slice_index_or}
use Rattle.environment_sets.specs.Sets.{Set}
use Rattle.environment_sets.specs.Lists.{IsIn}
use Rattle.circuit_model.specs.declared.model.Cell.{Cell}
use Rattle.circuit_model.specs.declared.model.Fact.{Fact}
use Rattle.circuit_model.specs.declared.model.Instance.{Instance}
use Rattle.circuit_model.specs.Closure.{fact, AreHeld}
use Rattle.circuit_model.specs.Inference.{Forces, Refutes}
use Rattle.circuit_model.specs.Lawful.{IsLawfulInstance}
use Rattle.circuit_model.specs.Diagnoses.{Place}
use Rattle.circuit_model.specs.Derivation as derivations
use Rattle.circuit_model.specs.Derivation.{Justification, by_instance, number_of, facts_at, IsJustificationBefore, IsFirst, Justifies, JustifiesClash}
use Rattle.circuit_model.specs.Present.{PresentView, IsLawful, circuit_of}
use Rattle.proof_check.specs.declared.derivation.Ending.{Ending}
use Rattle.proof_check.specs.declared.written.TheConstants.{CHOICES}
use Rattle.proof_check.specs.Written.{ending_of}
use Rattle.proof_check.specs.Checking.{AreAlike, AllFit}

-- the present is lawful; no two of the facts are words at one cell, and each fits its net
pub record AreCalm (s : PresentView) (held : List Fact) : Type 0 where
  pub lawful : IsLawful s
  pub alike : AreAlike held
  pub fit : AllFit s held

-- a lawful instance at three cells, and the words that are held there fit its widths
pub record IsReady (held : List Fact) (instance : Instance) : Type 0 where
  pub lawful : IsLawfulInstance instance
  pub three : length instance.cells ≡ 3
  pub widths : length instance.widths ≡ 3
  pub fit : (port w v : ℕ) (c : Cell) → slice_get instance.cells port ≡ Some c → slice_get instance.widths port ≡ Some w → IsIn held (fact c v) → v < 2 ^ w

-- a held word of the cell, if the cell is chosen and has one
abbrev pub IsKept : List Fact → Cell → Bool → Option ℕ → Type 0
IsKept held c false word = word ≡ None
IsKept held c true word = MatchOption word ((v : ℕ) → IsIn held (fact c v) → ⊥) (λ v. IsIn held (fact c v))

-- what is read past the cells
abbrev pub no_cell : Cell
no_cell = record { net = 0; cycle = 0 }

-- at each of three places a held word of the cell, if the place is chosen
pub record AreKept (held : List Fact) (cells : List Cell) (choice : List Bool) (known : List (Option ℕ)) : Type 0 where
  pub wide : length known ≡ 3
  pub first : IsKept held (slice_index_or cells 0 no_cell) (slice_index_or choice 0 false) (slice_index_or known 0 None)
  pub second : IsKept held (slice_index_or cells 1 no_cell) (slice_index_or choice 1 false) (slice_index_or known 1 None)
  pub third : IsKept held (slice_index_or cells 2 no_cell) (slice_index_or choice 2 false) (slice_index_or known 2 None)

-- at each of three places a held word of the cell, if it has one
abbrev pub AreWordsOf : List Fact → List Cell → List (Option ℕ) → Type 0
AreWordsOf held cells words = AreKept held cells (true ∷ true ∷ true ∷ []) words

-- the word at the place, if the place is chosen
abbrev pub kept_at : List (Option ℕ) → List Bool → ℕ → Option ℕ
kept_at words choice place = if slice_index_or choice place false then slice_index_or words place None else None

-- the words at the chosen ones of three places
abbrev pub kept : List (Option ℕ) → List Bool → List (Option ℕ)
kept words choice = kept_at words choice 0 ∷ kept_at words choice 1 ∷ kept_at words choice 2 ∷ []

-- the words at the ports of this number
abbrev pub kept_for : List (Option ℕ) → ℕ → List (Option ℕ)
kept_for words ports = kept words (slice_index_or CHOICES ports [])

-- the words at the ports of this number, each of which has one
pub record AreAtPorts (words : List (Option ℕ)) (ports : ℕ) (known : List (Option ℕ)) : Type 0 where
  pub are : known ≡ kept_for words ports
  pub number : ports ≡ number_of known

-- words at exactly the ports of this number, all of them held
pub record AreHeldAt (held : List Fact) (cells : List Cell) (ports : ℕ) (known : List (Option ℕ)) : Type 0 where
  pub number : ports ≡ number_of known
  pub words : AreHeld (IsIn held) cells known

-- the facts of which Q holds are added to those that were found, but for the held ones
pub record Adds (Q : Fact → Type 0) (held old new : List Fact) : Type 0 where
  pub kept : (f : Fact) → IsIn old f → IsIn new f
  pub sound : (f : Fact) → IsIn new f → IsIn old f ⊎ (Q f × (IsIn held f → ⊥))
  pub entered : (f : Fact) → Q f → IsIn held f ⊎ IsIn new f

-- the fact is the word at the cell
abbrev pub IsWordAt : Cell → Option ℕ → Fact → Type 0
IsWordAt c word f = (c ≡ f.cell) × (word ≡ Some f.value)

-- the fact is the word at one of the first cells
abbrev pub IsWordBelow : ℕ → List Cell → List (Option ℕ) → Fact → Type 0
IsWordBelow n cells words f = (port : ℕ) × (port < n) × (slice_get cells port ≡ Some f.cell) × (slice_get words port ≡ Some (Some f.value))

-- held words at the ports of this number force the fact
pub record IsForcedAt (held : List Fact) (instance : Instance) (ports : ℕ) (f : Fact) : Type 0 where
  pub known : List (Option ℕ)
  pub words : AreHeldAt held instance.cells ports known
  pub port : ℕ
  pub at : slice_get instance.cells port ≡ Some f.cell
  pub forces : Forces instance.prim instance.widths known port f.value

-- held words at the ports of this number do not refute, and what they force is added
pub record IsQuietAt (held : List Fact) (instance : Instance) (ports : ℕ) (old new : List Fact) : Type 0 where
  pub fine : (known : List (Option ℕ)) → AreHeldAt held instance.cells ports known → Refutes instance.prim instance.widths known → ⊥
  pub adds : Adds (IsForcedAt held instance ports) held old new

-- held words at the ports of this number refute, and the ending says so
pub record IsRefutedAt (held : List Fact) (part place ports : ℕ) (instance : Instance) (ending : Ending) : Type 0 where
  pub known : List (Option ℕ)
  pub words : AreHeldAt held instance.cells ports known
  pub refutes : Refutes instance.prim instance.widths known
  pub told : ending_of ending ≡ derivations.Refuted part place ports (facts_at instance.cells known)

-- justifications from none of the fresh facts do not refute, and force only what is held
pub record IsQuietBut (s : PresentView) (E : Set Place) (held fresh : List Fact) : Type 0 where
  pub fine : (j : Justification) → ((f : Fact) → IsIn j.from f → IsIn fresh f → ⊥) → JustifiesClash (circuit_of s) E (IsIn held) j → ⊥
  pub known : (j : Justification) (f : Fact) → ((f : Fact) → IsIn j.from f → IsIn fresh f → ⊥) → Justifies (circuit_of s) E (IsIn held) f j → IsIn held f

-- none of the facts is at one of the cells
abbrev pub AreElsewhere : List Fact → List Cell → Type 0
AreElsewhere facts cells = (port v : ℕ) (c : Cell) → slice_get cells port ≡ Some c → IsIn facts (fact c v) → ⊥

-- some fact is at one of the cells
pub record IsAtSome (facts : List Fact) (cells : List Cell) : Type 0 where
  pub port : ℕ
  pub cell : Cell
  pub word : ℕ
  pub at : slice_get cells port ≡ Some cell
  pub there : IsIn facts (fact cell word)

-- some justification before this one forces the fact from what is held
abbrev pub IsForcedBefore : PresentView → Set Place → List Fact → Justification → Fact → Type 0
IsForcedBefore s E held next f = (j : Justification) × IsJustificationBefore j next × Justifies (circuit_of s) E (IsIn held) f j

-- all justifications before this one have been looked at: none refutes, and what they force was found
pub record AreLookedAt (s : PresentView) (E : Set Place) (held : List Fact) (next : Justification) (found : List Fact) : Type 0 where
  pub fine : (j : Justification) → IsJustificationBefore j next → JustifiesClash (circuit_of s) E (IsIn held) j → ⊥
  pub forced : Adds (IsForcedBefore s E held next) held [] found

-- the instance at this place, and the ports of this number
abbrev pub from_here : (part place ports : ℕ) → Justification
from_here part place ports = by_instance part place ports []

-- the ending tells the first justification that refutes what is held
abbrev pub IsFirstClash : PresentView → Set Place → List Fact → derivations.Ending → Type 0
IsFirstClash s E held derivations.Holds = ⊥
IsFirstClash s E held (derivations.TwoValues c low high) = ⊥
IsFirstClash s E held (derivations.Refuted part instance ports from) = IsFirst (JustifiesClash (circuit_of s) E (IsIn held)) (by_instance part instance ports from)

-- What looking comes to: all before this one were looked at, or the first that refutes was met.
abbrev pub Looks : PresentView → Set Place → List Fact → Justification → List Fact → Option Ending → Type 0
Looks s E held next found clash = MatchOption clash (AreLookedAt s E held next found) (λ ending. IsFirstClash s E held (ending_of ending))
