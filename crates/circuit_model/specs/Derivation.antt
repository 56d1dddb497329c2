-- Derivations: how a fact follows from an environment of a circuit, or how the environment clashes, step by step.
use Rattle.std.specs.Prelude.{◌≡◌, ℕ, suc, ◌+◌, ◌*◌, ◌<◌, ◌≤◌, ◌⊎◌, Bool, ◌||◌, ◌&&◌, nat_lt, IsTrue, List, [], ◌∷◌, map, Option, Some, None, slice_get}
use Rattle.circuit_model.specs.declared.model.Cell.{Cell}
use Rattle.circuit_model.specs.declared.model.Fact.{Fact}
use Rattle.circuit_model.specs.declared.model.Instance.{Instance}
use Rattle.circuit_model.specs.declared.model.Assumption.{Assumption}
use Rattle.circuit_model.specs.declared.model.Assumption.TheVariants.{Reading}
use Rattle.circuit_model.specs.Inference.{Forces, Refutes}
use Rattle.circuit_model.specs.Closure as closure
use Rattle.circuit_model.specs.Closure.{fact, AreHeld, AreTwoWords, ClashesAt}
use Rattle.environment_sets.specs.Sets.{Set}
use Rattle.environment_sets.specs.Lists.{IsIn, IsRising}
use Rattle.circuit_model.specs.Stock.{IsChosen, Has, IsRefutedBy}
use Rattle.circuit_model.specs.Diagnoses.{Circuit, Place, AtPart, stock_of}
use Rattle.circuit_model.specs.Present.{is_cell, is_cell_before}

-- A justification is one inference: an instance, by the position of its component and its place there; the ports with
-- known words, as a binary number whose lowest bit is the first port; and the facts at these ports, in their order.
pub record Justification : Type 0 where
  pub part : ℕ
  pub instance : ℕ
  pub ports : ℕ
  pub from : List Fact

-- a fact that was measured, or one that a justification gives
pub data Step : Type 0 where
  Measured : Fact → Step
  Inferred : Fact → (part instance ports : ℕ) → (from : List Fact) → Step

-- the fact of some step holds; or a cell has two words; or a justification refutes
pub data Ending : Type 0 where
  Holds : Ending
  TwoValues : Cell → (low high : ℕ) → Ending
  Refuted : (part instance ports : ℕ) → (from : List Fact) → Ending

-- steps in order, and what they come to
pub record Derivation : Type 0 where
  pub steps : List Step
  pub ending : Ending

-- what is to be derived
pub data Goal : Type 0 where
  Value : Fact → Goal
  Clash : Goal

-- the justification by this instance from these facts
abbrev pub by_instance : (part instance ports : ℕ) → List Fact → Justification
by_instance part instance ports from = record { part = part; instance = instance; ports = ports; from = from }

-- the fact that the step shows
abbrev pub fact_of : Step → Fact
fact_of (Measured f) = f
fact_of (Inferred f part instance ports from) = f

-- the facts that the step is inferred from
abbrev pub facts_behind : Step → List Fact
facts_behind (Measured f) = []
facts_behind (Inferred f part instance ports from) = from

-- the facts that the clash is of
abbrev pub facts_in_clash : Ending → List Fact
facts_in_clash Holds = []
facts_in_clash (TwoValues c low high) = fact c low ∷ fact c high ∷ []
facts_in_clash (Refuted part instance ports from) = from

-- the ports with a known word, as a binary number
abbrev pub number_of : List (Option ℕ) → ℕ
number_of [] = 0
number_of (None ∷ known) = 2 * number_of known
number_of (Some v ∷ known) = 2 * number_of known + 1

-- the known words with their cells, in the order of the ports
abbrev pub facts_at : List Cell → List (Option ℕ) → List Fact
facts_at (c ∷ cells) (None ∷ known) = facts_at cells known
facts_at (c ∷ cells) (Some v ∷ known) = fact c v ∷ facts_at cells known
facts_at _ _ = []

-- by cell, then by word
abbrev pub is_fact_before : Fact → Fact → Bool
is_fact_before f g = is_cell_before f.cell g.cell || (is_cell f.cell g.cell && nat_lt f.value g.value)

-- by the position of the component, then by the place of the instance, then by the number of the ports
abbrev pub IsJustificationBefore : Justification → Justification → Type 0
IsJustificationBefore i j = (i.part < j.part) ⊎ ((i.part ≡ j.part) × ((i.instance < j.instance) ⊎ ((i.instance ≡ j.instance) × (i.ports < j.ports))))

-- one of which Q holds, and Q holds of none before it
pub record IsFirst (Q : Justification → Type 0) (j : Justification) : Type 0 where
  pub holds : Q j
  pub first : (i : Justification) → Q i → IsJustificationBefore i j → ⊥

-- the first round of which Q holds
pub record IsFirstRound (Q : ℕ → Type 0) (n : ℕ) : Type 0 where
  pub holds : Q n
  pub first : (m : ℕ) → Q m → n ≤ m

-- the first cell at which two words hold, and its two least words
pub record AreFirstTwoWords (H : Fact → Type 0) (c : Cell) (low high : ℕ) : Type 0 where
  pub low_holds : H (fact c low)
  pub high_holds : H (fact c high)
  pub rising : low < high
  pub least : (v : ℕ) → H (fact c v) → (v ≡ low) ⊎ (high ≤ v)
  pub first : (two : AreTwoWords H) → IsTrue (is_cell_before two.cell c) → ⊥

module _ (P : Circuit) (E : Set Place) where
  -- the assumption is one of the environment
  abbrev pub IsAssumed : Assumption → Type 0
  IsAssumed = IsChosen (stock_of P) E

  -- the fact holds at round n
  abbrev pub HoldsAt : ℕ → Fact → Type 0
  HoldsAt = closure.Holds IsAssumed

  -- the first round at which the fact holds
  abbrev pub IsRoundOf : Fact → ℕ → Type 0
  IsRoundOf f = IsFirstRound (λ n. HoldsAt n f)

  -- the justification is of this instance, in a component of the environment, with these known words
  pub record IsOfInstance (j : Justification) (instance : Instance) (known : List (Option ℕ)) : Type 0 where
    pub assumed : IsTrue (E (AtPart j.part))
    pub part : List Instance
    pub at_position : slice_get P.parts j.part ≡ Some part
    pub at_place : slice_get part j.instance ≡ Some instance
    pub ports : j.ports ≡ number_of known
    pub from : j.from ≡ facts_at instance.cells known

  -- the justification forces the fact from words that hold
  pub record Justifies (H : Fact → Type 0) (f : Fact) (j : Justification) : Type 0 where
    pub instance : Instance
    pub known : List (Option ℕ)
    pub of_instance : IsOfInstance j instance known
    pub held : AreHeld H instance.cells known
    pub port : ℕ
    pub at : slice_get instance.cells port ≡ Some f.cell
    pub forces : Forces instance.prim instance.widths known port f.value

  -- the justification refutes words that hold
  pub record JustifiesClash (H : Fact → Type 0) (j : Justification) : Type 0 where
    pub instance : Instance
    pub known : List (Option ℕ)
    pub of_instance : IsOfInstance j instance known
    pub held : AreHeld H instance.cells known
    pub refutes : Refutes instance.prim instance.widths known

  -- A fact of round 0 is supported by its measurement; one of a later round by the first justification that forces it
  -- from words that held at the round before.
  abbrev pub IsSupport : Step → Type 0
  IsSupport (Measured f) = IsAssumed (Reading f)
  IsSupport (Inferred f part instance ports from) = (n : ℕ) × IsRoundOf f (suc n) × IsFirst (Justifies (HoldsAt n) f) (by_instance part instance ports from)

  -- the facts that are reached from some, backward along supports
  pub data IsReached (facts : List Fact) : Fact → Type 0 where
    AtStart : (f : Fact) → IsIn facts f → IsReached facts f
    Behind : (s : Step) (f : Fact) → IsReached facts (fact_of s) → IsSupport s → IsIn (facts_behind s) f → IsReached facts f

  -- by round, then by cell, then by word
  pub record IsSooner (s t : Step) : Type 0 where
    pub round : ℕ
    pub other : ℕ
    pub is_round : IsRoundOf (fact_of s) round
    pub is_other : IsRoundOf (fact_of t) other
    pub sooner : (round < other) ⊎ ((round ≡ other) × IsTrue (is_fact_before (fact_of s) (fact_of t)))

  -- supports of exactly the facts that are reached from some, in order, no fact twice
  pub record AreStepsTo (facts : List Fact) (steps : List Step) : Type 0 where
    pub rising : IsRising IsSooner steps
    pub supports : (s : Step) → IsIn steps s → IsSupport s
    pub reached : (s : Step) → IsIn steps s → IsReached facts (fact_of s)
    pub complete : (f : Fact) → IsReached facts f → (s : Step) × IsIn steps s × (fact_of s ≡ f)

  -- The clash at round n: the first cell with two words and its two least words; where no cell has two, the first
  -- justification that refutes.
  abbrev pub IsClashOf : ℕ → Ending → Type 0
  IsClashOf n Holds = ⊥
  IsClashOf n (TwoValues c low high) = AreFirstTwoWords (HoldsAt n) c low high
  IsClashOf n (Refuted part instance ports from) = (AreTwoWords (HoldsAt n) → ⊥) × IsFirst (JustifiesClash (HoldsAt n)) (by_instance part instance ports from)

  -- the canonical derivation of a value: all that leads to it along supports
  pub record IsCanonicalOfValue (f : Fact) (d : Derivation) : Type 0 where
    pub steps : AreStepsTo (f ∷ []) d.steps
    pub ending : d.ending ≡ Holds

  -- the canonical derivation of a clash: the clash at the first round with one, and all that leads to its facts
  pub record IsCanonicalOfClash (d : Derivation) : Type 0 where
    pub round : ℕ
    pub is_round : IsFirstRound (ClashesAt IsAssumed) round
    pub ending : IsClashOf round d.ending
    pub steps : AreStepsTo (facts_in_clash d.ending) d.steps

  -- the one canonical derivation of the goal
  abbrev pub IsCanonical : Goal → Derivation → Type 0
  IsCanonical (Value f) d = IsCanonicalOfValue f d
  IsCanonical Clash d = IsCanonicalOfClash d

  -- a measurement of the environment, or forced by facts of earlier steps
  abbrev pub IsValidStep : List Fact → Step → Type 0
  IsValidStep earlier (Measured f) = IsAssumed (Reading f)
  IsValidStep earlier (Inferred f part instance ports from) = Justifies (IsIn earlier) f (by_instance part instance ports from)

  -- each step is valid after those before it
  abbrev pub AreValidAfter : List Fact → List Step → Type 0
  AreValidAfter earlier [] = Unit {0}
  AreValidAfter earlier (s ∷ steps) = IsValidStep earlier s × AreValidAfter (fact_of s ∷ earlier) steps

  -- the ending shows the goal from the facts of the steps
  abbrev pub IsValidEnding : List Fact → Goal → Ending → Type 0
  IsValidEnding shown (Value f) Holds = IsIn shown f
  IsValidEnding shown Clash (TwoValues c low high) = (low < high) × IsIn shown (fact c low) × IsIn shown (fact c high)
  IsValidEnding shown Clash (Refuted part instance ports from) = JustifiesClash (IsIn shown) (by_instance part instance ports from)
  IsValidEnding shown (Value f) (TwoValues c low high) = ⊥
  IsValidEnding shown (Value f) (Refuted part instance ports from) = ⊥
  IsValidEnding shown Clash Holds = ⊥

  -- each step is valid, and the ending shows the goal
  pub record IsValid (goal : Goal) (d : Derivation) : Type 0 where
    pub steps : AreValidAfter [] d.steps
    pub ending : IsValidEnding (map fact_of d.steps) goal d.ending

  -- what the goal says of the environment
  abbrev pub IsMet : Goal → Type 0
  IsMet (Value f) = Has (stock_of P) f E
  IsMet Clash = IsRefutedBy (stock_of P) E

-- what has a valid derivation is so
abbrev pub ValidDerivationsAreTrue : Type 0
ValidDerivationsAreTrue = (P : Circuit) (E : Set Place) (goal : Goal) (d : Derivation) → IsValid P E goal d → IsMet P E goal

-- a canonical derivation is valid
abbrev pub CanonicalDerivationsAreValid : Type 0
CanonicalDerivationsAreValid = (P : Circuit) (E : Set Place) (goal : Goal) (d : Derivation) → IsCanonical P E goal d → IsValid P E goal d
