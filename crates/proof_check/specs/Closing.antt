-- What the closing of an environment says, round by round.
use Rattle.std.specs.Prelude.{◌≡◌, ℕ, ◌<◌, ◌≤◌, ◌⊎◌, ◌↔◌, IsTrue, List, Option, Some, None}
use Rattle.environment_sets.specs.Sets.{Set}
use Rattle.environment_sets.specs.Lists.{IsIn, IsRising}
use Rattle.circuit_model.specs.Closure.{ClashesAt}
use Rattle.circuit_model.specs.Stock.{IsRefutedBy}
use Rattle.circuit_model.specs.Diagnoses.{Place}
use Rattle.circuit_model.specs.Decided.{IsLastRound}
use Rattle.circuit_model.specs.Derivation.{is_fact_before, IsFirstRound, IsAssumed, IsRoundOf, IsClashOf}
use Rattle.circuit_model.specs.Present.{PresentView, circuit_of}
use Rattle.circuit_model.specs.Whole.{stock}
use Rattle.proof_check.specs.declared.closed.Timed as closed
use Rattle.proof_check.specs.declared.derivation.Ending.{Ending}
use Rattle.proof_check.specs.Written.{ending_of}

-- a fact, and the round at which it first holds
abbrev pub Timed : Type 0
Timed = closed.Timed

-- facts with their rounds, and a clash, if there is one
pub record ClosedView : Type 0 where
  pub facts : List Timed
  pub clash : Option Ending

-- by round, then by cell, then by word
abbrev pub IsEarlier : Timed → Timed → Type 0
IsEarlier t u = (t.round < u.round) ⊎ ((t.round ≡ u.round) × IsTrue (is_fact_before t.fact u.fact))

-- Why a round is the last one: nothing is added after it, and E is consistent; or it is the first with a clash, and the
-- clash is that one.
abbrev pub EndsAt : PresentView → Set Place → ℕ → Option Ending → Type 0
EndsAt s E last None = IsLastRound Place (stock s) E last × (IsRefutedBy (stock s) E → ⊥)
EndsAt s E last (Some e) = IsFirstRound (ClashesAt (IsAssumed (circuit_of s) E)) last × IsClashOf (circuit_of s) E last (ending_of e)

-- exactly the facts whose first round is at most the last one, with these rounds and in order, and the clash there
pub record Closes (s : PresentView) (E : Set Place) (c : ClosedView) : Type 0 where
  pub last : ℕ
  pub rising : IsRising IsEarlier c.facts
  pub exact : (t : Timed) → IsIn c.facts t ↔ (IsRoundOf (circuit_of s) E t.fact t.round × (t.round ≤ last))
  pub ends : EndsAt s E last c.clash
