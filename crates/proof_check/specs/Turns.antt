-- The rounds of a closing, one after another.
use Rattle.std.specs.Prelude.{◌≡◌, ℕ, zero, suc, ◌+◌, ◌<◌, ◌≤◌, ◌⊎◌, ◌↔◌, List, length, Some, None}
use Rattle.environment_sets.specs.Sets.{Set}
use Rattle.environment_sets.specs.Lists.{IsIn, IsRising}
use Rattle.circuit_model.specs.declared.model.Fact.{Fact}
use Rattle.circuit_model.specs.Closure.{AreTwoWords, ClashesAt}
use Rattle.circuit_model.specs.Diagnoses.{Place}
use Rattle.circuit_model.specs.Derivation as derivations
use Rattle.circuit_model.specs.Derivation.{Justification, by_instance, AreFirstTwoWords, IsFirst, IsAssumed, HoldsAt, IsRoundOf, Justifies, JustifiesClash}
use Rattle.circuit_model.specs.Present.{PresentView, IsLawful, circuit_of}
use Rattle.proof_check.specs.declared.closing.Closing.{Closing}
use Rattle.proof_check.specs.declared.closing.Turn.{Turn}
use Rattle.proof_check.specs.declared.closing.Turn.TheVariants.{Goes, Rests, Clashes}
use Rattle.proof_check.specs.Closing.{Timed, IsEarlier, Closes}
use Rattle.proof_check.specs.Ordered.{AreInOrder}

-- the fact, first holding at this round
abbrev pub at_round : ℕ → Fact → Timed
at_round round f = record { fact = f; round = round }

-- the facts and these
abbrev pub HasAll : List Fact → (old new : List Fact) → Type 0
HasAll found old new = (g : Fact) → IsIn new g ↔ (IsIn found g ⊎ IsIn old g)

-- no fact is in both lists
abbrev pub AreSeparate : List Fact → List Fact → Type 0
AreSeparate found held = (f : Fact) → IsIn found f → IsIn held f → ⊥

-- The clash of the facts: the first cell with two words and its two least words; where no cell has two, the first
-- justification that refutes.
abbrev pub IsClashOfFacts : PresentView → Set Place → List Fact → derivations.Ending → Type 0
IsClashOfFacts s E held derivations.Holds = ⊥
IsClashOfFacts s E held (derivations.TwoValues c low high) = AreFirstTwoWords (IsIn held) c low high
IsClashOfFacts s E held (derivations.Refuted part instance ports from) = (AreTwoWords (IsIn held) → ⊥) × IsFirst (JustifiesClash (circuit_of s) E (IsIn held)) (by_instance part instance ports from)

-- the facts do not clash, and the found ones are those that are forced from them and are none of them
pub record AreForced (s : PresentView) (E : Set Place) (held found : List Fact) : Type 0 where
  pub alone : AreTwoWords (IsIn held) → ⊥
  pub fine : (j : Justification) → JustifiesClash (circuit_of s) E (IsIn held) j → ⊥
  pub entered : (j : Justification) (f : Fact) → Justifies (circuit_of s) E (IsIn held) f j → IsIn held f ⊎ IsIn found f
  pub sound : (f : Fact) → IsIn found f → ((j : Justification) × Justifies (circuit_of s) E (IsIn held) f j) × (IsIn held f → ⊥)

-- the fact holds at an earlier round
abbrev pub HoldsBefore : PresentView → Set Place → ℕ → Fact → Type 0
HoldsBefore s E zero f = ⊥
HoldsBefore s E (suc n) f = HoldsAt (circuit_of s) E n f

-- The facts of earlier rounds are held, and listed with their rounds; what first holds at this one is found; no earlier
-- round has a clash, and each later than the first has found something.
pub record AreAtRound (s : PresentView) (E : Set Place) (timed : List Timed) (held found : List Fact) (round : ℕ) : Type 0 where
  pub lawful : IsLawful s
  pub rising : IsRising IsEarlier timed
  pub exact : (t : Timed) → IsIn timed t ↔ (IsRoundOf (circuit_of s) E t.fact t.round × (t.round < round))
  pub before : (f : Fact) → IsIn held f ↔ HoldsBefore s E round f
  pub first : (f : Fact) → IsIn found f → IsRoundOf (circuit_of s) E f round
  pub all : (f : Fact) → HoldsAt (circuit_of s) E round f → IsIn held f ⊎ IsIn found f
  pub calm : (n : ℕ) → n < round → ClashesAt (IsAssumed (circuit_of s) E) n → ⊥
  pub held_order : AreInOrder held
  pub found_order : AreInOrder found
  pub long : round ≤ length held + 1
  pub some : (round ≡ 0) ⊎ (0 < length found)

-- so of a closing that is going on
abbrev pub IsAtRound : PresentView → Set Place → Closing → Type 0
IsAtRound s E c = AreAtRound s E c.timed.items c.held c.found c.round

-- What a turn comes to: the next round; or this one is the last, with a clash or without.
abbrev pub Turns : PresentView → Set Place → (old new : Closing) → Turn → Type 0
Turns s E old new Goes = IsAtRound s E new × (new.round ≡ old.round + 1)
Turns s E old new Rests = Closes s E (record { facts = new.timed.items; clash = None })
Turns s E old new (Clashes ending) = Closes s E (record { facts = new.timed.items; clash = Some ending })
