-- The words that held at some cells by a round of a closing.
use Rattle.std.specs.Prelude.{◌≡◌, ◌↔◌, ℕ, ◌<◌, ◌/◌, ◌%◌, ◌^◌, ◌==◌, ◌&&◌, nat_le, if◌then◌else◌, List, [], ◌∷◌, Option, Some, None}
use Rattle.environment_sets.specs.Sets.{Set}
use Rattle.environment_sets.specs.Lists.{IsRising}
use Rattle.circuit_model.specs.declared.model.Cell.{Cell}
use Rattle.circuit_model.specs.Closure.{fact}
use Rattle.circuit_model.specs.Diagnoses.{Place}
use Rattle.circuit_model.specs.Derivation.{HoldsAt}
use Rattle.circuit_model.specs.Present.{PresentView, width_of, is_cell, circuit_of}
use Rattle.proof_check.specs.Closing.{Timed, IsEarlier}

-- by round, then by cell, then by word
abbrev pub AreByRound : List Timed → Type 0
AreByRound facts = IsRising IsEarlier facts

-- the word of the first fact at the cell that held by the round
abbrev pub word_by : List Timed → ℕ → Cell → Option ℕ
word_by [] round c = None
word_by (t ∷ facts) round c = if is_cell t.fact.cell c && nat_le t.round round then Some t.fact.value else word_by facts round c

-- the words at the places of this number, whose lowest bit is the first place; elsewhere none
abbrev pub chosen_words : ℕ → List (Option ℕ) → List (Option ℕ)
chosen_words places [] = []
chosen_words places (word ∷ words) = (if places % 2 == 1 then word else None) ∷ chosen_words (places / 2) words

-- the listed words are those that held at the round
abbrev pub TellsRound : PresentView → Set Place → List Timed → ℕ → Type 0
TellsRound s E facts round = (c : Cell) (v : ℕ) → word_by facts round c ≡ Some v ↔ HoldsAt (circuit_of s) E round (fact c v)

-- each of them fits its net
abbrev pub HasFitting : PresentView → List Timed → ℕ → Type 0
HasFitting s facts round = (c : Cell) (v : ℕ) → word_by facts round c ≡ Some v → v < 2 ^ width_of s c.net
