-- What has its source in a component, kept by each step.
use Rattle.std.proofs.Common.{ℕ, ◌⊎◌, inl, inr, List, Some}
use Rattle.circuit_model.specs.declared.model.Fact.{Fact}
use Rattle.circuit_model.specs.Stock.{Stock}
use Rattle.circuit_model.proofs.Monotony.{IsForced-map}
use Rattle.environment_sets.specs.Lists.{IsIn}
use Rattle.environment_sets.specs.Sets.{Set}
use Rattle.propagation.specs.Propagating.{Target, Family, RecordedInference, Leads, IsReached, IsReachedUnderLess, IsSourced, AreSourced}
use Rattle.propagation.proofs.Steps.{IsSourced-map}

-- what an inference of a component leads to has its source there, where each of its facts is reached under less
pub sourced_by : (S : Stock ℕ) (kept : Family) (U : Set ℕ) (slot : ℕ) (from : List Fact) (f : Fact) → Leads S from (Some slot) (Some f) → ((g : Fact) → IsIn from g → IsReachedUnderLess kept U g) → IsSourced S kept slot f U
sourced_by S kept U slot from f leads each = IsForced-map (λ a x. x) each leads

-- where more is reached, and what is new has its source or is reached
pub sourced_on :
    (S : Stock ℕ) (kept kept' : Family) (due_by due_by' came_by came_by' : ℕ → Fact → Set ℕ → Type 0) (at_hand at_hand' : RecordedInference → Fact → Set ℕ → Type 0) (came came' : Fact → Set ℕ → Type 0)
    → AreSourced S kept due_by at_hand came came_by → ((t : Target) (E : Set ℕ) → IsReached kept t E → IsReached kept' t E)
    → ((k : ℕ) (f : Fact) (E : Set ℕ) → due_by' k f E → due_by k f E ⊎ IsSourced S kept' k f E)
    → ((j : RecordedInference) (f : Fact) (E : Set ℕ) → at_hand' j f E → at_hand j f E ⊎ IsReached kept' (Some f) E)
    → ((f : Fact) (E : Set ℕ) → came' f E → came f E ⊎ IsReached kept' (Some f) E)
    → ((k : ℕ) (f : Fact) (E : Set ℕ) → came_by' k f E → came_by k f E ⊎ IsSourced S kept' k f E)
    → AreSourced S kept' due_by' at_hand' came' came_by'
sourced_on S kept kept' due_by due_by' came_by came_by' at_hand at_hand' came came' was stays due items arrivals arrivals_by = record {
  due = λ k f E d. elim (due k f E d) [ inl o ↦ IsSourced-map S kept kept' stays k f E (was.due k f E o) | inr n ↦ n ];
  at_hand_reached = λ j f E w. elim (items j f E w) [ inl o ↦ stays (Some f) E (was.at_hand_reached j f E o) | inr n ↦ n ];
  came_reached = λ f E c. elim (arrivals f E c) [ inl o ↦ stays (Some f) E (was.came_reached f E o) | inr n ↦ n ];
  came_sourced = λ k f E c. elim (arrivals_by k f E c) [ inl o ↦ IsSourced-map S kept kept' stays k f E (was.came_sourced k f E o) | inr n ↦ n ];
}
