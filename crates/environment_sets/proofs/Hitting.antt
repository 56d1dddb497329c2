-- Minimal hitting sets.
use Rattle.std.proofs.Common.{ℕ, sym, subst}
use Rattle.std.proofs.lemmas.Bool.{false≢true, false_from_ne_true}
use mathlib.Core.Path.{fun_ext}
use Rattle.environment_sets.specs.Sets.{Set, no_elements, IsMinimalHittingSet}
use Rattle.environment_sets.specs.Laws.{NoneIsHitByNone}

-- of the same sets
pub hitting_alike : (E F : Set ℕ → Type 0) → ((C : Set ℕ) → E C → F C) → ((C : Set ℕ) → F C → E C) → (D : Set ℕ) → IsMinimalHittingSet E D → IsMinimalHittingSet F D
hitting_alike E F to from D m = record { holds = λ C f. m.holds C (from C f); least = λ G within hits. m.least G within (λ C e. hits C (to C e)) }

-- of no sets
none_minimal : IsMinimalHittingSet (λ _. ⊥) no_elements
none_minimal = record { holds = λ C h. absurd h; least = λ F within hits k h. absurd (false≢true h) }

pub none_is_hit_by_none : NoneIsHitByNone
none_is_hit_by_none D = (
  λ minimal. fun_ext (λ k. false_from_ne_true (D k) (λ is. false≢true (minimal.least no_elements (λ j h. absurd (false≢true h)) (λ C h. absurd h) k is))),
  λ empty. subst (IsMinimalHittingSet (λ _. ⊥)) (sym empty) none_minimal,
)
