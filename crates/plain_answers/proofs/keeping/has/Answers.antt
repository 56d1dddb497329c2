use Rattle.std.proofs.Common.{◌≡◌, ◌↔◌, Bool, true, false, IsTrue, List, Option, Some, ℕ, refl, sym, subst, ◌∙◌, true≢false}
use Rattle.environment_sets.specs.Sets.{Set}
use Rattle.circuit_model.specs.declared.model.Fact.{Fact}
use Rattle.circuit_model.specs.Diagnoses.{Place}
use Rattle.circuit_model.specs.Present.{PresentView}
use Rattle.proof_check.specs.Closing.{Timed}
use Rattle.plain_answers.specs.declared.closing.Closed.{Closed}
use Rattle.plain_answers.specs.declared.closing.Closed.TheVariants as closed
use Rattle.plain_answers.specs.Closing.{AreFacts, Closes}
use Rattle.plain_answers.specs.Tests.{HasFact, IsDecided}
use Rattle.plain_answers.specs.Words.{word_in}
use Rattle.plain_answers.proofs.keeping.has.Goals as goal

closed_to : (s : PresentView) (E : Set Place) (o : Closed) (facts : List Timed) → o ≡ closed.Facts facts → Closes s E o → AreFacts s E facts
closed_to s E closed.Clash facts at h = cc
closed_to s E (closed.Facts closure) facts at h = let same : closure ≡ facts = cc in subst (λ (facts : List Timed). AreFacts s E facts) same h

has_or_not : (s : PresentView) (f : Fact) (E : Set Place) (facts : List Timed) (found : Option ℕ) (b : Bool) → AreFacts s E facts → found ≡ word_in facts f.cell → (IsTrue b ↔ (found ≡ Some f.value)) → IsDecided b (HasFact s f E)
has_or_not s f E facts found true are is word = record { consistent = are.consistent; follows = (are.exact f.cell f.value).0 (sym is ∙ word.0 refl) }
has_or_not s f E facts found false are is word = λ h. true≢false (sym (word.1 (is ∙ (are.exact f.cell f.value).1 h.follows)))

pub returns-in-Facts : goal.returns-in-Facts
returns-in-Facts c =
    has_or_not _ c.args.fact _ _ _ c.is_word.result (closed_to _ _ c.in_ok-close_environment.field-0 _ c.in-Facts.is c.in_ok-close_environment.ensures) c.value_at.ensures c.is_word.ensures
