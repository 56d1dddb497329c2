use Rattle.std.proofs.Common.{inl, inr, refl, sym, subst}
use Rattle.assumption_slots.specs.Slots.{stock}
use Rattle.circuit_model.specs.Chosen.{chosen_places}
use Rattle.circuit_model.specs.Closure.{fact}
use Rattle.circuit_model.specs.declared.model.Cell.{Cell}
use Rattle.circuit_model.specs.declared.model.Fact.{Fact}
use Rattle.circuit_model.specs.Derivation.{Value, IsCanonical}
use Rattle.circuit_model.specs.Diagnoses.{Place}
use Rattle.circuit_model.specs.Present.{PresentView, circuit_of}
use Rattle.environment_sets.specs.Members.{members}
use Rattle.environment_sets.specs.Sets.{Set}
use Rattle.proof_check.specs.Written.{derivation_of}
use Rattle.standing_view.specs.View.{places}
use Rattle.standing_view.proofs.Named.{the_mask_is_remembered}
use Rattle.session_undo.specs.Checks.{HasNoLabel}
use Rattle.session_undo.specs.Presents.{State}
use Rattle.session_undo.specs.Remembering.{parked}
use Rattle.session_undo.specs.Steps.{IsFirstOfLabel}
use Rattle.session_undo.proofs.Whys.{no_label, first_of_label}
use Rattle.session_undo.proofs.session.Session.explain.Goals as goal

pub label_after-requires-clause-remembered : goal.label_after-requires-clause-remembered
label_after-requires-clause-remembered c = the_mask_is_remembered (stock c.self.inside.remembered.engine.slots) c.self.inside.remembered.standing c.self.inside.present (parked c.self.inside.present c.self.inside.history) c.self.invariant.stands

pub returns-in_default-clause-answers : goal.returns-in_default-clause-answers
returns-in_default-clause-answers c =
    let s : PresentView = c.self.inside.present in
    let none : HasNoLabel s (fact c.in-Ok.cell c.args.value) = no_label s (fact c.in-Ok.cell c.args.value) (c.in_default.ensures.next s (parked s c.self.inside.history) c.self.invariant.stands) in
    let Q : State → Type 0 = λ old. HasNoLabel old.present (fact c.in-Ok.cell c.args.value) in
    let R : Cell → Type 0 = λ cell. HasNoLabel c.args.self.now.present (fact cell c.args.value) in
    inr (c.in-Ok.ensures.cell.0, inl (subst R c.in-Ok.ensures.cell.1 (subst Q c.self.view_is none), refl))

pub explain_under-requires-clause-member : goal.explain_under-requires-clause-member
explain_under-requires-clause-member c = (c.in-Some.ensures.next c.self.inside.present (parked c.self.inside.present c.self.inside.history) c.self.invariant.stands).further.member

pub returns-in-Ok-explain_under-clause-answers : goal.returns-in-Ok-explain_under-clause-answers
returns-in-Ok-explain_under-clause-answers c =
    let s : PresentView = c.self.inside.present in
    let f : Fact = fact c.in-Ok.cell c.args.value in
    let E : Set Place = places c.self.inside.remembered.standing (members c.in-Some.env) in
    let first : IsFirstOfLabel s f E = first_of_label s f E (c.in-Some.ensures.next s (parked s c.self.inside.history) c.self.invariant.stands) in
    let told = c.in-Ok-explain_under.ensures in
    let d = derivation_of c.in-Ok-explain_under.derivation in
    let at = c.in-Ok.ensures.cell.1 in
    let under : Set Place = chosen_places c.in-Ok-explain_under.under in
    let F : Set Place → Type 0 = λ G. IsFirstOfLabel s f G in
    let K : Set Place → Type 0 = λ G. IsCanonical (circuit_of s) G (Value f) d in
    let G : State → Type 0 = λ old. IsFirstOfLabel old.present f under in
    let H : State → Type 0 = λ old. IsCanonical (circuit_of old.present) under (Value f) d in
    let I : Cell → Type 0 = λ cell. IsFirstOfLabel c.args.self.now.present (fact cell c.args.value) under in
    let J : Cell → Type 0 = λ cell. IsCanonical (circuit_of c.args.self.now.present) under (Value (fact cell c.args.value)) d in
    let Q : State → Type 0 = λ old. HasNoLabel old.present f → ⊥ in
    let R : Cell → Type 0 = λ cell. HasNoLabel c.args.self.now.present (fact cell c.args.value) → ⊥ in (
      record { early = c.in-Ok.ensures.cell.0; late = (subst R at (subst Q c.self.view_is (λ none. none E first.member)), tt) },
      inl (record {
        net = c.args.net.now;
        cycle = c.args.cycle;
        value = c.args.value;
        asks = refl;
        first = subst I at (subst G c.self.view_is (subst F (sym told.same) first));
        canonical = subst J at (subst H c.self.view_is (subst K (sym told.same) told.canonical));
      }),
    )

pub returns-in-Err-explain_under-clause-answers : goal.returns-in-Err-explain_under-clause-answers
returns-in-Err-explain_under-clause-answers c =
    let s : PresentView = c.self.inside.present in
    let f : Fact = fact c.in-Ok.cell c.args.value in
    let E : Set Place = places c.self.inside.remembered.standing (members c.in-Some.env) in
    let member = (c.in-Some.ensures.next s (parked s c.self.inside.history) c.self.invariant.stands).further.member in
    let Q : State → Type 0 = λ old. HasNoLabel old.present f → ⊥ in
    let R : Cell → Type 0 = λ cell. HasNoLabel c.args.self.now.present (fact cell c.args.value) → ⊥ in
    record { free = c.in-Ok.ensures.cell.0; uncaused = (subst R c.in-Ok.ensures.cell.1 (subst Q c.self.view_is (λ none. none E member)), tt); wants = refl }
