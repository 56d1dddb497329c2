use Rattle.std.proofs.Common.{◌≡◌, ℕ, ◌<◌, List, Some, slice_get, get_or, length, true, true≢false, sym, subst, ◌∙◌, below_more, arith}
use Rattle.std.proofs.lemmas.Option.{slice_get-get_or}
use Rattle.circuit_model.specs.Derivation.{fact_of}
use Rattle.circuit_model.specs.declared.model.Fact.{Fact}
use Rattle.circuit_model.specs.Present.{is_fact}
use Rattle.circuit_model.proofs.SameCells.{same_fact, fact_itself}
use Rattle.proof_check.specs.declared.derivation.Step.{Step}
use Rattle.proof_check.specs.declared.derivation.Step.TheVariants.{Measured}
use Rattle.proof_check.specs.Written.{step_of, facts_of}
use Rattle.proof_check.proofs.Found.{found, not_found, fact_at_place, length-facts_of}
use Rattle.proof_check.proofs.premises.is_shown.Goals as goal

abbrev no_step : Step
no_step = Measured (record { cell = record { net = 0; cycle = 0 }; value = 0 })

there : (steps : List Step) (i : ℕ) → i < length steps → slice_get (facts_of steps) i ≡ Some (fact_of (step_of (get_or steps i no_step)))
there steps i inside = fact_at_place steps i (get_or steps i no_step) (slice_get-get_or steps i no_step inside)

pub returns-then-eq : goal.returns-then-eq
returns-then-eq c = found (facts_of c.args.shown.now) c.loop-step.step-index (fact_of (step_of (get_or c.args.shown.now c.loop-step.step-index no_step))) c.args.fact (there c.args.shown.now c.loop-step.step-index c.loop-step-test.true) (sym c.fact.ensures ∙ same_fact c.fact.result c.args.fact (sym c.eq.ensures ∙ c.if-eq.true))

pub loop-step-preserved : goal.loop-step-preserved
loop-step-preserved c = below_more (λ (k : ℕ). slice_get (facts_of c.args.shown.now) k ≡ Some c.args.fact → ⊥) c.loop-step.step-index c.loop-step.invariant (λ e.
    let at = there c.args.shown.now c.loop-step.step-index c.loop-step-test.true in
    let is : fact_of (step_of (get_or c.args.shown.now c.loop-step.step-index no_step)) ≡ c.args.fact = cc in
    true≢false (sym (subst (λ (f : Fact). is_fact c.fact.result f ≡ true) (c.fact.ensures ∙ is) (fact_itself c.fact.result)) ∙ (sym c.eq.ensures ∙ c.if-eq.false)))

pub returns : goal.returns
returns c = not_found (facts_of c.args.shown.now) c.loop-step.step-index c.args.fact (omega (arith, length-facts_of c.args.shown.now, c.loop-step-test.false)) c.loop-step.invariant
