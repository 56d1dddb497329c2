use Rattle.std.proofs.Common.{◌≡◌, ℕ, ◌+◌, ◌-◌, ◌<◌, List, ◌∷◌, length, map, reverse, sym, ap, subst, ◌∙◌, arith}
use Rattle.environment_sets.proofs.Membership.{IsIn-slice_get}
use Rattle.circuit_model.specs.declared.model.Fact.{Fact}
use Rattle.circuit_model.specs.Chosen.{chosen_places}
use Rattle.circuit_model.specs.Derivation as derivations
use Rattle.proof_check.specs.declared.derivation.Step.{Step}
use Rattle.proof_check.specs.Closing.{Timed}
use Rattle.proof_check.specs.Written.{given, step_of}
use Rattle.explanations.specs.Marks.{Marks}
use Rattle.explanations.proofs.Marking.{marked_there, not_marked_there}
use Rattle.explanations.proofs.Walked.{IsWalked, walk_begins, walk_past, walk_on, walk_ends, map_reverse_push}
use Rattle.explanations.proofs.walk.walk.Goals as goal

pub loop-i-init : goal.loop-i-init
loop-i-init c =
    let Q : ℕ → Type 0 = λ n. IsWalked c.args.present.now (chosen_places c.args.chosen.now) c.args.closed.now (given c.args.goals.now) n c.mark.new.marks (map step_of (reverse c.new-steps.result.items)) in
    let R : List Step → Type 0 = λ steps. IsWalked c.args.present.now (chosen_places c.args.chosen.now) c.args.closed.now (given c.args.goals.now) (length c.args.closed.now.facts) c.mark.new.marks (map step_of (reverse steps)) in
    subst Q (sym c.len-i.ensures) (subst R (sym c.new-steps.ensures.items) (walk_begins c.args.present.now (chosen_places c.args.chosen.now) c.requires.lawful c.args.closed.now c.requires.closes (given c.args.goals.now) c.args.marks.now c.mark.new.marks c.requires.as_many c.requires.fresh c.mark.ensures))

pub support_of-step-requires-clause-listed : goal.support_of-step-requires-clause-listed
support_of-step-requires-clause-listed c = IsIn-slice_get c.args.closed.now.facts (c.loop-i.i - 1) (record { fact = c.at-round.result.0; round = c.at-round.result.1 }) c.at-round.ensures

pub loop-i-preserved-then-not-marks-i : goal.loop-i-preserved-then-not-marks-i
loop-i-preserved-then-not-marks-i c =
    let i : ℕ = c.loop-i.i - 1 in
    let e : c.loop-i.i ≡ i + 1 = omega (arith, c.loop-i-test.true) in
    let Q : ℕ → Type 0 = λ n. IsWalked c.args.present.now (chosen_places c.args.chosen.now) c.args.closed.now (given c.args.goals.now) n c.loop-i.marks (map step_of (reverse c.loop-i.steps.items)) in
    walk_past c.args.present.now (chosen_places c.args.chosen.now) c.requires.lawful c.args.closed.now c.requires.closes (given c.args.goals.now) i c.loop-i.marks (map step_of (reverse c.loop-i.steps.items)) (subst Q e c.loop-i.invariant) (not_marked_there c.loop-i.marks i c.if-not-marks-i.true)

pub loop-i-preserved : goal.loop-i-preserved
loop-i-preserved c =
    let i : ℕ = c.loop-i.i - 1 in
    let e : c.loop-i.i ≡ i + 1 = omega (arith, c.loop-i-test.true) in
    let inside : i < length c.loop-i.marks = omega (arith, c.loop-i-test.true, c.loop-i.auto.i, c.len-i.ensures, c.loop-i.invariant.as_many) in
    let t : Timed = record { fact = c.at-round.result.0; round = c.at-round.result.1 } in
    let Q : ℕ → Type 0 = λ n. IsWalked c.args.present.now (chosen_places c.args.chosen.now) c.args.closed.now (given c.args.goals.now) n c.loop-i.marks (map step_of (reverse c.loop-i.steps.items)) in
    let R : List Fact → Type 0 = λ facts. Marks facts c.args.closed.now.facts c.loop-i.marks c.mark-in-loop-i.new.marks in
    let S : List derivations.Step → Type 0 = λ steps. IsWalked c.args.present.now (chosen_places c.args.chosen.now) c.args.closed.now (given c.args.goals.now) i c.mark-in-loop-i.new.marks steps in
    let pushed : map step_of (reverse c.push.new.self.items) ≡ step_of c.support_of-step.result ∷ map step_of (reverse c.loop-i.steps.items) = ap (λ (steps : List Step). map step_of (reverse steps)) c.in_ok-push.ensures.items ∙ map_reverse_push step_of c.loop-i.steps.items c.support_of-step.result in
    subst S (sym pushed) (walk_on c.args.present.now (chosen_places c.args.chosen.now) c.requires.lawful c.args.closed.now c.requires.closes (given c.args.goals.now) i c.loop-i.marks (map step_of (reverse c.loop-i.steps.items)) (subst Q e c.loop-i.invariant) t c.at-round.ensures (step_of c.support_of-step.result) c.support_of-step.ensures.shows c.support_of-step.ensures.support c.mark-in-loop-i.new.marks (marked_there c.loop-i.marks i inside c.if-not-marks-i.false) (subst R c.facts_behind.ensures c.mark-in-loop-i.ensures))

pub returns : goal.returns
returns c =
    let e : c.loop-i.i ≡ 0 = omega (arith, c.loop-i-test.false) in
    let Q : ℕ → Type 0 = λ n. IsWalked c.args.present.now (chosen_places c.args.chosen.now) c.args.closed.now (given c.args.goals.now) n c.loop-i.marks (map step_of (reverse c.loop-i.steps.items)) in
    walk_ends c.args.present.now (chosen_places c.args.chosen.now) c.requires.lawful c.args.closed.now c.requires.closes (given c.args.goals.now) c.requires.listed c.loop-i.marks (map step_of (reverse c.loop-i.steps.items)) (subst Q e c.loop-i.invariant)
