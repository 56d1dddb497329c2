use Rattle.std.proofs.Common.{◌≡◌, ℕ, suc, ◌-◌, ◌≤◌, subst, arith}
use Rattle.circuit_model.specs.Chosen.{chosen_places}
use Rattle.circuit_model.specs.Derivation.{IsRoundOf}
use Rattle.circuit_model.specs.Present.{circuit_of}
use Rattle.proof_check.specs.Closing.{Timed}
use Rattle.proof_check.specs.Written.{step_of}
use Rattle.explanations.proofs.Closings.{timed_round, timed_low, tells_round}
use Rattle.explanations.proofs.Supported.{never_unjustified, first_supports}
use Rattle.explanations.proofs.supports.support_of.Goals as goal

pub first_step-requires-clause-told : goal.first_step-requires-clause-told
first_step-requires-clause-told c =
    let t : Timed = record { fact = c.args.fact; round = c.args.round } in
    let low : c.args.round ≤ c.requires.closes.last = timed_low c.args.present.now (chosen_places c.args.chosen.now) c.args.closed.now c.requires.closes t c.requires.listed in
    tells_round c.args.present.now (chosen_places c.args.chosen.now) c.args.closed.now c.requires.closes (c.args.round - 1) (omega (arith, low, c.if-round-eq0.false))

pub unreachable-requires : goal.unreachable-requires
unreachable-requires c =
    let t : Timed = record { fact = c.args.fact; round = c.args.round } in
    let e : c.args.round ≡ suc (c.args.round - 1) = omega (arith, c.if-round-eq0.false) in
    let Q : ℕ → Type 0 = λ n. IsRoundOf (circuit_of c.args.present.now) (chosen_places c.args.chosen.now) c.args.fact n in
    never_unjustified (circuit_of c.args.present.now) (chosen_places c.args.chosen.now) (c.args.round - 1) c.args.fact (subst Q e (timed_round c.args.present.now (chosen_places c.args.chosen.now) c.args.closed.now c.requires.closes t c.requires.listed)) c.in-None.ensures

pub returns-clause-support : goal.returns-clause-support
returns-clause-support c =
    let t : Timed = record { fact = c.args.fact; round = c.args.round } in
    let e : c.args.round ≡ suc (c.args.round - 1) = omega (arith, c.if-round-eq0.false) in
    let Q : ℕ → Type 0 = λ n. IsRoundOf (circuit_of c.args.present.now) (chosen_places c.args.chosen.now) c.args.fact n in
    (first_supports (circuit_of c.args.present.now) (chosen_places c.args.chosen.now) (c.args.round - 1) c.args.fact (subst Q e (timed_round c.args.present.now (chosen_places c.args.chosen.now) c.args.closed.now c.requires.closes t c.requires.listed)) (step_of c.in-Some.step) c.in-Some.ensures).1

pub returns-clause-shows : goal.returns-clause-shows
returns-clause-shows c =
    let t : Timed = record { fact = c.args.fact; round = c.args.round } in
    let e : c.args.round ≡ suc (c.args.round - 1) = omega (arith, c.if-round-eq0.false) in
    let Q : ℕ → Type 0 = λ n. IsRoundOf (circuit_of c.args.present.now) (chosen_places c.args.chosen.now) c.args.fact n in
    (first_supports (circuit_of c.args.present.now) (chosen_places c.args.chosen.now) (c.args.round - 1) c.args.fact (subst Q e (timed_round c.args.present.now (chosen_places c.args.chosen.now) c.args.closed.now c.requires.closes t c.requires.listed)) (step_of c.in-Some.step) c.in-Some.ensures).0
