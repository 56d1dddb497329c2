use Rattle.std.proofs.Common.{◌+◌, refl, arith}
use Rattle.std.proofs.lemmas.Bool.{eqb-false}
use Rattle.std.proofs.lemmas.Option.{MatchOption-at_some, MatchOption-at_none}
use Rattle.circuit_model.specs.Chosen.{chosen_places}
use Rattle.proof_check.specs.declared.derivation.Ending.{Ending}
use Rattle.proof_check.specs.Written.{ending_of}
use Rattle.proof_check.specs.Turns.{AreForced, IsClashOfFacts}
use Rattle.proof_check.proofs.Turning.{round_low, separate, holding_fit, quiet_but, closes_clash, closes_rest, goes_on_at}
use Rattle.proof_check.proofs.closing.go_on.Goals as goal

pub hold-requires-clause-separate : goal.hold-requires-clause-separate
hold-requires-clause-separate c = separate c.args.present.now (chosen_places c.args.chosen.now) c.args.closing.now.timed.items c.args.closing.now.held c.args.closing.now.found c.args.closing.now.round c.requires

pub forced-requires-clause-fit : goal.forced-requires-clause-fit
forced-requires-clause-fit c =
    holding_fit c.args.present.now (chosen_places c.args.chosen.now) c.args.closing.now.timed.items c.args.closing.now.held c.args.closing.now.found c.args.closing.now.round c.requires
    c.hold.new.timed.items c.hold.new.held c.in_ok-hold.ensures.listed c.in_ok-hold.ensures.held c.in_ok-hold.ensures.long

pub forced-requires-clause-quiet : goal.forced-requires-clause-quiet
forced-requires-clause-quiet c = λ later.
    quiet_but c.args.present.now (chosen_places c.args.chosen.now) c.args.closing.now.timed.items c.args.closing.now.held c.args.closing.now.found c.args.closing.now.round c.requires
    c.hold.new.timed.items c.hold.new.held c.in_ok-hold.ensures.listed c.in_ok-hold.ensures.held c.in_ok-hold.ensures.long (eqb-false c.args.closing.now.round 0 later)

pub returns-in-Some : goal.returns-in-Some
returns-in-Some c =
    closes_clash c.args.present.now (chosen_places c.args.chosen.now) c.args.closing.now.timed.items c.args.closing.now.held c.args.closing.now.found c.args.closing.now.round c.requires
    c.hold.new.timed.items c.hold.new.held c.in_ok-hold.ensures.listed c.in_ok-hold.ensures.held c.in_ok-hold.ensures.long c.in-Some.ending
    (MatchOption-at_some (AreForced c.args.present.now (chosen_places c.args.chosen.now) c.hold.new.held c.forced.new.found) (λ (ending : Ending). IsClashOfFacts c.args.present.now (chosen_places c.args.chosen.now) c.hold.new.held (ending_of ending)) c.in-Some.ending c.in-Some.is c.in_ok-clash.ensures)

pub returns-then-len-eq0 : goal.returns-then-len-eq0
returns-then-len-eq0 c =
    closes_rest c.args.present.now (chosen_places c.args.chosen.now) c.args.closing.now.timed.items c.args.closing.now.held c.args.closing.now.found c.args.closing.now.round c.requires
    c.hold.new.timed.items c.hold.new.held c.in_ok-hold.ensures.listed c.in_ok-hold.ensures.held c.in_ok-hold.ensures.long c.forced.new.found
    (MatchOption-at_none (AreForced c.args.present.now (chosen_places c.args.chosen.now) c.hold.new.held c.forced.new.found) (λ (ending : Ending). IsClashOfFacts c.args.present.now (chosen_places c.args.chosen.now) c.hold.new.held (ending_of ending)) c.in_default.is c.in_ok-clash.ensures)
    (omega (arith, c.len.ensures.value))

pub overflow_add-closing : goal.overflow_add-closing
overflow_add-closing c = omega (arith, round_low c.args.present.now (chosen_places c.args.chosen.now) c.args.closing.now.timed.items c.args.closing.now.held c.args.closing.now.found c.args.closing.now.round c.requires)

pub returns : goal.returns
returns c = (
  goes_on_at c.args.present.now (chosen_places c.args.chosen.now) c.args.closing.now.timed.items c.args.closing.now.held c.args.closing.now.found c.args.closing.now.round c.requires
      c.hold.new.timed.items c.hold.new.held c.in_ok-hold.ensures.listed c.in_ok-hold.ensures.held c.in_ok-hold.ensures.long c.forced.new.found
      (MatchOption-at_none (AreForced c.args.present.now (chosen_places c.args.chosen.now) c.hold.new.held c.forced.new.found) (λ (ending : Ending). IsClashOfFacts c.args.present.now (chosen_places c.args.chosen.now) c.hold.new.held (ending_of ending)) c.in_default.is c.in_ok-clash.ensures)
      (c.args.closing.now.round + 1) refl c.in_ok-hold.ensures.order c.len.ensures.order (omega (arith, c.len.ensures.value)),
  refl,
)
