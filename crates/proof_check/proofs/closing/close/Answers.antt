use Rattle.std.proofs.Common.{◌≡◌, ◌+◌, subst, arith}
use Rattle.circuit_model.specs.Chosen.{chosen_places}
use Rattle.proof_check.specs.declared.closing.Turn.{Turn}
use Rattle.proof_check.specs.Turns.{IsAtRound, Turns}
use Rattle.proof_check.proofs.Turning.{round_low}
use Rattle.proof_check.proofs.closing.close.Goals as goal

pub loop-closing-smaller : goal.loop-closing-smaller
loop-closing-smaller c =
    let Q : Turn → Type 0 = λ t. Turns c.args.present.now (chosen_places c.args.chosen.now) c.loop-closing.closing c.go_on.new.closing t in
    let next : IsAtRound c.args.present.now (chosen_places c.args.chosen.now) c.go_on.new.closing × (c.go_on.new.closing.round ≡ c.loop-closing.closing.round + 1) = subst Q c.in-Goes.is c.in_ok-go_on.ensures in
    let low = round_low c.args.present.now (chosen_places c.args.chosen.now) c.loop-closing.closing.timed.items c.loop-closing.closing.held c.loop-closing.closing.found c.loop-closing.closing.round c.loop-closing.invariant in
    let step = next.1 in
    omega arith
