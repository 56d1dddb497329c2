use Rattle.std.proofs.Common.{◌≡◌, ℕ, List, length, sym, subst, arith}
use Rattle.circuit_model.specs.declared.model.Fact.{Fact}
use Rattle.circuit_model.specs.Chosen.{chosen_places}
use Rattle.proof_check.specs.Rounds.{AreLookedAt, from_here}
use Rattle.proof_check.proofs.Looks.{looked_none}
use Rattle.proof_check.proofs.looking.look.Goals as goal

pub loop-part-init : goal.loop-part-init
loop-part-init c =
    let P : List Fact → Type 0 = λ found. AreLookedAt c.args.round.now.present.now (chosen_places c.args.round.now.chosen.now) c.args.round.now.held.now (from_here 0 0 0) found in
    subst P (sym c.requires.empty) (looked_none c.args.round.now.present.now (chosen_places c.args.round.now.chosen.now) c.args.round.now.held.now)

pub returns : goal.returns
returns c =
    let P : ℕ → Type 0 = λ n. AreLookedAt c.args.round.now.present.now (chosen_places c.args.round.now.chosen.now) c.args.round.now.held.now (from_here n 0 0) c.loop-part.found in
    let all : c.loop-part.part ≡ length c.args.round.now.present.now.parts = omega (arith, c.parts-part-end.ensures.value) in
    subst P all c.loop-part.invariant
