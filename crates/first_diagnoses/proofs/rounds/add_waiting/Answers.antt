use Rattle.std.proofs.Common.{◌≡◌, ◌≤◌, ◌<◌, arith}
use Rattle.first_diagnoses.specs.Weights.{weight_in}
use Rattle.first_diagnoses.specs.Rounds.{IsOfRound}
use Rattle.first_diagnoses.proofs.Firsts.{adds_none}
use Rattle.first_diagnoses.proofs.Waits.{adds_one_heavier}
use Rattle.first_diagnoses.proofs.rounds.add_waiting.Goals as goal

pub returns-then-item-round-clause-first : goal.returns-then-item-round-clause-first
returns-then-item-round-clause-first c =
    let p = c.args.problem.now in
    let w = c.args.item.now in
    let weight = c.args.round.now.weight in
    adds_none p (IsOfRound p w.branch weight) c.args.round.now.limit c.args.found.now.items (λ D h.
    let heavy : w.least ≤ weight_in p D = c.requires.waiting.bound D h.0 in
    let here : weight_in p D ≡ weight = h.1 in
    let high : weight < w.least = c.if-item-round.true in
    omega arith)

pub returns-then-item-round-clause-rest : goal.returns-then-item-round-clause-rest
returns-then-item-round-clause-rest c = λ _.
    adds_one_heavier c.args.problem.now c.args.item.now c.args.round.now.weight c.args.later.now.items c.push.new.self.items c.requires.waiting c.if-item-round.true c.in_ok-push.ensures.items
