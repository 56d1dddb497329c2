use Rattle.std.proofs.Common.{◌≡◌, ◌≤◌, arith}
use Rattle.first_diagnoses.specs.Branches.{IsSought}
use Rattle.first_diagnoses.specs.Weights.{weight_in}
use Rattle.first_diagnoses.specs.Rounds.{IsOfRound}
use Rattle.first_diagnoses.specs.declared.waiting.Waiting.{Waiting}
use Rattle.first_diagnoses.proofs.Firsts.{adds_none}
use Rattle.first_diagnoses.proofs.Waits.{adds_none_heavier, adds_one_heavier}
use Rattle.first_diagnoses.proofs.Splitting.{adds_parts, adds_full, heavier_parts}
use Rattle.first_diagnoses.proofs.rounds.+add_branch.Goals as goal

pub returns-in-Nothing-clause-first : goal.returns-in-Nothing-clause-first
returns-in-Nothing-clause-first t c =
    adds_none c.args.problem.now (IsOfRound c.args.problem.now c.args.branch.now c.args.round.now.weight) c.args.round.now.limit c.args.found.now.items (λ D h. c.in-Nothing.ensures D h.0)

pub returns-in-Nothing-clause-rest : goal.returns-in-Nothing-clause-rest
returns-in-Nothing-clause-rest t c = λ _.
    adds_none_heavier c.args.problem.now (IsSought c.args.problem.now c.args.branch.now) c.args.round.now.weight c.args.later.now.items (λ D sought. absurd (c.in-Nothing.ensures D sought))

pub returns-in_ok-push-in-Heavier-clause-first : goal.returns-in_ok-push-in-Heavier-clause-first
returns-in_ok-push-in-Heavier-clause-first t c =
    let p = c.args.problem.now in
    let weight = c.args.round.now.weight in
    adds_none p (IsOfRound p c.args.branch.now weight) c.args.round.now.limit c.args.found.now.items (λ D h.
    let heavy : c.in-Heavier.least ≤ weight_in p D = c.in-Heavier.ensures.1 D h.0 in
    let here : weight_in p D ≡ weight = h.1 in
    omega (arith, c.in-Heavier.ensures.0))

pub returns-in_ok-push-in-Heavier-clause-rest : goal.returns-in_ok-push-in-Heavier-clause-rest
returns-in_ok-push-in-Heavier-clause-rest t c = λ _.
    let w : Waiting = record { least = c.in-Heavier.least; branch = c.args.branch.now } in
    adds_one_heavier c.args.problem.now w c.args.round.now.weight c.args.later.now.items c.push.new.self.items (record { decided = c.requires.branch; bound = c.in-Heavier.ensures.1 }) c.in-Heavier.ensures.0 c.in_ok-push-in-Heavier.ensures.items

pub returns-then-len-round-clause-first : goal.returns-then-len-round-clause-first
returns-then-len-round-clause-first t c =
    adds_full c.args.problem.now c.requires.problem c.args.branch.now c.requires.branch c.in-Open.ensures c.with_next.result c.with_next.ensures.sought c.args.round.now.weight c.args.round.now.limit c.args.found.now.items c.add_branch.new.found.items c.requires.room (omega (arith, c.if-len-round.true)) c.in_ok-add_branch-in-Open.ensures.first

pub returns-in_ok-add_branch-in-Open-2-clause-first : goal.returns-in_ok-add_branch-in-Open-2-clause-first
returns-in_ok-add_branch-in-Open-2-clause-first t c =
    adds_parts c.args.problem.now c.requires.problem c.args.branch.now c.requires.branch c.in-Open.ensures c.with_next.result c.with_next.ensures.sought c.without_next.result c.without_next.ensures.sought c.args.round.now.weight c.args.round.now.limit c.args.found.now.items c.add_branch.new.found.items c.add_branch-in-Open.new.found.items c.requires.room c.in_ok-add_branch-in-Open.ensures.first c.in_ok-add_branch-in-Open-2.ensures.first

pub returns-in_ok-add_branch-in-Open-2-clause-rest : goal.returns-in_ok-add_branch-in-Open-2-clause-rest
returns-in_ok-add_branch-in-Open-2-clause-rest t c = λ room.
    heavier_parts c.args.problem.now c.requires.problem c.args.branch.now c.requires.branch c.in-Open.ensures c.with_next.result c.with_next.ensures.sought c.without_next.result c.without_next.ensures.sought c.args.round.now.weight c.args.later.now.items c.add_branch.new.later.items c.add_branch-in-Open.new.later.items (c.in_ok-add_branch-in-Open.ensures.rest (omega (arith, c.if-len-round.false))) (c.in_ok-add_branch-in-Open-2.ensures.rest room)
