use Rattle.std.proofs.Common.{◌≡◌, sym, ◌∙◌, arith}
use Rattle.hitting_sets.proofs.Rosters.{IsIn-take}
use Rattle.first_diagnoses.specs.Weights.{weight_in}
use Rattle.first_diagnoses.specs.declared.waiting.Waiting.{Waiting}
use Rattle.first_diagnoses.specs.Branches.{IsSought}
use Rattle.first_diagnoses.specs.Rounds.{IsOfRound}
use Rattle.first_diagnoses.specs.Waits.{IsWaiting}
use Rattle.first_diagnoses.proofs.Firsts.{adds_none, adds_one}
use Rattle.first_diagnoses.proofs.Waits.{adds_none_heavier, adds_one_heavier}
use Rattle.first_diagnoses.proofs.Looking.{chosen_only, chosen_weight, chosen_sought}
use Rattle.first_diagnoses.proofs.rounds.add_chosen.Goals as goal

pub weight_of-weight-requires-clause-listed : goal.weight_of-weight-requires-clause-listed
weight_of-weight-requires-clause-listed c = λ k there. IsIn-take c.args.problem.now.order.now c.args.branch.now.place k (c.requires.branch.decided k there)

pub returns-then-weight-round-clause-first : goal.returns-then-weight-round-clause-first
returns-then-weight-round-clause-first c =
    let p = c.args.problem.now in
    let b = c.args.branch.now in
    adds_one p (IsOfRound p b c.args.round.now.weight) c.args.round.now.limit c.args.found.now.items c.push.new.self.items b.chosen c.requires.room c.in_ok-push.ensures.items (chosen_sought p b c.requires.minimal, sym c.weight_of-weight.ensures ∙ c.if-weight-round.true) (λ D h. chosen_only p b c.requires.minimal D h.0)

pub returns-then-weight-round-clause-rest : goal.returns-then-weight-round-clause-rest
returns-then-weight-round-clause-rest c =
    let p = c.args.problem.now in
    let b = c.args.branch.now in
    adds_none_heavier p (IsSought p b) c.args.round.now.weight c.args.later.now.items (λ D sought.
    let same : weight_in p D ≡ c.weight_of-weight.result = chosen_weight p b c.weight_of-weight.result c.weight_of-weight.ensures c.requires.minimal D sought in
    omega (arith, c.if-weight-round.true))

pub returns-then-weight-round-2-clause-first : goal.returns-then-weight-round-2-clause-first
returns-then-weight-round-2-clause-first c =
    let p = c.args.problem.now in
    let b = c.args.branch.now in
    adds_none p (IsOfRound p b c.args.round.now.weight) c.args.round.now.limit c.args.found.now.items (λ D h.
    let same : weight_in p D ≡ c.weight_of-weight.result = chosen_weight p b c.weight_of-weight.result c.weight_of-weight.ensures c.requires.minimal D h.0 in
    c.if-weight-round.false (sym same ∙ h.1))

pub returns-then-weight-round-2-clause-rest : goal.returns-then-weight-round-2-clause-rest
returns-then-weight-round-2-clause-rest c =
    let p = c.args.problem.now in
    let b = c.args.branch.now in
    let w : Waiting = record { least = c.weight_of-weight.result; branch = b } in
    let is : IsWaiting p w = record {
      decided = c.requires.branch;
      bound = λ D sought.
          let same : weight_in p D ≡ c.weight_of-weight.result = chosen_weight p b c.weight_of-weight.result c.weight_of-weight.ensures c.requires.minimal D sought in
          omega arith;
    } in
    adds_one_heavier p w c.args.round.now.weight c.args.later.now.items c.push-then-weight-round-2.new.self.items is c.if-weight-round-2.true c.in_ok-push-2.ensures.items

pub returns-clause-first : goal.returns-clause-first
returns-clause-first c =
    let p = c.args.problem.now in
    let b = c.args.branch.now in
    adds_none p (IsOfRound p b c.args.round.now.weight) c.args.round.now.limit c.args.found.now.items (λ D h.
    let same : weight_in p D ≡ c.weight_of-weight.result = chosen_weight p b c.weight_of-weight.result c.weight_of-weight.ensures c.requires.minimal D h.0 in
    c.if-weight-round.false (sym same ∙ h.1))

pub returns-clause-rest : goal.returns-clause-rest
returns-clause-rest c =
    let p = c.args.problem.now in
    let b = c.args.branch.now in
    adds_none_heavier p (IsSought p b) c.args.round.now.weight c.args.later.now.items (λ D sought.
    let same : weight_in p D ≡ c.weight_of-weight.result = chosen_weight p b c.weight_of-weight.result c.weight_of-weight.ensures c.requires.minimal D sought in
    omega (arith, c.if-weight-round-2.false))
