use Rattle.std.proofs.Common.{◌≡◌, ℕ, List, map, refl, sym, subst, ◌∙◌, arith}
use Rattle.std.proofs.lemmas.Result.{IfOk-weaker}
use Rattle.environment_sets.specs.declared.environment.Env.{Env}
use Rattle.environment_sets.specs.Sets.{Set}
use Rattle.environment_sets.specs.Members.{sets}
use Rattle.hitting_sets.specs.Hitting.{IsMinimalFor}
use Rattle.environment_sets.specs.Costs.{ComesBeforeByCost}
use Rattle.first_diagnoses.specs.declared.problem.Problem.{Problem}
use Rattle.first_diagnoses.specs.First.{AreFirst}
use Rattle.first_diagnoses.specs.Weights.{weight_for, IsProblem}
use Rattle.first_diagnoses.specs.Rounds.{ComesByWeight}
use Rattle.first_diagnoses.proofs.ByCost.{weighed_problem, before_by_cost}
use Rattle.first_diagnoses.proofs.Branching.{minimal_listed}
use Rattle.first_diagnoses.proofs.Firsts.{first_zero, first_map}
use Rattle.first_diagnoses.proofs.listing.first.Goals as goal

pub returns-then-k-eq0 : goal.returns-then-k-eq0
returns-then-k-eq0 c =
    let comes : Set ℕ → Set ℕ → Type 0 = ComesBeforeByCost c.args.order.now c.args.costs.now in
    subst (λ (es : List Env). AreFirst comes (IsMinimalFor c.args.conflicts.now) c.args.k (sets es)) (sym c.new.ensures.items) (first_zero comes (IsMinimalFor c.args.conflicts.now) c.args.k c.if-k-eq0.true)

pub lightest_sets-requires-clause-problem : goal.lightest_sets-requires-clause-problem
lightest_sets-requires-clause-problem c =
    weighed_problem _ c.args.costs.now c.requires.slots c.requires.listed c.requires.costs (λ i. omega (arith, c.type_inv.costs i)) (c.deref.ensures.value ∙ c.in_ok-weights.ensures)

pub returns : goal.returns
returns c =
    let order = c.args.order.now in
    let costs = c.args.costs.now in
    let p : Problem = record { conflicts = c.args.conflicts; order = c.args.order; weights = c.deref.result } in
    let made : c.deref.result.now ≡ map weight_for costs = c.deref.ensures.value ∙ c.in_ok-weights.ensures in
    let is : IsProblem p = weighed_problem p costs c.requires.slots c.requires.listed c.requires.costs (λ i. omega (arith, c.type_inv.costs i)) made in
    IfOk-weaker c.lightest_sets.result _ _ (λ found first.
    first_map (ComesByWeight p) (ComesBeforeByCost order costs) (IsMinimalFor c.args.conflicts.now) c.args.k (sets found.items) (λ D E h k. before_by_cost order costs c.requires.slots c.requires.costs p refl made D E (minimal_listed p is D h) (minimal_listed p is E k)) first) c.lightest_sets.ensures
