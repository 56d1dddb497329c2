use Rattle.std.proofs.Common.{◌≡◌, ℕ, List, None, Some, sym, subst, ◌∙◌, arith}
use Rattle.probe_planner.specs.Words.{weight_of_word}
use Rattle.probe_planner.proofs.Weighed.{Weighs, weighs_none, weight_is, weighs_more, weighs_all}
use Rattle.probe_planner.proofs.scores.word_weights.Goals as goal

pub words-init : goal.words-init
words-init c = subst (λ (ns : List ℕ). Weighs c.args.engine.now c.args.standing.now c.args.weighed.now c.args.cell None ns) (sym c.new-weights.ensures.items) (weighs_none c.args.engine.now c.args.standing.now c.args.weighed.now c.args.cell)

pub words-preserved : goal.words-preserved
words-preserved c =
    let seen = c.args.engine.now in
    let st = c.args.standing.now in
    let w = c.args.weighed.now in
    let same : c.covered_weight.result ≡ weight_of_word seen w c.args.cell c.in-Some.value = c.covered_weight.ensures ∙ weight_is seen st w c.args.cell c.in-Some.value c.label-label.result.now c.label-label.ensures in
    subst (λ (ns : List ℕ). Weighs seen st w c.args.cell (Some c.in-Some.value) ns) (sym c.in_ok-push.ensures.items)
    (weighs_more seen st w c.args.cell c.words.last c.words.weights.items c.words.invariant c.in-Some.value c.covered_weight.result c.in-Some.ensures.slots same)

pub covered_weight-requires-clause-small : goal.covered_weight-requires-clause-small
covered_weight-requires-clause-small c = omega (arith, c.requires.total, c.requires.few)

pub returns : goal.returns
returns c = weighs_all c.args.engine.now c.args.standing.now c.args.weighed.now c.args.cell c.words.last c.words.weights.items c.words.invariant c.in_default.ensures.slots
