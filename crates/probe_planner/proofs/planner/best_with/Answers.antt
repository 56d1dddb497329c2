use Rattle.std.proofs.Common.{ℕ, Option, is_some, sym, ap, subst, ◌∙◌}
use Rattle.circuit_model.specs.Present.{circuit_of, reading_in}
use Rattle.circuit_model.specs.Probe.{IsScore, IsTotal, IsUnmeasured}
use Rattle.environment_sets.proofs.Membership.{none_unless_some}
use Rattle.probe_planner.specs.declared.planner.Probe.{Probe}
use Rattle.probe_planner.specs.Planning.{IsBestSoFar, after_cell}
use Rattle.probe_planner.proofs.Planned.{measured_more, one_more, some_not_none}
use Rattle.probe_planner.proofs.Scored.{can_be_scored, score_is, total_is}
use Rattle.probe_planner.proofs.planner.best_with.Goals as goal

pub returns-then-is_some : goal.returns-then-is_some
returns-then-is_some c = measured_more c.args.present.now c.args.cell c.args.found c.requires.found (some_not_none (reading_in c.args.present.now.readings c.args.cell) (ap is_some (sym c.reading_at.ensures) ∙ (sym c.is_some.ensures ∙ c.if-is_some.true)))

pub score_at-requires : goal.score_at-requires
score_at-requires c = can_be_scored c.args.engine.now c.args.standing.now c.args.present.now c.args.weighed.now c.requires.can c.args.cell

pub returns : goal.returns
returns c =
    let s = c.args.present.now in
    let w = c.args.weighed.now in
    let open_cell : IsUnmeasured s c.args.cell = record { net = c.requires.net; cycle = c.requires.cycle; open_cell = none_unless_some (reading_in s.readings c.args.cell) (ap is_some (sym c.reading_at.ensures) ∙ (sym c.is_some.ensures ∙ c.if-is_some.false)) } in
    let scored : IsScore (circuit_of s) c.args.cell c.in_ok-score.score = score_is c.args.engine.now c.args.standing.now s w c.requires.can c.args.cell c.in_ok-score.score c.in_ok-score.ensures in
    let totalled : IsTotal (circuit_of s) c.squared-total.result = subst (λ (n : ℕ). IsTotal (circuit_of s) n) (sym c.squared-total.ensures) (total_is c.args.engine.now c.args.standing.now s w c.requires.can) in
    subst (λ (best : Option Probe). IsBestSoFar s (after_cell c.args.cell) best) (sym c.better_of.ensures)
    (one_more s c.args.cell c.in_ok-score.score c.squared-total.result open_cell scored totalled c.args.found c.requires.found)
