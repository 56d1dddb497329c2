use Rattle.std.proofs.Common.{ap, ◌∙◌}
use Rattle.environment_sets.specs.Members.{sets}
use Rattle.probe_planner.proofs.Adding.{rests_more, rests_all}
use Rattle.probe_planner.proofs.weights.rests_of.Goals as goal

pub loop-diagnosis-init : goal.loop-diagnosis-init
loop-diagnosis-init c = ap sets c.in_ok-rests.ensures.items

pub loop-diagnosis-preserved : goal.loop-diagnosis-preserved
loop-diagnosis-preserved c =
    ap sets c.in_ok-push.ensures.items
    ∙ rests_more c.args.standing.now c.args.diagnoses.now c.loop-diagnosis.rests.items c.loop-diagnosis.diagnosis-index c.diagnosis-item.result c.rest_of.result c.loop-diagnosis-test.true c.diagnosis-item.is c.loop-diagnosis.invariant c.rest_of.ensures

pub returns : goal.returns
returns c = rests_all c.args.standing.now c.args.diagnoses.now c.loop-diagnosis.diagnosis-index (sets c.loop-diagnosis.rests.items) c.loop-diagnosis-test.false c.loop-diagnosis.invariant
