use Rattle.std.proofs.Common.{refl, sym, ap, ◌∙◌}
use Rattle.justifications.specs.Woven.{name_of}
use Rattle.recorded_inferences.specs.Recorded.{GoesFrom}
use Rattle.recorded_inferences.proofs.Dropped.{left_all, no_node_no_use, uses_next, uses_done, uses_shorter}
use Rattle.recorded_inferences.proofs.dropping.drop_uses.Goals as goal

pub returns-in_default : goal.returns-in_default
returns-in_default c = no_node_no_use c.args.weave.now c.args.fact.now (rw c.in_default.is at c.find.ensures)

pub loop-just-init : goal.loop-just-init
loop-just-init c = left_all (GoesFrom c.args.fact.now) c.args.weave.now c.args.weave.now refl

pub loop-just-smaller : goal.loop-just-smaller
loop-just-smaller c = uses_shorter c.loop-just.weave c.remove.new.weave c.in-Some-first_use.just.place c.remove.ensures c.in-Some.node.place (sym c.first_use.ensures ∙ ap name_of c.in-Some-first_use.is)

pub loop-just-preserved : goal.loop-just-preserved
loop-just-preserved c =
    uses_next c.args.weave.now c.loop-just.weave c.remove.new.weave c.laws-in-Some-first_use.ensures c.in-Some.node.place c.args.fact.now c.in-Some.ensures c.loop-just.invariant c.in-Some-first_use.just.place
    (sym c.first_use.ensures ∙ ap name_of c.in-Some-first_use.is) c.remove.ensures

pub returns : goal.returns
returns c =
    uses_done c.args.weave.now c.loop-just.weave c.laws.ensures c.laws-2.ensures c.in-Some.node.place c.args.fact.now c.in-Some.ensures c.loop-just.invariant (sym c.first_use.ensures ∙ ap name_of c.in_default-first_use.is)
