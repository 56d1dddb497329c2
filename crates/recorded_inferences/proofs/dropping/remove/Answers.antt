use Rattle.recorded_inferences.proofs.Dropped.{less_at_once, less_alike}
use Rattle.recorded_inferences.proofs.dropping.remove.Goals as goal

pub told-gone-requires : goal.told-gone-requires
told-gone-requires c = c.laws.ensures.fit c.args.just.place c.get.result c.get.ensures

pub returns : goal.returns
returns c =
    let old = c.args.weave.now in
    let name = c.args.just.place in
    let gone = less_at_once old c.remove.new.self name c.remove.ensures.removed c.remove.ensures.nodes in
    let first = less_alike old c.remove.new.self c.drop_idle.new.weave name gone c.drop_idle.ensures.alike in
    let second = less_alike old c.drop_idle.new.weave c.drop_idle-2.new.weave name first c.drop_idle-2.ensures.alike in
    less_alike old c.drop_idle-2.new.weave c.drop_idle-3.new.weave name second c.drop_idle-3.ensures.alike
