use Rattle.label_engine.proofs.Lones.{wide_each}
use Rattle.label_engine.proofs.sources.are_wide.Goals as goal

pub returns : goal.returns
returns c = wide_each c.args.first c.args.second c.args.third c.bits-first.ensures.low c.bits-second.ensures.low c.bits-third.ensures.low
