use Rattle.std.proofs.Common.{refl, sym, ap, ◌∙◌}
use Rattle.justifications.specs.Woven.{name_of}
use Rattle.justifications.proofs.Dropping.{dropping_none, dropping_next, dropping_shorter}
use Rattle.justifications.proofs.links.drop_all_in.Goals as goal

pub loop-just-init : goal.loop-just-init
loop-just-init c = dropping_none c.args.chains.now c.args.lane c.args.head c.args.chains.now refl c.requires.chained c.requires.low

pub loop-just-smaller : goal.loop-just-smaller
loop-just-smaller c =
    dropping_shorter c.args.chains.now c.args.lane c.args.head c.loop-just.chains c.loop-just.invariant c.remove_from.new.chains c.in-Some.just.place (sym c.first_in.ensures ∙ ap name_of c.in-Some.is) c.remove_from.ensures.removed

pub loop-just-preserved : goal.loop-just-preserved
loop-just-preserved c =
    dropping_next c.args.chains.now c.args.lane c.args.head c.loop-just.chains c.loop-just.invariant c.remove_from.new.chains c.in-Some.just.place (sym c.first_in.ensures ∙ ap name_of c.in-Some.is) c.remove_from.ensures.removed
