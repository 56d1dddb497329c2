use Rattle.fact_index.proofs.Gathered.{walk_is_inside, walk_falls, gather_begins, gather_goes_on, gather_ends}
use Rattle.fact_index.proofs.index.FactIndex.add_facts_at.Goals as goal

pub loop-next-init : goal.loop-next-init
loop-next-init c = gather_begins c.args.self.now.facts c.args.cell c.args.found.now.items c.last_at-next.result c.last_at-next.ensures

pub fact_at-requires : goal.fact_at-requires
fact_at-requires c = walk_is_inside _ _ _ _ c.loop-next.invariant.walked c.in-Some.place c.in-Some.is

pub before-next-requires : goal.before-next-requires
before-next-requires c = walk_is_inside _ _ _ _ c.loop-next.invariant.walked c.in-Some.place c.in-Some.is

pub loop-next-smaller : goal.loop-next-smaller
loop-next-smaller c = walk_falls _ _ _ _ c.loop-next.invariant.walked c.in-Some.place c.in-Some.is c.before-next.result c.before-next.ensures

pub loop-next-preserved : goal.loop-next-preserved
loop-next-preserved c =
    gather_goes_on _ _ _ c.loop-next.found.items c.push.new.self.items c.loop-next.next c.loop-next.invariant c.in-Some.place c.in-Some.is c.fact_at.result c.fact_at.ensures c.in_ok-push.ensures.items c.before-next.result c.before-next.ensures

pub returns : goal.returns
returns c = gather_ends _ _ _ _ _ c.in_default.is c.loop-next.invariant
