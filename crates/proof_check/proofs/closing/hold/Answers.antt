use Rattle.std.proofs.Common.{arith}
use Rattle.proof_check.proofs.Holding.{listed_more, held_more, not_held}
use Rattle.proof_check.proofs.closing.hold.Goals as goal

pub loop-i-preserved : goal.loop-i-preserved
loop-i-preserved c =
    let one = c.in_ok-put.ensures.long (not_held c.args.found.now c.args.held.now c.loop-i.held c.loop-i.i c.at-fact.result c.at-fact.ensures c.loop-i.invariant.held c.len-i-end.ensures.order c.requires.separate) in
    record {
      listed = listed_more c.loop-i.timed.items c.args.timed.now.items c.args.found.now c.loop-i.i c.args.round c.at-fact.result c.push.new.self.items c.at-fact.ensures c.loop-i.invariant.listed c.in_ok-push.ensures.items;
      held = held_more c.args.found.now c.args.held.now c.loop-i.held c.loop-i.i c.at-fact.result c.at-fact.ensures c.loop-i.invariant.held c.put.new.self c.in_ok-put.ensures.ok;
      long = let was = c.loop-i.invariant.long in omega (arith, one, was);
      order = c.in_ok-put.ensures.order;
    }
