use Rattle.std.proofs.Common.{ap}
use Rattle.workload_maker.proofs.Adding.{one_more, padded_more, none_made, none_padded, all_made}
use Rattle.workload_maker.proofs.making.made.Goals as goal

pub loop-box_before-preserved : goal.loop-box_before-preserved
loop-box_before-preserved c =
    let step = c.next_word-word.ensures in
    let added = c.in_ok-add_box.ensures in
    record {
      made = one_more _ _ _ _ _ _ _ _ c.loop-box_before-test.true c.loop-box_before.invariant.made added (ap (λ p. p.0) step) (ap (λ p. p.1) step);
      padded = padded_more _ _ _ _ c.loop-box_before.invariant.padded added;
    }

pub loop-box_before-init : goal.loop-box_before-init
loop-box_before-init c = record {
  made = none_made _ _ _ _ c.new-changes.ensures.items c.seed_from_u64-generator.ensures.same;
  padded = none_padded _ c.new-changes.ensures.items;
}

pub returns : goal.returns
returns c = record {
  boxes = all_made _ _ _ _ _ c.loop-box_before-test.false c.loop-box_before.invariant.made;
  padded = c.loop-box_before.invariant.padded;
}
