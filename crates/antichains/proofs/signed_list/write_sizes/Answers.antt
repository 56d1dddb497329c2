use Rattle.antichains.specs.Signed.{size_of}
use Rattle.antichains.proofs.Signing.{one_more_written, all_written}
use Rattle.antichains.proofs.signed_list.write_sizes.Goals as goal

pub loop-place-preserved : goal.loop-place-preserved
loop-place-preserved c =
    one_more_written size_of c.args.list.now c.loop-place.sizes c.loop-place.place c.size.result c.index-list-place.result c.loop-place.invariant c.loop-place-test.true c.index-list-place.is c.size.ensures

pub returns : goal.returns
returns c = all_written size_of c.args.list.now c.loop-place.sizes c.loop-place.place c.loop-place-test.false c.loop-place.invariant
