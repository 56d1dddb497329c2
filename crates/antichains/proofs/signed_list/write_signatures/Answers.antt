use Rattle.environment_sets.specs.Signatures.{signature}
use Rattle.antichains.proofs.Signing.{one_more_written, all_written}
use Rattle.antichains.proofs.signed_list.write_signatures.Goals as goal

pub loop-place-preserved : goal.loop-place-preserved
loop-place-preserved c =
    one_more_written signature c.args.list.now c.loop-place.signatures c.loop-place.place c.signature.result c.index-list-place.result c.loop-place.invariant c.loop-place-test.true c.index-list-place.is c.signature.ensures.word

pub returns : goal.returns
returns c = all_written signature c.args.list.now c.loop-place.signatures c.loop-place.place c.loop-place-test.false c.loop-place.invariant
