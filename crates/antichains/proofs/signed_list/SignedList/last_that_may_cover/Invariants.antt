use Rattle.antichains.specs.Signed.{NoneMayCover}
use Rattle.antichains.proofs.signed_list.SignedList.last_that_may_cover.Given as goal

abbrev pub invariant-loop-block : goal.invariant-loop-block
invariant-loop-block l = NoneMayCover l.self.shared.items l.signature l.block l.end
