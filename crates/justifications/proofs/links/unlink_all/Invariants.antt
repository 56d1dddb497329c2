use Rattle.index_lists.specs.Lists.{without}
use Rattle.justifications.specs.Kept.{AreChanged}
use Rattle.justifications.proofs.links.unlink_all.Given as goal

abbrev pub invariant-loop-lane : goal.invariant-loop-lane
invariant-loop-lane l = AreChanged l.fn.chains l.chains (λ lane head keys. without l.key.place keys) l.lane
