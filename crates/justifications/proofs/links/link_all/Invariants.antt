use Rattle.justifications.specs.Chained.{with_key}
use Rattle.justifications.specs.Woven.{head_of_inferred}
use Rattle.justifications.specs.Kept.{AreChanged}
use Rattle.justifications.proofs.links.link_all.Given as goal

abbrev pub invariant-loop-lane : goal.invariant-loop-lane
invariant-loop-lane l = AreChanged l.fn.chains l.chains (λ lane head keys. with_key l.key.place (head_of_inferred lane l.inferred) head keys) l.lane
