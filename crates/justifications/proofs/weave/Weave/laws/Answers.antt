use Rattle.std.proofs.Common.{subst}
use Rattle.justifications.specs.Woven.{Woven, IsWoven}
use Rattle.justifications.proofs.Told.{woven}
use Rattle.justifications.proofs.weave.Weave.laws.Goals as goal

pub returns : goal.returns
returns c =
    let s = c.self.inside in
    subst (λ (w : Woven). IsWoven w) c.self.view_is (woven s.table.entries (record { facts = s.facts; inferences = s.inferences }) c.self.invariant)
