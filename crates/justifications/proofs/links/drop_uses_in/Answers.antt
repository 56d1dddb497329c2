use Rattle.std.proofs.Common.{◌≡◌, Some}
use Rattle.justifications.specs.Woven.{antecedent}
use Rattle.justifications.proofs.Dropping.{dropped_both}
use Rattle.justifications.proofs.links.drop_uses_in.Goals as goal

pub returns-clause-dropped : goal.returns-clause-dropped
returns-clause-dropped c =
    dropped_both (λ x. antecedent 0 x ≡ Some c.args.node) (λ x. antecedent 1 x ≡ Some c.args.node) c.args.chains.now c.drop_all_in.new.chains c.drop_all_in-2.new.chains c.drop_all_in.ensures.dropped c.drop_all_in-2.ensures.dropped
    c.drop_all_in.ensures.stay c.drop_all_in-2.ensures.stay
