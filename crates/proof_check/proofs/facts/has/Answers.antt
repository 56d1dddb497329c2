use Rattle.proof_check.proofs.Ordered.{at_its_place}
use Rattle.proof_check.proofs.facts.has.Goals as goal

pub returns : goal.returns
returns c =
    let there = at_its_place c.args.facts.now c.requires c.args.fact c.place_for.result c.place_for.ensures in
    (λ t. there.0 (c.stands_at.ensures.0 t), λ h. c.stands_at.ensures.1 (there.1 h))
