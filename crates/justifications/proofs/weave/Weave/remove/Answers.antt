use Rattle.index_lists.specs.Chains.{record_at}
use Rattle.justifications.specs.Kept.{IsLow}
use Rattle.justifications.proofs.Keeping.{fit_is_low, inference_removed}
use Rattle.justifications.proofs.Uses.{if_some_of}
use Rattle.justifications.proofs.weave.Weave.remove.Goals as goal

pub invariant_of-self : goal.invariant_of-self
invariant_of-self c =
    let s = c.self.inside in
    inference_removed s.table.entries (record { facts = s.facts; inferences = s.inferences }) c.remove_from.new.chains c.self.invariant c.args.just.place c.remove_from.ensures.removed

pub remove_from-requires-clause-low : goal.remove_from-requires-clause-low
remove_from-requires-clause-low c =
    let s = c.self.inside in
    if_some_of (record_at s.inferences c.args.just.place) IsLow (λ x at. fit_is_low (record { facts = s.facts; inferences = s.inferences }) c.self.invariant.nodes.numbers x (c.self.invariant.inferences.fit c.args.just.place x at))
