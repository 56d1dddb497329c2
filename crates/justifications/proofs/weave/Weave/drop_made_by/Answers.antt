use Rattle.justifications.proofs.Keeping.{all_low, inferences_left}
use Rattle.justifications.proofs.weave.Weave.drop_made_by.Goals as goal

pub drop_all_in-requires-clause-low : goal.drop_all_in-requires-clause-low
drop_all_in-requires-clause-low c = let s = c.self.inside in all_low s.table.entries (record { facts = s.facts; inferences = s.inferences }) c.self.invariant

pub invariant_of-self : goal.invariant_of-self
invariant_of-self c =
    let s = c.self.inside in
    inferences_left s.table.entries (record { facts = s.facts; inferences = s.inferences }) c.drop_all_in.new.chains c.self.invariant c.drop_all_in.ensures.chained c.drop_all_in.ensures.stay
