use Rattle.std.proofs.Common.{sym, subst}
use Rattle.justifications.specs.Woven.{Woven, IsFit}
use Rattle.justifications.proofs.Keeping.{fit_is_low, inference_noted}
use Rattle.justifications.proofs.weave.Weave.note.Goals as goal

pub record_in-requires : goal.record_in-requires
record_in-requires c =
    let s = c.self.inside in
    let fit : IsFit (record { facts = s.facts; inferences = s.inferences }) c.args.inferred = subst (λ (w : Woven). IsFit w c.args.inferred) (sym c.self.view_is) c.requires in
    fit_is_low (record { facts = s.facts; inferences = s.inferences }) c.self.invariant.nodes.numbers c.args.inferred fit

pub invariant_of-self : goal.invariant_of-self
invariant_of-self c =
    let s = c.self.inside in
    let fit : IsFit (record { facts = s.facts; inferences = s.inferences }) c.args.inferred = subst (λ (w : Woven). IsFit w c.args.inferred) (sym c.self.view_is) c.requires in
    inference_noted s.table.entries (record { facts = s.facts; inferences = s.inferences }) c.record_in.new.chains c.self.invariant c.args.inferred c.record_in.result fit c.record_in.ensures.added c.record_in.ensures.err
