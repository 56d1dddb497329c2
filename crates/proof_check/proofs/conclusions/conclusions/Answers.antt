use Rattle.std.proofs.Common.{true≢false, sym, ◌∙◌}
use Rattle.circuit_model.proofs.Inferences.{Forces-of_ports}
use Rattle.proof_check.proofs.Nothing.{nothing_said}
use Rattle.proof_check.proofs.conclusions.conclusions.Goals as goal

pub returns-then-not-are_at_ports : goal.returns-then-not-are_at_ports
returns-then-not-are_at_ports c =
    nothing_said c.args.instance.now.prim c.args.instance.now.widths c.args.known c.nothing.result.refuted c.nothing.result.forced c.nothing.ensures.refuted c.nothing.ensures.forced
    (λ r. true≢false (sym (c.are_at_ports.ensures.1 (λ p v e. rw c.requires.lawful.ports (r.within p v e))) ∙ c.if-not-are_at_ports.true))
    (λ p v f. true≢false (sym (c.are_at_ports.ensures.1 (λ q w e. rw c.requires.lawful.ports (Forces-of_ports c.args.instance.now.prim c.args.instance.now.widths c.args.known p v f q w e))) ∙ c.if-not-are_at_ports.true))
