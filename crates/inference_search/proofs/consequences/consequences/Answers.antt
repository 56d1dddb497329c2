use Rattle.std.proofs.Common.{◌≡◌, ℕ, ◌<◌, Some, slice_get, true≢false, sym, subst, ◌∙◌}
use Rattle.inference_search.proofs.Saying.{nothing_past_ports, misfit_refutes}
use Rattle.inference_search.proofs.consequences.consequences.Goals as goal

pub returns-then-not-are_at_ports : goal.returns-then-not-are_at_ports
returns-then-not-are_at_ports c =
    nothing_past_ports _ _ _ (λ within. true≢false (sym (c.are_at_ports.ensures.1 (λ p v e. rw c.requires.lawful.ports (within p v e))) ∙ c.if-not-are_at_ports.true))

pub returns-then-not-are_fitting : goal.returns-then-not-are_fitting
returns-then-not-are_fitting c =
    let At : ℕ → Type 0 = λ ports. (p v : ℕ) → slice_get c.args.known p ≡ Some (Some v) → p < ports in
    misfit_refutes _ _ _ _ (subst At c.requires.lawful.ports (c.are_at_ports.ensures.0 c.if-not-are_at_ports.false)) c.requires.open_port c.if-not-are_fitting.ensures c.are_used.ensures
