use Rattle.std.proofs.Common.{ℕ, ◌<◌, below_more, sym, ◌∙◌, true≢false, arith}
use Rattle.explanations.specs.Forcing.{IsForcing}
use Rattle.explanations.proofs.Forced.{least_from, forcing_low}
use Rattle.explanations.proofs.forcing.least_ports.Goals as goal

pub returns-then-is_forcing : goal.returns-then-is_forcing
returns-then-is_forcing c = least_from (λ (k : ℕ). IsForcing c.args.instance.now c.args.words.now c.args.fact k) c.loop-ports.ports (c.is_forcing.ensures.0 c.if-is_forcing.true) c.loop-ports.invariant

pub loop-ports-preserved : goal.loop-ports-preserved
loop-ports-preserved c = below_more (λ (k : ℕ). IsForcing c.args.instance.now c.args.words.now c.args.fact k → ⊥) c.loop-ports.ports c.loop-ports.invariant (λ h. true≢false (sym (c.is_forcing.ensures.1 h) ∙ c.if-is_forcing.false))

pub returns : goal.returns
returns c ports h = let low : ports < 8 = forcing_low c.args.instance.now c.args.words.now c.args.fact ports c.told-words h in c.loop-ports.invariant ports (omega (arith, c.loop-ports-test.false)) h
