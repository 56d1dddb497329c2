use Rattle.std.proofs.Common.{None, ap, ◌∙◌}
use Rattle.proof_check.specs.Written.{at_two_places}
use Rattle.proof_check.proofs.Told.{facts_given}
use Rattle.proof_check.proofs.written.facts_known.Goals as goal

pub returns : goal.returns
returns c = c.first_two.ensures ∙ ap at_two_places (facts_given c.args.cells.now c.args.known.now (record { net = 0; cycle = 0 }) None c.fact_at.result c.fact_at-2.result c.fact_at-3.result c.told-cells c.told-known c.fact_at.ensures c.fact_at-2.ensures c.fact_at-3.ensures)
