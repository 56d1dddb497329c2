use Rattle.std.proofs.Common.{arith, ◌∙◌}
use Rattle.fact_index.specs.Links.{number_of_fact, cell_number, back_by_fact, back_by_cell}
use Rattle.fact_index.specs.declared.links.TheConstants.{CELL_NUMBERS, FACT_NUMBERS}
use Rattle.fact_index.proofs.Linking.{lead_from_first, lead_from_read, lead_from_end}
use Rattle.fact_index.proofs.links.drop_heads.Goals as goal

pub loop-link-init : goal.loop-link-init
loop-link-init c = (
  lead_from_first number_of_fact back_by_fact FACT_NUMBERS c.args.links.now c.args.by_fact.now c.requires.facts,
  lead_from_first cell_number back_by_cell CELL_NUMBERS c.args.links.now c.args.by_cell.now c.requires.cells,
)

pub loop-link-preserved : goal.loop-link-preserved
loop-link-preserved c = (
  lead_from_read number_of_fact back_by_fact FACT_NUMBERS c.args.links.now c.loop-link.link-index _ c.number_of_fact.result c.loop-link.by_fact c.loop-link-test.true c.number_of_fact.ensures.number (omega (arith, c.requires.facts.wide)) c.loop-link.invariant.0,
  lead_from_read cell_number back_by_cell CELL_NUMBERS c.args.links.now c.loop-link.link-index _ c.number_of_cell.result c.loop-link.by_cell c.loop-link-test.true c.number_of_cell.ensures.number (omega (arith, c.requires.cells.wide)) c.loop-link.invariant.1,
)

pub returns-clause-facts : goal.returns-clause-facts
returns-clause-facts c = lead_from_end number_of_fact back_by_fact FACT_NUMBERS c.args.links.now c.loop-link.link-index c.loop-link.by_fact c.loop-link-test.false (c.loop-link.auto.by_fact ∙ c.requires.facts.wide) c.loop-link.invariant.0

pub returns-clause-cells : goal.returns-clause-cells
returns-clause-cells c = lead_from_end cell_number back_by_cell CELL_NUMBERS c.args.links.now c.loop-link.link-index c.loop-link.by_cell c.loop-link-test.false (c.loop-link.auto.by_cell ∙ c.requires.cells.wide) c.loop-link.invariant.1
