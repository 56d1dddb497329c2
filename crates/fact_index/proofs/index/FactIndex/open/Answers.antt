use Rattle.std.proofs.Common.{arith}
use Rattle.fact_index.specs.declared.links.TheConstants.{CELL_NUMBERS, FACT_NUMBERS}
use Rattle.fact_index.specs.Links.{number_of_fact, cell_number, back_by_fact, back_by_cell}
use Rattle.fact_index.proofs.Linking.{linked_open}
use Rattle.fact_index.proofs.index.FactIndex.open.Goals as goal

pub invariant_of-result : goal.invariant_of-result
invariant_of-result c = record {
  within = omega arith;
  facts = linked_open number_of_fact back_by_fact FACT_NUMBERS c.in_ok-no_heads.field-0.items c.in_ok-no_heads.ensures;
  cells = linked_open cell_number back_by_cell CELL_NUMBERS c.in_ok-no_heads-2.field-0.items c.in_ok-no_heads-2.ensures;
}
