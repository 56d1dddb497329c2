use Rattle.fact_index.specs.Links.{number_of_fact, cell_number}
use Rattle.fact_index.specs.Links.{back_by_fact, back_by_cell}
use Rattle.fact_index.specs.declared.links.TheConstants.{CELL_NUMBERS, FACT_NUMBERS}
use Rattle.fact_index.proofs.Linking.{LeadFrom}
use Rattle.fact_index.proofs.links.drop_heads.Given as goal

abbrev pub invariant-loop-link : goal.invariant-loop-link
invariant-loop-link l =
    LeadFrom number_of_fact back_by_fact FACT_NUMBERS l.links l.link-index l.by_fact × LeadFrom cell_number back_by_cell CELL_NUMBERS l.links l.link-index l.by_cell
