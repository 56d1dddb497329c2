use Rattle.std.proofs.Common.{◌<◌, length, arith}
use Rattle.std.proofs.lemmas.List.{length-set}
use Rattle.fact_index.specs.declared.links.Link.{Link}
use Rattle.fact_index.specs.declared.links.TheConstants.{CELL_NUMBERS, FACT_NUMBERS}
use Rattle.fact_index.specs.Links.{number_of_fact, cell_number, back_by_fact, back_by_cell}
use Rattle.fact_index.proofs.Linking.{linked_by}
use Rattle.fact_index.proofs.links.put_at.Goals as goal

pub returns-clause-indexed : goal.returns-clause-indexed
returns-clause-indexed c =
    let links = c.args.links.now in
    let place = c.args.place in
    let y : Link = record { fact = c.args.fact; by_fact = c.set_head-same_fact.result; by_cell = c.set_head-same_cell.result } in
    let room : place < length links = c.requires.room in
    record {
      within = omega (arith, length-set links place y);
      facts = linked_by number_of_fact back_by_fact FACT_NUMBERS links place y c.args.by_fact.now c.set_head-same_fact.new.heads c.number_of_fact.result room c.requires.indexed.facts c.number_of_fact.ensures.number c.number_of_fact.ensures.below c.set_head-same_fact.ensures.before c.set_head-same_fact.ensures.heads;
      cells = linked_by cell_number back_by_cell CELL_NUMBERS links place y c.args.by_cell.now c.set_head-same_cell.new.heads c.number_of_cell.result room c.requires.indexed.cells c.number_of_cell.ensures.number c.number_of_cell.ensures.below c.set_head-same_cell.ensures.before c.set_head-same_cell.ensures.heads;
    }
