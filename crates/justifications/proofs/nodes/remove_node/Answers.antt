use Rattle.std.proofs.Common.{ℕ, List, Option, None, get_or, ap, subst, ◌∙◌}
use Rattle.environment_sets.specs.Lists.{IsIn}
use Rattle.circuit_model.specs.declared.model.Fact.{Fact}
use Rattle.index_lists.specs.Lists.{Lists, list_at}
use Rattle.index_lists.specs.Chains.{keys_in, no_lists}
use Rattle.index_lists.proofs.Links.{not_itself}
use Rattle.justifications.specs.Woven.{place_of_cell}
use Rattle.justifications.proofs.Removing.{fact_listed, fact_unlinked}
use Rattle.justifications.proofs.nodes.remove_node.Goals as goal

pub unlink-requires-clause-listed : goal.unlink-requires-clause-listed
unlink-requires-clause-listed c = (place_of_cell c.get.result.now.cell, fact_listed c.args.facts.now c.args.facts.now c.requires.chained c.args.node.place c.get.result.now c.get.ensures)

pub take-requires-clause-free : goal.take-requires-clause-free
take-requires-clause-free c lane head i =
    not_itself c.args.node.place (keys_in c.args.facts.now lane head)
    (subst (λ (l : List ℕ). IsIn l c.args.node.place)
    (fact_unlinked c.args.facts.now c.unlink.new.self c.requires.chained c.args.node.place c.get.result.now c.get.ensures c.unlink.ensures.here c.unlink.ensures.others lane head) i)

pub returns-clause-removed : goal.returns-clause-removed
returns-clause-removed c = record {
  gone = c.take.ensures.gone.there;
  others = λ k ne. c.take.ensures.gone.others k ne ∙ ap (λ (r : List (Option Fact)). get_or r k None) c.unlink.ensures.records;
  keys = λ lane head.
      ap (λ (l : List Lists). list_at (get_or l lane no_lists) head) c.take.ensures.lanes
      ∙ fact_unlinked c.args.facts.now c.unlink.new.self c.requires.chained c.args.node.place c.get.result.now c.get.ensures c.unlink.ensures.here c.unlink.ensures.others lane head;
}
