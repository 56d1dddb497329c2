use Rattle.std.proofs.Common.{List, subst}
use Rattle.std.proofs.lemmas.Bool.{both_ways}
use Rattle.circuit_model.specs.declared.model.Cell.{Cell}
use Rattle.environment_sets.specs.Lists.{IsIn}
use Rattle.inference_search.proofs.Adding.{added_one}
use Rattle.inference_search.proofs.near.add_cell.Goals as goal

pub returns : goal.returns
returns c =
    let out : IsIn c.args.cells.now.items c.args.cell → ⊥ = subst (λ (l : List Cell). IsIn l c.args.cell → ⊥) c.deref.ensures.value (λ h. both_ways c.is_one_of.result c.if-is_one_of.false (c.is_one_of.ensures.1 h)) in
    added_one c.args.cells.now.items c.push.new.self.items c.args.cell out c.in_ok-push.ensures.items
