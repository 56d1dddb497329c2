use Rattle.std.proofs.Common.{◌∙◌, inl, sym, subst, List}
use Rattle.environment_sets.specs.Lists.{IsIn}
use Rattle.inference_search.specs.declared.inferred.Inferred.{Inferred}
use Rattle.label_engine.specs.Update.{SaysAsMuch}
use Rattle.label_engine.proofs.Needed.{some_says}
use Rattle.label_engine.proofs.recording.is_said_from.Goals as goal

pub returns : goal.returns
returns c is =
    let j : (j : Inferred) × IsIn c.deref.result.now j × SaysAsMuch j c.args.inferred.now = some_says c.deref.result.now c.args.inferred.now (sym c.is_said.ensures ∙ is) in
    let there : IsIn c.uses.new.found.items j.0 = subst (λ (l : List Inferred). IsIn l j.0) c.deref.ensures.value j.1 in
    (j.0, inl ((c.in_ok-uses.ensures j.0).0 there).0, j.2)
