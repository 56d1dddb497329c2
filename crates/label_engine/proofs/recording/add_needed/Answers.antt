use Rattle.std.proofs.Common.{refl, inr, sym, subst, ◌∙◌, List}
use Rattle.environment_sets.specs.Lists.{IsIn}
use Rattle.inference_search.specs.declared.inferred.Inferred.{Inferred}
use Rattle.label_engine.specs.Update.{SaysAsMuch}
use Rattle.label_engine.proofs.Needed.{some_says, said_still}
use Rattle.label_engine.proofs.recording.add_needed.Goals as goal

pub returns-then-said : goal.returns-then-said
returns-then-said c = inr (refl, said_still c.args.recorded.now c.args.needed.now.items c.args.inferred.now (c.in_ok-said.ensures c.if-said.true))

pub returns-then-is_said : goal.returns-then-is_said
returns-then-is_said c =
    let j : (j : Inferred) × IsIn c.deref.result.now j × SaysAsMuch j c.args.inferred.now = some_says c.deref.result.now c.args.inferred.now (sym c.is_said.ensures ∙ c.if-is_said.true) in
    let P : List Inferred → Type 0 = λ l. IsIn l j.0 in
    inr (refl, (j.0, inr (subst P c.deref.ensures.value j.1), j.2))
