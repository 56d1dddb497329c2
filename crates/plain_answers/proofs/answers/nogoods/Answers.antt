use Rattle.std.proofs.Common.{List, subst}
use Rattle.circuit_model.specs.Stock.{IsRefutedBy}
use Rattle.circuit_model.specs.Whole.{stock}
use Rattle.plain_answers.specs.declared.environment.Environment.{Environment}
use Rattle.plain_answers.specs.Subsets.{sets, Keeps}
use Rattle.plain_answers.specs.Tests.{IsLeastIn}
use Rattle.plain_answers.proofs.KeptLists.{nogoods_listed}
use Rattle.plain_answers.proofs.Loops.{IfOk-more}
use Rattle.plain_answers.proofs.answers.nogoods.Goals as goal

pub returns : goal.returns
returns c =
    IfOk-more c.least.result _ _ (λ es least.
    nogoods_listed c.args.present.now (sets c.in_ok-all.all.items) (sets c.in_ok-clashing.clashing.items) (sets es.items) c.in_ok-all.ensures (subst (λ (all : List Environment). Keeps (IsRefutedBy (stock c.args.present.now)) (sets all) (sets c.in_ok-clashing.clashing.items)) c.deref.ensures.value c.in_ok-clashing.ensures) (subst (λ (clashing : List Environment). Keeps (IsLeastIn (sets clashing)) (sets clashing) (sets es.items)) c.deref-2.ensures.value least)) c.least.ensures
