use Rattle.std.proofs.Common.{List, subst}
use Rattle.plain_answers.specs.declared.environment.Environment.{Environment}
use Rattle.plain_answers.specs.Subsets.{sets, Keeps}
use Rattle.plain_answers.specs.Tests.{HasFact, IsLeastIn}
use Rattle.plain_answers.proofs.KeptLists.{label_listed}
use Rattle.plain_answers.proofs.Loops.{IfOk-more}
use Rattle.plain_answers.proofs.answers.label.Goals as goal

pub returns : goal.returns
returns c =
    IfOk-more c.least.result _ _ (λ es least.
    label_listed c.args.present.now c.args.fact (sets c.in_ok-all.all.items) (sets c.in_ok-having.having.items) (sets es.items) c.in_ok-all.ensures (subst (λ (all : List Environment). Keeps (HasFact c.args.present.now c.args.fact) (sets all) (sets c.in_ok-having.having.items)) c.deref.ensures.value c.in_ok-having.ensures) (subst (λ (having : List Environment). Keeps (IsLeastIn (sets having)) (sets having) (sets es.items)) c.deref-2.ensures.value least)) c.least.ensures
