use Rattle.std.proofs.Common.{List, subst}
use Rattle.plain_answers.specs.declared.environment.Environment.{Environment}
use Rattle.plain_answers.specs.Subsets.{sets, Keeps}
use Rattle.plain_answers.specs.Tests.{IsLeastIn, IsRepaired, positions}
use Rattle.plain_answers.proofs.Loops.{IfOk-more}
use Rattle.plain_answers.proofs.Positions.{diagnoses_listed, positions_of_sets}
use Rattle.plain_answers.proofs.answers.diagnoses.Goals as goal

pub returns : goal.returns
returns c =
    IfOk-more c.least.result _ _ (λ es least.
    rw positions_of_sets (diagnoses_listed c.args.present.now (sets c.in_ok-all.all.items) (sets c.in_ok-repaired.repaired.items) (sets es.items) c.in_ok-all.ensures (subst (λ (all : List Environment). Keeps (λ E. IsRepaired c.args.present.now (positions E)) (sets all) (sets c.in_ok-repaired.repaired.items)) c.deref.ensures.value c.in_ok-repaired.ensures) (subst (λ (kept : List Environment). Keeps (IsLeastIn (sets kept)) (sets kept) (sets es.items)) c.deref-2.ensures.value least))) c.least.ensures
