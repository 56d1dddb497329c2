use Rattle.std.proofs.Common.{List, subst}
use Rattle.circuit_model.specs.Diagnoses.{AreRefuted}
use Rattle.circuit_model.specs.Present.{circuit_of}
use Rattle.plain_answers.specs.declared.environment.Environment.{Environment}
use Rattle.plain_answers.specs.Subsets.{sets, Keeps}
use Rattle.plain_answers.specs.Tests.{IsLeastIn, positions}
use Rattle.plain_answers.proofs.Loops.{IfOk-more}
use Rattle.plain_answers.proofs.Positions.{conflicts_listed, positions_of_sets}
use Rattle.plain_answers.proofs.answers.conflicts.Goals as goal

pub returns : goal.returns
returns c =
    IfOk-more c.least.result _ _ (λ es least.
    rw positions_of_sets (conflicts_listed c.args.present.now (sets c.in_ok-all.all.items) (sets c.in_ok-refuted.refuted.items) (sets es.items) c.in_ok-all.ensures (subst (λ (all : List Environment). Keeps (λ E. AreRefuted (circuit_of c.args.present.now) (positions E)) (sets all) (sets c.in_ok-refuted.refuted.items)) c.deref.ensures.value c.in_ok-refuted.ensures) (subst (λ (kept : List Environment). Keeps (IsLeastIn (sets kept)) (sets kept) (sets es.items)) c.deref-2.ensures.value least))) c.least.ensures
