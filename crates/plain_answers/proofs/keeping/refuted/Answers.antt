use Rattle.std.proofs.Common.{ℕ, subst}
use Rattle.environment_sets.specs.Sets.{Set}
use Rattle.circuit_model.specs.Diagnoses.{AreRefuted}
use Rattle.circuit_model.specs.Present.{circuit_of}
use Rattle.plain_answers.specs.Tests.{IsDecided}
use Rattle.plain_answers.proofs.Loops.{IfOk-more}
use Rattle.plain_answers.proofs.Positions.{same_positions}
use Rattle.plain_answers.proofs.keeping.refuted.Goals as goal

pub returns : goal.returns
returns c =
    IfOk-more c.are_refuted.result _ _ (λ b decided. subst (λ (C : Set ℕ). IsDecided b (AreRefuted (circuit_of c.args.present.now) C)) (same_positions _ _ c.parts_alone-alone.ensures) decided) c.are_refuted.ensures
