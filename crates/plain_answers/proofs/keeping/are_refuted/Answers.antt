use Rattle.std.proofs.Common.{subst}
use Rattle.environment_sets.specs.Sets.{Set}
use Rattle.circuit_model.specs.Diagnoses.{Place}
use Rattle.circuit_model.specs.Stock.{IsRefutedBy}
use Rattle.circuit_model.specs.Whole.{stock}
use Rattle.plain_answers.specs.Tests.{IsDecided}
use Rattle.plain_answers.proofs.Loops.{IfOk-more}
use Rattle.plain_answers.proofs.Positions.{all_readings}
use Rattle.plain_answers.proofs.keeping.are_refuted.Goals as goal

pub returns : goal.returns
returns c =
    IfOk-more c.clashes.result _ _ (λ b decided. subst (λ (E : Set Place). IsDecided b (IsRefutedBy (stock c.args.present.now) E)) (all_readings c.args.present.now _ _ c.requires c.with_readings_of-all.ensures) decided) c.clashes.ensures
