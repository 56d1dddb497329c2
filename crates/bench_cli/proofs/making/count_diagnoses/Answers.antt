use Rattle.std.proofs.Common.{ℕ, sym, subst}
use Rattle.circuit_model.specs.Diagnoses.{IsDiagnosis}
use Rattle.circuit_model.specs.Present.{circuit_of}
use Rattle.environment_sets.specs.Counts.{AreSoMany}
use Rattle.netlist_text.specs.declared.requests.Query.TheVariants.{Diagnose}
use Rattle.session_undo.specs.Serving.{Answers}
use Rattle.session_undo.specs.declared.answers.Answer.{Answer}
use Rattle.bench_cli.proofs.Boxed.{diagnoses_counted}
use Rattle.bench_cli.proofs.making.count_diagnoses.Goals as goal

pub returns-in-Ok-Diagnoses-clause-found : goal.returns-in-Ok-Diagnoses-clause-found
returns-in-Ok-Diagnoses-clause-found c =
    let answers = c.in-Ok-Diagnoses.ensures.answers in
    let P : ℕ → Type 0 = λ n. AreSoMany (IsDiagnosis (circuit_of c.args.session.now.present)) n in
    let Q : Answer → Type 0 = λ a. Answers c.args.session.now Diagnose a in
    let told = subst Q c.in-Ok-Diagnoses.field-0-is answers.1 in
    (answers.0, subst P (sym c.len.ensures) (diagnoses_counted c.args.session.now c.in-Ok-Diagnoses.found told))
