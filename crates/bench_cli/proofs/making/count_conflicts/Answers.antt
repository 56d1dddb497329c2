use Rattle.std.proofs.Common.{ℕ, sym, subst}
use Rattle.circuit_model.specs.Diagnoses.{IsConflict}
use Rattle.circuit_model.specs.Present.{circuit_of}
use Rattle.environment_sets.specs.Counts.{AreSoMany}
use Rattle.netlist_text.specs.declared.requests.Query.TheVariants.{Conflicts}
use Rattle.session_undo.specs.Serving.{Answers}
use Rattle.session_undo.specs.declared.answers.Answer.{Answer}
use Rattle.bench_cli.proofs.Boxed.{conflicts_counted}
use Rattle.bench_cli.proofs.making.count_conflicts.Goals as goal

pub returns-in-Ok-Conflicts-clause-found : goal.returns-in-Ok-Conflicts-clause-found
returns-in-Ok-Conflicts-clause-found c =
    let answers = c.in-Ok-Conflicts.ensures.answers in
    let P : ℕ → Type 0 = λ n. AreSoMany (IsConflict (circuit_of c.args.session.now.present)) n in
    let Q : Answer → Type 0 = λ a. Answers c.args.session.now Conflicts a in
    let told = subst Q c.in-Ok-Conflicts.field-0-is answers.1 in
    (answers.0, subst P (sym c.len.ensures) (conflicts_counted c.args.session.now.present c.in-Ok-Conflicts.found told.1))
