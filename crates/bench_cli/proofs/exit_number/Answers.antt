use Rattle.std.proofs.Common.{sym, subst}
use Rattle.bench_cli.specs.Program.{AsksForSession}
use Rattle.bench_cli.specs.declared.CommandLine.{CommandLine}
use Rattle.bench_cli.proofs.exit_number.Goals as goal

pub returns-in-Words-clause-unread : goal.returns-in-Words-clause-unread
returns-in-Words-clause-unread g c =
    let P : CommandLine → Type 0 = λ x. AsksForSession x in
    λ none. c.gde.ensures.unread (λ run. none (subst P (sym c.in-Words.is) (rw (← c.deref.ensures.value) run)))
