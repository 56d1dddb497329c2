use Rattle.std.proofs.Common.{sym, ◌∙◌}
use Rattle.netlist_text.proofs.Moding.{acts_lawful}
use Rattle.netlist_text.proofs.mode_checks.check_acts.Goals as goal

pub returns-in-Ok-clause-lawful : goal.returns-in-Ok-clause-lawful
returns-in-Ok-clause-lawful c =
    let found = sym c.part_of.ensures.place ∙ c.in-Some.is in
    let checked = c.in-Ok.ensures in
    let acts = c.in-Some-kind_to_act.ensures in
    acts_lawful c.args.present.now c.args.name.now c.in-Some.place c.part_at.result.now found c.part_at.ensures c.in-Ok.cost checked.3 checked.4 c.args.kind.now c.in-Some-kind_to_act.kind acts.1 acts.2
