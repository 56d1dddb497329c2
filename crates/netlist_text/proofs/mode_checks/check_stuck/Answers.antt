use Rattle.std.proofs.Common.{sym, ◌∙◌}
use Rattle.netlist_text.proofs.Moding.{stuck_lawful}
use Rattle.netlist_text.proofs.mode_checks.check_stuck.Goals as goal

pub returns-in-Ok-clause-lawful : goal.returns-in-Ok-clause-lawful
returns-in-Ok-clause-lawful c =
    let found = sym c.part_of.ensures.place ∙ c.in-Some.is in
    let checked = c.in-Ok.ensures in
    stuck_lawful c.args.present.now c.args.name.now c.in-Some.place c.part_at.result.now found c.part_at.ensures c.in-Ok.cost checked.3 checked.4 c.args.value c.last_width.result
    (sym c.is_block.ensures ∙ c.if-is_block.false) (c.last_width.ensures c.part_at.result.now c.part_at.ensures) (c.fits.ensures.0 c.if-not-fits.false)
