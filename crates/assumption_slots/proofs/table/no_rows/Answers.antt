use Rattle.std.proofs.Common.{◌-◌, vec_len}
use Rattle.assumption_slots.specs.declared.table.TheConstants.{PLACES}
use Rattle.assumption_slots.proofs.Tables.{slots_at-filled}
use Rattle.assumption_slots.proofs.table.no_rows.Goals as goal

pub returns-clause-none : goal.returns-clause-none
returns-clause-none c =
    slots_at-filled c.resize.new.self.items c.new-rows.result.items PLACES (PLACES - vec_len c.new-rows.result) c.empty.result c.in_ok-resize.ensures.items c.new-rows.ensures.items c.empty.ensures
