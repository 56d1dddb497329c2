use Rattle.std.proofs.Common.{arith}
use Rattle.circuit_model.specs.declared.model.Instance.{Instance}
use Rattle.assumption_slots.specs.Table.{HasCellAt}
use Rattle.assumption_slots.proofs.Tables.{marked_all}
use Rattle.assumption_slots.proofs.table.mark_part.Goals as goal

pub returns : goal.returns
returns c = marked_all c.args.slot c.args.is_in c.args.part.now (λ (instance : Instance). HasCellAt instance.cells) c.loop-place.place _ _ (omega arith) c.loop-place.invariant
