use Rattle.std.proofs.Common.{◌≡◌, Some, None, length, arith}
use Rattle.std.proofs.lemmas.List.{length-set}
use Rattle.assumption_slots.specs.Slots.{stock}
use Rattle.assumption_slots.proofs.Tables.{set_twice, stock-set_same, table_with}
use Rattle.assumption_slots.proofs.table.put_in.Goals as goal

pub returns-clause-list : goal.returns-clause-list
returns-clause-list c = rw c.take_out.ensures.list (set_twice c.args.list.now c.args.slot None (Some c.args.what))

pub returns-clause-table : goal.returns-clause-table
returns-clause-table c =
    let wide : length c.take_out.new.list ≡ length c.args.list.now = rw c.take_out.ensures.list (length-set c.args.list.now c.args.slot None) in
    let free : stock c.take_out.new.list c.args.slot ≡ None = rw c.take_out.ensures.list (stock-set_same c.args.list.now c.args.slot None (omega arith)) in
    table_with c.take_out.new.list c.take_out.new.rows c.mark.new.rows c.args.slot (omega arith) c.take_out.ensures.table c.args.what free c.mark.ensures
