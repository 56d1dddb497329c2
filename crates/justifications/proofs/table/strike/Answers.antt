use Rattle.std.proofs.Common.{None}
use Rattle.justifications.proofs.Tables.{entered_of}
use Rattle.justifications.proofs.table.strike.Goals as goal

pub returns : goal.returns
returns c =
    let u = rw c.key_of.ensures at c.swap_remove.ensures.updates.0 in
    entered_of c.args.table.now.entries c.swap_remove.new.self.entries c.args.fact.now None u
