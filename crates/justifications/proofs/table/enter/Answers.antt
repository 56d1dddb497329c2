use Rattle.std.proofs.Common.{Some}
use Rattle.justifications.proofs.Tables.{entered_of}
use Rattle.justifications.proofs.table.enter.Goals as goal

pub returns-in-Ok-clause-ok : goal.returns-in-Ok-clause-ok
returns-in-Ok-clause-ok c =
    let u = rw c.key_of.ensures at c.in-Ok.ensures.updates.0 in
    entered_of c.args.table.now.entries c.insert.new.self.entries c.args.fact.now (Some c.args.number) u
