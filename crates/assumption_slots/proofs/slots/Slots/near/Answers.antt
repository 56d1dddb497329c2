use Rattle.std.proofs.Common.{refl}
use Rattle.environment_sets.proofs.Membership.{IsIn-slice_get}
use Rattle.assumption_slots.proofs.Tables.{row_exact}
use Rattle.assumption_slots.proofs.slots.Slots.near.Goals as goal

pub returns-clause-complete : goal.returns-clause-complete
returns-clause-complete c k part instance p at of_part there =
    let s = c.self.inside in
    (row_exact s.list.items c.args.self.now s.near.items c.place_of.result c.index.result.now c.args.cell c.self.invariant.1 c.self.view_is c.place_of.ensures.below c.place_of.ensures.place c.index.ensures k).1
    (part, at, (instance, of_part, (c.args.cell, IsIn-slice_get instance.cells p c.args.cell there, refl)))

pub returns-clause-only : goal.returns-clause-only
returns-clause-only c k =
    let s = c.self.inside in
    (row_exact s.list.items c.args.self.now s.near.items c.place_of.result c.index.result.now c.args.cell c.self.invariant.1 c.self.view_is c.place_of.ensures.below c.place_of.ensures.place c.index.ensures k).0
