use Rattle.std.proofs.Common.{◌≡◌, ◌++◌, List, Option, Some, take, drop, length, slice_set, sym, ap, subst, ◌∙◌, arith}
use Rattle.circuit_model.specs.declared.model.Assumption.{Assumption}
use Rattle.assumption_slots.specs.Slots.{AreSlots}
use Rattle.assumption_slots.proofs.Tables.{AreSlots-with, lent_back}
use Rattle.assumption_slots.proofs.slots.Slots.set.Goals as goal

pub invariant_of-self : goal.invariant_of-self
invariant_of-self c =
    let s = c.self.inside in
    let list : take s.list.len (c.put_in.new.list ++ drop (length c.put_in.new.list) s.list.items) ≡ c.put_in.new.list = lent_back c.put_in.new.list s.list.items s.list.len (omega arith) in
    let rows : take s.near.len (c.put_in.new.rows ++ drop (length c.put_in.new.rows) s.near.items) ≡ c.put_in.new.rows = lent_back c.put_in.new.rows s.near.items s.near.len (omega arith) in
    let same : c.put_in.new.list ≡ slice_set s.list.items c.args.slot (Some c.args.what) = c.put_in.ensures.list ∙ ap (λ (l : List (Option Assumption)). slice_set l c.args.slot (Some c.args.what)) c.deref_mut.ensures.value in
    rw (list, rows) (
      subst (λ (l : List (Option Assumption)). AreSlots l c.max-self-inside.result) (sym same) (AreSlots-with s.list.items s.end c.args.slot c.max-self-inside.result (Some c.args.what) c.self.invariant.0 (omega arith) (omega arith) (omega arith)),
      c.put_in.ensures.table,
    )
