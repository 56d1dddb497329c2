use Rattle.std.proofs.Common.{ℕ, List, sym, subst}
use Rattle.environment_sets.specs.declared.environment.TheConstants.{SLOTS}
use Rattle.environment_sets.specs.Members.{HasMember}
use Rattle.environment_sets.specs.Orders.{IsOrder}
use Rattle.environment_sets.specs.Costs.{ListsEach}
use Rattle.call_tests.proofs.Rising.{is_order, lists_each}
use Rattle.call_tests.proofs.hitting.firsts.Goals as goal

pub first-requires-clause-slots : goal.first-requires-clause-slots
first-requires-clause-slots c = subst (IsOrder SLOTS) (sym c.deref-3.ensures.value) (is_order c.in_ok-order.order.items c.in_ok-order.ensures)

pub first-requires-clause-listed : goal.first-requires-clause-listed
first-requires-clause-listed c =
    subst (λ (order : List ℕ). ListsEach order (HasMember c.args.conflicts.now)) (sym c.deref-3.ensures.value) (lists_each c.in_ok-order.order.items c.args.conflicts.now c.in_ok-order.ensures)
