use Rattle.std.proofs.Common.{ℕ, List, subst, sym}
use Rattle.environment_sets.specs.declared.environment.TheConstants.{SLOTS}
use Rattle.environment_sets.specs.Members.{HasMember}
use Rattle.environment_sets.specs.Orders.{IsOrder}
use Rattle.environment_sets.specs.Costs.{ListsEach}
use Rattle.call_tests.proofs.Rising.{is_order, lists_each}
use Rattle.call_tests.proofs.hitting.diagnosed.Goals as goal

pub diagnoses-requires-clause-slots : goal.diagnoses-requires-clause-slots
diagnoses-requires-clause-slots c = subst (IsOrder SLOTS) (sym c.deref-2.ensures.value) (is_order c.in-Ok.order.items c.in-Ok.ensures)

pub diagnoses-requires-clause-listed : goal.diagnoses-requires-clause-listed
diagnoses-requires-clause-listed c =
    subst (λ (order : List ℕ). ListsEach order (HasMember c.args.conflicts.now)) (sym c.deref-2.ensures.value) (lists_each c.in-Ok.order.items c.args.conflicts.now c.in-Ok.ensures)
