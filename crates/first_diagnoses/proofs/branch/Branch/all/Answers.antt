use Rattle.std.proofs.Common.{ℕ, List, ◌↔◌, IsTrue, refl, sym, ap, subst, ◌∙◌}
use Rattle.std.proofs.lemmas.Bool.{false≢true}
use Rattle.std.proofs.lemmas.List.{take_all}
use Rattle.environment_sets.specs.Members.{members}
use Rattle.environment_sets.specs.Lists.{IsIn}
use Rattle.environment_sets.proofs.Listings.{IsIn-get_or}
use Rattle.diagnosis_order.proofs.Sums.{slots_more}
use Rattle.first_diagnoses.proofs.Branching.{all_branch, all_sought}
use Rattle.first_diagnoses.proofs.branch.Branch.all.Goals as goal

pub with-open-requires : goal.with-open-requires
with-open-requires c = c.requires.slots.below _ (IsIn-get_or c.args.problem.now.order.now c.loop-slot.slot-index 0 c.loop-slot-test.true)

pub loop-slot-init : goal.loop-slot-init
loop-slot-init c = λ k. (λ is. absurd (false≢true (sym (ap (λ E. E k) c.empty-open.ensures) ∙ is)), λ h. absurd h)

pub loop-slot-preserved : goal.loop-slot-preserved
loop-slot-preserved c =
    slots_more c.args.problem.now.order.now c.loop-slot.slot-index (members c.loop-slot.open) (members c.with-open.result) c.loop-slot-test.true c.loop-slot.invariant c.with-open.ensures

pub returns-clause-branch : goal.returns-clause-branch
returns-clause-branch c = all_branch c.args.problem.now c.requires _ c.empty.ensures refl (subst (λ (ks : List ℕ). (k : ℕ) → IsTrue (members c.loop-slot.open k) ↔ IsIn ks k) (take_all c.loop-slot.slot-index c.args.problem.now.order.now c.loop-slot-test.false) c.loop-slot.invariant)

pub returns-clause-sought : goal.returns-clause-sought
returns-clause-sought c = all_sought c.args.problem.now c.requires _ c.empty.ensures refl (subst (λ (ks : List ℕ). (k : ℕ) → IsTrue (members c.loop-slot.open k) ↔ IsIn ks k) (take_all c.loop-slot.slot-index c.args.problem.now.order.now c.loop-slot-test.false) c.loop-slot.invariant)
