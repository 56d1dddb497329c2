use Rattle.std.proofs.Common.{ℕ, List, [], ◌∷◌, ◌++◌, take, Some, sym, subst}
use Rattle.hitting_sets.proofs.Steps.{take_item}
use Rattle.first_diagnoses.specs.declared.waiting.Waiting.{Waiting}
use Rattle.first_diagnoses.specs.Waits.{IsLeastOf}
use Rattle.first_diagnoses.proofs.Waits.{least_more}
use Rattle.first_diagnoses.proofs.waiting.least_of.Goals as goal

pub loop-item-preserved : goal.loop-item-preserved
loop-item-preserved c =
    let ws = c.args.waiting.now in
    let i = c.loop-item.item-index in
    let w = c.item-item.result in
    subst (λ (vs : List Waiting). IsLeastOf vs (Some c.lesser.result)) (sym (take_item ws i w c.loop-item-test.true c.item-item.is))
    (subst (λ (m : ℕ). IsLeastOf (take i ws ++ w ∷ []) (Some m)) (sym c.lesser.ensures) (least_more (take i ws) w c.loop-item.least c.loop-item.invariant))
