use Rattle.std.proofs.Common.{◌≡◌, Some, slice_get, arith}
use Rattle.circuit_model.specs.declared.model.Instance.{Instance}
use Rattle.inference_search.specs.Choices.{IsDoneFrom}
use Rattle.inference_search.proofs.Finding.{Finds-next, Finds-map}
use Rattle.inference_search.proofs.Staying.{IsDoneFrom-stays}
use Rattle.inference_search.proofs.Remembering.{made_of, at_place, each_instance}
use Rattle.inference_search.proofs.components.add_part.Goals as goal

pub loop-index-preserved : goal.loop-index-preserved
loop-index-preserved c =
    let s = c.args.search.now in
    Finds-next _ (λ k found. (i : Instance) → slice_get c.args.part.now k ≡ Some i → IsDoneFrom c.args.slot s.facts.now s.must i found)
    (λ k xs ys stays done i e. IsDoneFrom-stays c.args.slot s.must s.facts.now i xs ys stays (done i e))
    c.loop-index.index _ _ _ c.loop-index.invariant
    (Finds-map _ _ _ _ _ _
    (made_of c.args.slot c.args.part.now s.must c.loop-index.index c.at.result.now c.at.ensures.instance)
    (λ done. at_place c.args.part.now c.loop-index.index c.at.result.now (λ (i : Instance). IsDoneFrom c.args.slot s.facts.now s.must i c.add_instance.new.found.items) c.at.ensures.instance done)
    c.in_ok-add_instance.ensures)

pub returns : goal.returns
returns c =
    let s = c.args.search.now in
    Finds-map _ _ _ _ _ _ (λ i q. q)
    (λ done. each_instance c.args.part.now (λ (i : Instance). IsDoneFrom c.args.slot s.facts.now s.must i c.loop-index.found.items) (λ k inside. done k (omega arith)))
    c.loop-index.invariant
