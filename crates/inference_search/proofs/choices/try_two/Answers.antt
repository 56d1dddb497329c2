use Rattle.std.proofs.Common.{[], ◌∷◌, None, Option, ℕ, arith}
use Rattle.inference_search.specs.Choices.{IsDone}
use Rattle.inference_search.proofs.Finding.{Finds-more, Finds-all}
use Rattle.inference_search.proofs.Staying.{IsDone-stays}
use Rattle.inference_search.proofs.choices.try_two.Goals as goal

pub loop-third-preserved : goal.loop-third-preserved
loop-third-preserved c =
    let s = c.args.asking.now in
    Finds-more _ (λ (o : Option ℕ). IsDone s.slot s.instance s.must (c.args.first ∷ c.args.second ∷ o ∷ []))
    (λ (o : Option ℕ). IsDone-stays s.slot s.must s.instance (c.args.first ∷ c.args.second ∷ o ∷ []))
    c.args.choices.now.third.items None c.loop-third.third-index _ _ _ c.deref-third-items.result.now c.deref-third-items.ensures.value c.loop-third.invariant c.in_ok-add_choice.ensures

pub returns : goal.returns
returns c =
    let s = c.args.asking.now in
    Finds-all _ (λ (o : Option ℕ). IsDone s.slot s.instance s.must (c.args.first ∷ c.args.second ∷ o ∷ []))
    (λ (o : Option ℕ). IsDone-stays s.slot s.must s.instance (c.args.first ∷ c.args.second ∷ o ∷ []))
    c.args.choices.now.third.items None c.loop-third.third-index _ _ (omega arith) c.loop-third.invariant
