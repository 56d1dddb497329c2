use Rattle.std.proofs.Common.{None, Option, ℕ, arith}
use Rattle.inference_search.specs.Choices.{AreSecondsDone}
use Rattle.inference_search.proofs.Finding.{Finds-more, Finds-all}
use Rattle.inference_search.proofs.Staying.{AreSecondsDone-stays}
use Rattle.inference_search.proofs.choices.try_all.Goals as goal

pub loop-first-preserved : goal.loop-first-preserved
loop-first-preserved c =
    let s = c.args.asking.now in
    Finds-more _ (λ (o : Option ℕ). AreSecondsDone s.slot s.instance s.must c.args.choices.now.second.items c.args.choices.now.third.items o)
    (λ (o : Option ℕ). AreSecondsDone-stays s.slot s.must s.instance c.args.choices.now.second.items c.args.choices.now.third.items o)
    c.args.choices.now.first.items None c.loop-first.first-index _ _ _ c.deref-first-items.result.now c.deref-first-items.ensures.value c.loop-first.invariant c.in_ok-try_first.ensures

pub returns : goal.returns
returns c =
    let s = c.args.asking.now in
    Finds-all _ (λ (o : Option ℕ). AreSecondsDone s.slot s.instance s.must c.args.choices.now.second.items c.args.choices.now.third.items o)
    (λ (o : Option ℕ). AreSecondsDone-stays s.slot s.must s.instance c.args.choices.now.second.items c.args.choices.now.third.items o)
    c.args.choices.now.first.items None c.loop-first.first-index _ _ (omega arith) c.loop-first.invariant
