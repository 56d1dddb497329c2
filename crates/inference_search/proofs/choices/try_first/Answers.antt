use Rattle.std.proofs.Common.{None, Option, ℕ, arith}
use Rattle.inference_search.specs.Choices.{AreThirdsDone}
use Rattle.inference_search.proofs.Finding.{Finds-more, Finds-all}
use Rattle.inference_search.proofs.Staying.{AreThirdsDone-stays}
use Rattle.inference_search.proofs.choices.try_first.Goals as goal

pub loop-second-preserved : goal.loop-second-preserved
loop-second-preserved c =
    let s = c.args.asking.now in
    Finds-more _ (λ (o : Option ℕ). AreThirdsDone s.slot s.instance s.must c.args.choices.now.third.items c.args.first o)
    (λ (o : Option ℕ). AreThirdsDone-stays s.slot s.must s.instance c.args.choices.now.third.items c.args.first o)
    c.args.choices.now.second.items None c.loop-second.second-index _ _ _ c.deref-second-items.result.now c.deref-second-items.ensures.value c.loop-second.invariant c.in_ok-try_two.ensures

pub returns : goal.returns
returns c =
    let s = c.args.asking.now in
    Finds-all _ (λ (o : Option ℕ). AreThirdsDone s.slot s.instance s.must c.args.choices.now.third.items c.args.first o)
    (λ (o : Option ℕ). AreThirdsDone-stays s.slot s.must s.instance c.args.choices.now.third.items c.args.first o)
    c.args.choices.now.second.items None c.loop-second.second-index _ _ (omega arith) c.loop-second.invariant
