use Rattle.std.proofs.Common.{arith}
use Rattle.circuit_model.specs.declared.model.Fact.{Fact}
use Rattle.inference_search.specs.Choices.{HasClashOf}
use Rattle.inference_search.proofs.Finding.{Finds-all}
use Rattle.inference_search.proofs.search.clashes.Goals as goal

pub returns : goal.returns
returns c =
    Finds-all _ (λ (g : Fact). HasClashOf c.args.fact g) (λ g xs ys stays done one differ. stays _ (done one differ))
    c.args.met.now c.args.fact c.loop-other.other-index _ _ (omega arith) c.loop-other.invariant
