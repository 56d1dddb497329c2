use Rattle.inference_search.proofs.antecedents.all_agree.Goals as goal

pub returns : goal.returns
returns c = (
  λ e. (c.agree.ensures.0 c.if-not-agree.false, c.agree-else-not-agree.ensures.0 c.if-not-agree-2.false, c.agree-2.ensures.0 e),
  λ all. c.agree-2.ensures.1 all.2,
)
