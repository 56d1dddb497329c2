use Rattle.word_domain.proofs.Masks.{and_with_mask}
use Rattle.word_domain.proofs.width.Width.sum_mod.Goals as goal

pub returns-clause-value : goal.returns-clause-value
returns-clause-value c = and_with_mask _ _ _ c.mask.ensures.value
