use Rattle.standing_view.proofs.Named as lemmas
use Rattle.standing_view.proofs.laws.the_mask_is_everything.Goals as goal

pub returns : goal.returns
returns c = lemmas.the_mask_is_everything
