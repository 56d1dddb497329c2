use Rattle.block_tree.proofs.Lifting as lemmas
use Rattle.block_tree.proofs.laws.opened_clashes_lift.Goals as goal

pub returns : goal.returns
returns c = lemmas.opened_clashes_lift
