use Rattle.standing_view.proofs.Orders as lemmas
use Rattle.standing_view.proofs.laws.the_order_is_the_presents.Goals as goal

pub returns : goal.returns
returns c = lemmas.the_order_is_the_presents
