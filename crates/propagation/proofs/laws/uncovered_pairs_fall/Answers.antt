use Rattle.propagation.proofs.laws.uncovered_pairs_fall.Goals as goal
use Rattle.propagation.proofs.Uncovered.{uncovered_less}

pub returns : goal.returns
returns c = uncovered_less
