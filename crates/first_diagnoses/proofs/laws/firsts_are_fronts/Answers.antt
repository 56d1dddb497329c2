use Rattle.first_diagnoses.proofs.Firsts.{firsts_are_fronts}
use Rattle.first_diagnoses.proofs.laws.firsts_are_fronts.Goals as goal

pub returns : goal.returns
returns c = firsts_are_fronts
