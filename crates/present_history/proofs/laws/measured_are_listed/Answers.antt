use Rattle.present_history.proofs.Standing.{IsIn-measured, measured-IsIn}
use Rattle.present_history.proofs.laws.measured_are_listed.Goals as goal

pub returns : goal.returns
returns c = λ s h f. (IsIn-measured s f, measured-IsIn s f h)
