use Rattle.recorded_inferences.proofs.Noting.{nothing_told}
use Rattle.recorded_inferences.proofs.records.Records.new.Goals as goal

pub returns : goal.returns
returns c = nothing_told c.new.result c.new.ensures.inferences
