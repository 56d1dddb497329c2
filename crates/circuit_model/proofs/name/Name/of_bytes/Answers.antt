use Rattle.circuit_model.proofs.Paddings.{IsPadded-filled}
use Rattle.circuit_model.proofs.name.Name.of_bytes.Goals as goal

pub invariant_of-result : goal.invariant_of-result
invariant_of-result c = IsPadded-filled c.copy_from_slice.new.self c.args.bytes.now c.requires c.copy_from_slice.ensures.after
