use Rattle.std.proofs.Common.{List, sym, subst}
use Rattle.circuit_model.specs.declared.model.Instance.{Instance}
use Rattle.circuit_model.specs.Lawful.{AreLawful}
use Rattle.circuit_model.proofs.Cycles.{AreLawful-instances}
use Rattle.circuit_model.proofs.instances.instances_of.Goals as goal

pub of-requires : goal.of-requires
of-requires c =
    subst (λ (is : List Instance). AreLawful is) (sym c.in_ok-instances.ensures) (AreLawful-instances c.args.kind c.args.nets c.args.widths c.args.cycles c.requires.widths c.requires.value)
