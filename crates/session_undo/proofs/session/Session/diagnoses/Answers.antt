use Rattle.std.proofs.Common.{List, subst, sym}
use Rattle.circuit_model.specs.Present.{circuit_of}
use Rattle.circuit_model.specs.Probe.{AreConflicts}
use Rattle.environment_sets.specs.declared.environment.Env.{Env}
use Rattle.environment_sets.specs.Members.{sets}
use Rattle.session_undo.specs.Presents.{State}
use Rattle.session_undo.proofs.session.Session.diagnoses.Goals as goal

pub diagnoses_of-requires : goal.diagnoses_of-requires
diagnoses_of-requires c =
    let found : AreConflicts (circuit_of c.self.inside.present) (sets c.in-Ok.conflicts.items) = subst (λ (s : State). AreConflicts (circuit_of s.present) (sets c.in-Ok.conflicts.items)) (sym c.self.view_is) c.in-Ok.ensures in
    subst (λ (es : List Env). AreConflicts (circuit_of c.self.inside.present) (sets es)) (sym c.deref.ensures.value) found
