use Rattle.std.proofs.Common.{subst}
use Rattle.std.proofs.lemmas.Result.{IfOk-weaker}
use Rattle.circuit_model.specs.Present.{circuit_of}
use Rattle.circuit_model.specs.Probe.{AreConflicts}
use Rattle.environment_sets.specs.Members.{sets}
use Rattle.session_undo.specs.Presents.{State}
use Rattle.session_undo.specs.Remembering.{parked}
use Rattle.session_undo.proofs.session.Session.conflicts_found.Goals as goal

pub returns : goal.returns
returns c =
    IfOk-weaker c.conflicts_of.result _ _ (λ found at.
    let here : AreConflicts (circuit_of c.self.inside.present) (sets found.items) = at c.self.inside.present (parked c.self.inside.present c.self.inside.history) c.self.invariant.stands in
    subst (λ (s : State). AreConflicts (circuit_of s.present) (sets found.items)) c.self.view_is here) c.conflicts_of.ensures
