use Rattle.std.proofs.Common.{List, refl, subst, sym}
use Rattle.circuit_model.specs.Present.{circuit_of}
use Rattle.circuit_model.specs.Probe.{AreConflicts}
use Rattle.environment_sets.specs.declared.environment.Env.{Env}
use Rattle.environment_sets.specs.Members.{sets}
use Rattle.session_undo.proofs.session.Session.conflicts.Goals as goal

pub returns-in-Ok-clause-answers : goal.returns-in-Ok-clause-answers
returns-in-Ok-clause-answers c =
    let kept : AreConflicts (circuit_of c.args.self.now.present) (sets c.of.result) = subst (λ (es : List Env). AreConflicts (circuit_of c.args.self.now.present) (sets es)) (sym c.of.ensures) c.in-Ok.ensures in
    (record { early = refl; late = tt }, (refl, kept))
