use Rattle.std.proofs.Common.{◌≤◌, List, length, subst, sym}
use Rattle.circuit_model.specs.declared.limits.TheConstants.{MOST_DIAGNOSES}
use Rattle.circuit_model.specs.Present.{circuit_of}
use Rattle.circuit_model.specs.Probe.{AreConflicts}
use Rattle.environment_sets.specs.declared.environment.Env.{Env}
use Rattle.environment_sets.specs.Members.{members, sets}
use Rattle.std.proofs.lemmas.List.{length-map}
use Rattle.standing_probe.proofs.Listed.{few_diagnoses_are_listed}
use Rattle.session_undo.specs.Presents.{State}
use Rattle.session_undo.proofs.session.Session.probe.Goals as goal

pub diagnoses_of-requires : goal.diagnoses_of-requires
diagnoses_of-requires c =
    let found : AreConflicts (circuit_of c.self.inside.present) (sets c.in-Ok.conflicts.items) = subst (λ (s : State). AreConflicts (circuit_of s.present) (sets c.in-Ok.conflicts.items)) (sym c.self.view_is) c.in-Ok.ensures in
    subst (λ (es : List Env). AreConflicts (circuit_of c.self.inside.present) (sets es)) (sym c.deref.ensures.value) found

pub probe_of-requires-clause-few : goal.probe_of-requires-clause-few
probe_of-requires-clause-few c =
    let few = few_diagnoses_are_listed (circuit_of c.self.inside.present) (sets c.in-Ok-diagnoses_of.found.items) c.in-Ok-diagnoses_of.ensures.all c.in-Ok-diagnoses_of.ensures.few in
    let P : List Env → Type 0 = λ es. length es ≤ MOST_DIAGNOSES in
    subst P (sym c.deref-2.ensures.value) (rw (← length-map c.in-Ok-diagnoses_of.found.items members) few)
