use Rattle.std.proofs.Common.{◌≡◌, ◌≤◌, ℕ, List, length, map, ap, sym, subst, ◌∙◌}
use Rattle.assumption_slots.specs.Slots.{stock}
use Rattle.circuit_model.specs.declared.limits.TheConstants.{MOST_DIAGNOSES}
use Rattle.circuit_model.specs.Present.{circuit_of}
use Rattle.circuit_model.specs.Probe.{AreDiagnoses}
use Rattle.environment_sets.specs.declared.environment.Env.{Env}
use Rattle.environment_sets.specs.Members.{sets}
use Rattle.environment_sets.specs.Sets.{Set}
use Rattle.standing_view.specs.Positions.{positions, AreInParts}
use Rattle.standing_probe.proofs.Listed.{diagnoses_in_range, as_few}
use Rattle.standing_probe.proofs.asking.probe_of.Goals as goal

pub slots_of_each-requires : goal.slots_of_each-requires
slots_of_each-requires c = diagnoses_in_range (stock c.args.engine.now.slots) c.args.standing.now c.args.present.now c.requires.stands.0 c.requires.stands.1 (sets c.args.diagnoses.now) c.requires.diagnoses

pub best_probe-requires-clause-parts : goal.best_probe-requires-clause-parts
best_probe-requires-clause-parts c = subst (λ (es : List Env). AreInParts c.args.standing.now (sets es)) (sym c.deref.ensures.value) c.in_ok-slots.ensures.slots

pub best_probe-requires-clause-diagnoses : goal.best_probe-requires-clause-diagnoses
best_probe-requires-clause-diagnoses c =
    let same : map (positions c.args.standing.now) (sets c.deref.result.now) ≡ sets c.args.diagnoses.now = ap (λ (es : List Env). map (positions c.args.standing.now) (sets es)) c.deref.ensures.value ∙ c.in_ok-slots.ensures.positions in
    let P : List (Set ℕ) → Type 0 = AreDiagnoses (circuit_of c.args.present.now) in
    subst P (sym same) c.requires.diagnoses

pub best_probe-requires-clause-few : goal.best_probe-requires-clause-few
best_probe-requires-clause-few c =
    subst (λ (es : List Env). length es ≤ MOST_DIAGNOSES) (sym c.deref.ensures.value) (as_few c.args.standing.now c.in_ok-slots.slots.items c.args.diagnoses.now c.in_ok-slots.ensures.positions c.requires.few)
