use Rattle.std.proofs.Common.{ℕ, ◌≤◌, ◌*◌, ◌^◌, sum, sym, ap, subst, ◌∙◌, arith}
use Rattle.circuit_model.specs.declared.limits.TheConstants.{MOST_COST, MOST_DIAGNOSES}
use Rattle.environment_sets.specs.Members.{sets}
use Rattle.probe_planner.proofs.Bounds.{weights_few, weights_by_sets}
use Rattle.probe_planner.proofs.planner.best_probe.Goals as goal

pub total_of-total-requires : goal.total_of-total-requires
total_of-total-requires c =
    let few : sum c.deref.result.now ≤ MOST_DIAGNOSES * 2 ^ MOST_COST = weights_few c.args.standing.now c.args.present.now c.args.diagnoses.now c.deref.result.now c.requires.few (c.deref.ensures.value ∙ c.in_ok-weights.ensures) in
    omega (arith, few)

pub best_of_all-requires : goal.best_of_all-requires
best_of_all-requires c =
    let few : sum c.deref.result.now ≤ MOST_DIAGNOSES * 2 ^ MOST_COST = weights_few c.args.standing.now c.args.present.now c.args.diagnoses.now c.deref.result.now c.requires.few (c.deref.ensures.value ∙ c.in_ok-weights.ensures) in
    record {
      exact = c.exactness.ensures;
      parked = c.requires.stands.0;
      stands = c.requires.stands.1;
      diagnoses = sets c.args.diagnoses.now;
      inside = c.requires.parts;
      known = c.requires.diagnoses;
      weighed = record {
        rests = ap sets c.deref-2.ensures.value ∙ c.in_ok-rests.ensures;
        weights = c.deref-3.ensures.value ∙ (c.in_ok-weights.ensures ∙ weights_by_sets c.args.standing.now c.args.present.now c.args.diagnoses.now);
        total = c.total_of-total.ensures ∙ ap sum (c.deref.ensures.value ∙ sym c.deref-3.ensures.value);
        few = subst (λ (n : ℕ). n ≤ MOST_DIAGNOSES * 2 ^ MOST_COST) (sym c.total_of-total.ensures) few;
      };
    }
