use Rattle.std.specs.Result.{is_err, OnOk}
use Rattle.std.proofs.Common.{length, arith, true≢false, false, Result, Ok, Err, ◌≡◌, List, subst, sym, ◌∙◌}
use Rattle.std.proofs.lemmas.List.{length-map}
use Rattle.environment_sets.specs.declared.environment.Env.{Env}
use Rattle.environment_sets.specs.Members.{members, sets}
use Rattle.hitting_sets.specs.Hitting.{IsMinimalFor, AreMinimalFor}
use Rattle.environment_sets.specs.Costs.{ComesBeforeByCost}
use Rattle.diagnosis_order.proofs.Found.{listing_of_roster, lists_minimal}
use Rattle.diagnosis_order.proofs.listing.diagnoses.Goals as goal

-- what holds on success holds where there is no error
on_success : {T E P : Type 0} (r : Result T E) → is_err r ≡ false → OnOk r P → P
on_success (Ok x) e h = h
on_success (Err x) e h = absurd (true≢false e)

pub in_order-requires-clause-listed : goal.in_order-requires-clause-listed
in_order-requires-clause-listed c =
    let P : List Env → Type 0 = λ conflicts. AreMinimalFor conflicts c.sets-sets.result.now in
    lists_minimal c.args.order.now c.args.conflicts.now c.sets-sets.result.now c.requires.listed (subst P (on_success c.update.result (sym c.is_err.ensures.value ∙ c.if-is_err.false) c.update.ensures.conflicts) c.sets-sets.ensures)

pub returns-in-Ok-clause-all : goal.returns-in-Ok-clause-all
returns-in-Ok-clause-all c =
    let P : List Env → Type 0 = λ conflicts. AreMinimalFor conflicts c.sets-sets.result.now in
    listing_of_roster (ComesBeforeByCost c.args.order.now c.args.costs.now) (IsMinimalFor c.args.conflicts.now) (sets c.sets-sets.result.now) (sets c.in-Ok.found.items) (subst P (on_success c.update.result (sym c.is_err.ensures.value ∙ c.if-is_err.false) c.update.ensures.conflicts) c.sets-sets.ensures) c.in-Ok.ensures.listing

pub returns-in-Ok-clause-few : goal.returns-in-Ok-clause-few
returns-in-Ok-clause-few c = omega (arith, c.in-Ok.ensures.many, c.if-sets-gt-MOST_DIAGNOSES.false)

pub returns-in-Err-clause-scarce : goal.returns-in-Err-clause-scarce
returns-in-Err-clause-scarce c = λ _ _.
    let found = c.sets-sets.result.now in
    let P : List Env → Type 0 = λ conflicts. AreMinimalFor conflicts found in (
      length found,
      record {
        listed = sets found;
        roster = subst P (on_success c.update.result (sym c.is_err.ensures.value ∙ c.if-is_err.false) c.update.ensures.conflicts) c.sets-sets.ensures;
        many = length-map found members;
      },
      omega (arith, c.if-sets-gt-MOST_DIAGNOSES.false),
    )
