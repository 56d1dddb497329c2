use Rattle.std.proofs.Common.{◌≡◌, ◌+◌, ℕ, List, sym, ap, subst, ◌∙◌, arith}
use Rattle.environment_sets.specs.Sets.{Set}
use Rattle.environment_sets.specs.Lists.{IsRoster}
use Rattle.circuit_model.specs.Diagnoses.{Place, AtCell}
use Rattle.plain_answers.specs.declared.environment.Environment.{Environment}
use Rattle.circuit_model.proofs.Readings.{IsFactOf-at}
use Rattle.plain_answers.specs.Subsets.{sets, IsWithin, IsPartOrCell, doubling}
use Rattle.plain_answers.proofs.Doubling.{parts_first, cell_doubled, stock_last}
use Rattle.plain_answers.proofs.subsets.environments.Goals as goal

pub loop-place-init : goal.loop-place-init
loop-place-init c = parts_first c.args.present.now (sets c.in_ok-all.all.items) c.in_ok-all.ensures

pub doubled-requires : goal.doubled-requires
doubled-requires c =
    let lawful = c.readings-place-end.ensures.lawful in
    let fact = IsFactOf-at c.args.present.now lawful c.loop-place.place c.reading.result c.reading.ensures in
    let net = fact.net in
    let cycle = fact.cycle in
    let nets = lawful.nets in
    let cycles = lawful.cycles in
    (omega arith, omega arith)

pub loop-place-preserved : goal.loop-place-preserved
loop-place-preserved c =
    let is : sets c.in_ok-all-2.all.items ≡ doubling (AtCell c.reading.result.cell) (sets c.loop-place.all.items) =
    c.in_ok-all-2.ensures ∙ ap (λ (es : List Environment). doubling (AtCell c.reading.result.cell) (sets es)) c.deref.ensures.value in
    subst (λ (Es : List (Set Place)). IsRoster (IsWithin (IsPartOrCell c.args.present.now (c.loop-place.place + 1))) Es) (sym is) (cell_doubled c.args.present.now c.readings-place-end.ensures.lawful c.loop-place.place c.reading.result c.reading.ensures (sets c.loop-place.all.items) c.loop-place.invariant)

pub returns : goal.returns
returns c =
    let all : c.loop-place.place ≡ c.readings-place-end.result = omega arith in
    stock_last c.args.present.now c.readings-place-end.ensures.lawful (sets c.loop-place.all.items) (subst (λ (n : ℕ). IsRoster (IsWithin (IsPartOrCell c.args.present.now n)) (sets c.loop-place.all.items)) (all ∙ c.readings-place-end.ensures.value) c.loop-place.invariant)
