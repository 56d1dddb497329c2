use Rattle.std.proofs.Common.{arith}
use Rattle.plain_answers.specs.Members.{members}
use Rattle.plain_answers.proofs.WithReadings.{added_none, added_more, added_all}
use Rattle.circuit_model.proofs.Readings.{IsFactOf-at}
use Rattle.plain_answers.proofs.environment.Environment.with_readings_of.Goals as goal

pub loop-place-init : goal.loop-place-init
loop-place-init c = added_none c.args.present.now (members c.args.self)

pub with_cell-more-requires-clause-net : goal.with_cell-more-requires-clause-net
with_cell-more-requires-clause-net c =
    let lawful = c.readings-place-end.ensures.lawful in
    let inside = (IsFactOf-at c.args.present.now lawful c.loop-place.place c.reading.result c.reading.ensures).net in
    let most = lawful.nets in
    omega arith

pub with_cell-more-requires-clause-cycle : goal.with_cell-more-requires-clause-cycle
with_cell-more-requires-clause-cycle c =
    let lawful = c.readings-place-end.ensures.lawful in
    let inside = (IsFactOf-at c.args.present.now lawful c.loop-place.place c.reading.result c.reading.ensures).cycle in
    let most = lawful.cycles in
    omega arith

pub loop-place-preserved : goal.loop-place-preserved
loop-place-preserved c =
    added_more c.args.present.now (members c.args.self) c.loop-place.place c.reading.result (members c.loop-place.more) _ c.reading.ensures c.with_cell-more.ensures c.loop-place.invariant

pub returns : goal.returns
returns c =
    added_all c.args.present.now (members c.args.self) c.readings-place-end.ensures.lawful c.loop-place.place _ (omega (arith, c.readings-place-end.ensures.value)) c.loop-place.invariant
