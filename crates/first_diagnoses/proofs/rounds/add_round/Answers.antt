use Rattle.std.proofs.Common.{◌+◌, take, arith}
use Rattle.first_diagnoses.specs.Rounds.{AddsFirst}
use Rattle.first_diagnoses.specs.Waits.{IsOfRoundIn}
use Rattle.first_diagnoses.proofs.Waits.{this_waits, round_more, heavier_more, round_full}
use Rattle.first_diagnoses.proofs.rounds.add_round.Goals as goal

pub add_waiting-requires-clause-waiting : goal.add_waiting-requires-clause-waiting
add_waiting-requires-clause-waiting c =
    this_waits c.args.problem.now c.args.waiting.now c.requires.waiting c.args.round.now.weight c.args.round.now.limit c.loop-item.item-index c.item-item.result c.loop-item-test.true c.item-item.is

pub returns-then-len-round-clause-first : goal.returns-then-len-round-clause-first
returns-then-len-round-clause-first c =
    let p = c.args.problem.now in
    let ws = c.args.waiting.now in
    let weight = c.args.round.now.weight in
    let limit = c.args.round.now.limit in
    let i = c.loop-item.item-index in
    let adds : AddsFirst p (IsOfRoundIn p (take (i + 1) ws) weight) limit c.args.found.now.items c.add_waiting.new.found.items =
    round_more p ws c.requires.waiting weight limit i c.item-item.result c.loop-item-test.true c.item-item.is c.args.found.now.items c.loop-item.found.items c.add_waiting.new.found.items (omega (arith, c.requires.room)) c.loop-item.invariant.first c.in_ok-add_waiting.ensures.first in
    round_full p ws c.requires.waiting weight limit (i + 1) c.args.found.now.items c.add_waiting.new.found.items (omega (arith, c.requires.room)) (omega (arith, c.if-len-round.true)) adds

pub loop-item-preserved : goal.loop-item-preserved
loop-item-preserved c =
    let p = c.args.problem.now in
    let ws = c.args.waiting.now in
    let weight = c.args.round.now.weight in
    let limit = c.args.round.now.limit in
    let i = c.loop-item.item-index in
    record {
      room = omega (arith, c.if-len-round.false);
      first = round_more p ws c.requires.waiting weight limit i c.item-item.result c.loop-item-test.true c.item-item.is c.args.found.now.items c.loop-item.found.items c.add_waiting.new.found.items (omega (arith, c.requires.room)) c.loop-item.invariant.first c.in_ok-add_waiting.ensures.first;
      rest = heavier_more p ws c.requires.waiting weight limit i c.item-item.result c.loop-item-test.true c.item-item.is c.loop-item.later.items c.add_waiting.new.later.items c.loop-item.invariant.rest (c.in_ok-add_waiting.ensures.rest (omega (arith, c.if-len-round.false)));
    }
