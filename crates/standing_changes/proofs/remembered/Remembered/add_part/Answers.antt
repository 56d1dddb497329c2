use Rattle.std.proofs.Common.{◌≡◌, length, arith}
use Rattle.assumption_slots.specs.Slots.{stock}
use Rattle.standing_view.proofs.Named.{as_many_parts}
use Rattle.standing_changes.proofs.remembered.Remembered.add_part.Goals as goal

pub is_overloaded-requires : goal.is_overloaded-requires
is_overloaded-requires g c =
    let before = c.requires.stands in
    record { present = c.args.present.now; parked = before.parked; stands = c.in-Ok.ensures.ok before.parked before.stands }

pub drop_part-requires-clause-some : goal.drop_part-requires-clause-some
drop_part-requires-clause-some g c =
    let before = c.requires.stands in
    let many : length c.assume_part.new.self.standing.parts ≡ length c.args.present.now.parts =
    as_many_parts (stock c.assume_part.new.self.engine.slots) c.assume_part.new.self.standing c.args.present.now before.parked (c.in-Ok.ensures.ok before.parked before.stands) in
    omega (arith, many, c.requires.some)

pub drop_part-requires-clause-stands : goal.drop_part-requires-clause-stands
drop_part-requires-clause-stands g c =
    let before = c.requires.stands in
    record { present = c.args.present.now; parked = before.parked; stands = c.in-Ok.ensures.ok before.parked before.stands }

pub returns-then-is_overloaded-clause-too_large : goal.returns-then-is_overloaded-clause-too_large
returns-then-is_overloaded-clause-too_large g c = let before = c.requires.stands in λ _. c.if-is_overloaded.ensures c.args.present.now before.parked (c.in-Ok.ensures.ok before.parked before.stands)

pub returns-then-is_overloaded-clause-err : goal.returns-then-is_overloaded-clause-err
returns-then-is_overloaded-clause-err g c = λ parked r. c.drop_part.ensures c.args.present.now parked (c.in-Ok.ensures.ok parked r)

pub returns-clause-within : goal.returns-clause-within
returns-clause-within g c = let before = c.requires.stands in c.if-is_overloaded.ensures c.args.present.now before.parked (c.in-Ok.ensures.ok before.parked before.stands)
