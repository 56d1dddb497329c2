use Rattle.std.proofs.Common.{◌<◌, length, arith}
use Rattle.label_engine.proofs.Asked.{is_exact}
use Rattle.label_engine.proofs.Remembering.{kept_exact, there_now, remembers_now, begun, kept_again, as_before}
use Rattle.label_engine.proofs.engine.Engine.assume.Goals as goal

pub returns-in_default-clause-exact : goal.returns-in_default-clause-exact
returns-in_default-clause-exact g c =
    is_exact c.self.inside.slots c.self.inside.update.nodes c.self.inside.update.recorded c.self.invariant.up_to_date c.args.self.now c.self.view_is

pub assume-requires-clause-there : goal.assume-requires-clause-there
assume-requires-clause-there g c =
    let low : c.in-Some.slot < length c.self.inside.slots = omega (arith, c.first_free.ensures.wide, c.in-Some.ensures.below) in
    there_now c.self.inside.slots c.in-Some.slot c.args.what c.in-Some.ensures.first low c.set.new.self c.set.ensures

pub assume-requires-clause-before : goal.assume-requires-clause-before
assume-requires-clause-before g c = begun c.self.inside.slots c.in-Some.slot c.args.what c.in-Some.ensures.first c.self.inside.update c.self.invariant c.set.new.self c.set.ensures

pub invariant_of-self-in-Err : goal.invariant_of-self-in-Err
invariant_of-self-in-Err g c = kept_again c.self.inside.slots c.in-Some.slot c.args.what c.in-Some.ensures.first c.self.inside.update c.self.invariant c.assume.new.self c.set.new.self c.set.ensures c.in-Err.ensures.err c.clear.new.self c.clear.ensures

pub returns-in-Err-clause-err : goal.returns-in-Err-clause-err
returns-in-Err-clause-err g c = as_before c.self.inside.slots c.in-Some.slot c.args.what c.in-Some.ensures.first c.self.inside.update c.self.invariant c.assume.new.self c.set.new.self c.set.ensures c.in-Err.ensures.err c.clear.new.self c.clear.ensures c.args.self.now c.self.view_is

pub returns-in-Err-clause-exact : goal.returns-in-Err-clause-exact
returns-in-Err-clause-exact g c = kept_exact c.clear.new.self c.assume.new.self (invariant_of-self-in-Err g c)

pub returns-in-Ok-clause-ok : goal.returns-in-Ok-clause-ok
returns-in-Ok-clause-ok g c =
    let low : c.in-Some.slot < length c.self.inside.slots = omega (arith, c.first_free.ensures.wide, c.in-Some.ensures.below) in
    rw (← c.self.view_is) (remembers_now c.self.inside.slots c.in-Some.slot c.args.what c.in-Some.ensures.first c.in-Some.ensures.below low c.set.new.self c.set.ensures)

pub returns-in-Ok-clause-exact : goal.returns-in-Ok-clause-exact
returns-in-Ok-clause-exact g c = kept_exact c.set.new.self c.assume.new.self c.in-Ok.ensures.ok
