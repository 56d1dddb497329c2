use Rattle.std.proofs.Common.{None}
use Rattle.inference_search.specs.declared.inferred.Inferred.{Inferred}
use Rattle.environment_sets.proofs.Listings.{IsIn-get_or}
use Rattle.label_engine.proofs.Noted.{also_none, also_more, also_all, some_so_far, some_after}
use Rattle.label_engine.proofs.recording.record_all.Goals as goal

abbrev nothing : Inferred
nothing = record { first = None; second = None; to = None; maker = None }

pub push-requires-clause-once : goal.push-requires-clause-once
push-requires-clause-once c = (c.requires _ (IsIn-get_or c.args.found.now c.loop-inferred.inferred-index nothing c.loop-inferred-test.true)).once

pub push-requires-clause-maker : goal.push-requires-clause-maker
push-requires-clause-maker c = (c.requires _ (IsIn-get_or c.args.found.now c.loop-inferred.inferred-index nothing c.loop-inferred-test.true)).maker

pub returns-in_err-push-clause-some : goal.returns-in_err-push-clause-some
returns-in_err-push-clause-some c =
    some_after c.args.found.now c.args.recorded.now c.loop-inferred.recorded c.push.new.self (some_so_far c.args.found.now c.args.recorded.now c.loop-inferred.recorded c.loop-inferred.inferred-index c.loop-inferred.invariant) c.in_err-push.ensures.err

pub loop-inferred-preserved : goal.loop-inferred-preserved
loop-inferred-preserved c = also_more c.args.found.now c.args.recorded.now c.loop-inferred.recorded c.loop-inferred.inferred-index c.loop-inferred.invariant c.push.new.self nothing c.loop-inferred-test.true c.in_ok-push.ensures.ok

pub loop-inferred-init : goal.loop-inferred-init
loop-inferred-init c = also_none c.args.recorded.now

pub returns-clause-ok : goal.returns-clause-ok
returns-clause-ok c = also_all c.args.found.now c.args.recorded.now c.loop-inferred.recorded c.loop-inferred.inferred-index c.loop-inferred.invariant c.loop-inferred-test.false

pub returns-clause-some : goal.returns-clause-some
returns-clause-some c = some_so_far c.args.found.now c.args.recorded.now c.loop-inferred.recorded c.loop-inferred.inferred-index c.loop-inferred.invariant
