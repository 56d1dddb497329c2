use Rattle.std.proofs.Common.{List, subst}
use Rattle.std.proofs.lemmas.List.{take_all}
use Rattle.environment_sets.specs.declared.environment.Env.{Env}
use Rattle.environment_sets.specs.Members.{members, sets}
use Rattle.environment_sets.specs.Lists.{IsRoster}
use Rattle.environment_sets.proofs.Membership.{map-IsIn}
use Rattle.hitting_sets.proofs.Rosters.{IsIn-at}
use Rattle.hitting_sets.proofs.Steps.{BecomeOf, become_more, become_all}
use Rattle.hitting_sets.proofs.extension.extend.Goals as goal

pub add_from-requires-clause-minimal : goal.add_from-requires-clause-minimal
add_from-requires-clause-minimal c =
    (c.requires.exact _).0 (map-IsIn members c.args.sets.now c.set-item.result (IsIn-at c.args.sets.now c.loop-set.set-index c.set-item.result c.loop-set-test.true c.set-item.is))

pub loop-set-preserved : goal.loop-set-preserved
loop-set-preserved c =
    become_more c.args.before.now c.args.conflict.now c.args.sets.now c.requires c.loop-set.set-index c.set-item.result c.loop-set.found.items c.add_from.new.found.items c.loop-set-test.true c.set-item.is c.loop-set.invariant c.in_ok-add_from.ensures

pub returns : goal.returns
returns c =
    let es = c.args.sets.now in
    let P : List Env → Type 0 = λ xs. IsRoster (BecomeOf c.args.before.now c.args.conflict.now xs) (sets c.loop-set.found.items) in
    become_all c.args.before.now c.args.conflict.now es c.requires c.loop-set.found.items (subst P (take_all c.loop-set.set-index es c.loop-set-test.false) c.loop-set.invariant)
