use Rattle.std.proofs.Common.{◌≤◌, sym, ◌∙◌, arith}
use Rattle.index_lists.specs.Lists.{without}
use Rattle.index_lists.specs.Chains.{keys_in}
use Rattle.index_lists.proofs.Links.{none_is_no_some, without_absent}
use Rattle.justifications.proofs.Lanes.{none_past, changed_all}
use Rattle.justifications.proofs.links.unlink_all.Goals as goal

pub returns-clause-keys : goal.returns-clause-keys
returns-clause-keys c =
    let past : 4 ≤ c.loop-lane.lane = omega (arith, c.loop-lane-test.false) in
    changed_all c.args.chains.now c.loop-lane.chains (λ lane head keys. without c.args.key.place keys) c.loop-lane.lane past c.loop-lane.invariant
    (λ l h high. without_absent c.args.key.place (keys_in c.args.chains.now l h) (λ i. none_is_no_some h (sym (none_past l c.args.inferred high) ∙ (c.requires.listed l h).0 i)))
