use Rattle.std.proofs.Common.{sym, subst, ◌∙◌, arith, List, ℕ, ◌+◌, take}
use Rattle.netlist_text.specs.Found.{AreNets}
use Rattle.netlist_text.proofs.Nets.{a_net_missing, one_more_net, all_nets}
use Rattle.netlist_text.proofs.use_checks.row_of_nets.Goals as goal

pub loop-place-preserved : goal.loop-place-preserved
loop-place-preserved c =
    let named = sym c.net_of.ensures.place ∙ c.in-Some.is in
    subst (λ (row : List ℕ). AreNets c.args.present.now (take (c.loop-place.place + 1) c.args.names.now) row) (sym c.push.ensures)
    (one_more_net c.args.present.now c.args.names.now c.loop-place.place c.at.result c.at.ensures c.loop-place.row c.in-Some.net c.loop-place.invariant named c.in-Some.ensures.within)

pub returns-in_default : goal.returns-in_default
returns-in_default c = a_net_missing c.args.present.now c.args.names.now c.loop-place.place c.at.result c.at.ensures (cc)

pub returns : goal.returns
returns c = all_nets c.args.present.now c.args.names.now c.loop-place.place c.loop-place.row (omega arith) c.loop-place.invariant
