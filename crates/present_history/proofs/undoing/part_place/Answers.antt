use Rattle.std.proofs.Common.{◌≡◌, ℕ, Option, Some, None, sym}
use Rattle.circuit_model.specs.declared.present.Named.TheVariants as named
use Rattle.circuit_model.specs.Present.{net_or_part}
use Rattle.netlist_text.proofs.Names.{net_is_no_part}
use Rattle.present_history.proofs.undoing.part_place.Goals as goal

-- a net that is found first is a net
is_net : (net part : Option ℕ) (place : ℕ) → Some (named.Net place) ≡ net_or_part net part → net ≡ Some place
is_net None None place e = cc
is_net None (Some j) place e = cc
is_net (Some i) part place e = cc

pub returns-in-Some-Net-clause-place : goal.returns-in-Some-Net-clause-place
returns-in-Some-Net-clause-place c =
    let found = rw c.in-Some-Net.field-0-is at c.in-Some-Net.ensures in
    sym (net_is_no_part c.args.present.now c.nets-nets.ensures.lawful.distinct c.args.name.now c.in-Some-Net._net (is_net _ _ c.in-Some-Net._net found))
