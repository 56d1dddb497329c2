use Rattle.netlist_text.proofs.Names.{three, first_missing, second_missing, third_missing, found}
use Rattle.netlist_text.proofs.finding.nets_of.Goals as goal

pub returns-in_default : goal.returns-in_default
returns-in_default c = rw (three c.args.names.now c.index-names-0.result c.index-names-1.result c.index-names-2.result c.type_inv.names c.index-names-0.is c.index-names-1.is c.index-names-2.is) (first_missing c.args.present.now c.index-names-0.result c.index-names-1.result c.index-names-2.result (cc))

pub returns-in_default-net_of : goal.returns-in_default-net_of
returns-in_default-net_of c = rw (three c.args.names.now c.index-names-0.result c.index-names-1.result c.index-names-2.result c.type_inv.names c.index-names-0.is c.index-names-1.is c.index-names-2.is) (second_missing c.args.present.now c.index-names-0.result c.index-names-1.result c.index-names-2.result c.in-Some.first (cc) (cc))

pub returns-in_default-net_of-2 : goal.returns-in_default-net_of-2
returns-in_default-net_of-2 c = rw (three c.args.names.now c.index-names-0.result c.index-names-1.result c.index-names-2.result c.type_inv.names c.index-names-0.is c.index-names-1.is c.index-names-2.is) (third_missing c.args.present.now c.index-names-0.result c.index-names-1.result c.index-names-2.result c.in-Some.first c.in-Some-net_of.second (cc) (cc) (cc))

pub returns : goal.returns
returns c = rw (three c.args.names.now c.index-names-0.result c.index-names-1.result c.index-names-2.result c.type_inv.names c.index-names-0.is c.index-names-1.is c.index-names-2.is) (found c.args.present.now c.index-names-0.result c.index-names-1.result c.index-names-2.result c.in-Some.first c.in-Some-net_of.second c.in-Some-net_of-2.third (cc) (cc) (cc) c.in-Some.ensures.within c.in-Some-net_of.ensures.within c.in-Some-net_of-2.ensures.within)
