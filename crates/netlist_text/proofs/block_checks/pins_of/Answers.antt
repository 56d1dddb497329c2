use Rattle.circuit_model.specs.Present.{block_at}
use Rattle.netlist_text.proofs.Names.{three, first_unpinned, second_unpinned, third_unpinned, found_pins}
use Rattle.netlist_text.proofs.block_checks.pins_of.Goals as goal

pub returns-in_default : goal.returns-in_default
returns-in_default c = rw (three c.args.names.now c.index-names-0.result c.index-names-1.result c.index-names-2.result c.type_inv.names c.index-names-0.is c.index-names-1.is c.index-names-2.is) (first_unpinned (block_at c.args.present.now c.args.block) c.index-names-0.result c.index-names-1.result c.index-names-2.result (cc))

pub returns-in_default-pin_of : goal.returns-in_default-pin_of
returns-in_default-pin_of c = rw (three c.args.names.now c.index-names-0.result c.index-names-1.result c.index-names-2.result c.type_inv.names c.index-names-0.is c.index-names-1.is c.index-names-2.is) (second_unpinned (block_at c.args.present.now c.args.block) c.index-names-0.result c.index-names-1.result c.index-names-2.result c.in-Some.first (cc) (cc))

pub returns-in_default-pin_of-2 : goal.returns-in_default-pin_of-2
returns-in_default-pin_of-2 c = rw (three c.args.names.now c.index-names-0.result c.index-names-1.result c.index-names-2.result c.type_inv.names c.index-names-0.is c.index-names-1.is c.index-names-2.is) (third_unpinned (block_at c.args.present.now c.args.block) c.index-names-0.result c.index-names-1.result c.index-names-2.result c.in-Some.first c.in-Some-pin_of.second (cc) (cc) (cc))

pub returns : goal.returns
returns c = rw (three c.args.names.now c.index-names-0.result c.index-names-1.result c.index-names-2.result c.type_inv.names c.index-names-0.is c.index-names-1.is c.index-names-2.is) (found_pins (block_at c.args.present.now c.args.block) c.index-names-0.result c.index-names-1.result c.index-names-2.result c.in-Some.first c.in-Some-pin_of.second c.in-Some-pin_of-2.third (cc) (cc) (cc) c.in-Some.ensures.within c.in-Some-pin_of.ensures.within c.in-Some-pin_of-2.ensures.within)
