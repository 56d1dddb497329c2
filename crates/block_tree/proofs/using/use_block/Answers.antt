use Rattle.block_tree.proofs.Uses.{some_net, few_nets, made_lawful}
use Rattle.block_tree.proofs.using.use_block.Goals as goal

pub row_of-pins-requires : goal.row_of-pins-requires
row_of-pins-requires c = few_nets c.args.present.now c.blocks-lawful.ensures.lawful c.args.block c.args.nets.now c.requires

pub first_of-first-requires : goal.first_of-first-requires
first_of-first-requires c = some_net c.args.present.now c.blocks-lawful.ensures.lawful c.args.block c.args.nets.now c.requires

pub returns-clause-lawful : goal.returns-clause-lawful
returns-clause-lawful c = made_lawful c.args.present.now c.blocks-lawful.ensures.lawful c.args.block c.args.nets.now c.requires c.args.name c.first_of-first.result c.row_of-pins.result c.in_ok-part.part c.first_of-first.ensures c.row_of-pins.ensures c.in_ok-part.ensures
