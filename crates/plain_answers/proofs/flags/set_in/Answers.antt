use Rattle.std.proofs.Common.{◌≡◌, [], true, false, length, slice_index_or, arith}
use Rattle.plain_answers.specs.declared.sizes.TheConstants.{CYCLES}
use Rattle.plain_answers.proofs.Grids.{value_same, value_other}
use Rattle.plain_answers.proofs.flags.set_in.Goals as goal

pub returns-clause-here : goal.returns-clause-here
returns-clause-here c =
    let row : length (slice_index_or c.args.rows.now c.args.cell.net []) ≡ CYCLES = c.told-rows c.args.cell.net c.requires.net in
    let cycle = c.requires.cycle in
    value_same false c.args.rows.now c.args.cell true c.requires.net (omega arith)

pub returns-clause-elsewhere : goal.returns-clause-elsewhere
returns-clause-elsewhere c = λ d differ. value_other false c.args.rows.now c.args.cell true c.requires.net d differ
