use Rattle.std.proofs.Common.{◌≡◌, length, rules}
use Rattle.label_engine.proofs.Lones.{lone_part}
use Rattle.label_engine.proofs.sources.is_lone.Goals as goal

pub returns : goal.returns
returns c own =
    let one : length c.args.part.now ≡ 1 = search rules in
    lone_part c.args.part.now c.at-instance.result.now one c.at-instance.ensures.instance c.at-instance.ensures.lawful c.widths_fit.ensures (c.have_own_cells.ensures own)
