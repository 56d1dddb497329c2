use Rattle.std.proofs.Common.{◌≡◌, ◌∙◌, ap, length, List, ℕ}
use Rattle.std.proofs.lemmas.List.{length-map}
use Rattle.circuit_model.specs.Present.{block_at}
use Rattle.netlist_text.specs.Lookups.{pin_of}
use Rattle.netlist_text.proofs.Inners.{inner_lawful}
use Rattle.netlist_text.proofs.block_checks.check_inside.Goals as goal

pub returns-in-Ok-clause-lawful : goal.returns-in-Ok-clause-lawful
returns-in-Ok-clause-lawful c =
    let b = block_at c.args.present.now c.in-Some.place in
    let pins = c.in-Some-pins_of.ensures in
    let checked = c.in-Ok.ensures in
    let three : length c.in-Some-pins_of.places ≡ 3 = ap (λ (xs : List ℕ). length xs) pins.found ∙ (length-map c.args.pins.now (pin_of b) ∙ c.told-pins) in
    inner_lawful b c.args.name.now c.args.kind c.args.pins.now c.in-Some-pins_of.places c.pin_widths_of-widths.result c.requires.plain c.requires.unused pins three c.pin_widths_of-widths.ensures checked.0 checked.1
