use Rattle.std.proofs.Common.{sym, ◌∙◌, below_more, arith}
use Rattle.std.proofs.lemmas.List.{length-map}
use Rattle.circuit_model.specs.declared.present.Net.{Net}
use Rattle.circuit_model.specs.Present.{block_at, width_of}
use Rattle.netlist_text.proofs.Nets.{all_alike, one_differs, read_after}
use Rattle.netlist_text.proofs.use_checks.have_widths.Goals as goal

pub loop-place-preserved : goal.loop-place-preserved
loop-place-preserved c =
    let of_net = read_after (width_of c.args.present.now) c.args.row.now c.loop-place.place c.at.result c.at.ensures in
    below_more _ _ c.loop-place.invariant (of_net ∙ (sym c.width_at.ensures ∙ (sym c.bits-width.ensures.value ∙ (c.if-width-bits.false ∙ (c.bits.ensures.value ∙ c.pin_width_at.ensures)))))

pub returns-then-width-bits : goal.returns-then-width-bits
returns-then-width-bits c =
    let of_net = read_after (width_of c.args.present.now) c.args.row.now c.loop-place.place c.at.result c.at.ensures in
    one_differs _ _ c.loop-place.place (λ same. c.if-width-bits.true (c.bits-width.ensures.value ∙ (c.width_at.ensures ∙ (sym of_net ∙ (same ∙ (sym c.pin_width_at.ensures ∙ sym c.bits.ensures.value))))))

pub returns : goal.returns
returns c = all_alike _ _ c.loop-place.place (length-map c.args.row.now (width_of c.args.present.now) ∙ (c.requires.count ∙ sym (length-map (block_at c.args.present.now c.args.block).pins (λ (p : Net). p.width)))) (omega (arith, length-map c.args.row.now (width_of c.args.present.now))) c.loop-place.invariant
