use Rattle.std.proofs.Common.{map, codes, [], ◌∷◌, ap, ◌∙◌}
use Rattle.bench_io.proofs.PutParts.{Puts-then, Puts-as}
use Rattle.circuit_model.specs.Present.{block_at}
use Rattle.netlist_text.specs.Show.{text_of_lines, pin_words, inner_words}
use Rattle.netlist_text.proofs.ShownParts.{block-text}
use Rattle.netlist_text.proofs.show.put_block.Goals as goal

pub returns : goal.returns
returns g c =
    let b = block_at c.args.present.now c.args.block in
    Puts-as (block-text (codes "define" ∷ b.name ∷ []) (map (pin_words b.name) b.pins) (map (inner_words b.name b.pins) b.inners))
    (Puts-then (Puts-then (Puts-as (ap (λ name. text_of_lines ((codes "define" ∷ name ∷ []) ∷ [])) (c.bytes.ensures.bytes ∙ c.block_name-name.ensures)) c.put_line-failed.ensures) c.put_pins-failed.ensures) c.put_inners.ensures)
