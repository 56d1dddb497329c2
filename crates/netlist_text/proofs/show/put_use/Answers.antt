use Rattle.std.proofs.Common.{map, [], ◌∷◌, ◌∙◌, ap₂, codes}
use Rattle.bench_io.proofs.PutParts.{Puts-then, Puts-as}
use Rattle.netlist_text.specs.Show.{name_at, text_of_lines}
use Rattle.netlist_text.proofs.ShownParts.{words-line}
use Rattle.netlist_text.proofs.show.put_use.Goals as goal

pub returns : goal.returns
returns g c =
    let nets = map (name_at c.args.present.now.nets) c.args.component.now.pins in
    Puts-as (words-line (codes "use") (c.bytes.result.now ∷ c.bytes-2.result.now ∷ []) nets
    ∙ ap₂ (λ block name. text_of_lines ((codes "use" ∷ block ∷ name ∷ nets) ∷ [])) (c.bytes.ensures.bytes ∙ c.block_name-definition.ensures) c.bytes-2.ensures.bytes)
    (Puts-then (Puts-then (Puts-then c.put-failed.ensures c.put_words-failed.ensures) c.put_net_names-failed.ensures) c.put.ensures)
