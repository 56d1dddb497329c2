use Rattle.std.proofs.Common.{codes, [], ◌∷◌, ◌∙◌, ap, ap₂}
use Rattle.bench_io.proofs.PutParts.{Puts-then, Puts-as}
use Rattle.circuit_model.specs.Present.{block_at}
use Rattle.netlist_text.specs.Lookups.{word_of_kind}
use Rattle.netlist_text.specs.Show.{text_of_lines, port_words, names_of_ports}
use Rattle.netlist_text.proofs.ShownParts.{inner-line}
use Rattle.netlist_text.proofs.show.put_inner.Goals as goal

pub returns : goal.returns
returns g c =
    Puts-as (inner-line (codes "inside") c.bytes.result.now c.word_of_kind.result.now (c.args.name.now ∷ port_words c.args.kind (names_of_ports c.pin_names-ports.result))
    ∙ (ap₂ (λ block kind. text_of_lines ((codes "inside" ∷ block ∷ kind ∷ c.args.name.now ∷ port_words c.args.kind (names_of_ports c.pin_names-ports.result)) ∷ [])) (c.bytes.ensures.bytes ∙ c.block_name-definition.ensures) c.word_of_kind.ensures
    ∙ ap (λ names. text_of_lines ((codes "inside" ∷ (block_at c.args.present.now c.args.block).name ∷ word_of_kind c.args.kind ∷ c.args.name.now ∷ port_words c.args.kind names) ∷ [])) c.pin_names-ports.ensures))
    (Puts-then (Puts-then (Puts-then (Puts-then c.put-failed.ensures c.put_words-failed.ensures) c.put_words-failed-2.ensures) c.put_ports-failed.ensures) c.put.ensures)
