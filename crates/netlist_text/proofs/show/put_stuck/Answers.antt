use Rattle.std.proofs.Common.{decimal, codes, [], ◌∷◌, ◌∙◌, ap}
use Rattle.bench_io.proofs.PutParts.{Puts-then, Puts-as}
use Rattle.netlist_text.specs.Show.{text_of_lines}
use Rattle.netlist_text.proofs.ShownParts.{line-with_two}
use Rattle.netlist_text.proofs.show.put_stuck.Goals as goal

pub returns : goal.returns
returns g c =
    Puts-as (line-with_two (codes "stuck") c.bytes.result.now (decimal c.args.value) (decimal c.args.cost) ∙ ap (λ name. text_of_lines ((codes "stuck" ∷ name ∷ decimal c.args.value ∷ decimal c.args.cost ∷ []) ∷ [])) c.bytes.ensures.bytes)
    (Puts-then (Puts-then (Puts-then (Puts-then (Puts-then (Puts-then c.put-failed.ensures c.put_words-failed.ensures) c.put-failed-2.ensures) c.put_number-failed.ensures) c.put-failed-3.ensures) c.put_number-failed-2.ensures) c.put.ensures)
