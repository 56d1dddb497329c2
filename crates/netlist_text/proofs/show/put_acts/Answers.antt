use Rattle.std.proofs.Common.{decimal, codes, [], ◌∷◌, ◌∙◌, ap₂}
use Rattle.bench_io.proofs.PutParts.{Puts-then, Puts-as}
use Rattle.netlist_text.specs.Show.{text_of_lines}
use Rattle.netlist_text.proofs.ShownParts.{words-line_with}
use Rattle.netlist_text.proofs.show.put_acts.Goals as goal

pub returns : goal.returns
returns g c =
    Puts-as (words-line_with (codes "acts") (decimal c.args.cost) (c.bytes.result.now ∷ []) (c.word_of_kind.result.now ∷ []) ∙ ap₂ (λ name kind. text_of_lines ((codes "acts" ∷ name ∷ kind ∷ decimal c.args.cost ∷ []) ∷ [])) c.bytes.ensures.bytes c.word_of_kind.ensures)
    (Puts-then (Puts-then (Puts-then (Puts-then (Puts-then c.put-failed.ensures c.put_words-failed.ensures) c.put_words-failed-2.ensures) c.put-failed-2.ensures) c.put_number-failed.ensures) c.put.ensures)
