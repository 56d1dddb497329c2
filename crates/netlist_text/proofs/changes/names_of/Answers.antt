use Rattle.std.proofs.Common.{◌≡◌, ◌++◌, ◌∷◌, [], ap, sym, ◌∙◌, append_assoc, true}
use Rattle.std.proofs.lemmas.Bool.{and_parts}
use Rattle.std.specs.List.{list_all}
use Rattle.circuit_model.specs.Names.{is_name}
use Rattle.netlist_text.specs.Words.{words_of}
use Rattle.netlist_text.proofs.changes.names_of.Goals as goal

pub loop-word-preserved : goal.loop-word-preserved
loop-word-preserved c =
    let words = c.in-Some.ensures.words in
    let all : list_all is_name (words_of c.loop-word.left.now) ≡ true = c.loop-word.invariant.1 in
    let parts = and_parts (is_name c.in-Some.word.now) (list_all is_name (words_of c.in-Some.rest.now)) (rw words at all) in (
      ap (λ names. names ++ words_of c.in-Some.rest.now) (c.push.ensures ∙ ap (λ name. c.loop-word.names ++ name ∷ []) c.known_name.ensures)
          ∙ (append_assoc c.loop-word.names (c.in-Some.word.now ∷ []) (words_of c.in-Some.rest.now) ∙ (ap (λ left. c.loop-word.names ++ left) (sym words) ∙ c.loop-word.invariant.0)),
      parts.1,
    )
