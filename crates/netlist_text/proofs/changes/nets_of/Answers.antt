use Rattle.std.proofs.Common.{◌≡◌, ap, ◌∙◌, length, ◌≤◌, ◌+◌, arith}
use Rattle.std.specs.List.{list_all}
use Rattle.circuit_model.specs.Names.{is_name}
use Rattle.circuit_model.specs.declared.limits.TheConstants.{MOST_PINS}
use Rattle.netlist_text.specs.Words.{words_of, rest}
use Rattle.netlist_text.proofs.Fitting.{all_from_first, length_rest}
use Rattle.netlist_text.proofs.changes.nets_of.Goals as goal

pub names_of-requires-clause-names : goal.names_of-requires-clause-names
names_of-requires-clause-names c =
    let left : words_of c.first_word-3.result.1.now ≡ rest (rest (rest (words_of c.args.line.now))) =
    c.first_word-3.ensures.rest ∙ ap rest (c.first_word-2.ensures.rest ∙ ap rest c.first_word.ensures.rest) in
    ap (list_all is_name) left ∙ all_from_first is_name (rest (rest (rest (words_of c.args.line.now)))) c.requires.fit.2.2.2.0 c.requires.fit.2.2.2.2

pub names_of-requires-clause-most : goal.names_of-requires-clause-most
names_of-requires-clause-most c =
    let words = words_of c.args.line.now in
    let left : words_of c.first_word-3.result.1.now ≡ rest (rest (rest words)) =
    c.first_word-3.ensures.rest ∙ ap rest (c.first_word-2.ensures.rest ∙ ap rest c.first_word.ensures.rest) in
    let most : length words ≤ MOST_PINS + 2 + 1 = omega (arith, c.requires.most) in
    let fewer : length (rest (rest (rest words))) ≤ MOST_PINS = length_rest (rest (rest words)) MOST_PINS (length_rest (rest words) (MOST_PINS + 1) (length_rest words (MOST_PINS + 2) most)) in
    omega (arith, ap length left, fewer)
