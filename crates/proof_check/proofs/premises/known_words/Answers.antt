use Rattle.std.proofs.Common.{◌≡◌, ℕ, ◌<◌, [], List, Option, length, get_or, true≢false, sym, ap, ◌∙◌, arith}
use Rattle.circuit_model.specs.declared.model.Fact.{Fact}
use Rattle.circuit_model.specs.Derivation.{number_of, facts_at}
use Rattle.proof_check.specs.declared.written.TheConstants.{CHOICES}
use Rattle.proof_check.specs.Written.{given, at_two_places}
use Rattle.proof_check.proofs.Told.{length-given, words_low, words_same, words_good, length-choice, length-at_two_places, length-words_at_choice}
use Rattle.proof_check.proofs.premises.known_words.Goals as goal

pub returns-then-ports-ge7-clause-exact : goal.returns-then-ports-ge7-clause-exact
returns-then-ports-ge7-clause-exact c known w =
    let low : c.args.ports < 7 = words_low c.args.ports (given c.args.from.now) c.args.cells.now c.told-cells (omega (arith, length-given c.args.from.now, c.told-from)) known w in
    omega (arith, c.if-ports-ge7.true)

pub returns-then-ports-ge7-clause-few : goal.returns-then-ports-ge7-clause-few
returns-then-ports-ge7-clause-few c = omega (arith, length-given c.args.from.now, c.told-from)

pub returns-then-number_of-ports-clause-exact : goal.returns-then-number_of-ports-clause-exact
returns-then-number_of-ports-clause-exact c known w =
    let same : c.words_at-known.result ≡ known = words_same c.args.ports c.args.from.now c.args.cells.now c.in_order-facts.result c.words_at-known.result c.told-from c.told-cells c.in_order-facts.ensures c.words_at-known.ensures known w in
    c.if-number_of-ports.true (c.number_of.ensures ∙ (ap number_of same ∙ sym w.number))

pub returns-then-not-are_same-clause-exact : goal.returns-then-not-are_same-clause-exact
returns-then-not-are_same-clause-exact c known w =
    let same : c.words_at-known.result ≡ known = words_same c.args.ports c.args.from.now c.args.cells.now c.in_order-facts.result c.words_at-known.result c.told-from c.told-cells c.in_order-facts.ensures c.words_at-known.ensures known w in
    let facts : c.facts_known.result ≡ at_two_places (given c.args.from.now) = c.facts_known.ensures ∙ (ap (λ (ws : List (Option ℕ)). at_two_places (facts_at c.args.cells.now ws)) same ∙ ap at_two_places (sym w.told)) in
    true≢false (sym (c.are_same.ensures.1 (facts ∙ sym c.in_order-facts.ensures)) ∙ c.if-not-are_same.true)

pub returns-then-not-are_same-clause-few : goal.returns-then-not-are_same-clause-few
returns-then-not-are_same-clause-few c = omega (arith, length-given c.args.from.now, c.told-from)

pub returns-clause-exact : goal.returns-clause-exact
returns-clause-exact c =
    let low : c.args.ports < 7 = omega (arith, c.if-ports-ge7.false) in
    let two : length c.in_order-facts.result ≡ 2 = ap (λ (fs : List (Option Fact)). length fs) c.in_order-facts.ensures ∙ length-at_two_places (given c.args.from.now) in
    let wide : length c.words_at-known.result ≡ 3 = ap (λ (ws : List (Option ℕ)). length ws) c.words_at-known.ensures ∙ length-words_at_choice (get_or CHOICES c.args.ports []) c.in_order-facts.result (length-choice c.args.ports low) two in
    let number : c.args.ports ≡ number_of c.words_at-known.result = sym c.if-number_of-ports.false ∙ c.number_of.ensures in
    words_good c.args.ports c.args.from.now c.args.cells.now c.in_order-facts.result c.facts_known.result c.words_at-known.result c.told-from c.told-cells wide low number c.in_order-facts.ensures c.facts_known.ensures (c.are_same.ensures.0 c.if-not-are_same.false)

pub returns-clause-few : goal.returns-clause-few
returns-clause-few c = omega (arith, length-given c.args.from.now, c.told-from)
