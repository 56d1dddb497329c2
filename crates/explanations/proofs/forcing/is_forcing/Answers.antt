use Rattle.std.proofs.Common.{List, Option, ℕ, sym, subst, ◌∙◌}
use Rattle.circuit_model.specs.Inference.{WordsFit}
use Rattle.explanations.proofs.Choices.{chosen_words-fit}
use Rattle.explanations.proofs.Forced.{said_exactly}
use Rattle.explanations.proofs.forcing.is_forcing.Goals as goal

pub conclusions-said-requires-clause-fit : goal.conclusions-said-requires-clause-fit
conclusions-said-requires-clause-fit c =
    let Q : List (Option ℕ) → Type 0 = λ ws. WordsFit c.args.instance.now.widths ws in
    subst Q (sym c.chosen_words-known.ensures) (chosen_words-fit c.args.instance.now.widths c.args.ports c.args.words.now c.requires.fit)

pub returns : goal.returns
returns c =
    let e = said_exactly c.args.instance.now c.args.words.now c.args.fact c.args.ports c.chosen_words-known.result c.conclusions-said.result.refuted c.conclusions-said.result.forced c.chosen_words-known.ensures (sym c.number_of.ensures ∙ c.if-number_of-ports.false) c.conclusions-said.ensures in
    (λ t. e.0 (c.are_giving.ensures.0 t), λ h. c.are_giving.ensures.1 (e.1 h))
