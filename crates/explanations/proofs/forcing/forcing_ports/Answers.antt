use Rattle.std.proofs.Common.{ℕ, List, Option, MatchOption, sym, subst}
use Rattle.circuit_model.specs.Inference.{WordsFit}
use Rattle.explanations.specs.Forcing.{IsLeast, IsForcing}
use Rattle.explanations.proofs.forcing.forcing_ports.Goals as goal

pub least_ports-requires-clause-fit : goal.least_ports-requires-clause-fit
least_ports-requires-clause-fit c =
    let Q : List (Option ℕ) → Type 0 = λ ws. WordsFit c.args.instance.now.widths ws in
    subst Q (sym c.words_by-words.ensures) c.requires.fit.fit

pub returns : goal.returns
returns c =
    let Q : List (Option ℕ) → Type 0 = λ ws. MatchOption c.least_ports.result ((ports : ℕ) → IsForcing c.args.instance.now ws c.args.fact ports → ⊥) (IsLeast (IsForcing c.args.instance.now ws c.args.fact)) in
    subst Q c.words_by-words.ensures c.least_ports.ensures
