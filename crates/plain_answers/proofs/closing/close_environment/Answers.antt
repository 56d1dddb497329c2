use Rattle.std.proofs.Common.{◌≡◌, ap, sym, subst, ◌∙◌, is_some, List, Option}
use Rattle.circuit_model.specs.Chosen.{chosen_places}
use Rattle.proof_check.specs.Closing.{Timed}
use Rattle.proof_check.specs.declared.derivation.Ending.{Ending}
use Rattle.plain_answers.specs.Closing.{AreFacts}
use Rattle.plain_answers.specs.Members.{members}
use Rattle.plain_answers.proofs.Closings.{clash_of, facts_of}
use Rattle.plain_answers.proofs.closing.close_environment.Goals as goal

pub returns-then-is_some : goal.returns-then-is_some
returns-then-is_some c =
    clash_of c.args.present.now (members c.args.environment.now) (chosen_places c.in_ok-chosen.chosen) c.in_ok-chosen.ensures c.in_ok-closed.closed c.in_ok-closed.ensures (ap (λ (o : Option Ending). is_some o) (sym c.clash.ensures) ∙ (sym c.is_some.ensures ∙ c.if-is_some.true))

pub returns : goal.returns
returns c =
    let none : is_some c.in_ok-closed.closed.clash ≡ _ = ap (λ (o : Option Ending). is_some o) (sym c.clash.ensures) ∙ (sym c.is_some.ensures ∙ c.if-is_some.false) in
    subst (λ (facts : List Timed). AreFacts c.args.present.now (members c.args.environment.now) facts) (sym c.of.ensures) (facts_of c.args.present.now (members c.args.environment.now) (chosen_places c.in_ok-chosen.chosen) c.in_ok-chosen.ensures c.in_ok-closed.closed c.in_ok-closed.ensures none)
