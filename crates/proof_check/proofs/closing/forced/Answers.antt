use Rattle.std.proofs.Common.{sym, ◌∙◌}
use Rattle.environment_sets.specs.Lists.{IsIn}
use Rattle.circuit_model.specs.Chosen.{chosen_places}
use Rattle.circuit_model.specs.Closure.{AreTwoWords}
use Rattle.proof_check.specs.Ordered.{IsFirstPair}
use Rattle.proof_check.proofs.Looks.{at_none, forced_from, pair_clash_at}
use Rattle.proof_check.proofs.closing.forced.Goals as goal

pub returns-then-is_some : goal.returns-then-is_some
returns-then-is_some c = pair_clash_at c.args.round.now.present.now (chosen_places c.args.round.now.chosen.now) c.args.round.now.held.now _ _ c.first_pair-pair.result (sym c.is_some.ensures ∙ c.if-is_some.true) c.first_pair-pair.ensures

pub returns : goal.returns
returns c =
    forced_from c.args.round.now.present.now (chosen_places c.args.round.now.chosen.now) c.args.round.now.held.now c.look.new.found
    (at_none (AreTwoWords (λ f. IsIn c.args.round.now.held.now f) → ⊥) (IsFirstPair (λ f. IsIn c.args.round.now.held.now f)) c.first_pair-pair.result (sym c.is_some.ensures ∙ c.if-is_some.false) c.first_pair-pair.ensures)
    c.in_ok-clash.clash c.in_ok-clash.ensures
