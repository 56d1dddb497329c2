use Rattle.std.proofs.Common.{true≢false, sym, ◌∙◌}
use Rattle.circuit_model.specs.Chosen.{chosen_places}
use Rattle.environment_sets.specs.Lists.{IsIn}
use Rattle.proof_check.specs.Written.{facts_of}
use Rattle.proof_check.specs.Checking.{justification_of}
use Rattle.proof_check.proofs.Told.{premise_instance, premise_alike, premise_holds, premise_of}
use Rattle.proof_check.proofs.premises.premises_of.Goals as goal

pub returns-in_default-clause-exact : goal.returns-in_default-clause-exact
returns-in_default-clause-exact c i known p =
    c.in_default.ensures i (premise_instance c.args.present.now (chosen_places c.args.chosen.now) (λ g. IsIn (facts_of c.args.shown.now) g) (justification_of c.args.claim.now) i known p)

pub returns-then-not-are_alike-clause-exact : goal.returns-then-not-are_alike-clause-exact
returns-then-not-are_alike-clause-exact c i known p =
    true≢false (sym (c.are_alike.ensures.1 (premise_alike c.args.present.now (chosen_places c.args.chosen.now) (λ g. IsIn (facts_of c.args.shown.now) g) (justification_of c.args.claim.now) i known p)) ∙ c.if-not-are_alike.true)

pub returns-then-not-are_shown-clause-exact : goal.returns-then-not-are_shown-clause-exact
returns-then-not-are_shown-clause-exact c i known p =
    true≢false (sym (c.are_shown.ensures.1 (premise_holds c.args.present.now (chosen_places c.args.chosen.now) (λ g. IsIn (facts_of c.args.shown.now) g) (justification_of c.args.claim.now) i known p)) ∙ c.if-not-are_shown.true)

pub returns-clause-exact : goal.returns-clause-exact
returns-clause-exact c =
    premise_of c.args.present.now (chosen_places c.args.chosen.now) (λ g. IsIn (facts_of c.args.shown.now) g) (justification_of c.args.claim.now) c.in-Some.instance c.in-Some-known_words.known
    c.in-Some.ensures.0 c.in-Some-known_words.ensures.exact (c.are_alike.ensures.0 c.if-not-are_alike.false) (c.are_shown.ensures.0 c.if-not-are_shown.false)
