use Rattle.std.proofs.Common.{refl, sym, ◌∙◌}
use Rattle.std.proofs.lemmas.Bool.{not-false}
use Rattle.circuit_model.proofs.SameCells.{same_cell}
use Rattle.inference_search.specs.Choices.{clash_of}
use Rattle.environment_sets.proofs.Listings.{IsIn-last}
use Rattle.inference_search.proofs.Finding.{Finds-push}
use Rattle.inference_search.proofs.search.add_clash.Goals as goal

pub returns : goal.returns
returns c =
    Finds-push _ _ _ _ (clash_of c.args.fact c.args.other) c.in_ok-push.ensures.items
    (c.args.other, same_cell c.args.other.cell c.args.fact.cell (not-false _ (sym c.ne.ensures ∙ c.if-ne.false)), c.if-other-fact.false, refl)
    (λ one differ. IsIn-last _ _ _ refl)
