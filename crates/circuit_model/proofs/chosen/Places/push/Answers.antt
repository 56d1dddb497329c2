use Rattle.std.proofs.Common.{ℕ, ◌<◌, List, sym, subst}
use Rattle.environment_sets.specs.Lists.{IsIn}
use Rattle.environment_sets.proofs.Listings.{IsRising-push}
use Rattle.circuit_model.specs.Places.{ArePositions}
use Rattle.circuit_model.proofs.chosen.Places.push.Goals as goal

pub invariant_of-self-2 : goal.invariant_of-self-2
invariant_of-self-2 c =
    let part = c.args.part in
    let Below : List ℕ → Type 0 = λ list. (i : ℕ) → IsIn list i → i < part in
    subst ArePositions (sym c.in_ok-push.ensures.items) (IsRising-push (λ i j. i < j) c.self.inside.list.items part c.self.invariant (subst Below (sym c.self.view_is) c.requires))
