use Rattle.std.proofs.Common.{◌≡◌, List, MatchOption, subst}
use Rattle.environment_sets.specs.Lists.{IsIn}
use Rattle.circuit_model.specs.declared.model.Fact.{Fact}
use Rattle.circuit_model.specs.Closure.{AreTwoWords}
use Rattle.proof_check.specs.Ordered.{IsFirstPair}
use Rattle.proof_check.proofs.facts.Facts.first_pair.Goals as goal

pub returns : goal.returns
returns c =
    let Q : List Fact → Type 0 = λ facts. MatchOption c.first_pair.result (AreTwoWords (λ f. IsIn facts f) → ⊥) (IsFirstPair (λ f. IsIn facts f)) in
    let same : c.deref.result.now ≡ c.args.self.now = cc in
    subst Q same c.first_pair.ensures
