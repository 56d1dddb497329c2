-- From a roster of the minimal hitting sets to their listing.
use Rattle.std.proofs.Common.{ℕ, List}
use Rattle.environment_sets.specs.declared.environment.Env.{Env}
use Rattle.environment_sets.specs.Members.{HasMember}
use Rattle.environment_sets.specs.Lists.{IsIn, IsListing, IsRoster}
use Rattle.hitting_sets.specs.Own.{HasOwn}
use Rattle.hitting_sets.specs.Hitting.{IsMinimalFor, AreMinimalFor}
use Rattle.hitting_sets.proofs.Minimality.{minimal_by_own}
use Rattle.environment_sets.specs.Costs.{ListsEach}

-- a minimal hitting set has slots of the conflicts alone
pub lists_minimal : (order : List ℕ) (conflicts es : List Env) → ListsEach order (HasMember conflicts) → AreMinimalFor conflicts es → ListsEach order (HasMember es)
lists_minimal order conflicts es all minimal E h k is =
    let least : IsMinimalFor conflicts E = (minimal.exact E).0 h in
    let mine : HasOwn (HasMember conflicts) E k = (minimal_by_own conflicts E least.holds).0 least k is in
    all mine.0 mine.1 k mine.2.hit

-- what a list of a roster's elements lists
pub listing_of_roster : {X : Type 0} (before : X → X → Type 0) (P : X → Type 0) (xs ys : List X) → IsRoster P xs → IsListing before (IsIn xs) ys → IsListing before P ys
listing_of_roster before P xs ys roster listing =
    record {
      rising = listing.rising;
      exact = λ x. (λ h. (roster.exact x).0 ((listing.exact x).0 h), λ p. (listing.exact x).1 ((roster.exact x).1 p));
    }
