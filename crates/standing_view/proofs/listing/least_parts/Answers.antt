use Rattle.std.proofs.Common.{◌≡◌, ◌+◌, ℕ, List, [], ◌∷◌, ◌++◌, take, Ok, sym, ap, subst, ◌∙◌}
use Rattle.std.proofs.lemmas.List.{take_more}
use Rattle.antichains.specs.declared.antichain.Inserted.{Inserted}
use Rattle.antichains.specs.declared.antichain.Inserted.TheVariants.{Covered, Added}
use Rattle.environment_sets.specs.declared.environment.Env.{Env}
use Rattle.environment_sets.specs.Members.{members, sets}
use Rattle.environment_sets.specs.Sets.{Set}
use Rattle.standing_view.specs.Conflicts.{AreLeastOf, meets}
use Rattle.standing_view.proofs.Least.{least_covered, least_added, meets_more}
use Rattle.standing_view.proofs.listing.least_parts.Goals as goal

pub loop-environment-preserved : goal.loop-environment-preserved
loop-environment-preserved c =
    let L = members c.args.parts.now in
    let list = c.args.environments.now in
    let i = c.loop-environment.environment-index in
    let e = c.environment-item.result in
    let old = c.loop-environment.least in
    let new = c.insert.new.self in
    let Ks : List (Set ℕ) = meets L (sets (take i list)) in
    let one_more : take (i + 1) list ≡ take i list ++ e ∷ [] = take_more list i e c.loop-environment-test.true ∙ ap (λ (x : Env). take i list ++ x ∷ []) (sym c.environment-item.is) in
    let done : (r : Inserted) → c.insert.result ≡ Ok r → AreLeastOf (Ks ++ members c.meet.result ∷ []) new =
    λ r is. elim r as (λ r. c.insert.result ≡ Ok r → AreLeastOf (Ks ++ members c.meet.result ∷ []) new) [
      | Covered ↦ λ was. least_covered Ks c.meet.result old new c.loop-environment.invariant c.insert.ensures.antichain (c.insert.ensures.covered.0 was) (c.insert.ensures.covered_same was)
      | Added ↦ λ was. least_added Ks c.meet.result old new c.loop-environment.invariant c.insert.ensures.antichain (c.insert.ensures.added was)
    ] is in
    let P : List Env → Type 0 = λ es. AreLeastOf (meets L (sets es)) new in
    let Q : List (Set ℕ) → Type 0 = λ Es. AreLeastOf Es new in
    subst P (sym one_more) (subst Q (sym (meets_more L (take i list) e (members c.meet.result) c.meet.ensures)) (done c.in_ok-insert.field-0 c.in_ok-insert.was))
