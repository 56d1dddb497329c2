use Rattle.environment_sets.specs.Lists.{IsIn}
use Rattle.environment_sets.specs.Costs.{ComesBeforeByCost}
use Rattle.environment_sets.proofs.Listings.{same_listing}
use Rattle.environment_sets.proofs.CostOrder.{cost_order_is_strict}
use Rattle.diagnosis_order.proofs.laws.cost_listings_are_unique.Goals as goal

pub returns : goal.returns
returns g c order costs xs ys rising listing =
    same_listing (ComesBeforeByCost order costs) (IsIn xs) xs ys (cost_order_is_strict order costs) (record { rising = rising; exact = λ E. (λ h. h, λ h. h) }) listing
