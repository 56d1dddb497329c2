use Rattle.std.proofs.Common.{ℕ, ap₂, ap, ◌∙◌}
use Rattle.environment_sets.specs.Sets.{Set, ◌∪◌}
use Rattle.standing_view.specs.Kept.{stands_of}
use Rattle.standing_view.specs.Standing.{mask_of}
use Rattle.standing_view.proofs.Masks.{mask_of_both}
use Rattle.standing_view.proofs.standing.Standing.mask.Goals as goal

pub returns : goal.returns
returns c = c.union.ensures ∙ (ap₂ (λ (E F : Set ℕ). E ∪ F) c.self.invariant.components c.self.invariant.measurements ∙ (mask_of_both (stands_of c.self.inside) ∙ ap mask_of c.self.view_is))
