use Rattle.std.proofs.Common.{◌<◌, ℕ, cond, List, [], ◌∷◌, ◌++◌, subst, sym, ap, ◌∙◌}
use Rattle.environment_sets.specs.Lists.{IsIn}
use Rattle.environment_sets.specs.Members.{members}
use Rattle.standing_view.specs.Positions.{positions}
use Rattle.standing_view.proofs.Picked.{positions_more, positions_below}
use Rattle.standing_view.proofs.choosing.chosen_parts.Goals as goal

pub add_part-requires : goal.add_part-requires
add_part-requires c =
    let place = c.loop-place.place in
    let P : List ℕ → Type 0 = λ xs. (i : ℕ) → IsIn xs i → i < place in
    subst P (sym c.loop-place.invariant) (positions_below (positions c.args.standing.now (members c.args.env.now)) place)

pub loop-place-preserved : goal.loop-place-preserved
loop-place-preserved c =
    let place = c.loop-place.place in
    positions_more (positions c.args.standing.now (members c.args.env.now)) place c.add_part.new.list c.has_part.result
    (c.in_ok-add_part.ensures ∙ ap (λ (xs : List ℕ). xs ++ cond c.has_part.result (place ∷ []) []) c.loop-place.invariant) c.has_part.ensures
