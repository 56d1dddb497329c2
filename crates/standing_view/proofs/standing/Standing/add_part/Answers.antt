use Rattle.std.proofs.Common.{◌≡◌, ℕ, ◌+◌, ◌<◌, List, length, sym, ap, subst, ◌∙◌, arith}
use Rattle.std.proofs.lemmas.List.Edits.{length-insert}
use Rattle.circuit_model.specs.declared.limits.TheConstants.{MOST_PARTS}
use Rattle.environment_sets.specs.Lists.{IsIn}
use Rattle.environment_sets.specs.Sets.{Set, only, ◌∪◌}
use Rattle.standing_view.specs.Kept.{stands_of}
use Rattle.standing_view.specs.Standing.{Stands, IsStanding, order_of, parts_of, readings_of, with_part_at}
use Rattle.standing_view.proofs.Kept.{part_stands, part_put}
use Rattle.standing_view.proofs.Masks.{part_among}
use Rattle.standing_view.proofs.standing.Standing.add_part.Goals as goal

pub invariant_of-self : goal.invariant_of-self
invariant_of-self c =
    let before : Stands = stands_of c.self.inside in
    let slot : ℕ = c.args.slot in
    let free = subst (λ (st : Stands). IsIn (order_of st) slot → ⊥) (sym c.self.view_is) c.requires.free in
    let room = subst (λ (st : Stands). length st.parts < MOST_PARTS) (sym c.self.view_is) c.requires.room in
    let put = part_put c.self.inside.order.items c.insert.new.self.items c.self.inside.cells.items c.self.inside.parts c.self.invariant.count slot c.in-Ok.ensures.items in
    let long : length c.insert.new.self.items ≡ length c.self.inside.order.items + 1 =
    ap (λ (xs : List ℕ). length xs) c.in-Ok.ensures.items ∙ length-insert c.self.inside.order.items c.self.inside.parts slot c.self.invariant.count in
    record {
      standing = subst (λ (st : Stands). IsStanding st) (sym put) (part_stands before c.self.invariant.standing slot c.requires.below free room);
      count = omega arith;
      components = c.with-self-inside.ensures ∙ (ap (λ (M : Set ℕ). M ∪ only slot) c.self.invariant.components ∙ (part_among before slot ∙ ap parts_of (sym put)));
      measurements = c.self.invariant.measurements ∙ ap readings_of (sym put);
      room = omega arith;
      cells_room = c.self.invariant.cells_room;
    }

pub returns : goal.returns
returns c =
    part_put c.self.inside.order.items c.insert.new.self.items c.self.inside.cells.items c.self.inside.parts c.self.invariant.count c.args.slot c.in-Ok.ensures.items
    ∙ ap (λ (st : Stands). with_part_at c.args.slot st) c.self.view_is
