use Rattle.std.proofs.Common.{◌≡◌, ◌+◌, ℕ, ◌≤◌, List, [], ◌∷◌, ◌++◌, length, map, take, take_all, sym, ap, ◌∙◌, arith}
use Rattle.circuit_model.specs.declared.present.Component.{Component}
use Rattle.standing_diagnoses.proofs.Gathered.{map_more}
use Rattle.standing_diagnoses.proofs.rows.costs_in_order.Goals as goal

pub loop-place-preserved : goal.loop-place-preserved
loop-place-preserved c =
    let part = c.part_at.result.now in
    c.in_ok-push.ensures.items ∙ (ap (λ (xs : List ℕ). xs ++ part.cost ∷ []) c.loop-place.invariant ∙ sym (map_more (λ (p : Component). p.cost) c.args.present.now.parts c.loop-place.place part c.part_at.ensures))

pub returns : goal.returns
returns c =
    let all : take c.loop-place.place c.args.present.now.parts ≡ c.args.present.now.parts = take_all c.loop-place.place c.args.present.now.parts (omega (arith, c.loop-place-test.false, c.parts-place-end.ensures.value)) in
    c.loop-place.invariant ∙ ap (map (λ (p : Component). p.cost)) all
