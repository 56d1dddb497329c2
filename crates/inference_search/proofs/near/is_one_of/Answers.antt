use Rattle.std.proofs.Common.{◌≡◌, ◌+◌, inl, inr, List, [], ◌∷◌, ◌++◌, get_or, take, refl, true, sym, subst, ◌∙◌}
use Rattle.std.proofs.lemmas.Bool.{both_ways}
use Rattle.std.proofs.lemmas.List.{take_more}
use Rattle.circuit_model.specs.declared.model.Cell.{Cell}
use Rattle.circuit_model.specs.Present.{is_cell}
use Rattle.circuit_model.proofs.SameCells.{same_cell, cell_itself}
use Rattle.environment_sets.specs.Lists.{IsIn}
use Rattle.environment_sets.proofs.Listings.{IsIn-push, IsIn-get_or}
use Rattle.inference_search.proofs.near.is_one_of.Goals as goal

pub returns-then-eq : goal.returns-then-eq
returns-then-eq c =
    let cells = c.args.cells.now in
    let i = c.loop-other.other-index in
    let d : Cell = record { net = 0; cycle = 0 } in
    let same : get_or cells i d ≡ c.args.cell = same_cell (get_or cells i d) c.args.cell (sym c.eq.ensures ∙ c.if-eq.true) in
    (λ _. subst (IsIn cells) same (IsIn-get_or cells i d c.loop-other-test.true), λ _. refl)

pub loop-other-preserved : goal.loop-other-preserved
loop-other-preserved c h =
    let cells = c.args.cells.now in
    let i = c.loop-other.other-index in
    let d : Cell = record { net = 0; cycle = 0 } in
    let more : take (i + 1) cells ≡ take i cells ++ get_or cells i d ∷ [] = take_more cells i d c.loop-other-test.true in
    elim (IsIn-push (take i cells) (get_or cells i d) c.args.cell (subst (λ (l : List Cell). IsIn l c.args.cell) more h)) [
      | inl before ↦ c.loop-other.invariant before
      | inr same ↦ both_ways c.eq.result c.if-eq.false (c.eq.ensures ∙ subst (λ (e : Cell). is_cell (get_or cells i d) e ≡ true) same (cell_itself (get_or cells i d)))
    ]
