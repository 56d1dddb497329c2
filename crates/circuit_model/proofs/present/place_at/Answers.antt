use Rattle.std.proofs.Common.{◌≡◌, ◌+◌, ◌++◌, ℕ, true, List, ◌∷◌, add-one, take, drop, get_or, sym, ap, ◌∙◌}
use Rattle.std.proofs.lemmas.Bool.{cond-true}
use Rattle.std.proofs.lemmas.List.{at_drop_more}
use Rattle.circuit_model.specs.declared.model.Fact.{Fact}
use Rattle.circuit_model.specs.Present.{is_cell, without_reading}
use Rattle.circuit_model.proofs.present.place_at.Goals as goal

pub returns-then-eq-clause-place : goal.returns-then-eq-clause-place
returns-then-eq-clause-place c =
    let rs : List Fact = c.args.readings.now in
    let p : ℕ = c.loop-place.place in
    let f : Fact = get_or rs p (record { cell = record { net = 0; cycle = 0 }; value = 0 }) in
    let rest : List Fact = drop (p + 1) rs in
    let same : is_cell f.cell c.args.cell ≡ true = sym c.eq.ensures ∙ c.if-eq.true in
    let here : without_reading c.args.cell (drop p rs) ≡ rest = at_drop_more (without_reading c.args.cell) rs p (record { cell = record { net = 0; cycle = 0 }; value = 0 }) c.loop-place-test.true ∙ cond-true (is_cell f.cell c.args.cell) rest (f ∷ without_reading c.args.cell rest) same in
    ap (λ n. take p rs ++ drop n rs) (sym (add-one p)) ∙ (ap (λ ys. take p rs ++ ys) (sym here) ∙ c.loop-place.invariant.0)
