-- The slot of a measured cell by its place.
use Rattle.std.proofs.Common.{◌≡◌, ℕ, zero, suc, true, false, cond, List, [], ◌∷◌, Some, refl, ap, ◌∙◌}
use Rattle.std.specs.List.{slice_get}
use Rattle.circuit_model.specs.declared.model.Cell.{Cell}
use Rattle.circuit_model.specs.Present.{is_cell}
use Rattle.environment_sets.specs.Lists.{AreDistinct}
use Rattle.environment_sets.proofs.Membership.{IsIn-slice_get}
use Rattle.standing_view.specs.View.{beside}
use Rattle.circuit_model.proofs.SameCells.{same_cell, cell_itself}

pub beside_at : (cells : List Cell) (slots : List ℕ) (i : ℕ) (c : Cell) (k : ℕ) → AreDistinct cells → slice_get cells i ≡ Some c → slice_get slots i ≡ Some k → beside (λ d. is_cell d c) cells slots ≡ Some k
beside_at [] slots i c k apart a b = absurd (cc)
beside_at (d ∷ cells) [] i c k apart a b = absurd (cc)
beside_at (d ∷ cells) (s ∷ slots) zero c k apart a b =
    let same : d ≡ c = cc in
    let is : is_cell d c ≡ true = ap (λ (x : Cell). is_cell x c) same ∙ cell_itself c in
    rw is b
beside_at (d ∷ cells) (s ∷ slots) (suc i) c k apart a b =
    elim (is_cell d c) as (λ t. is_cell d c ≡ t → cond t (Some s) (beside (λ x. is_cell x c) cells slots) ≡ Some k) [
      | true ↦ λ is. absurd (apart.0 c (IsIn-slice_get cells i c a) (same_cell d c is))
      | false ↦ λ _. beside_at cells slots i c k apart.1 a b
    ] refl
