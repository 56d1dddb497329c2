-- Rows of values, one value at a cell changed.
use Rattle.std.proofs.Common.{◌≡◌, ◌≢◌, inl, inr, ℕ, ◌<◌, [], List, length, slice_index_or, slice_set, sym, ap, subst, ◌∙◌}
use Rattle.std.proofs.lemmas.List.{length-set, get_or-set_same, get_or-set_other}
use Rattle.std.proofs.lemmas.Bool.{cases_eq}
use Rattle.circuit_model.specs.declared.model.Cell.{Cell}
use Rattle.circuit_model.proofs.SameCells.{cell_by}

module _ {X : Type 0} (default : X) where
  abbrev pub row_of : List (List X) → ℕ → List X
  row_of rows net = slice_index_or rows net []

  abbrev pub value_in : List (List X) → Cell → X
  value_in rows c = slice_index_or (row_of rows c.net) c.cycle default

  abbrev pub with_value : List (List X) → Cell → X → List (List X)
  with_value rows c x = slice_set rows c.net (slice_set (row_of rows c.net) c.cycle x)

  module _ (rows : List (List X)) (c : Cell) (x : X) (net : c.net < length rows) where
    abbrev new_row : List X
    new_row = slice_set (row_of rows c.net) c.cycle x

    row_here : row_of (with_value rows c x) c.net ≡ new_row
    row_here = get_or-set_same rows c.net new_row [] net

    pub value_same : c.cycle < length (row_of rows c.net) → value_in (with_value rows c x) c ≡ x
    value_same cycle = ap (λ (row : List X). slice_index_or row c.cycle default) row_here ∙ get_or-set_same (row_of rows c.net) c.cycle x default cycle

    pub value_other : (d : Cell) → d ≢ c → value_in (with_value rows c x) d ≡ value_in rows d
    value_other d differ = elim (cases_eq d.net c.net) [
      | inl same ↦
          let cycle : d.cycle ≢ c.cycle = λ e. differ (cell_by d c same e) in
          let at_net : row_of (with_value rows c x) d.net ≡ new_row = ap (λ (n : ℕ). row_of (with_value rows c x) n) same ∙ row_here in
          let other : slice_index_or new_row d.cycle default ≡ slice_index_or (row_of rows c.net) d.cycle default = get_or-set_other (row_of rows c.net) c.cycle d.cycle x default cycle in
          ap (λ (row : List X). slice_index_or row d.cycle default) at_net ∙ (other ∙ ap (λ (n : ℕ). slice_index_or (row_of rows n) d.cycle default) (sym same))
      | inr apart ↦ ap (λ (row : List X). slice_index_or row d.cycle default) (get_or-set_other rows c.net d.net new_row [] apart)
    ]

    pub row_length : (n : ℕ) → length (row_of (with_value rows c x) n) ≡ length (row_of rows n)
    row_length n = elim (cases_eq n c.net) [
      | inl e ↦
          let here : length (row_of (with_value rows c x) c.net) ≡ length (row_of rows c.net) =
          ap (λ (row : List X). length row) row_here ∙ length-set (row_of rows c.net) c.cycle x in
          subst (λ (n : ℕ). length (row_of (with_value rows c x) n) ≡ length (row_of rows n)) (sym e) here
      | inr differ ↦ ap (λ (row : List X). length row) (get_or-set_other rows c.net n new_row [] differ)
    ]
