-- When two cells are the same, and which of two comes first.
use Rattle.std.proofs.Common.{◌≡◌, ◌≢◌, ℕ, ◌==◌, ◌⊎◌, inl, inr, true, false, not, IsTrue, refl, ap, ap₂, arith}
use Rattle.std.proofs.lemmas.Bool.{cases_eq, and_parts, and_from, eqb-true, eq-eqb}
use Rattle.std.proofs.lemmas.Bool.Decides.{nat_tests}
use Rattle.circuit_model.specs.declared.model.Cell.{Cell}
use Rattle.circuit_model.specs.declared.model.Fact.{Fact}
use Rattle.circuit_model.specs.Closure.{fact}
use Rattle.circuit_model.specs.Present.{is_cell, is_cell_before, is_fact}

-- a cell is its net and its cycle
pub cell_by : (c d : Cell) → c.net ≡ d.net → c.cycle ≡ d.cycle → c ≡ d
cell_by c d net cycle = ap₂ (λ (n t : ℕ). let d : Cell = record { net = n; cycle = t } in d) net cycle

pub same_cell : (c d : Cell) → is_cell c d ≡ true → c ≡ d
same_cell c d e =
    let net : c.net ≡ d.net = grind (arith, nat_tests) in
    let cycle : c.cycle ≡ d.cycle = grind (arith, nat_tests) in
    cell_by c d net cycle

pub cell_itself : (c : Cell) → is_cell c c ≡ true
cell_itself c =
    let net : (c.net == c.net) ≡ true = grind (arith, nat_tests) in
    let cycle : (c.cycle == c.cycle) ≡ true = grind (arith, nat_tests) in
    rw (net, cycle) refl

pub same_or_other : (c d : Cell) → (c ≡ d) ⊎ (c ≢ d)
same_or_other c d = elim (cases_eq c.net d.net) [
  | inl net ↦ elim (cases_eq c.cycle d.cycle) [
    | inl cycle ↦ inl (cell_by c d net cycle)
    | inr differ ↦ inr (λ e. differ (ap (λ (c : Cell). c.cycle) e))
  ]
  | inr differ ↦ inr (λ e. differ (ap (λ (c : Cell). c.net) e))
]

-- two cells that are the same as a third one
pub same_cells : (c d e : Cell) → is_cell c e ≡ true → is_cell d e ≡ true → is_cell c d ≡ true
same_cells c d e a b = grind (arith, nat_tests)

-- of two cells one comes first
pub comes_after : (c d : Cell) → is_cell d c ≡ false → is_cell_before c d ≡ false → is_cell_before d c ≡ true
comes_after c d a b = grind (arith, nat_tests)

pub not_before_itself : (c : Cell) → IsTrue (is_cell_before c c) → ⊥
not_before_itself c h = grind (arith, nat_tests)

pub before_apart : (c d : Cell) → IsTrue (is_cell_before c d) → is_cell c d ≡ false
before_apart c d h = grind (arith, nat_tests)

pub before_trans : (c d e : Cell) → IsTrue (is_cell_before c d) → IsTrue (is_cell_before d e) → IsTrue (is_cell_before c e)
before_trans c d e a b = grind (arith, nat_tests)

-- a fact is its cell and its word
pub fact_by : (f g : Fact) → f.cell ≡ g.cell → f.value ≡ g.value → f ≡ g
fact_by f g cell value = ap₂ fact cell value

pub same_fact : (f g : Fact) → is_fact f g ≡ true → f ≡ g
same_fact f g e = let parts = and_parts (is_cell f.cell g.cell) (f.value == g.value) e in fact_by f g (same_cell f.cell g.cell parts.0) (eqb-true f.value g.value parts.1)

pub fact_itself : (f : Fact) → is_fact f f ≡ true
fact_itself f = and_from (is_cell f.cell f.cell) (f.value == f.value) (cell_itself f.cell) (eq-eqb f.value f.value refl)

pub other_fact : (f g : Fact) → (f ≡ g → ⊥) → not (is_fact f g) ≡ true
other_fact f g differ = elim (is_fact f g) as (λ b. is_fact f g ≡ b → not b ≡ true) [ true ↦ λ e. absurd (differ (same_fact f g e)) | false ↦ λ _. refl ] refl

pub same_or_other_fact : (f g : Fact) → (f ≡ g) ⊎ (f ≢ g)
same_or_other_fact f g = elim (same_or_other f.cell g.cell) [
  | inl cell ↦ elim (cases_eq f.value g.value) [ inl value ↦ inl (fact_by f g cell value) | inr differ ↦ inr (λ e. differ (ap (λ (f : Fact). f.value) e)) ]
  | inr differ ↦ inr (λ e. differ (ap (λ (f : Fact). f.cell) e))
]
