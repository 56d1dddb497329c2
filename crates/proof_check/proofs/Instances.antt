-- The instances of a present.
use Rattle.std.proofs.Common.{◌≡◌, ℕ, zero, suc, ◌+◌, ◌-◌, ◌<◌, ◌≤◌, ◌⊎◌, inl, inr, List, [], ◌∷◌, length, map, Some, Option, None, slice_get, refl, sym, subst, arith}
use Rattle.std.specs.List.{All}
use Rattle.std.proofs.lemmas.Option.{slice_get_within, get_or_from_slice_get}
use Rattle.circuit_model.specs.declared.model.Cell.{Cell}
use Rattle.circuit_model.specs.declared.model.Instance.{Instance}
use Rattle.circuit_model.specs.declared.model.Kind.{Kind}
use Rattle.circuit_model.specs.declared.model.Kind.TheVariants.{Reg, Block}
use Rattle.circuit_model.specs.declared.present.Component.{Component}
use Rattle.circuit_model.specs.declared.blocks.Inner.{Inner}
use Rattle.circuit_model.specs.Opening.{opened_component}
use Rattle.circuit_model.proofs.Openings.{instance_of_block}
use Rattle.circuit_model.specs.Kinds.{block_in, cell_at, primitive_of, RepeatsLast, instance_at, each_cycle, reset_instance, carry_instance, register, instances}
use Rattle.circuit_model.specs.Lawful.{IsLawfulInstance}
use Rattle.environment_sets.specs.Lists.{IsIn}
use Rattle.circuit_model.specs.Present.{PresentView, width_of, HasPins, part_by, IsLawful, IsLawfulComponent}
use Rattle.proof_check.specs.Checking.{IsPlaced}

-- one of so many instances is the one of some cycle
each_cycle_at : (at : ℕ → Instance) (first n : ℕ) (i : Instance) → IsIn (each_cycle at first n) i → (k : ℕ) × (first ≤ k) × (k < first + n) × (i ≡ at k)
each_cycle_at at first zero i h = absurd h
each_cycle_at at first (suc n) i (inl e) = (first, omega arith, omega arith, sym e)
each_cycle_at at first (suc n) i (inr h) =
    let r : (k : ℕ) × (suc first ≤ k) × (k < suc first + n) × (i ≡ at k) = each_cycle_at at (suc first) n i h in
    let low = r.1 in
    let high = r.2 in
    (r.0, omega arith, omega arith, r.3)

-- an instance of a register gives its reset value, or carries its word to a later cycle
register_at : (reset : ℕ) (nets widths : List ℕ) (n : ℕ) (i : Instance) → IsIn (register reset nets widths n) i → (i ≡ reset_instance reset nets widths) ⊎ ((k : ℕ) × (1 ≤ k) × (k < n) × (i ≡ carry_instance nets widths k))
register_at reset nets widths zero i h = absurd h
register_at reset nets widths (suc n) i (inl e) = inl (sym e)
register_at reset nets widths (suc n) i (inr h) =
    let r : (k : ℕ) × (1 ≤ k) × (k < 1 + n) × (i ≡ carry_instance nets widths k) = each_cycle_at (carry_instance nets widths) 1 n i h in
    let high = r.2 in
    inr (r.0, r.1, omega arith, r.3)

-- cells of the present, with the widths of their nets
pub record AreCells (s : PresentView) (cells : List Cell) (widths : List ℕ) : Type 0 where
  pub three : length cells ≡ 3
  pub widths_three : length widths ≡ 3
  pub at_nets : (port : ℕ) (c : Cell) → slice_get cells port ≡ Some c → c.net < length s.nets
  pub at_cycles : (port : ℕ) (c : Cell) → slice_get cells port ≡ Some c → c.cycle < s.cycles
  pub of_width : (port w : ℕ) (c : Cell) → slice_get cells port ≡ Some c → slice_get widths port ≡ Some w → w ≡ width_of s c.net

module _ {X Y : Type 0} (a b z : X) (u v w : Y) (Q : X → Y → Type 0) (first : Q a u) (second : Q b v) (third : Q z w) where
  -- what holds at each of three places
  each_of_three : (port : ℕ) (x : X) (y : Y) → slice_get (a ∷ b ∷ z ∷ []) port ≡ Some x → slice_get (u ∷ v ∷ w ∷ []) port ≡ Some y → Q x y
  each_of_three zero x y e k = let at : a ≡ x = cc in let of : u ≡ y = cc in subst (λ (y : Y). Q x y) of (subst (λ (x : X). Q x u) at first)
  each_of_three (suc zero) x y e k = let at : b ≡ x = cc in let of : v ≡ y = cc in subst (λ (y : Y). Q x y) of (subst (λ (x : X). Q x v) at second)
  each_of_three (suc (suc zero)) x y e k = let at : z ≡ x = cc in let of : w ≡ y = cc in subst (λ (y : Y). Q x y) of (subst (λ (x : X). Q x w) at third)
  each_of_three (suc (suc (suc port))) x y e k = cc

module _ (s : PresentView) where
  -- a cell of the present, with the width of its net
  record IsCellOf (c : Cell) (w : ℕ) : Type 0 where
    net : c.net < length s.nets
    cycle : c.cycle < s.cycles
    width : w ≡ width_of s c.net

  three_cells : (a b z : Cell) (u v w : ℕ) → IsCellOf a u → IsCellOf b v → IsCellOf z w → AreCells s (a ∷ b ∷ z ∷ []) (u ∷ v ∷ w ∷ [])
  three_cells a b z u v w first second third = record { three = refl; widths_three = refl; at_nets = at_nets; at_cycles = at_cycles; of_width = of_width } where
    at_nets : (port : ℕ) (c : Cell) → slice_get (a ∷ b ∷ z ∷ []) port ≡ Some c → c.net < length s.nets
    at_nets port c e = each_of_three a b z a b z (λ c d. c.net < length s.nets) first.net second.net third.net port c c e e

    at_cycles : (port : ℕ) (c : Cell) → slice_get (a ∷ b ∷ z ∷ []) port ≡ Some c → c.cycle < s.cycles
    at_cycles port c e = each_of_three a b z a b z (λ c d. c.cycle < s.cycles) first.cycle second.cycle third.cycle port c c e e

    of_width : (port n : ℕ) (c : Cell) → slice_get (a ∷ b ∷ z ∷ []) port ≡ Some c → slice_get (u ∷ v ∷ w ∷ []) port ≡ Some n → n ≡ width_of s c.net
    of_width port n c e k = each_of_three a b z u v w (λ c n. n ≡ width_of s c.net) first.width second.width third.width port c n e k

  of_net : (cycle net : ℕ) → net < length s.nets → cycle < s.cycles → IsCellOf (cell_at cycle net) (width_of s net)
  of_net cycle net inside low = record { net = inside; cycle = low; width = refl }

  module _ (a b z : ℕ) (in_a : a < length s.nets) (in_b : b < length s.nets) (in_z : z < length s.nets) where
    abbrev nets : List ℕ
    nets = a ∷ b ∷ z ∷ []

    abbrev widths : List ℕ
    widths = map (width_of s) nets

    cycle_cells : (kind : Kind) (i : Instance) → IsIn (each_cycle (instance_at (primitive_of kind) nets widths) 0 s.cycles) i → AreCells s i.cells i.widths
    cycle_cells kind i of_part =
        let r : (k : ℕ) × (0 ≤ k) × (k < 0 + s.cycles) × (i ≡ instance_at (primitive_of kind) nets widths k) = each_cycle_at (instance_at (primitive_of kind) nets widths) 0 s.cycles i of_part in
        let high = r.2 in
        let low : r.0 < s.cycles = omega arith in
        let P : Instance → Type 0 = λ i. AreCells s i.cells i.widths in
        subst P (sym r.3) (three_cells (cell_at r.0 a) (cell_at r.0 b) (cell_at r.0 z) (width_of s a) (width_of s b) (width_of s z) (of_net r.0 a in_a low) (of_net r.0 b in_b low) (of_net r.0 z in_z low))

    register_cells : (reset : ℕ) → 1 ≤ s.cycles → b ≡ z → (i : Instance) → IsIn (register reset nets widths s.cycles) i → AreCells s i.cells i.widths
    register_cells reset some same i of_part = elim (register_at reset nets widths s.cycles i of_part) [
      | inl is ↦
          let q : IsCellOf (cell_at 0 b) (width_of s b) = of_net 0 b in_b (omega arith) in
          subst P (sym is) (three_cells (cell_at 0 b) (cell_at 0 b) (cell_at 0 b) (width_of s b) (width_of s b) (width_of s b) q q q)
      | inr r ↦
          let positive = r.1 in
          let high = r.2 in
          let q : IsCellOf (cell_at r.0 b) (width_of s b) = of_net r.0 b in_b high in
          let d : IsCellOf (cell_at (r.0 - 1) a) (width_of s a) = of_net (r.0 - 1) a in_a (omega arith) in
          let third : IsCellOf (cell_at r.0 b) (width_of s z) = subst (λ (n : ℕ). IsCellOf (cell_at r.0 b) (width_of s n)) same q in
          subst P (sym r.3) (three_cells (cell_at (r.0 - 1) a) (cell_at r.0 b) (cell_at r.0 b) (width_of s a) (width_of s b) (width_of s z) d q third)
    ] where
      P : Instance → Type 0
      P i = AreCells s i.cells i.widths

    kind_cells : (kind : Kind) → 1 ≤ s.cycles → RepeatsLast kind nets → (i : Instance) → IsIn (instances kind nets widths s.cycles) i → AreCells s i.cells i.widths
    kind_cells (Reg reset) some repeats i of_part = let same : b ≡ z = cc in register_cells reset some same i of_part
    kind_cells (Block block) some repeats i of_part = absurd of_part
    kind_cells kind some repeats i of_part = cycle_cells kind i of_part

  -- the cells and the widths of an instance of a component
  instance_cells : (kind : Kind) (nets : List ℕ) → length nets ≡ 3 → All (λ n. n < length s.nets) nets → 1 ≤ s.cycles → RepeatsLast kind nets → (i : Instance) → IsIn (instances kind nets (map (width_of s) nets) s.cycles) i → AreCells s i.cells i.widths
  instance_cells kind (a ∷ b ∷ z ∷ []) three within some repeats i of_part =
      kind_cells a b z (within 0 0 (omega arith)) (within 1 0 (omega arith)) (within 2 0 (omega arith)) kind some repeats i of_part
  instance_cells kind [] three within some repeats i of_part = absurd (omega arith)
  instance_cells kind (a ∷ []) three within some repeats i of_part = absurd (omega arith)
  instance_cells kind (a ∷ b ∷ []) three within some repeats i of_part = absurd (omega arith)
  instance_cells kind (a ∷ b ∷ z ∷ y ∷ rest) three within some repeats i of_part = absurd (omega arith)

-- the cells and the widths of an instance of a lawful component, a block or not
part_cells : (s : PresentView) → IsLawful s → (c : Component) → IsLawfulComponent s c → (o : Option ℕ) → HasPins s o c → (i : Instance) → IsIn (part_by s o c) i → AreCells s i.cells i.widths
part_cells s lawful c h None pins i of_part = instance_cells s c.kind c.nets h.three h.nets lawful.some_cycle h.unused i of_part
part_cells s lawful c h (Some block) pins i of_part =
    let r : (inner : Inner) × IsLawfulComponent s (opened_component s c inner) × IsIn (opened_component s c inner).part i = instance_of_block s lawful c block pins i of_part in
    let free = r.1 in
    instance_cells s r.0.kind (opened_component s c r.0).nets free.three free.nets lawful.some_cycle free.unused i r.2

-- an instance of a component of the present is at cells of it
pub cells_of : (s : PresentView) → IsLawful s → (place : ℕ) (c : Component) → slice_get s.parts place ≡ Some c → (instance : Instance) → IsIn c.part instance → AreCells s instance.cells instance.widths
cells_of s lawful place c e instance of_part =
    let P : List Instance → Type 0 = λ part. IsIn part instance in
    part_cells s lawful c component (block_in c.kind) component.pins instance (subst P component.part of_part)
  where
    at_place : (P : Component → Type 0) → All P s.parts → P c
    at_place P all = subst P (get_or_from_slice_get s.parts place c c e) (all place c (slice_get_within s.parts place c e))

    component : IsLawfulComponent s c
    component = at_place (IsLawfulComponent s) lawful.each_part

-- and has the widths of their nets
pub placed : (s : PresentView) → IsLawful s → (place : ℕ) (c : Component) → slice_get s.parts place ≡ Some c → (instance : Instance) → IsIn c.part instance → IsLawfulInstance instance → IsPlaced s instance
placed s lawful place c e instance of_part good =
    let cells : AreCells s instance.cells instance.widths = cells_of s lawful place c e instance of_part in record {
      lawful = good;
      three = cells.three;
      widths = cells.widths_three;
      at_nets = cells.at_nets;
      at_cycles = cells.at_cycles;
      of_width = cells.of_width;
    }
