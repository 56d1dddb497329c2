-- How many instances a component of a present has at most.
use Rattle.std.proofs.Common.{◌≡◌, ℕ, zero, suc, ◌*◌, ◌≤◌, List, [], ◌∷◌, length, map, Option, Some, None, slice_get, refl, sym, ap, subst, arith, length-append}
use Rattle.std.specs.List.{flat_map}
use Rattle.std.proofs.lemmas.Option.{slice_get_within, get_or_from_slice_get, unwrap_or-slice_get}
use Rattle.circuit_model.specs.declared.limits.TheConstants.{MOST_CYCLES, MOST_INNERS}
use Rattle.circuit_model.specs.declared.model.Instance.{Instance}
use Rattle.circuit_model.specs.declared.model.Kind.{Kind}
use Rattle.circuit_model.specs.declared.model.Kind.TheVariants.{Reg, Block}
use Rattle.circuit_model.specs.declared.present.Component.{Component}
use Rattle.circuit_model.specs.declared.blocks.Inner.{Inner}
use Rattle.circuit_model.specs.Kinds.{block_in, instance_at, primitive_of, carry_instance, each_cycle, instances, register}
use Rattle.circuit_model.specs.Blocks.{BlockView, IsLawfulBlock, empty_block, inner_instances, block_part}
use Rattle.circuit_model.specs.Present.{PresentView, width_of, block_at, HasPins, part_by, IsLawful, IsLawfulComponent}

length-each_cycle : (at : ℕ → Instance) (first n : ℕ) → length (each_cycle at first n) ≡ n
length-each_cycle at first zero = refl
length-each_cycle at first (suc n) = ap suc (length-each_cycle at (suc first) n)

length-register : (reset : ℕ) (nets widths : List ℕ) (n : ℕ) → length (register reset nets widths n) ≤ n
length-register reset nets widths zero = omega arith
length-register reset nets widths (suc n) = omega (arith, length-each_cycle (carry_instance nets widths) 1 n)

-- at most one instance for each cycle
length-instances : (kind : Kind) (nets widths : List ℕ) (n : ℕ) → length (instances kind nets widths n) ≤ n
length-instances (Reg reset) nets widths n = length-register reset nets widths n
length-instances (Block block) nets widths n = omega arith
length-instances kind nets widths n = let all = length-each_cycle (instance_at (primitive_of kind) nets widths) 0 n in omega arith

length-flat_map_most : (f : Inner → List Instance) (m : ℕ) → ((i : Inner) → length (f i) ≤ m) → (inners : List Inner) → length (flat_map f inners) ≤ length inners * m
length-flat_map_most f m few [] = omega arith
length-flat_map_most f m few (i ∷ inners) =
    let here = few i in
    let later = length-flat_map_most f m few inners in
    let all = length-append (f i) (flat_map f inners) in
    omega arith

length-block_part : (b : BlockView) (nets : List ℕ) (n : ℕ) → length (block_part b nets n) ≤ length b.inners * n
length-block_part b nets n = length-flat_map_most (inner_instances b.pins nets n) n (λ i. length-instances i.kind _ _ n) b.inners

module _ (s : PresentView) (lawful : IsLawful s) where
  length-part_by : (c : Component) (o : Option ℕ) → HasPins s o c → length (part_by s o c) ≤ MOST_INNERS * MOST_CYCLES
  length-part_by c None pins =
      let few = length-instances c.kind c.nets (map (width_of s) c.nets) s.cycles in
      omega (arith, few, lawful.cycles)
  length-part_by c (Some block) use' =
      let few = length-block_part (block_at s block) c.pins s.cycles in
      let law : IsLawfulBlock (block_at s block) = rw (unwrap_or-slice_get s.blocks block (empty_block [])) (lawful.each_block block (empty_block []) use'.there) in
      few_of (length (block_at s block).inners) s.cycles (length (block_part (block_at s block) c.pins s.cycles)) law.most_inners lawful.cycles few
    where
      few_of : (a b n : ℕ) → a ≤ MOST_INNERS → b ≤ MOST_CYCLES → n ≤ a * b → n ≤ MOST_INNERS * MOST_CYCLES
      few_of a b n x y z = grind arith

  -- the instances of a component
  pub length-part : (place : ℕ) (c : Component) → slice_get s.parts place ≡ Some c → length c.part ≤ MOST_INNERS * MOST_CYCLES
  length-part place c e =
      let P : Component → Type 0 = λ c. IsLawfulComponent s c in
      let law : IsLawfulComponent s c = subst P (get_or_from_slice_get s.parts place c c e) (lawful.each_part place c (slice_get_within s.parts place c e)) in
      let Q : List Instance → Type 0 = λ part. length part ≤ MOST_INNERS * MOST_CYCLES in
      subst Q (sym law.part) (length-part_by c (block_in c.kind) law.pins)
