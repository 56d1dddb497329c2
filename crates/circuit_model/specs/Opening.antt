-- Blocks that are declared, and blocks that are opened.
use Rattle.std.specs.Prelude.{ℕ, ◌&&◌, not, if◌then◌else◌, List, [], ◌∷◌, ◌++◌, map, remove, slice_get, slice_index, Option, Some, None}
use Rattle.std.specs.List.{list_any}
use Rattle.std.specs.Str.{bytes_eq}
use Rattle.environment_sets.specs.Sets.{Set}
use Rattle.circuit_model.specs.declared.limits.TheConstants.{USUAL_COST}
use Rattle.circuit_model.specs.declared.model.Kind.TheVariants.{Block}
use Rattle.circuit_model.specs.declared.blocks.Inner.{Inner}
use Rattle.circuit_model.specs.declared.present.Component.{Component}
use Rattle.circuit_model.specs.Kinds.{instances, block_in, three_times}
use Rattle.circuit_model.specs.Blocks.{nets_for, block_part}
use Rattle.circuit_model.specs.Renaming.{passes}
use Rattle.circuit_model.specs.Present.{PresentView, block_at, width_of}

-- the component that a block of the definition is, with this name, at these nets
abbrev pub block_component : PresentView → (block : ℕ) → (name : List ℕ) → (nets : List ℕ) → Component
block_component s block name nets = record {
  name = name;
  kind = Block block;
  nets = three_times (slice_index nets 0);
  cost = USUAL_COST;
  pins = nets;
  part = block_part (block_at s block) nets s.cycles;
}

-- the inner components of the definition that the component is a block of
abbrev pub inners_of : PresentView → Option ℕ → List Inner
inners_of s None = []
inners_of s (Some block) = (block_at s block).inners

-- the name of an inner component that stands free: the block's name, `_` and its own
abbrev pub opened_name : Component → Inner → List ℕ
opened_name c i = c.name ++ 95 ∷ i.name

-- an inner component of a block that stands free, at the nets of its pins
abbrev pub opened_component : PresentView → Component → Inner → Component
opened_component s c i = let nets = nets_for c.pins i.pins in record {
  name = opened_name c i;
  kind = i.kind;
  nets = nets;
  cost = USUAL_COST;
  pins = [];
  part = instances i.kind nets (map (width_of s) nets) s.cycles;
}

-- the inner components of a block, in order, standing free
abbrev pub opened_components : PresentView → Component → List Component
opened_components s c = map (opened_component s c) (inners_of s (block_in c.kind))

-- The present with the block at the place opened: the other components in order, and after them the block's inner
-- components in order.
abbrev pub opened : PresentView → (part : ℕ) → Component → PresentView
opened s part c = record s { parts = remove s.parts part ++ opened_components s c }

-- the positions of the components whose names are in the set
abbrev pub positions_of : List Component → Set (List ℕ) → Set ℕ
positions_of parts C place = passes (λ c. C c.name) (slice_get parts place)

-- A set of components of the opened present, by their names, lifted to the present: the inner components are taken out,
-- and the block is put in where there was one.
abbrev pub lift : PresentView → Component → Set (List ℕ) → Set (List ℕ)
lift s c C name =
    if bytes_eq name c.name then list_any (λ i. C (opened_name c i)) (inners_of s (block_in c.kind))
    else not (list_any (λ i. bytes_eq name (opened_name c i)) (inners_of s (block_in c.kind))) && C name
