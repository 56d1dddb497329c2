-- What the names of a line stand for in a present.
use Rattle.std.specs.Prelude.{ℕ, Bool, false, is_some, not, ◌||◌, ◌&&◌, List, map, Option, Some, None, slice_get, slice_index, unwrap_or, codes}
use Rattle.std.specs.Option.{option_and_then, option_map_or}
use Rattle.std.specs.Str.{bytes_eq}
use Rattle.circuit_model.specs.declared.model.Cell.{Cell}
use Rattle.circuit_model.specs.declared.model.Kind.{Kind}
use Rattle.circuit_model.specs.declared.model.Kind.TheVariants as kind
use Rattle.circuit_model.specs.declared.present.Component.{Component}
use Rattle.circuit_model.specs.Blocks.{BlockView, pin_named, inner_named, width_in}
use Rattle.circuit_model.specs.Kinds.{cell_at, block_in, class_of, are_one_class}
use Rattle.circuit_model.specs.Present.{PresentView, net_named, part_named, block_named, block_at, is_block_in_use, width_of}
use Rattle.netlist_text.specs.Parts as parts
use Rattle.netlist_text.specs.declared.parts.PartWord.{PartWord}
use Rattle.netlist_text.specs.declared.parts.PartWord.TheVariants as word

-- the place of the net with the name, where there is one
abbrev pub net_place : PresentView → List ℕ → ℕ
net_place s name = unwrap_or (net_named s name) 0

-- the places of the nets with the names
abbrev pub net_places : PresentView → List (List ℕ) → List ℕ
net_places s names = map (net_place s) names

-- the widths of the nets at the places
abbrev pub widths_at : PresentView → List ℕ → List ℕ
widths_at s places = map (width_of s) places

-- the cell of the net with the name at the cycle
abbrev pub cell_of : PresentView → List ℕ → ℕ → Cell
cell_of s net cycle = cell_at cycle (net_place s net)

-- the place of the component with the name, where there is one
abbrev pub part_of : PresentView → List ℕ → ℕ
part_of s name = unwrap_or (part_named s name) 0

-- the component with the name
abbrev pub component_named : PresentView → List ℕ → Option Component
component_named s name = option_and_then (slice_get s.parts) (part_named s name)

-- there is a component with the name, and the test holds of it
abbrev pub is_component_with : (Component → Bool) → PresentView → List ℕ → Bool
is_component_with test s name = option_map_or test (component_named s name) false

-- the component is a block
abbrev pub is_block : Component → Bool
is_block c = is_some (block_in c.kind)

-- the width of the component's last port
abbrev pub last_width : PresentView → Component → ℕ
last_width s c = width_of s (slice_index c.nets 2)

-- the kind that a component may act as by this word, if it may act as that at all
abbrev pub acting_kind : PartWord → Option Kind
acting_kind word.Buf = Some kind.Buf
acting_kind word.Not = Some kind.Not
acting_kind word.And = Some kind.And
acting_kind word.Or = Some kind.Or
acting_kind word.Xor = Some kind.Xor
acting_kind word.Nand = Some kind.Nand
acting_kind word.Nor = Some kind.Nor
acting_kind word.Xnor = Some kind.Xnor
acting_kind word.Add = Some kind.Add
acting_kind word.Mul = None
acting_kind word.Const = None
acting_kind word.Reg = None

-- the same of a name
abbrev pub acting_kind_named : List ℕ → Option Kind
acting_kind_named name = option_and_then acting_kind (parts.part_named name)

-- the first word of the line of a component of the kind
abbrev pub word_of_kind : Kind → List ℕ
word_of_kind kind.Buf = codes "buf"
word_of_kind kind.Not = codes "not"
word_of_kind kind.And = codes "and"
word_of_kind kind.Or = codes "or"
word_of_kind kind.Xor = codes "xor"
word_of_kind kind.Nand = codes "nand"
word_of_kind kind.Nor = codes "nor"
word_of_kind kind.Xnor = codes "xnor"
word_of_kind kind.Add = codes "add"
word_of_kind kind.Mul = codes "mul"
word_of_kind (kind.Const value) = codes "const"
word_of_kind (kind.Reg reset) = codes "reg"
word_of_kind (kind.Block block) = codes "use"

-- the name is that of another kind of the class
abbrev pub may_act_as : Kind → List ℕ → Bool
may_act_as own name = option_map_or (λ k. are_one_class (class_of own) (class_of k)) (acting_kind_named name) false && not (bytes_eq name (word_of_kind own))

-- the place of the definition with the name, where there is one
abbrev pub block_place : PresentView → List ℕ → ℕ
block_place s name = unwrap_or (block_named s name) 0

-- the definition with the name, where there is one
abbrev pub block_of : PresentView → List ℕ → BlockView
block_of s name = block_at s (block_place s name)

-- a component of the present is a block of the definition with the name
abbrev pub is_in_use : PresentView → List ℕ → Bool
is_in_use s name = is_block_in_use s (block_place s name)

-- a pin or an inner component of the definition has the name
abbrev pub has_name_inside : BlockView → List ℕ → Bool
has_name_inside b name = is_some (pin_named b name) || is_some (inner_named b name)

-- the place of the pin with the name, where there is one
abbrev pub pin_of : BlockView → List ℕ → ℕ
pin_of b name = unwrap_or (pin_named b name) 0

-- the places of the pins with the names
abbrev pub pins_of : BlockView → List (List ℕ) → List ℕ
pins_of b names = map (pin_of b) names

-- the widths of the pins at the places
abbrev pub pin_widths_at : BlockView → List ℕ → List ℕ
pin_widths_at b places = map (width_in b.pins) places
