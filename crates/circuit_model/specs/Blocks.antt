-- Definitions of blocks, and the part that a block has.
use Rattle.std.specs.Prelude.{◌≡◌, ℕ, ◌<◌, ◌≤◌, List, [], ◌++◌, length, map, slice_index, Option, None, IsTrue}
use Rattle.std.specs.List.{All, flat_map, position}
use Rattle.std.specs.Str.{bytes_eq}
use Rattle.environment_sets.specs.Lists.{AreDistinct}
use Rattle.word_domain.specs.declared.width.TheConstants.{WIDEST}
use Rattle.circuit_model.specs.declared.limits.TheConstants.{MOST_PINS, MOST_INNERS}
use Rattle.circuit_model.specs.declared.model.Instance.{Instance}
use Rattle.circuit_model.specs.declared.present.Net.{Net}
use Rattle.circuit_model.specs.declared.blocks.Inner.{Inner}
use Rattle.circuit_model.specs.Names.{is_name}
use Rattle.circuit_model.specs.Kinds.{RepeatsLast, are_widths, fits_value, instances, block_in}

-- A definition as lists: its name, its pins, which are nets of its own with their widths, and its inner components, both
-- in order. The ports of an inner component are places of pins.
pub record BlockView : Type 0 where
  pub name : List ℕ
  pub pins : List Net
  pub inners : List Inner

-- a definition without pins and inner components
abbrev pub empty_block : List ℕ → BlockView
empty_block name = record { name = name; pins = []; inners = [] }

-- the width at a place of such nets, 0 past them
abbrev pub width_in : List Net → ℕ → ℕ
width_in nets place = slice_index (map (λ n. n.width) nets) place

-- the names of the pins and then those of the inner components
abbrev pub names_in : BlockView → List (List ℕ)
names_in b = map (λ p. p.name) b.pins ++ map (λ i. i.name) b.inners

-- the pin with the name
abbrev pub pin_named : BlockView → List ℕ → Option ℕ
pin_named b name = position (λ p. bytes_eq p.name name) b.pins

-- the inner component with the name
abbrev pub inner_named : BlockView → List ℕ → Option ℕ
inner_named b name = position (λ i. bytes_eq i.name name) b.inners

-- It is no block; its ports are pins, three places of them, and unused places repeat the last one; their widths and the
-- kind's value are lawful.
pub record IsLawfulInner (pins : List Net) (i : Inner) : Type 0 where
  pub plain : block_in i.kind ≡ None
  pub three : length i.pins ≡ 3
  pub pins_there : All (λ k. k < length pins) i.pins
  pub unused : RepeatsLast i.kind i.pins
  pub widths : IsTrue (are_widths i.kind (map (width_in pins) i.pins))
  pub value : IsTrue (fits_value i.kind (map (width_in pins) i.pins))

-- limits are kept; names are names, and those of pins and inner components are distinct; widths and inner components are
-- lawful
pub record IsLawfulBlock (b : BlockView) : Type 0 where
  pub name : IsTrue (is_name b.name)
  pub most_pins : length b.pins ≤ MOST_PINS
  pub most_inners : length b.inners ≤ MOST_INNERS
  pub names : All (λ n. IsTrue (is_name n)) (names_in b)
  pub distinct : AreDistinct (names_in b)
  pub widths : All (λ p. (1 ≤ p.width) × (p.width ≤ WIDEST)) b.pins
  pub each_inner : All (IsLawfulInner b.pins) b.inners

-- the nets that stand for these pins
abbrev pub nets_for : (nets pins : List ℕ) → List ℕ
nets_for nets pins = map (slice_index nets) pins

-- the instances of an inner component, with the net of each pin in the place of the pin, over so many cycles
abbrev pub inner_instances : List Net → (nets : List ℕ) → ℕ → Inner → List Instance
inner_instances pins nets cycles i = instances i.kind (nets_for nets i.pins) (map (width_in pins) i.pins) cycles

-- the part of a block of the definition at these nets: for each inner component in order, its instances
abbrev pub block_part : BlockView → (nets : List ℕ) → ℕ → List Instance
block_part b nets cycles = flat_map (inner_instances b.pins nets cycles) b.inners
