-- The present: a circuit with its definitions of blocks, its modes and its standing measurements.
use Rattle.std.specs.Prelude.{◌≡◌, ◌≢◌, ℕ, zero, suc, ◌-◌, ◌*◌, ◌^◌, ◌<◌, ◌≤◌, ◌==◌, Bool, false, ◌||◌, ◌&&◌, nat_lt, if◌then◌else◌, List, [], ◌∷◌, ◌++◌, length, map, take, slice_get, slice_index, unwrap_or, Option, Some, None, IsTrue}
use Rattle.std.specs.List.{All, list_any, position, remove}
use Rattle.std.specs.Str.{bytes_eq}
use Rattle.std.specs.Option.{option_map, option_map_or}
use Rattle.environment_sets.specs.Lists.{IsRising, AreDistinct}
use Rattle.word_domain.specs.declared.width.TheConstants.{WIDEST}
use Rattle.circuit_model.specs.declared.limits.TheConstants.{MOST_CYCLES, MOST_NETS, MOST_CELLS, MOST_PARTS, MOST_READINGS, MOST_MODES, MOST_BLOCKS, LEAST_COST, MOST_COST}
use Rattle.circuit_model.specs.declared.model.Cell.{Cell}
use Rattle.circuit_model.specs.declared.model.Fact.{Fact}
use Rattle.circuit_model.specs.declared.model.Instance.{Instance}
use Rattle.circuit_model.specs.declared.model.Mode.{Mode}
use Rattle.circuit_model.specs.declared.model.Mode.TheVariants.{Stuck, Acts}
use Rattle.circuit_model.specs.declared.blocks.Inner.{Inner}
use Rattle.circuit_model.specs.declared.present.Net.{Net}
use Rattle.circuit_model.specs.declared.present.Component.{Component}
use Rattle.circuit_model.specs.declared.present.DeclaredMode.{DeclaredMode}
use Rattle.circuit_model.specs.declared.present.Named.{Named}
use Rattle.circuit_model.specs.declared.present.Named.TheVariants as named
use Rattle.circuit_model.specs.Names.{is_name}
use Rattle.circuit_model.specs.Kinds.{RepeatsLast, are_widths, fits_value, instances, block_in, MayAct}
use Rattle.circuit_model.specs.Blocks.{BlockView, empty_block, width_in, IsLawfulBlock, block_part}
use Rattle.circuit_model.specs.Diagnoses.{Circuit}

-- A present as lists: the number of cycles, the nets and the components in order of declaration, the standing
-- measurements in order of their cells, and the modes and the definitions of blocks in order of declaration.
pub record PresentView : Type 0 where
  pub cycles : ℕ
  pub nets : List Net
  pub parts : List Component
  pub readings : List Fact
  pub modes : List DeclaredMode
  pub blocks : List BlockView

-- one cycle, and nothing else
abbrev pub empty_present : PresentView
empty_present = record { cycles = 1; nets = []; parts = []; readings = []; modes = []; blocks = [] }

-- the names of the nets and then those of the components
abbrev pub names_of : PresentView → List (List ℕ)
names_of s = map (λ n. n.name) s.nets ++ map (λ p. p.name) s.parts

-- the net with the name
abbrev pub net_named : PresentView → List ℕ → Option ℕ
net_named s name = position (λ n. bytes_eq n.name name) s.nets

-- the component with the name
abbrev pub part_named : PresentView → List ℕ → Option ℕ
part_named s name = position (λ p. bytes_eq p.name name) s.parts

-- the net, or else the component
abbrev pub net_or_part : Option ℕ → Option ℕ → Option Named
net_or_part (Some net) part = Some (named.Net net)
net_or_part None part = option_map named.Part part

-- what has the name
abbrev pub named_in : PresentView → List ℕ → Option Named
named_in s name = net_or_part (net_named s name) (part_named s name)

-- the definition with the name
abbrev pub block_named : PresentView → List ℕ → Option ℕ
block_named s name = position (λ b. bytes_eq b.name name) s.blocks

-- the definition at the place; past the definitions, one without pins and inner components
abbrev pub block_at : PresentView → ℕ → BlockView
block_at s block = unwrap_or (slice_get s.blocks block) (empty_block [])

-- the width of a net, 0 past the nets
abbrev pub width_of : PresentView → ℕ → ℕ
width_of s net = width_in s.nets net

-- the two cells are the same
abbrev pub is_cell : Cell → Cell → Bool
is_cell c d = (c.net == d.net) && (c.cycle == d.cycle)

-- one fact and no other
abbrev pub is_fact : Fact → Fact → Bool
is_fact f g = is_cell f.cell g.cell && (f.value == g.value)

-- by net, then by cycle
abbrev pub is_cell_before : Cell → Cell → Bool
is_cell_before c d = nat_lt c.net d.net || ((c.net == d.net) && nat_lt c.cycle d.cycle)

-- the measured word of the cell, if it is measured
abbrev pub reading_in : List Fact → Cell → Option ℕ
reading_in [] c = None
reading_in (f ∷ readings) c = if is_cell f.cell c then Some f.value else reading_in readings c

-- the measurements with one more, in the order of cells
abbrev pub with_reading : Fact → List Fact → List Fact
with_reading f [] = f ∷ []
with_reading f (g ∷ readings) = if is_cell_before f.cell g.cell then f ∷ g ∷ readings else g ∷ with_reading f readings

-- the measurements without that of the cell
abbrev pub without_reading : Cell → List Fact → List Fact
without_reading c [] = []
without_reading c (f ∷ readings) = if is_cell f.cell c then readings else f ∷ without_reading c readings

-- the list with one element changed
abbrev pub change_at : {X : Type 0} → ℕ → (X → X) → List X → List X
change_at place change [] = []
change_at zero change (x ∷ xs) = change x ∷ xs
change_at (suc place) change (x ∷ xs) = x ∷ change_at place change xs

-- the list without its last element
abbrev pub without_last : {X : Type 0} → List X → List X
without_last xs = take (length xs - 1) xs

-- over so many cycles
abbrev pub with_cycles : ℕ → PresentView → PresentView
with_cycles cycles s = record s { cycles = cycles }

-- the nets with one more
abbrev pub with_net : Net → PresentView → PresentView
with_net n s = record s { nets = s.nets ++ n ∷ [] }

-- the last net is gone
abbrev pub without_last_net : PresentView → PresentView
without_last_net s = record s { nets = without_last s.nets }

-- the components with one more
abbrev pub with_part : Component → PresentView → PresentView
with_part c s = record s { parts = s.parts ++ c ∷ [] }

-- the last component is gone
abbrev pub without_last_part : PresentView → PresentView
without_last_part s = record s { parts = take (length s.parts - 1) s.parts }

-- the component at the place is gone
abbrev pub without_part : ℕ → PresentView → PresentView
without_part part s = record s { parts = remove s.parts part }

-- a component has this cost
abbrev pub with_cost : (part cost : ℕ) → PresentView → PresentView
with_cost part cost s = record s { parts = change_at part (λ c. record c { cost = cost }) s.parts }

-- the standing measurements with one more
abbrev pub with_standing : Fact → PresentView → PresentView
with_standing f s = record s { readings = with_reading f s.readings }

-- the measurement of the cell is gone
abbrev pub without_standing : Cell → PresentView → PresentView
without_standing c s = record s { readings = without_reading c s.readings }

-- the modes with one more
abbrev pub with_mode : DeclaredMode → PresentView → PresentView
with_mode m s = record s { modes = s.modes ++ m ∷ [] }

-- the last mode is gone
abbrev pub without_last_mode : PresentView → PresentView
without_last_mode s = record s { modes = without_last s.modes }

-- the definitions with one more, of that name and without pins and inner components
abbrev pub with_block : List ℕ → PresentView → PresentView
with_block name s = record s { blocks = s.blocks ++ empty_block name ∷ [] }

-- the last definition is gone
abbrev pub without_last_block : PresentView → PresentView
without_last_block s = record s { blocks = without_last s.blocks }

-- a definition with one pin more
abbrev pub with_pin : ℕ → Net → PresentView → PresentView
with_pin block pin s = record s { blocks = change_at block (λ b. record b { pins = b.pins ++ pin ∷ [] }) s.blocks }

-- a definition's last pin is gone
abbrev pub without_last_pin : ℕ → PresentView → PresentView
without_last_pin block s = record s { blocks = change_at block (λ b. record b { pins = without_last b.pins }) s.blocks }

-- a definition with one inner component more
abbrev pub with_inner : ℕ → Inner → PresentView → PresentView
with_inner block inner s = record s { blocks = change_at block (λ b. record b { inners = b.inners ++ inner ∷ [] }) s.blocks }

-- a definition's last inner component is gone
abbrev pub without_last_inner : ℕ → PresentView → PresentView
without_last_inner block s = record s { blocks = change_at block (λ b. record b { inners = without_last b.inners }) s.blocks }

-- The component is a block of the definition: that one is there and has an inner component; there is one net for each of
-- its pins, and of that pin's width; and the one place in which the others repeat is the first pin's net.
pub record IsUse (s : PresentView) (block : ℕ) (c : Component) : Type 0 where
  pub there : block < length s.blocks
  pub some_inner : 1 ≤ length (block_at s block).inners
  pub nets_there : All (λ n. n < length s.nets) c.pins
  pub widths : map (width_of s) c.pins ≡ map (λ p. p.width) (block_at s block).pins
  pub first : slice_get c.nets 0 ≡ slice_get c.pins 0

-- a block has the nets of its pins, any other component has none
abbrev pub HasPins : PresentView → Option ℕ → Component → Type 0
HasPins s None c = c.pins ≡ []
HasPins s (Some block) c = IsUse s block c

-- the part by the rules: of a block by its definition, of any other component by its kind
abbrev pub part_by : PresentView → Option ℕ → Component → List Instance
part_by s None c = instances c.kind c.nets (map (width_of s) c.nets) s.cycles
part_by s (Some block) c = block_part (block_at s block) c.pins s.cycles

-- the nets are there, three places of them, and unused places repeat the last one; their widths, the kind's value, the cost and the nets of pins are lawful, and the part is the one by the rules
pub record IsLawfulComponent (s : PresentView) (c : Component) : Type 0 where
  pub three : length c.nets ≡ 3
  pub nets : All (λ n. n < length s.nets) c.nets
  pub unused : RepeatsLast c.kind c.nets
  pub widths : IsTrue (are_widths c.kind (map (width_of s) c.nets))
  pub value : IsTrue (fits_value c.kind (map (width_of s) c.nets))
  pub cost_low : LEAST_COST ≤ c.cost
  pub cost_high : c.cost ≤ MOST_COST
  pub pins : HasPins s (block_in c.kind) c
  pub part : c.part ≡ part_by s (block_in c.kind) c

-- a word that fits the net of the component's last port, or another kind of its class
abbrev pub IsModeFor : PresentView → Component → Mode → Type 0
IsModeFor s c (Stuck value) = value < 2 ^ width_of s (slice_index c.nets 2)
IsModeFor s c (Acts kind) = MayAct c.kind kind

-- the name is that of a component that is no block and may have the mode, and the cost is lawful
pub record IsLawfulMode (s : PresentView) (m : DeclaredMode) : Type 0 where
  pub place : ℕ
  pub component : Component
  pub there : slice_get s.parts place ≡ Some component
  pub named : component.name ≡ m.name
  pub plain : block_in component.kind ≡ None
  pub mode : IsModeFor s component m.mode
  pub cost_low : LEAST_COST ≤ m.cost
  pub cost_high : m.cost ≤ MOST_COST

-- the cell is one of the present, and the word fits its net
pub record IsFactOf (s : PresentView) (f : Fact) : Type 0 where
  pub net : f.cell.net < length s.nets
  pub cycle : f.cell.cycle < s.cycles
  pub fits : f.value < 2 ^ width_of s f.cell.net

-- limits are kept, names are names and distinct, and components, measurements, widths, modes and definitions are lawful
pub record IsLawful (s : PresentView) : Type 0 where
  pub some_cycle : 1 ≤ s.cycles
  pub cycles : s.cycles ≤ MOST_CYCLES
  pub nets : length s.nets ≤ MOST_NETS
  pub cells : length s.nets * s.cycles ≤ MOST_CELLS
  pub parts : length s.parts ≤ MOST_PARTS
  pub readings : length s.readings ≤ MOST_READINGS
  pub modes : length s.modes ≤ MOST_MODES
  pub blocks : length s.blocks ≤ MOST_BLOCKS
  pub names : All (λ n. IsTrue (is_name n)) (names_of s)
  pub distinct : AreDistinct (names_of s)
  pub block_names : AreDistinct (map (λ b. b.name) s.blocks)
  pub widths : All (λ n. (1 ≤ n.width) × (n.width ≤ WIDEST)) s.nets
  pub each_part : All (IsLawfulComponent s) s.parts
  pub each_reading : All (IsFactOf s) s.readings
  pub rising : IsRising (λ f g. IsTrue (is_cell_before f.cell g.cell)) s.readings
  pub each_mode : All (IsLawfulMode s) s.modes
  pub each_block : All IsLawfulBlock s.blocks

-- nothing is at the net: no port, no pin and no measurement
pub record IsUnusedNet (s : PresentView) (net : ℕ) : Type 0 where
  pub ports : All (λ c. All (λ n. n ≢ net) c.nets) s.parts
  pub pins : All (λ c. All (λ n. n ≢ net) c.pins) s.parts
  pub readings : All (λ f. f.cell.net ≢ net) s.readings

-- no mode is one of the component at the place
abbrev pub IsUnusedPart : PresentView → ℕ → Type 0
IsUnusedPart s part = (c : Component) → slice_get s.parts part ≡ Some c → All (λ m. m.name ≢ c.name) s.modes

-- the component is a block of the definition
abbrev pub is_block_of : ℕ → Component → Bool
is_block_of block c = option_map_or (λ b. b == block) (block_in c.kind) false

-- some component is a block of the definition
abbrev pub is_block_in_use : PresentView → ℕ → Bool
is_block_in_use s block = list_any (is_block_of block) s.parts

-- no component is a block of the definition
abbrev pub IsUnusedBlock : PresentView → ℕ → Type 0
IsUnusedBlock s block = All (λ c. block_in c.kind ≢ Some block) s.parts

-- no inner component of the definition is at the pin
abbrev pub IsUnusedPin : PresentView → ℕ → ℕ → Type 0
IsUnusedPin s block pin = All (λ i. All (λ k. k ≢ pin) i.pins) (block_at s block).inners

-- the circuit and its measurements, as conflicts and diagnoses speak of them
abbrev pub circuit_of : PresentView → Circuit
circuit_of s = record { parts = map (λ p. p.part) s.parts; costs = map (λ p. p.cost) s.parts; reading_at = reading_in s.readings }
