-- The text of a present, as `show` writes it.
use Rattle.std.specs.Prelude.{ℕ, ◌==◌, if◌then◌else◌, List, [], ◌∷◌, ◌++◌, codes, decimal, map, take, slice_get, Option, Some, None}
use Rattle.std.specs.List.{flat_map}
use Rattle.std.specs.Option.{option_map_or}
use denote.Ref.{Bor}
use Rattle.circuit_model.specs.declared.limits.TheConstants.{USUAL_COST}
use Rattle.circuit_model.specs.declared.model.Cell.{Cell}
use Rattle.circuit_model.specs.declared.model.Fact.{Fact}
use Rattle.circuit_model.specs.declared.model.Kind.{Kind}
use Rattle.circuit_model.specs.declared.model.Kind.TheVariants as kind
use Rattle.circuit_model.specs.declared.model.Mode.{Mode}
use Rattle.circuit_model.specs.declared.model.Mode.TheVariants.{Stuck, Acts}
use Rattle.circuit_model.specs.declared.blocks.Inner.{Inner}
use Rattle.circuit_model.specs.declared.present.Component.{Component}
use Rattle.circuit_model.specs.declared.present.DeclaredMode.{DeclaredMode}
use Rattle.circuit_model.specs.declared.present.Net.{Net}
use Rattle.circuit_model.specs.Blocks.{BlockView}
use Rattle.circuit_model.specs.Inference.{ports_of}
use Rattle.circuit_model.specs.Kinds.{block_in, primitive_of}
use Rattle.circuit_model.specs.Present.{PresentView, block_at}
use Rattle.netlist_text.specs.Lookups.{word_of_kind}
use Rattle.netlist_text.specs.declared.show.Ports.{Ports}

-- the words, each after a space
abbrev pub after_spaces : List (List ℕ) → List ℕ
after_spaces [] = []
after_spaces (word ∷ words) = 32 ∷ word ++ after_spaces words

-- the words, with one space between them
abbrev pub spaced : List (List ℕ) → List ℕ
spaced [] = []
spaced (word ∷ words) = word ++ after_spaces words

-- the words that are given
abbrev pub words_in : List (Bor (List ℕ)) → List (List ℕ)
words_in [] = []
words_in (word ∷ words) = word.now ∷ words_in words

-- lines of these words, each with its newline
abbrev pub text_of_lines : List (List (List ℕ)) → List ℕ
text_of_lines [] = []
text_of_lines (words ∷ lines) = spaced words ++ 10 ∷ text_of_lines lines

-- the names at the three places of a component
abbrev pub names_of_ports : Ports → List (List ℕ)
names_of_ports ports = ports.first ∷ ports.second ∷ ports.third ∷ []

-- the name of the net, or of the pin, at the place
abbrev pub name_at : List Net → ℕ → List ℕ
name_at nets place = option_map_or (λ n. n.name) (slice_get nets place) []

-- the net's name, and where the cycle is not 0, `@` and the cycle
abbrev pub cell_text : PresentView → Cell → List ℕ
cell_text s c = name_at s.nets c.net ++ (if c.cycle == 0 then [] else codes "@" ++ decimal c.cycle)

-- the words of a net's line
abbrev pub net_words : Net → List (List ℕ)
net_words n = codes "net" ∷ n.name ∷ decimal n.width ∷ []

-- the value of a kind that has one
abbrev pub value_words : Kind → List (List ℕ)
value_words kind.Buf = []
value_words kind.Not = []
value_words kind.And = []
value_words kind.Or = []
value_words kind.Xor = []
value_words kind.Nand = []
value_words kind.Nor = []
value_words kind.Xnor = []
value_words kind.Add = []
value_words kind.Mul = []
value_words (kind.Const value) = decimal value ∷ []
value_words (kind.Reg reset) = decimal reset ∷ []
value_words (kind.Block block) = []

-- of three names, those at the kind's ports, and its value
abbrev pub port_words : Kind → List (List ℕ) → List (List ℕ)
port_words kind names = take (ports_of (primitive_of kind)) names ++ value_words kind

-- the words of the line of a component that is no block, with the names of the nets at its three places
abbrev pub part_words : Kind → List ℕ → List (List ℕ) → List (List ℕ)
part_words kind name names = word_of_kind kind ∷ name ∷ port_words kind names

-- the words of a pin's line
abbrev pub pin_words : List ℕ → Net → List (List ℕ)
pin_words block p = codes "pin" ∷ block ∷ p.name ∷ decimal p.width ∷ []

-- the words of an inner component's line
abbrev pub inner_words : List ℕ → List Net → Inner → List (List ℕ)
inner_words block pins i = codes "inside" ∷ block ∷ part_words i.kind i.name (map (name_at pins) i.pins)

-- the lines of a definition: its own, those of its pins and those of its inner components
abbrev pub block_lines : BlockView → List (List (List ℕ))
block_lines b = (codes "define" ∷ b.name ∷ []) ∷ map (pin_words b.name) b.pins ++ map (inner_words b.name b.pins) b.inners

-- the words of a component's line, which is a block or none
abbrev pub component_words_by : PresentView → Option ℕ → Component → List (List ℕ)
component_words_by s None c = part_words c.kind c.name (map (name_at s.nets) c.nets)
component_words_by s (Some block) c = codes "use" ∷ (block_at s block).name ∷ c.name ∷ map (name_at s.nets) c.pins

-- the words of a component's line
abbrev pub component_words : PresentView → Component → List (List ℕ)
component_words s c = component_words_by s (block_in c.kind) c

-- the line of a component's cost, where that is not the usual one
abbrev pub cost_lines : Component → List (List (List ℕ))
cost_lines c = if c.cost == USUAL_COST then [] else (codes "cost" ∷ c.name ∷ decimal c.cost ∷ []) ∷ []

-- the words of a mode's line, with the name of its component and its cost
abbrev pub mode_words_by : Mode → List ℕ → ℕ → List (List ℕ)
mode_words_by (Stuck value) name cost = codes "stuck" ∷ name ∷ decimal value ∷ decimal cost ∷ []
mode_words_by (Acts kind) name cost = codes "acts" ∷ name ∷ word_of_kind kind ∷ decimal cost ∷ []

-- the words of a mode's line
abbrev pub mode_words : DeclaredMode → List (List ℕ)
mode_words m = mode_words_by m.mode m.name m.cost

-- the words of a measurement's line
abbrev pub reading_words : PresentView → Fact → List (List ℕ)
reading_words s f = codes "measure" ∷ cell_text s f.cell ∷ decimal f.value ∷ []

-- The lines of a present, each as its words: the version, the cycles, the nets, the definitions, the components, their
-- costs, the modes, the measurements and the end.
abbrev pub present_lines : PresentView → List (List (List ℕ))
present_lines s =
    (codes "#" ∷ codes "gde" ∷ codes "2" ∷ []) ∷ (codes "cycles" ∷ decimal s.cycles ∷ []) ∷ []
    ++ map net_words s.nets
    ++ flat_map block_lines s.blocks
    ++ map (component_words s) s.parts
    ++ flat_map cost_lines s.parts
    ++ map mode_words s.modes
    ++ map (reading_words s) s.readings
    ++ (codes "#" ∷ codes "end" ∷ []) ∷ []

-- the text of a present
abbrev pub text_of : PresentView → List ℕ
text_of s = text_of_lines (present_lines s)
