-- Polyboxes that are generated from a seed.
use Rattle.std.specs.Prelude.{ℕ, zero, suc, ◌+◌, ◌*◌, ◌/◌, ◌%◌, ◌^◌, ◌<◌, Bool, ◌&&◌, nat_le, List, [], ◌∷◌, ◌++◌, codes, decimal, length}
use Rattle.rand_xoshiro.specs.SplitMix64.{mix_u64}
use Rattle.circuit_model.specs.Names.{is_name}
use Rattle.circuit_model.specs.declared.model.Kind.{Kind}
use Rattle.circuit_model.specs.declared.model.Kind.TheVariants as kind
use Rattle.netlist_text.specs.declared.requests.Change.{Change}
use Rattle.netlist_text.specs.declared.requests.Change.TheVariants as change
use Rattle.workload_maker.specs.declared.boxes.Inputs.{Inputs}

-- the words at the inputs have four bits, and what F is off by has eight
pub record IsSmall (inputs : Inputs) : Type 0 where
  pub a : inputs.a < 2 ^ 4
  pub b : inputs.b < 2 ^ 4
  pub c : inputs.c < 2 ^ 4
  pub d : inputs.d < 2 ^ 4
  pub e : inputs.e < 2 ^ 4
  pub off_by : inputs.off_by < 2 ^ 8

-- so many bits of a word, from this one on
abbrev pub bits : (word low count : ℕ) → ℕ
bits word low count = word / 2 ^ low % 2 ^ count

-- Four bits of the word for each input, from the lowest on, and of the eight after them a number from 1 to 255.
abbrev pub inputs_of : ℕ → Inputs
inputs_of word = record { a = bits word 0 4; b = bits word 4 4; c = bits word 8 4; d = bits word 12 4; e = bits word 16 4; off_by = 1 + bits word 20 8 % 255 }

-- what is measured at F, which is always wrong
abbrev pub word_at_f : Inputs → ℕ
word_at_f inputs = (inputs.a * inputs.c + inputs.b * inputs.d + inputs.off_by) % 2 ^ 8

-- what is measured at G, which is always right
abbrev pub word_at_g : Inputs → ℕ
word_at_g inputs = (inputs.b * inputs.d + inputs.c * inputs.e) % 2 ^ 8

-- the name, `_`, and the number of the box
abbrev pub numbered : ℕ → List ℕ → List ℕ
numbered box name = name ++ codes "_" ++ decimal box

-- a name of one or two bytes
abbrev pub is_short_name : List ℕ → Bool
is_short_name name = is_name name && nat_le (length name) 2

-- a net of the box
abbrev pub net : ℕ → List ℕ → ℕ → Change
net box name width = change.Net (numbered box name) width

-- its nets
abbrev pub nets : ℕ → List Change
nets box =
    net box (codes "A") 4 ∷ net box (codes "B") 4 ∷ net box (codes "C") 4 ∷ net box (codes "D") 4 ∷ net box (codes "E") 4
    ∷ net box (codes "X") 8 ∷ net box (codes "Y") 8 ∷ net box (codes "Z") 8 ∷ net box (codes "F") 8 ∷ net box (codes "G") 8 ∷ []

-- a component of the box
abbrev pub component : ℕ → Kind → (name a b z : List ℕ) → Change
component box kind name a b z = change.Add (numbered box name) kind (numbered box a ∷ numbered box b ∷ numbered box z ∷ [])

-- its components
abbrev pub components : ℕ → List Change
components box =
    component box kind.Mul (codes "M1") (codes "A") (codes "C") (codes "X")
    ∷ component box kind.Mul (codes "M2") (codes "B") (codes "D") (codes "Y")
    ∷ component box kind.Mul (codes "M3") (codes "C") (codes "E") (codes "Z")
    ∷ component box kind.Add (codes "A1") (codes "X") (codes "Y") (codes "F")
    ∷ component box kind.Add (codes "A2") (codes "Y") (codes "Z") (codes "G")
    ∷ []

-- a measurement of the box
abbrev pub reading : ℕ → List ℕ → ℕ → Change
reading box name value = change.Measure (numbered box name) 0 value

-- its measurements
abbrev pub readings : ℕ → Inputs → List Change
readings box inputs =
    reading box (codes "A") inputs.a ∷ reading box (codes "B") inputs.b ∷ reading box (codes "C") inputs.c
    ∷ reading box (codes "D") inputs.d ∷ reading box (codes "E") inputs.e
    ∷ reading box (codes "F") (word_at_f inputs) ∷ reading box (codes "G") (word_at_g inputs) ∷ []

-- The polybox of this number whose inputs are given by the word: its nets, its components and its measurements.
unfoldable pub polybox : ℕ → ℕ → List Change
polybox box word = nets box ++ components box ++ readings box (inputs_of word)

-- so many boxes, from this number on, by the words of a generator in this state
abbrev pub boxes_from : (box count state : ℕ) → List Change
boxes_from box zero state = []
boxes_from box (suc count) state = polybox box (mix_u64 state).0 ++ boxes_from (suc box) count (mix_u64 state).1

-- So many boxes, numbered from 1, by the words of SplitMix64 from the seed on.
abbrev pub boxes : (count seed : ℕ) → List Change
boxes count seed = boxes_from 1 count seed
