-- The lines of components: their words, what these stand for, and what is asked.
use Rattle.std.specs.Prelude.{ℕ, List, [], ◌∷◌, codes, Option, Some, None, if◌then◌else◌}
use Rattle.std.specs.Str.{bytes_eq}
use Rattle.circuit_model.specs.declared.model.Kind.{Kind}
use Rattle.circuit_model.specs.declared.model.Kind.TheVariants as kind
use Rattle.netlist_text.specs.Words.{word_at, number_of}
use Rattle.netlist_text.specs.declared.parts.PartWord.{PartWord}
use Rattle.netlist_text.specs.declared.parts.PartWord.TheVariants.{Buf, Not, And, Or, Xor, Nand, Nor, Xnor, Add, Mul, Const, Reg}
use Rattle.netlist_text.specs.declared.places.Place.{Place}
use Rattle.netlist_text.specs.declared.places.Place.TheVariants.{Keyword, Name, Number}

-- the first words of the lines of components
unfoldable pub part_named : List ℕ → Option PartWord
part_named word =
    if bytes_eq word (codes "buf") then Some Buf else
    if bytes_eq word (codes "not") then Some Not else
    if bytes_eq word (codes "and") then Some And else
    if bytes_eq word (codes "or") then Some Or else
    if bytes_eq word (codes "xor") then Some Xor else
    if bytes_eq word (codes "nand") then Some Nand else
    if bytes_eq word (codes "nor") then Some Nor else
    if bytes_eq word (codes "xnor") then Some Xnor else
    if bytes_eq word (codes "add") then Some Add else
    if bytes_eq word (codes "mul") then Some Mul else
    if bytes_eq word (codes "const") then Some Const else
    if bytes_eq word (codes "reg") then Some Reg else
    None

-- what the words of each line stand for
abbrev pub places_of_part : PartWord → List Place
places_of_part Buf = Keyword ∷ Name ∷ Name ∷ Name ∷ []
places_of_part Not = Keyword ∷ Name ∷ Name ∷ Name ∷ []
places_of_part And = Keyword ∷ Name ∷ Name ∷ Name ∷ Name ∷ []
places_of_part Or = Keyword ∷ Name ∷ Name ∷ Name ∷ Name ∷ []
places_of_part Xor = Keyword ∷ Name ∷ Name ∷ Name ∷ Name ∷ []
places_of_part Nand = Keyword ∷ Name ∷ Name ∷ Name ∷ Name ∷ []
places_of_part Nor = Keyword ∷ Name ∷ Name ∷ Name ∷ Name ∷ []
places_of_part Xnor = Keyword ∷ Name ∷ Name ∷ Name ∷ Name ∷ []
places_of_part Add = Keyword ∷ Name ∷ Name ∷ Name ∷ Name ∷ []
places_of_part Mul = Keyword ∷ Name ∷ Name ∷ Name ∷ Name ∷ []
places_of_part Const = Keyword ∷ Name ∷ Name ∷ Number ∷ []
places_of_part Reg = Keyword ∷ Name ∷ Name ∷ Name ∷ Number ∷ []

-- the kind of the component; that of `const` and of `reg` has the number at the end of the line
abbrev pub kind_of : PartWord → List (List ℕ) → Kind
kind_of Buf words = kind.Buf
kind_of Not words = kind.Not
kind_of And words = kind.And
kind_of Or words = kind.Or
kind_of Xor words = kind.Xor
kind_of Nand words = kind.Nand
kind_of Nor words = kind.Nor
kind_of Xnor words = kind.Xnor
kind_of Add words = kind.Add
kind_of Mul words = kind.Mul
kind_of Const words = kind.Const (number_of (word_at words 3))
kind_of Reg words = kind.Reg (number_of (word_at words 4))

-- the net at the one port, three times
abbrev pub one_net : List (List ℕ) → List (List ℕ)
one_net words = word_at words 2 ∷ word_at words 2 ∷ word_at words 2 ∷ []

-- the nets at two ports, the last of them twice
abbrev pub two_nets : List (List ℕ) → List (List ℕ)
two_nets words = word_at words 2 ∷ word_at words 3 ∷ word_at words 3 ∷ []

-- the nets at three ports
abbrev pub three_nets : List (List ℕ) → List (List ℕ)
three_nets words = word_at words 2 ∷ word_at words 3 ∷ word_at words 4 ∷ []

-- the names of the nets at its ports
abbrev pub nets_of : PartWord → List (List ℕ) → List (List ℕ)
nets_of Buf words = two_nets words
nets_of Not words = two_nets words
nets_of And words = three_nets words
nets_of Or words = three_nets words
nets_of Xor words = three_nets words
nets_of Nand words = three_nets words
nets_of Nor words = three_nets words
nets_of Xnor words = three_nets words
nets_of Add words = three_nets words
nets_of Mul words = three_nets words
nets_of Const words = one_net words
nets_of Reg words = two_nets words
