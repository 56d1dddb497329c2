-- The kinds of components, and the instances that a component stands for.
use Rattle.std.specs.Prelude.{◌≡◌, ◌≢◌, slice_get, ℕ, zero, suc, ◌+◌, ◌-◌, ◌^◌, ◌==◌, Bool, true, false, ◌&&◌, nat_lt, IsTrue, Option, Some, None, List, [], ◌∷◌, map, slice_index}
use Rattle.circuit_model.specs.declared.model.Cell.{Cell}
use Rattle.circuit_model.specs.declared.model.Primitive.{Primitive}
use Rattle.circuit_model.specs.declared.model.Primitive.TheVariants as prim
use Rattle.circuit_model.specs.declared.model.Kind.{Kind}
use Rattle.circuit_model.specs.declared.model.Kind.TheVariants.{Buf, Not, And, Or, Xor, Nand, Nor, Xnor, Add, Mul, Const, Reg, Block}
use Rattle.circuit_model.specs.declared.rules.Class.{Class}
use Rattle.circuit_model.specs.declared.rules.Class.TheVariants.{OneInput, TwoInputs, Alone}
use Rattle.circuit_model.specs.declared.model.Instance.{Instance}
use Rattle.circuit_model.specs.Inference.{ports_of}
use Rattle.circuit_model.specs.Lawful.{width_rule, keep_rule}

-- the definition that a component of the kind is a block of, if it is a block
abbrev pub block_in : Kind → Option ℕ
block_in Buf = None
block_in Not = None
block_in And = None
block_in Or = None
block_in Xor = None
block_in Nand = None
block_in Nor = None
block_in Xnor = None
block_in Add = None
block_in Mul = None
block_in (Const value) = None
block_in (Reg reset) = None
block_in (Block block) = Some block

-- The relation that the words at the kind's ports have at each cycle; for a register, the one that carries its word on.
-- (A block has none of its own. It is taken as a constant: one place, the net of its first pin, and no rule for widths.)
abbrev pub primitive_of : Kind → Primitive
primitive_of Buf = prim.Buf
primitive_of Not = prim.Not
primitive_of And = prim.And
primitive_of Or = prim.Or
primitive_of Xor = prim.Xor
primitive_of Nand = prim.Nand
primitive_of Nor = prim.Nor
primitive_of Xnor = prim.Xnor
primitive_of Add = prim.Add
primitive_of Mul = prim.Mul
primitive_of (Const value) = prim.Const value
primitive_of (Reg reset) = prim.Buf
primitive_of (Block block) = prim.Const 0

-- The ports' widths keep the kind's rule. (Lists of three: unused places repeat the last port.)
abbrev pub are_widths : Kind → List ℕ → Bool
are_widths kind widths = keep_rule (width_rule (primitive_of kind)) widths

-- of three places, those after so many repeat the last of these
abbrev pub RepeatAfter : {X : Type 0} → ℕ → List X → Type 0
RepeatAfter (suc zero) xs = (slice_get xs 0 ≡ slice_get xs 1) × (slice_get xs 1 ≡ slice_get xs 2)
RepeatAfter (suc (suc zero)) xs = slice_get xs 1 ≡ slice_get xs 2
RepeatAfter _ xs = Unit {0}

-- Of three places, those that are no port repeat the last port.
abbrev pub RepeatsLast : {X : Type 0} → Kind → List X → Type 0
RepeatsLast kind xs = RepeatAfter (ports_of (primitive_of kind)) xs

-- the kind's value, if it has one, fits the width of its last port
abbrev pub fits_value : Kind → List ℕ → Bool
fits_value Buf widths = true
fits_value Not widths = true
fits_value And widths = true
fits_value Or widths = true
fits_value Xor widths = true
fits_value Nand widths = true
fits_value Nor widths = true
fits_value Xnor widths = true
fits_value Add widths = true
fits_value Mul widths = true
fits_value (Const value) widths = nat_lt value (2 ^ slice_index widths 0)
fits_value (Reg reset) widths = nat_lt reset (2 ^ slice_index widths 1)
fits_value (Block block) widths = true

-- the cell of a net at a cycle
abbrev pub cell_at : ℕ → ℕ → Cell
cell_at cycle net = record { net = net; cycle = cycle }

-- the relation at the nets' cells of a cycle
abbrev pub instance_at : Primitive → (nets widths : List ℕ) → ℕ → Instance
instance_at p nets widths cycle = record { prim = p; ports = ports_of p; cells = map (cell_at cycle) nets; widths = widths }

-- an instance for each of n cycles from this one on
abbrev pub each_cycle : (ℕ → Instance) → ℕ → ℕ → List Instance
each_cycle at cycle zero = []
each_cycle at cycle (suc n) = at cycle ∷ each_cycle at (suc cycle) n

-- at each of three places
abbrev pub three_times : {X : Type 0} → X → List X
three_times x = x ∷ x ∷ x ∷ []

-- q at cycle 0 is the reset value
abbrev pub reset_instance : ℕ → (nets widths : List ℕ) → Instance
reset_instance reset nets widths =
    record { prim = prim.Const reset; ports = 1; cells = three_times (cell_at 0 (slice_index nets 1)); widths = three_times (slice_index widths 1) }

-- q at a cycle is d at the cycle before
abbrev pub carry_instance : (nets widths : List ℕ) → ℕ → Instance
carry_instance nets widths cycle = let q = cell_at cycle (slice_index nets 1) in
    record { prim = prim.Buf; ports = 2; cells = cell_at (cycle - 1) (slice_index nets 0) ∷ q ∷ q ∷ []; widths = widths }

-- the reset value at cycle 0, and then the word at d, one cycle later
abbrev pub register : ℕ → (nets widths : List ℕ) → ℕ → List Instance
register reset nets widths zero = []
register reset nets widths (suc n) = reset_instance reset nets widths ∷ each_cycle (carry_instance nets widths) 1 n

-- the kind's relation at each cycle
abbrev pub at_each_cycle : Kind → (nets widths : List ℕ) → ℕ → List Instance
at_each_cycle kind nets widths cycles = each_cycle (instance_at (primitive_of kind) nets widths) 0 cycles

-- The instances that a component of the kind stands for, at nets of these widths, over so many cycles. (Those of a block
-- come from its definition.)
abbrev pub instances : Kind → (nets widths : List ℕ) → ℕ → List Instance
instances Buf nets widths cycles = at_each_cycle Buf nets widths cycles
instances Not nets widths cycles = at_each_cycle Not nets widths cycles
instances And nets widths cycles = at_each_cycle And nets widths cycles
instances Or nets widths cycles = at_each_cycle Or nets widths cycles
instances Xor nets widths cycles = at_each_cycle Xor nets widths cycles
instances Nand nets widths cycles = at_each_cycle Nand nets widths cycles
instances Nor nets widths cycles = at_each_cycle Nor nets widths cycles
instances Xnor nets widths cycles = at_each_cycle Xnor nets widths cycles
instances Add nets widths cycles = at_each_cycle Add nets widths cycles
instances Mul nets widths cycles = at_each_cycle Mul nets widths cycles
instances (Const value) nets widths cycles = at_each_cycle (Const value) nets widths cycles
instances (Reg reset) nets widths cycles = register reset nets widths cycles
instances (Block block) nets widths cycles = []

-- the class of a kind: those with one input and as wide a result, those with two, and the kinds that stand alone
abbrev pub class_of : Kind → Class
class_of Buf = OneInput
class_of Not = OneInput
class_of And = TwoInputs
class_of Or = TwoInputs
class_of Xor = TwoInputs
class_of Nand = TwoInputs
class_of Nor = TwoInputs
class_of Xnor = TwoInputs
class_of Add = TwoInputs
class_of Mul = Alone
class_of (Const value) = Alone
class_of (Reg reset) = Alone
class_of (Block block) = Alone

-- the two are one class, and not kinds that stand alone
abbrev pub are_one_class : Class → Class → Bool
are_one_class OneInput OneInput = true
are_one_class OneInput TwoInputs = false
are_one_class OneInput Alone = false
are_one_class TwoInputs OneInput = false
are_one_class TwoInputs TwoInputs = true
are_one_class TwoInputs Alone = false
are_one_class Alone OneInput = false
are_one_class Alone TwoInputs = false
are_one_class Alone Alone = false

-- a component of the one kind may act as the other: another kind of its class
abbrev pub MayAct : Kind → Kind → Type 0
MayAct own kind = IsTrue (are_one_class (class_of own) (class_of kind)) × (own ≢ kind)
