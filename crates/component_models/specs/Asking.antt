-- What may be asked: which words may be known, and at which ports.
use Rattle.std.specs.Prelude.{◌≡◌, ℕ, ◌^◌, ◌<◌, List, Option, Some, slice_get}
use Rattle.circuit_model.specs.declared.model.Primitive.{Primitive}
use Rattle.circuit_model.specs.Inference.{ports_of, IsUnknownAt}

-- at some port no word is known
abbrev pub HasOpenPort : Primitive → List (Option ℕ) → Type 0
HasOpenPort prim known = (p : ℕ) × (p < ports_of prim) × IsUnknownAt known p
