-- Which components are one instance with a cell of its own at each port.
use Rattle.std.specs.Prelude.{◌≡◌, ℕ, ◌^◌, ◌<◌, List, Some, IsSome, slice_get}
use Rattle.circuit_model.specs.declared.model.Cell.{Cell}
use Rattle.circuit_model.specs.declared.model.Instance.{Instance}
use Rattle.circuit_model.specs.declared.model.Assumption.TheVariants.{Part}
use Rattle.circuit_model.specs.Stock.{Stock}
use Rattle.propagation.specs.Propagating.{IsLone}

-- each of so many ports has a cell of its own
pub record HaveOwnCells (cells : List Cell) (ports : ℕ) : Type 0 where
  pub celled : (p : ℕ) → p < ports → IsSome (slice_get cells p)
  pub apart : (p q : ℕ) (c : Cell) → p < ports → q < ports → slice_get cells p ≡ Some c → slice_get cells q ≡ Some c → p ≡ q

-- each width has more than one word
abbrev pub AreWide : List ℕ → Type 0
AreWide widths = (p w : ℕ) → slice_get widths p ≡ Some w → 1 < 2 ^ w

-- a slot that has the component has one instance, with a cell of its own at each port
abbrev pub IsLonePart : List Instance → Type 0
IsLonePart part = (S : Stock ℕ) (slot : ℕ) → S slot ≡ Some (Part part) → IsLone S slot
