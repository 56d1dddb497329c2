-- What is remembered, as a stock.
use Rattle.std.specs.Prelude.{◌≡◌, ℕ, ◌≤◌, List, Option, None, length, slice_get}
use Rattle.std.specs.Option.{option_flatten}
use Rattle.circuit_model.specs.declared.model.Assumption.{Assumption}
use Rattle.circuit_model.specs.Stock.{Stock}
use Rattle.environment_sets.specs.declared.environment.TheConstants.{SLOTS}

-- what is remembered, by slot
abbrev pub stock : List (Option Assumption) → Stock ℕ
stock slots k = option_flatten (slice_get slots k)

-- no slot from the end on is taken
abbrev pub AreFreeFrom : List (Option Assumption) → ℕ → Type 0
AreFreeFrom slots end = (k : ℕ) → end ≤ k → stock slots k ≡ None

-- there are as many slots as there may be, and none from the end on is taken
pub record AreSlots (slots : List (Option Assumption)) (end : ℕ) : Type 0 where
  pub wide : length slots ≡ SLOTS
  pub within : end ≤ SLOTS
  pub free : AreFreeFrom slots end
