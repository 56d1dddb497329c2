-- How the history is kept.
use Rattle.std.specs.Prelude.{◌≡◌, ◌≤◌, length}
use Rattle.circular_buffer.specs.Buffer.{Buffer}
use Rattle.circuit_model.specs.declared.limits.TheConstants.{MOST_EARLIER}
use Rattle.present_history.specs.declared.undoing.Undoing.{Undoing}

-- there is room for as many changes as a session keeps, and no more
pub record IsKept (b : Buffer Undoing) : Type 0 where
  pub room : b.capacity ≡ MOST_EARLIER
  pub most : length b.items ≤ MOST_EARLIER
