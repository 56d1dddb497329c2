-- What a source or a sink tells of itself.
use Rattle.std.specs.Prelude.{ℕ, List, Option}

-- The bytes that a source has left, or that a sink holds, where it tells them; and how often it has failed.
pub record Telling : Type 0 where
  pub bytes : Option (List ℕ)
  pub faults : ℕ
