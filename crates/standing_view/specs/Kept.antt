-- How what stands is kept.
use Rattle.std.specs.Prelude.{◌≡◌, ◌+◌, ◌≤◌, length, take, drop, vec_capacity}
use Rattle.circuit_model.specs.declared.limits.TheConstants.{MOST_PARTS, MOST_READINGS}
use Rattle.environment_sets.specs.Members.{members}
use Rattle.standing_view.specs.declared.standing.Standing.TheInside.{Inside}
use Rattle.standing_view.specs.Standing.{Stands, IsStanding, parts_of, readings_of}

-- what stands, by the parts of the order
abbrev pub stands_of : Inside → Stands
stands_of s = record { parts = take s.parts s.order.items; cells = s.cells.items; slots = drop s.parts s.order.items }

-- The parts are the first slots of the order, the two environments have the slots of the parts and those of the
-- measurements, and there is room for all that may stand.
pub record IsKept (s : Inside) : Type 0 where
  pub standing : IsStanding (stands_of s)
  pub count : s.parts ≤ length s.order.items
  pub components : members s.components ≡ parts_of (stands_of s)
  pub measurements : members s.measurements ≡ readings_of (stands_of s)
  pub room : MOST_PARTS + MOST_READINGS ≤ vec_capacity s.order
  pub cells_room : MOST_READINGS ≤ vec_capacity s.cells
