-- How a present is kept.
use Rattle.std.specs.Prelude.{◌≤◌, vec_capacity}
use Rattle.indexmap.specs.IndexMap.{values}
use Rattle.circuit_model.specs.declared.present.Present.TheInside.{Inside}
use Rattle.circuit_model.specs.Present.{PresentView, IsLawful}
use Rattle.circuit_model.specs.Tables.{nets_of, StandByName}
use Rattle.circuit_model.specs.declared.limits.TheConstants.{MOST_READINGS}

-- the present that is kept in these tables and vectors
abbrev pub view_of : Inside → PresentView
view_of p = record { cycles = p.cycles; nets = nets_of p.nets.entries; parts = values p.parts; readings = p.readings.items; modes = p.modes.items; blocks = values p.blocks }

-- the present is lawful, each component and each definition stands under its own name, and there is room for each measurement that may stand
pub record IsKept (p : Inside) : Type 0 where
  pub lawful : IsLawful (view_of p)
  pub part_names : StandByName (λ c. c.name) p.parts.entries
  pub block_names : StandByName (λ b. b.name) p.blocks.entries
  pub room : MOST_READINGS ≤ vec_capacity p.readings
