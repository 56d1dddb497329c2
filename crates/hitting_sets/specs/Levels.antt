-- What is kept of a list of conflicts.
use Rattle.std.specs.Prelude.{◌≡◌, ℕ, ◌+◌, List, map, take, slice_get, Some}
use Rattle.environment_sets.specs.declared.environment.Env.{Env}
use Rattle.hitting_sets.specs.declared.levels.Level.{Level}
use Rattle.hitting_sets.specs.Hitting.{AreMinimalFor}

-- the conflicts of the levels
abbrev pub conflicts_of : List Level → List Env
conflicts_of levels = map (λ l. l.conflict) levels

-- each level has the minimal hitting sets of the conflicts up to its own
abbrev pub AreLevels : List Level → Type 0
AreLevels levels = (i : ℕ) (level : Level) → slice_get levels i ≡ Some level → AreMinimalFor (take (i + 1) (conflicts_of levels)) level.sets.items
