-- The state of a hitter.
use Rattle.std.specs.Prelude.{Bool, List}
use Rattle.environment_sets.specs.declared.environment.Env.{Env}

-- what a hitter stands for
pub record HitterState : Type 0 where
  -- whether the hitting sets may be asked for
  pub ready : Bool
  -- the conflicts that they hit
  pub conflicts : List Env
