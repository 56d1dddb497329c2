-- A law of hitting sets.
use Rattle.std.specs.Prelude.{◌↔◌, ℕ, IsTrue, List}
use Rattle.environment_sets.specs.declared.environment.Env.{Env}
use Rattle.environment_sets.specs.Sets.{Set, HitsEach}
use Rattle.environment_sets.specs.Members.{HasMember}
use Rattle.hitting_sets.specs.Own.{HasOwn}
use Rattle.hitting_sets.specs.Hitting.{IsMinimalFor}

-- a set that hits the conflicts is minimal exactly where each of its elements hits some conflict alone
abbrev pub MinimalByOwn : Type 0
MinimalByOwn = (conflicts : List Env) (D : Set ℕ) → HitsEach (HasMember conflicts) D → IsMinimalFor conflicts D ↔ ((k : ℕ) → IsTrue (D k) → HasOwn (HasMember conflicts) D k)
