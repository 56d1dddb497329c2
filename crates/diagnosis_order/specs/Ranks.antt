-- Sets with their costs, and how two of them compare.
use Rattle.std.specs.Prelude.{ℕ, Bool, List}
use Rattle.std.specs.Ordering.{nat_cmp, is_lt}
use Rattle.std.specs.declared.cmp.Ordering.{Ordering}
use Rattle.environment_sets.specs.declared.environment.Env.{Env}
use Rattle.environment_sets.specs.Sets.{Set, ◌∩◌}
use Rattle.environment_sets.specs.Members.{members}
use Rattle.environment_sets.specs.Orders.{first_of_both, compare_in}
use Rattle.diagnosis_order.specs.declared.ranks.Ranked.{Ranked}
use Rattle.environment_sets.specs.Costs.{cost_in}

-- the environment with its cost
abbrev pub ranked_of : List ℕ → List ℕ → Env → Ranked
ranked_of order costs e = record { cost = cost_in order costs (members e); set = e }

-- by cost, then by the order of what is inside L
unfoldable pub compare_ranks : List ℕ → Set ℕ → Ranked → Ranked → Ordering
compare_ranks order L a b = first_of_both (nat_cmp a.cost b.cost) (compare_in order (members a.set ∩ L) (members b.set ∩ L))

-- the one comes before the other
abbrev pub is_before : List ℕ → Set ℕ → Ranked → Ranked → Bool
is_before order L a b = is_lt (compare_ranks order L a b)
