use Rattle.std.proofs.Common.{◌≡◌, take}
use Rattle.std.specs.Option.{option_copied, option_map}
use Rattle.environment_sets.specs.Walks.{GivesNextEnv}
use Rattle.antichains.specs.Signed.{size_of}
use Rattle.antichains.proofs.nearest.first_after.Given as goal

abbrev pub invariant-loop-place : goal.invariant-loop-place
invariant-loop-place l = record { gives : GivesNextEnv l.order (take l.place l.signed.list.items) l.mask (option_copied l.last) l.next; most : l.most ≡ option_map size_of l.next }
