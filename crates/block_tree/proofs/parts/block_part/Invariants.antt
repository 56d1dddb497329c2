use Rattle.std.proofs.Common.{◌≡◌, take}
use Rattle.std.specs.List.{flat_map}
use Rattle.circuit_model.specs.Blocks.{inner_instances}
use Rattle.circuit_model.specs.Present.{block_at}
use Rattle.block_tree.proofs.parts.block_part.Given as goal

-- the instances of the inner components so far
abbrev pub invariant-loop-place : goal.invariant-loop-place
invariant-loop-place l = l.part ≡ flat_map (inner_instances (block_at l.present l.block).pins l.nets l.present.cycles) (take l.place (block_at l.present l.block).inners)
