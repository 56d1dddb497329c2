use Rattle.std.proofs.Common.{◌≡◌, take}
use Rattle.block_tree.proofs.using.row_of.Given as goal

-- the nets so far
abbrev pub invariant-loop-net : goal.invariant-loop-net
invariant-loop-net l = l.row ≡ take l.net-index l.nets
