use Rattle.std.proofs.Common.{◌≡◌, ◌++◌, ◌+◌, ◌-◌}
use Rattle.std.specs.List.{All}
use Rattle.netlist_text.specs.Grammar.{IsPadded}
use Rattle.workload_maker.specs.Boxes.{boxes, boxes_from}
use Rattle.workload_maker.proofs.making.made.Given as goal

-- what is made so far and what is left are all the boxes
abbrev pub invariant-loop-box_before : goal.invariant-loop-box_before
invariant-loop-box_before l = record {
  made : l.changes.items ++ boxes_from (l.box_before + 1) (l.count - l.box_before) l.generator ≡ boxes l.count l.seed;
  padded : All IsPadded l.changes.items;
}
