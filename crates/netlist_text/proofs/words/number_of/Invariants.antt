use Rattle.std.proofs.Common.{take, ◌≡◌, ◌^◌, ◌<◌}
use Rattle.netlist_text.specs.Words.{number_after}
use Rattle.netlist_text.proofs.words.number_of.Given as goal

abbrev pub invariant-loop-b : goal.invariant-loop-b
invariant-loop-b l = (l.number ≡ number_after 0 (take l.b-index l.word)) × (l.number < 10 ^ l.b-index)
