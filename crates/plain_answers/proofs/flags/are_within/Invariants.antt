use Rattle.std.proofs.Common.{◌<◌, IsTrue}
use Rattle.circuit_model.specs.declared.model.Cell.{Cell}
use Rattle.plain_answers.specs.Members.{flag_at}
use Rattle.plain_answers.proofs.flags.are_within.Given as goal

abbrev pub invariant-loop-net : goal.invariant-loop-net
invariant-loop-net l = (c : Cell) → c.net < l.net → IsTrue (flag_at l.rows c) → IsTrue (flag_at l.others c)
