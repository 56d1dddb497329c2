use Rattle.std.proofs.Common.{false, replicate}
use Rattle.plain_answers.specs.declared.sizes.TheConstants.{CYCLES, NETS, PARTS}
use Rattle.plain_answers.proofs.Rows.{get_or-all_false, flag_at-all_false, IsEmpty-members}
use Rattle.plain_answers.proofs.environment.Environment.empty.Goals as goal

pub returns : goal.returns
returns c =
    IsEmpty-members (record { parts = replicate PARTS false; cells = replicate NETS (replicate CYCLES false) }) (get_or-all_false PARTS) (flag_at-all_false NETS CYCLES)
