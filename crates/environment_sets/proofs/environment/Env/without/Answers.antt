use Rattle.std.proofs.Common.{◌/◌, ◌<◌, length, arith}
use Rattle.environment_sets.specs.declared.environment.TheConstants.{WORD_BITS}
use Rattle.environment_sets.specs.Members.{members}
use Rattle.environment_sets.proofs.Words.{slots_in-without}
use Rattle.environment_sets.proofs.environment.Env.without.Goals as goal

pub returns : goal.returns
unfolding members
returns c = let inside : c.args.slot / WORD_BITS < length c.args.self.words = omega (arith, c.args.self.full, c.requires) in slots_in-without c.args.self.words c.args.slot inside
