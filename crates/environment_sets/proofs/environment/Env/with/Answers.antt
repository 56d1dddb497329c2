use Rattle.std.proofs.Common.{◌/◌, ◌<◌, length, arith}
use Rattle.environment_sets.specs.declared.environment.TheConstants.{WORD_BITS}
use Rattle.environment_sets.specs.Members.{members}
use Rattle.environment_sets.proofs.Words.{slots_in-with, fits-with}
use Rattle.environment_sets.proofs.environment.Env.with.Goals as goal

pub invariant_of-result-clause-fit : goal.invariant_of-result-clause-fit
invariant_of-result-clause-fit c = fits-with c.args.self.words c.args.slot c.args.self.fit

pub returns : goal.returns
unfolding members
returns c = let inside : c.args.slot / WORD_BITS < length c.args.self.words = omega (arith, c.args.self.full, c.requires) in slots_in-with c.args.self.words c.args.slot inside
