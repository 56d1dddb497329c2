use Rattle.environment_sets.specs.declared.environment.TheConstants.{WORDS}
use Rattle.environment_sets.specs.Members.{members}
use Rattle.environment_sets.proofs.Words.{slots_in-zeros}
use Rattle.environment_sets.proofs.environment.Env.empty.Goals as goal

pub returns : goal.returns
unfolding members
returns c = slots_in-zeros WORDS
