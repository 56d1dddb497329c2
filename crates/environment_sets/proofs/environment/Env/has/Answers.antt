use Rattle.std.proofs.Common.{ap, ◌/◌, ◌%◌, ◌==◌, get_or}
use Rattle.std.proofs.lemmas.Nat.Bits.{shr_and_one}
use Rattle.environment_sets.specs.declared.environment.TheConstants.{WORD_BITS}
use Rattle.environment_sets.specs.Members.{members}
use Rattle.environment_sets.proofs.environment.Env.has.Goals as goal

pub returns : goal.returns
unfolding members
returns c = ap (λ d. d == 1) (shr_and_one (get_or c.args.self.now.words (c.args.slot / WORD_BITS) 0) (c.args.slot % WORD_BITS))
