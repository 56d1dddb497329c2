use Rattle.std.proofs.Common.{◌≡◌, drop, bit_or}
use Rattle.environment_sets.specs.Signatures.{union_of}
use Rattle.environment_sets.proofs.environment.Env.signature.Given as goal

abbrev pub invariant-loop-i : goal.invariant-loop-i
invariant-loop-i l = bit_or l.signature (union_of (drop l.i l.self.words)) ≡ union_of l.self.words
