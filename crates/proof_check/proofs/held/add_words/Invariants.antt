use Rattle.proof_check.specs.Rounds.{Adds, IsWordBelow}
use Rattle.proof_check.proofs.held.add_words.Given as goal

abbrev pub invariant-loop-port : goal.invariant-loop-port
invariant-loop-port l = Adds (IsWordBelow l.port l.cells l.words) l.held l.fn.found l.found
