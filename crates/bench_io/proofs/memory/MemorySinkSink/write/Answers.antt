use Rattle.std.proofs.Common.{rules}
use Rattle.bench_io.proofs.memory.MemorySinkSink.write.Goals.{then-n-eq0-via-then-n-eq0, then-n-eq0-via-else-n-eq0+then-contains}
use Rattle.bench_io.proofs.memory.MemorySinkSink.write.Goals as goal

pub returns-then-n-eq0-clause-exact : goal.returns-then-n-eq0-clause-exact
returns-then-n-eq0-clause-exact c = elim c.then-n-eq0.branch [
  | then-n-eq0-via-then-n-eq0 w ↦ search rules
  | then-n-eq0-via-else-n-eq0+then-contains w ↦ search rules
]
