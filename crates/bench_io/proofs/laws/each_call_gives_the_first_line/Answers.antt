use Rattle.bench_io.proofs.LineLaws.{calls_give_first}
use Rattle.bench_io.proofs.laws.each_call_gives_the_first_line.Goals as goal

pub returns : goal.returns
returns c = calls_give_first
