use Rattle.bench_io.proofs.LineLaws.{cuts_lines}
use Rattle.bench_io.proofs.laws.bytes_are_cut_at_newlines.Goals as goal

pub returns : goal.returns
returns c = cuts_lines
