use Rattle.std.proofs.lemmas.Bool.{ne_eqb}
use Rattle.bench_io.proofs.PutParts.{Puts-then}
use Rattle.netlist_text.proofs.show.put_cycle.Goals as goal

pub returns : goal.returns
returns g c = rw (ne_eqb c.args.cycle 0 c.if-cycle-eq0.false) (Puts-then c.put-failed.ensures c.put_number.ensures)
