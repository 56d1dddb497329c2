use Rattle.std.proofs.Common.{map, ap, arith, take_all}
use Rattle.bench_io.proofs.PutParts.{Puts-as, Puts-nothing}
use Rattle.netlist_text.specs.Show.{text_of_lines, mode_words}
use Rattle.netlist_text.proofs.ShownParts.{Puts-line_more}
use Rattle.netlist_text.proofs.show.put_modes.Goals as goal

pub loop-place-init : goal.loop-place-init
loop-place-init g c = Puts-nothing _ _

pub loop-place-preserved : goal.loop-place-preserved
loop-place-preserved g c = Puts-line_more c.args.present.now.modes c.loop-place.place _ c.mode_at-name.ensures mode_words c.loop-place.invariant c.put_mode-failed.ensures

pub returns : goal.returns
returns g c = Puts-as (ap (λ xs. text_of_lines (map mode_words xs)) (take_all c.loop-place.place c.args.present.now.modes (omega (arith, c.modes-place-end.ensures.value)))) c.loop-place.invariant
