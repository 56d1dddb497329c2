use Rattle.std.proofs.Common.{codes, decimal, [], ◌∷◌, ap}
use Rattle.netlist_text.specs.Show.{text_of_lines}
use Rattle.bench_io.proofs.PutParts.{Puts-then, Puts-as, Writes-failed, Writes-done}
use Rattle.netlist_text.proofs.ShownParts.{present-text}
use Rattle.netlist_text.proofs.show.write_present.Goals as goal

pub returns-then-put_line : goal.returns-then-put_line
returns-then-put_line g c = Writes-failed c.if-put_line.true
    (Puts-as (present-text c.args.present.now) (Puts-then (Puts-then (Puts-then (Puts-then (Puts-then (Puts-then (Puts-then (Puts-then c.put_line-failed.ensures (Puts-as (ap (λ n. text_of_lines ((codes "cycles" ∷ decimal n ∷ []) ∷ [])) c.cycles.ensures.value) c.put_line_with-failed.ensures)) c.put_nets-failed.ensures) c.put_blocks-failed.ensures) c.put_components-failed.ensures) c.put_costs-failed.ensures) c.put_modes-failed.ensures) c.put_readings-failed.ensures) c.put_line.ensures))

pub returns : goal.returns
returns g c = Writes-done c.if-put_line.false
    (Puts-as (present-text c.args.present.now) (Puts-then (Puts-then (Puts-then (Puts-then (Puts-then (Puts-then (Puts-then (Puts-then c.put_line-failed.ensures (Puts-as (ap (λ n. text_of_lines ((codes "cycles" ∷ decimal n ∷ []) ∷ [])) c.cycles.ensures.value) c.put_line_with-failed.ensures)) c.put_nets-failed.ensures) c.put_blocks-failed.ensures) c.put_components-failed.ensures) c.put_costs-failed.ensures) c.put_modes-failed.ensures) c.put_readings-failed.ensures) c.put_line.ensures))
