use Rattle.std.proofs.Common.{append_assoc}
use Rattle.workload_maker.specs.Boxes as spec
use Rattle.workload_maker.proofs.boxes.add_box.Goals as goal

pub returns : goal.returns
unfolding spec.polybox
returns c =
    let nets = c.in_ok-extend_from_slice.ensures.items in
    let components = c.in_ok-extend_from_slice-2.ensures.items in
    let readings = c.in_ok-extend_from_slice-3.ensures.items in
    rw (readings, components, nets, c.nets.ensures, c.components.ensures, c.readings.ensures, c.inputs_of.ensures.value) (simp append_assoc)
