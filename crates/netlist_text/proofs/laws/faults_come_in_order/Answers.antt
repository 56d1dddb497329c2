use Rattle.netlist_text.proofs.Faulty.{in_order}
use Rattle.netlist_text.proofs.laws.faults_come_in_order.Goals as goal

pub returns : goal.returns
returns c = in_order
