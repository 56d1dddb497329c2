use Rattle.netlist_text.proofs.ShownAgain.{shown_again}
use Rattle.netlist_text.proofs.laws.show_and_read_back.Goals as goal

pub returns : goal.returns
returns c = shown_again
