use Rattle.std.proofs.Common.{sym, ◌∙◌}
use Rattle.netlist_text.specs.Words.{words_of}
use Rattle.netlist_text.proofs.Fitting.{no_fault}
use Rattle.netlist_text.proofs.lines.read_by.Goals as goal

pub request_of-requires-clause-fit : goal.request_of-requires-clause-fit
request_of-requires-clause-fit c = (no_fault c.args.command (words_of c.args.line.now) (sym c.fault_of.ensures ∙ c.in-None.is)).1

pub request_of-requires-clause-most : goal.request_of-requires-clause-most
request_of-requires-clause-most c = (no_fault c.args.command (words_of c.args.line.now) (sym c.fault_of.ensures ∙ c.in-None.is)).0
