use Rattle.std.proofs.Common.{None, get_or, arith}
use Rattle.std.proofs.lemmas.Option.{slice_get-get_or}
use Rattle.proof_check.specs.Rounds.{no_cell}
use Rattle.proof_check.proofs.HeldWords.{AddsBelow-none, AddsBelow-more}
use Rattle.proof_check.proofs.held.add_words.Goals as goal

pub loop-port-init : goal.loop-port-init
loop-port-init c = AddsBelow-none c.args.cells.now c.args.words.now c.args.held.now c.args.found.now

pub loop-port-preserved : goal.loop-port-preserved
loop-port-preserved c =
    AddsBelow-more c.args.cells.now c.args.words.now c.args.held.now c.loop-port.port (get_or c.args.cells.now c.loop-port.port no_cell) (get_or c.args.words.now c.loop-port.port None) c.args.found.now c.loop-port.found c.add_word.new.found
    (slice_get-get_or c.args.cells.now c.loop-port.port no_cell (omega (arith, c.told-cells))) (slice_get-get_or c.args.words.now c.loop-port.port None (omega (arith, c.told-words))) c.loop-port.invariant c.in_ok-add_word.ensures
