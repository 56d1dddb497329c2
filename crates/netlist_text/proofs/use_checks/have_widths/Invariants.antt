use Rattle.std.proofs.Common.{◌≡◌, ℕ, ◌<◌, get_or, map}
use Rattle.circuit_model.specs.Present.{block_at}
use Rattle.netlist_text.specs.Lookups.{widths_at}
use Rattle.netlist_text.proofs.use_checks.have_widths.Given as goal

abbrev pub invariant-loop-place : goal.invariant-loop-place
invariant-loop-place l = (k : ℕ) → k < l.place → get_or (widths_at l.present l.row) k 0 ≡ get_or (map (λ p. p.width) (block_at l.present l.block).pins) k 0
