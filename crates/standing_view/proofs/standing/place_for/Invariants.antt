use Rattle.std.proofs.Common.{◌≡◌, ◌+◌, drop}
use Rattle.standing_view.specs.Standing.{place_among}
use Rattle.standing_view.proofs.standing.place_for.Given as goal

abbrev pub invariant-loop-place : goal.invariant-loop-place
invariant-loop-place l = l.place + place_among l.cell (drop l.place l.cells) ≡ place_among l.cell l.cells
