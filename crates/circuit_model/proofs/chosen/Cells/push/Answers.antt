use Rattle.std.proofs.Common.{IsTrue, List, sym, subst}
use Rattle.environment_sets.specs.Lists.{IsIn}
use Rattle.environment_sets.proofs.Listings.{IsRising-push}
use Rattle.circuit_model.specs.declared.model.Cell.{Cell}
use Rattle.circuit_model.specs.Present.{is_cell_before}
use Rattle.circuit_model.specs.Places.{AreCells}
use Rattle.circuit_model.proofs.chosen.Cells.push.Goals as goal

pub invariant_of-self-2 : goal.invariant_of-self-2
invariant_of-self-2 c =
    let cell = c.args.cell in
    let Before : List Cell → Type 0 = λ list. (c : Cell) → IsIn list c → IsTrue (is_cell_before c cell) in
    subst AreCells (sym c.in_ok-push.ensures.items) (IsRising-push (λ c d. IsTrue (is_cell_before c d)) c.self.inside.list.items cell c.self.invariant (subst Before (sym c.self.view_is) c.requires))
