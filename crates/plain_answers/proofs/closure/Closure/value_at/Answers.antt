use Rattle.std.proofs.Common.{◌≡◌, Some, slice_get, sym, ◌∙◌}
use Rattle.proof_check.specs.Closing.{Timed}
use Rattle.plain_answers.proofs.Closings.{word_here, word_later}
use Rattle.plain_answers.proofs.closure.Closure.value_at.Goals as goal

pub returns-then-is_at : goal.returns-then-is_at
returns-then-is_at c =
    let t : Timed = record { fact = c.at-round.result.0; round = c.at-round.result.1 } in
    let view = c.self.view_is in
    let there = c.at-round.ensures in
    let at : slice_get c.args.self.now c.loop-place.place ≡ Some t = cc in
    sym (word_here c.args.self.now c.loop-place.place t c.args.cell at (sym c.is_at.ensures ∙ c.if-is_at.true)) ∙ c.loop-place.invariant

pub loop-place-preserved : goal.loop-place-preserved
loop-place-preserved c =
    let t : Timed = record { fact = c.at-round.result.0; round = c.at-round.result.1 } in
    let view = c.self.view_is in
    let there = c.at-round.ensures in
    let at : slice_get c.args.self.now c.loop-place.place ≡ Some t = cc in
    sym (word_later c.args.self.now c.loop-place.place t c.args.cell at (sym c.is_at.ensures ∙ c.if-is_at.false)) ∙ c.loop-place.invariant
