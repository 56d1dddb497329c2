use Rattle.std.proofs.Common.{◌==◌, sym, ◌∙◌}
use Rattle.answer_text.proofs.Anywhere.{any_at, none_more}
use Rattle.answer_text.proofs.chosen.has_position.Goals as goal

pub returns-then-is_equal : goal.returns-then-is_equal
returns-then-is_equal c = sym (any_at (λ j. j == c.args.position) c.args.places.now c.loop-i.i c.at.result c.at.ensures (sym c.is_equal.ensures ∙ c.if-is_equal.true))

pub loop-i-preserved : goal.loop-i-preserved
loop-i-preserved c = none_more (λ j. j == c.args.position) c.args.places.now c.loop-i.i c.at.result c.loop-i.invariant c.at.ensures (sym c.is_equal.ensures ∙ c.if-is_equal.false)
