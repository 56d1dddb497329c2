use Rattle.std.proofs.Common.{sym, ◌∙◌, refl, true≢false}
use Rattle.circuit_model.specs.Kinds.{cell_at}
use Rattle.plain_answers.proofs.Rows.{within_more, within_all}
use Rattle.plain_answers.proofs.flags.are_within.Goals as goal

pub loop-net-preserved : goal.loop-net-preserved
loop-net-preserved c = within_more c.args.rows.now c.args.others.now c.loop-net.net (c.is_within.ensures.0 c.if-not-is_within.false) c.loop-net.invariant

pub returns-then-not-is_within : goal.returns-then-not-is_within
returns-then-not-is_within c = (
  λ never. absurd (true≢false (sym never)),
  λ all. absurd (true≢false (sym (c.is_within.ensures.1 (λ k m. all (cell_at k c.loop-net.net) m)) ∙ c.if-not-is_within.true)),
)

pub returns : goal.returns
returns c = (λ _. within_all c.args.rows.now c.args.others.now c.loop-net.net c.loop-net-test.false c.loop-net.invariant, λ _. refl)
