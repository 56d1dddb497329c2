use Rattle.std.proofs.Common.{true≢false, sym, ◌∙◌}
use Rattle.circuit_model.specs.Diagnoses.{AtPart, AtCell}
use Rattle.plain_answers.proofs.Rows.{members_within}
use Rattle.plain_answers.proofs.environment.Environment.is_subset.Goals as goal

pub returns-then-is_within : goal.returns-then-is_within
returns-then-is_within c = (
  λ h. members_within c.args.self.now c.args.other.now (c.is_within.ensures.0 c.if-is_within.true) (c.are_within.ensures.0 h),
  λ h. c.are_within.ensures.1 (λ k m. h (AtCell k) m),
)

pub returns-else-is_within : goal.returns-else-is_within
returns-else-is_within c = (
  λ h. absurd (true≢false (sym h ∙ c.if-is_within.false)),
  λ h. c.is_within.ensures.1 (λ k m. h (AtPart k) m),
)
