use Rattle.std.proofs.Common.{sym, ◌∙◌}
use Rattle.present_history.proofs.Earlier.{IsIn-retracted, retracted-IsIn}
use Rattle.present_history.proofs.history.some_retracts.Goals as goal

pub returns : goal.returns
returns c = (
  (λ e. IsIn-retracted c.args.fact c.args.undoings.now.items (sym c.any_retracts.ensures ∙ e)),
  (λ h. c.any_retracts.ensures ∙ retracted-IsIn c.args.fact c.args.undoings.now.items h),
)
