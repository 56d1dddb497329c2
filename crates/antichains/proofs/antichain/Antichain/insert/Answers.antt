use Rattle.std.proofs.Common.{true≢false, sym, ◌∙◌}
use Rattle.antichains.proofs.antichain.Antichain.insert.Goals as goal

pub add-requires : goal.add-requires
add-requires c = λ covered. true≢false (sym (c.is_covered.ensures.covered.1 covered) ∙ c.if-is_covered.false)
