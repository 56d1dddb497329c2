use Rattle.std.proofs.Common.{true≢false, subst, sym, ◌∙◌}
use Rattle.environment_sets.specs.declared.environment.Env.{Env}
use Rattle.environment_sets.specs.Sets.{◌⊆◌}
use Rattle.environment_sets.specs.Members.{members}
use Rattle.environment_sets.proofs.Slots.{same_slots_are_equal}
use Rattle.hitting_sets.proofs.Widening.{same_sets}
use Rattle.hitting_sets.proofs.levels.is_same.Goals as goal

pub returns-then-is_subset : goal.returns-then-is_subset
returns-then-is_subset c = (
  λ is. same_slots_are_equal c.args.a.now c.args.b.now (same_sets (members c.args.a.now) (members c.args.b.now) (c.is_subset.ensures.subset.0 c.if-is_subset.true) (c.is_subset-then-is_subset.ensures.subset.0 is)),
  λ same. c.is_subset-then-is_subset.ensures.subset.1 (subst (λ (e : Env). members e ⊆ members c.args.a.now) same (λ k h. h)),
)

pub returns-else-is_subset : goal.returns-else-is_subset
returns-else-is_subset c = (
  λ is. absurd (true≢false (sym is ∙ c.if-is_subset.false)),
  λ same. absurd (true≢false (sym (c.is_subset.ensures.subset.1 (subst (λ (e : Env). members c.args.a.now ⊆ members e) same (λ k h. h))) ∙ c.if-is_subset.false)),
)
