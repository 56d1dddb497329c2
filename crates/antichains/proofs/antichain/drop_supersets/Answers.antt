use Rattle.std.proofs.Common.{◌≤◌, subst, sym, ◌∙◌, true≢false, ℕ}
use Rattle.environment_sets.specs.Members.{members}
use Rattle.antichains.proofs.Changes.{none_left_out, none_over}
use Rattle.antichains.proofs.antichain.drop_supersets.Goals as goal

pub returns-then-size-largest-clause-left : goal.returns-then-size-largest-clause-left
returns-then-size-largest-clause-left c =
    let P : ℕ → Type 0 = λ n. c.args.largest ≤ n in
    none_left_out c.args.env.now c.args.signed.now.list.items c.args.largest (subst P c.size.ensures c.if-size-largest.true) c.requires.at_most c.requires.out

pub returns-else-is_subset-clause-left : goal.returns-else-is_subset-clause-left
returns-else-is_subset-clause-left c =
    none_over c.args.env.now c.args.signed.now.list.items (members c.args.reach.now) c.requires.within (λ h. true≢false (sym (c.is_subset.ensures.subset.1 h) ∙ c.if-is_subset.false))
