use Rattle.std.proofs.Common.{arith, true≢false, sym, ◌∙◌}
use Rattle.environment_sets.specs.Members.{members}
use Rattle.first_diagnoses.specs.declared.bound.Bound.{Bound}
use Rattle.first_diagnoses.proofs.Bounding.{none_sought, bound_more}
use Rattle.first_diagnoses.proofs.bound.with_conflict.Goals as goal

pub returns-then-meets : goal.returns-then-meets
returns-then-meets c = c.requires.bound

pub returns-then-not-meets : goal.returns-then-not-meets
returns-then-not-meets c =
    none_sought c.args.problem.now c.args.branch.now (members c.args.conflict.now) c.requires.conflict (λ hit. true≢false (sym (c.meets.ensures.1 hit) ∙ c.if-meets.false)) (λ hit. true≢false (sym (c.meets-2.ensures.1 hit) ∙ c.if-not-meets.true))

pub returns-then-meets-2 : goal.returns-then-meets-2
returns-then-meets-2 c = c.requires.bound

pub returns : goal.returns
returns c =
    let next : Bound = record { least = c.saturating_add.result; taken = c.union.result } in
    bound_more c.args.problem.now c.args.branch.now c.requires.problem c.requires.branch c.args.bound.now next c.args.conflict.now c.meet-open.result c.lightest-lightest.result c.requires.bound c.requires.conflict (λ hit. true≢false (sym (c.meets.ensures.1 hit) ∙ c.if-meets.false)) c.meet-open.ensures (λ hit. true≢false (sym (c.meets-3.ensures.1 hit) ∙ c.if-meets-2.false)) c.lightest-lightest.ensures (omega (arith, c.saturating_add.ensures)) c.union.ensures
