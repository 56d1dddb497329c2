use Rattle.std.proofs.Common.{◌≤◌, length, true≢false, sym, ◌∙◌, arith}
use Rattle.environment_sets.specs.Sets.{◌⊆◌}
use Rattle.environment_sets.specs.Members.{members}
use Rattle.antichains.proofs.Signing.{none_before_more}
use Rattle.antichains.proofs.signed_list.SignedList.first_superset.Goals as goal

pub returns-then-is_superset_at : goal.returns-then-is_superset_at
returns-then-is_superset_at c = record { inside = omega (arith, c.args.self.now.list.ok.0, c.len-place-end.ensures, c.loop-place-test.true); none = c.loop-place.invariant }

pub loop-place-preserved : goal.loop-place-preserved
loop-place-preserved c =
    none_before_more (λ e. members c.args.env.now ⊆ members e) c.args.self.now.list.items c.loop-place.place c.loop-place.invariant
    (λ e at within. true≢false (sym ((c.is_superset_at.ensures e at).1 within) ∙ c.if-is_superset_at.false))

pub returns : goal.returns
returns c k e low at within =
    let all : length c.args.self.now.list.items ≤ c.loop-place.place = omega (arith, c.args.self.now.list.ok.0, c.len-place-end.ensures, c.loop-place-test.false) in
    c.loop-place.invariant k e (omega (arith, low, all)) at within
