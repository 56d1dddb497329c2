use Rattle.std.proofs.Common.{◌≡◌, ℕ, not, ap, subst, sym, ◌∙◌, arith}
use Rattle.plain_answers.specs.Members.{members}
use Rattle.plain_answers.specs.Tests.{AreOthers}
use Rattle.plain_answers.proofs.Positions.{others_none, others_more, others_same, others_all}
use Rattle.plain_answers.proofs.keeping.other_parts.Goals as goal
use Rattle.plain_answers.proofs.keeping.other_parts.Goals.{then-not-has_part, else-not-has_part}

pub loop-place-init : goal.loop-place-init
loop-place-init c = others_none _ _ c.empty-others.ensures

pub loop-place-preserved : goal.loop-place-preserved
loop-place-preserved c =
    elim c.if-not-has_part.branch [
      | then-not-has_part w ↦ rw w.others-is (others_more _ _ _ _ (ap not (sym c.has_part.ensures ∙ w.if-not-has_part.true)) w.with_part-others.ensures c.loop-place.invariant)
      | else-not-has_part w ↦ rw w.others-is (others_same _ _ _ (ap not (sym c.has_part.ensures ∙ w.if-not-has_part.false)) c.loop-place.invariant)
    ]

pub returns : goal.returns
returns c =
    let all : c.loop-place.place ≡ c.parts-place-end.result = omega arith in
    subst (λ (n : ℕ). AreOthers n (members c.args.one.now) (members c.loop-place.others)) (all ∙ c.parts-place-end.ensures.value) (others_all _ _ _ c.loop-place.invariant)
