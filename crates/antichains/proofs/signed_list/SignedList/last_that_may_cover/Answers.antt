use Rattle.std.proofs.Common.{◌≡◌, inl, inr, ◌-◌, arith, subst, true≢false, sym, ◌∙◌}
use Rattle.std.proofs.lemmas.Bool.{cases_lt}
use Rattle.antichains.specs.Signed.{MayCover}
use Rattle.antichains.proofs.signed_list.SignedList.last_that_may_cover.Goals as goal

pub loop-block-init : goal.loop-block-init
loop-block-init c k from before may = absurd (omega (arith, from, before))

pub loop-block-preserved : goal.loop-block-preserved
loop-block-preserved c k from before may =
    elim (cases_lt k c.loop-block.block) [
      | inl low ↦
          let same : k ≡ c.loop-block.block - 1 = omega (arith, from, low) in
          true≢false (sym (c.may_cover.ensures.1 (subst (MayCover c.args.self.now.shared.items c.args.signature) same may)) ∙ c.if-may_cover.false)
      | inr high ↦ c.loop-block.invariant k high before may
    ]

pub returns-then-may_cover : goal.returns-then-may_cover
returns-then-may_cover c = record {
  before = omega (arith, c.loop-block.auto.block, c.loop-block-test.true);
  may = c.may_cover.ensures.0 c.if-may_cover.true;
  last = λ k from before may. c.loop-block.invariant k (omega (arith, from, c.loop-block-test.true)) before may;
}

pub returns : goal.returns
returns c k from before may = c.loop-block.invariant k (omega (arith, c.loop-block-test.false)) before may
