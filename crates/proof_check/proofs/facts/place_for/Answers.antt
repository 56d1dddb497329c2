use Rattle.std.proofs.Common.{ℕ, ◌+◌, ◌-◌, ◌/◌, ◌<◌, get_or, length, sym, ◌∙◌, arith}
use Rattle.std.proofs.lemmas.Option.{slice_get-get_or}
use Rattle.proof_check.proofs.Ordered.{AreBefore-at, AreFrom-at, no_fact}
use Rattle.proof_check.proofs.facts.place_for.Goals as goal

pub loop-low-preserved-then-comes_before : goal.loop-low-preserved-then-comes_before
loop-low-preserved-then-comes_before c =
    let m : ℕ = c.loop-low.low + (c.loop-low.high - c.loop-low.low) / 2 in
    let inside : m < length c.args.facts.now = omega arith in
    record {
      ordered = omega arith;
      within = c.loop-low.invariant.within;
      below = AreBefore-at c.args.facts.now c.requires c.args.fact (get_or c.args.facts.now m no_fact) m (slice_get-get_or c.args.facts.now m no_fact inside) (sym c.comes_before.ensures ∙ c.if-comes_before.true);
      above = c.loop-low.invariant.above;
    }

pub loop-low-preserved : goal.loop-low-preserved
loop-low-preserved c =
    let m : ℕ = c.loop-low.low + (c.loop-low.high - c.loop-low.low) / 2 in
    let inside : m < length c.args.facts.now = omega arith in
    record {
      ordered = omega arith;
      within = omega arith;
      below = c.loop-low.invariant.below;
      above = AreFrom-at c.args.facts.now c.requires c.args.fact (get_or c.args.facts.now m no_fact) m (slice_get-get_or c.args.facts.now m no_fact inside) (sym c.comes_before.ensures ∙ c.if-comes_before.false);
    }
