use Rattle.std.proofs.Common.{◌≤◌, ℕ, inl, inr, IsTrue, get_or, arith, subst}
use Rattle.std.proofs.lemmas.Bool.{cases_eq}
use Rattle.environment_sets.specs.Members.{members}
use Rattle.environment_sets.proofs.Listings.{IsIn-get_or}
use Rattle.first_diagnoses.proofs.problem.lightest.Goals as goal

pub limit_at-requires : goal.limit_at-requires
limit_at-requires c = c.requires.slots.below _ (IsIn-get_or c.args.problem.now.order.now c.loop-i.i 0 c.loop-i-test.true)

pub loop-i-init : goal.loop-i-init
loop-i-init c = λ i from to is. absurd (omega arith)

pub loop-i-preserved : goal.loop-i-preserved
loop-i-preserved c = λ i from to is.
    let order = c.args.problem.now.order.now in
    let weights = c.args.problem.now.weights.now in
    let E = members c.args.set.now in
    elim (cases_eq c.loop-i.i i) [
      | inl same ↦ subst (λ (j : ℕ). IsTrue (E (get_or order j 0)) → c.min-least.result ≤ get_or weights j 0) same (λ there.
          let here : c.limit_at.result ≤ get_or weights c.loop-i.i 0 = c.limit_at.ensures there in
          omega (arith, c.min-least.ensures)) is
      | inr other ↦
          let before : c.loop-i.least ≤ get_or weights i 0 = c.loop-i.invariant i from (omega arith) is in
          omega (arith, c.min-least.ensures)
    ]

pub returns : goal.returns
returns c = λ i from to is. c.loop-i.invariant i from (omega arith) is
