use Rattle.std.proofs.Common.{◌≡◌, ℕ, ◌-◌, List, [], ◌∷◌, ◌++◌, reverse, drop, get_or, sym, ap, ◌∙◌, arith}
use Rattle.std.proofs.Math.Seq.{drop-length}
use Rattle.proof_check.specs.declared.derivation.Step.{Step}
use Rattle.proof_check.specs.declared.derivation.Step.TheVariants.{Measured}
use Rattle.explanations.proofs.Walked.{reverse_more}
use Rattle.explanations.proofs.walk.reversed.Goals as goal

abbrev no_step : Step
no_step = Measured (record { cell = record { net = 0; cycle = 0 }; value = 0 })

pub loop-i-init : goal.loop-i-init
loop-i-init c = c.new-turned.ensures ∙ ap (λ (steps : List Step). reverse steps) (sym (drop-length c.args.steps.now))

pub loop-i-preserved : goal.loop-i-preserved
loop-i-preserved c =
    c.in_ok-push.ensures.ok ∙ (ap (λ (steps : List Step). steps ++ get_or c.args.steps.now (c.loop-i.i - 1) no_step ∷ []) c.loop-i.invariant ∙ sym (reverse_more c.args.steps.now c.loop-i.i no_step c.loop-i-test.true c.loop-i.auto.i))

pub returns : goal.returns
returns c = let e : c.loop-i.i ≡ 0 = omega (arith, c.loop-i-test.false) in c.loop-i.invariant ∙ ap (λ (i : ℕ). reverse (drop i c.args.steps.now)) e
