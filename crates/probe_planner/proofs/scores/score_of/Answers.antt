use Rattle.std.proofs.Common.{◌≡◌, ◌+◌, ◌-◌, ◌*◌, ◌<◌, ◌^◌, take, get_or, ap, ap₂, arith}
use Rattle.std.specs.List.{sum_by}
use Rattle.probe_planner.proofs.Bounds.{score_small, score_step, score_done}
use Rattle.probe_planner.proofs.scores.score_of.Goals as goal

pub loop-word-init : goal.loop-word-init
loop-word-init c =
    let product : c.from.result * c.from-2.result ≡ (c.args.total - c.total_of.result) * c.args.total = ap₂ (λ a b. a * b) c.from.ensures c.from-2.ensures in
    record { all = omega (arith, c.total_of.ensures, c.requires.words); so = omega (arith, product) }

pub overflow_add-score-in-loop-word : goal.overflow_add-score-in-loop-word
overflow_add-score-in-loop-word c =
    let words = c.args.words.now in
    let silent = c.args.total - c.total_of.result in
    let word = get_or words c.loop-word.word-index 0 in
    let product : c.from-in-loop-word.result * (c.from-in-loop-word-2.result + c.from-in-loop-word-3.result) ≡ word * (word + silent) = ap₂ (λ a b. a * b) c.from-in-loop-word.ensures (ap₂ (λ a b. a + b) c.from-in-loop-word-2.ensures c.from-in-loop-word-3.ensures) in
    let step : sum_by (λ s. s * (s + silent)) (take (c.loop-word.word-index + 1) words) ≡ sum_by (λ s. s * (s + silent)) (take c.loop-word.word-index words) + word * (word + silent) = score_step silent words c.loop-word.word-index c.loop-word-test.true in
    let small : silent * c.args.total + sum_by (λ s. s * (s + silent)) (take (c.loop-word.word-index + 1) words) < 2 ^ 128 = score_small silent c.args.total words (c.loop-word.word-index + 1) c.loop-word.invariant.all c.requires.few in
    let so : c.loop-word.score ≡ silent * c.args.total + sum_by (λ s. s * (s + silent)) (take c.loop-word.word-index words) = c.loop-word.invariant.so in
    omega (arith, product, step, small, so)

pub loop-word-preserved : goal.loop-word-preserved
loop-word-preserved c =
    let words = c.args.words.now in
    let silent = c.args.total - c.total_of.result in
    let word = get_or words c.loop-word.word-index 0 in
    let product : c.from-in-loop-word.result * (c.from-in-loop-word-2.result + c.from-in-loop-word-3.result) ≡ word * (word + silent) = ap₂ (λ a b. a * b) c.from-in-loop-word.ensures (ap₂ (λ a b. a + b) c.from-in-loop-word-2.ensures c.from-in-loop-word-3.ensures) in
    let step : sum_by (λ s. s * (s + silent)) (take (c.loop-word.word-index + 1) words) ≡ sum_by (λ s. s * (s + silent)) (take c.loop-word.word-index words) + word * (word + silent) = score_step silent words c.loop-word.word-index c.loop-word-test.true in
    let so : c.loop-word.score ≡ silent * c.args.total + sum_by (λ s. s * (s + silent)) (take c.loop-word.word-index words) = c.loop-word.invariant.so in
    let now : c.loop-word.score + c.from-in-loop-word.result * (c.from-in-loop-word-2.result + c.from-in-loop-word-3.result) ≡ silent * c.args.total + sum_by (λ s. s * (s + silent)) (take (c.loop-word.word-index + 1) words) = omega (arith, product, step, so) in
    record { all = c.loop-word.invariant.all; so = now }

pub returns : goal.returns
returns c = score_done (c.args.total - c.total_of.result) c.args.total c.args.words.now c.loop-word.word-index c.loop-word.score c.loop-word-test.false (ap (λ n. c.args.total - n) c.total_of.ensures) c.loop-word.invariant.so
