use Rattle.std.proofs.Common.{◌≡◌, ◌+◌, ◌*◌, sum, take}
use Rattle.std.specs.List.{sum_by}
use Rattle.probe_planner.proofs.scores.score_of.Given as goal

abbrev pub invariant-loop-word : goal.invariant-loop-word
invariant-loop-word l = record {
  all : sum l.words + l.silent ≡ l.total;
  so : l.score ≡ l.silent * l.total + sum_by (λ s. s * (s + l.silent)) (take l.word-index l.words);
}
