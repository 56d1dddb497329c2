use Rattle.std.proofs.Common.{ℕ, ◌≤◌, List, sum, sym, ap, subst, ◌∙◌}
use Rattle.probe_planner.specs.Words.{score_by}
use Rattle.probe_planner.proofs.Weighed.{within_total}
use Rattle.probe_planner.proofs.scores.score_at.Goals as goal

pub score_of-requires-clause-words : goal.score_of-requires-clause-words
score_of-requires-clause-words c =
    subst (λ (ns : List ℕ). sum ns ≤ c.args.weighed.now.total) (sym c.deref.ensures.value) (within_total c.args.engine.now c.args.standing.now c.args.weighed.now c.args.cell c.requires c.in_ok-words.words.items c.in_ok-words.ensures)

pub returns : goal.returns
returns c = record {
  weights = c.in_ok-words.words.items;
  exact = c.in_ok-words.ensures;
  is = c.score_of.ensures ∙ ap (λ (ns : List ℕ). score_by ns c.args.weighed.now.total) c.deref.ensures.value;
}
