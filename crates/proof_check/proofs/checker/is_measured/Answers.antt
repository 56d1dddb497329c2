use Rattle.std.proofs.Common.{true≢false, sym, ◌∙◌}
use Rattle.circuit_model.specs.Chosen.{chosen_places}
use Rattle.circuit_model.specs.Present.{circuit_of}
use Rattle.proof_check.proofs.Assumed.{cell_chosen, reading_assumed, assumed_reading}
use Rattle.proof_check.proofs.checker.is_measured.Goals as goal

pub returns-then-has_cell : goal.returns-then-has_cell
returns-then-has_cell c = (
  λ t.
      assumed_reading (circuit_of c.args.present.now) (chosen_places c.args.chosen.now) c.args.fact (record {
        chosen = (cell_chosen c.args.chosen.now.readings c.args.fact.cell).0 (c.has_cell.ensures.0 c.if-has_cell.true);
        there = sym c.reading_at.ensures ∙ c.is_word.ensures.0 t;
      }),
  λ h. c.is_word.ensures.1 (c.reading_at.ensures ∙ (reading_assumed (circuit_of c.args.present.now) (chosen_places c.args.chosen.now) c.args.fact h).there),
)

pub returns-else-has_cell : goal.returns-else-has_cell
returns-else-has_cell c = (
  λ t. absurd (true≢false (sym t ∙ c.if-has_cell.false)),
  λ h. c.has_cell.ensures.1 ((cell_chosen c.args.chosen.now.readings c.args.fact.cell).1 (reading_assumed (circuit_of c.args.present.now) (chosen_places c.args.chosen.now) c.args.fact h).chosen),
)
