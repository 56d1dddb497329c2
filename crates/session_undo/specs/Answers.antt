-- The texts that answers stand for.
use Rattle.std.specs.Prelude.{◌≡◌, ℕ, ◌<◌, List, ◌++◌, codes, length}
use Rattle.std.specs.Option.{ForSome}
use Rattle.answer_text.specs.Texts.{components_lines, best_line}
use Rattle.answer_text.specs.Derivations.{under_line, derivation_lines, CanBeWritten}
use Rattle.circuit_model.specs.Chosen.{chosen_places}
use Rattle.proof_check.specs.Written.{derivation_of}
use Rattle.environment_sets.specs.Members.{sets}
use Rattle.netlist_text.specs.Show as show
use Rattle.session_undo.specs.Presents.{State}
use Rattle.session_undo.specs.Steps.{IsLabelReply}
use Rattle.session_undo.specs.declared.answers.Answer.{Answer}
use Rattle.session_undo.specs.declared.answers.Answer.TheVariants as answer

-- the answer is told as the text
abbrev pub IsToldAs : State → Answer → List ℕ → Type 0
IsToldAs s (answer.Label cell) text = IsLabelReply s.present cell text
IsToldAs s (answer.Conflicts found) text = text ≡ components_lines s.present (sets found) ++ codes "ok\n"
IsToldAs s (answer.Diagnoses found) text = text ≡ components_lines s.present (sets found) ++ codes "ok\n"
IsToldAs s (answer.Probe best) text = text ≡ best_line s.present best ++ codes "ok\n"
IsToldAs s (answer.Explained under derivation) text = text ≡ under_line s.present (chosen_places under) ++ derivation_lines s.present (derivation_of derivation) ++ codes "ok\n"
IsToldAs s answer.Show text = text ≡ show.text_of s.present

-- what the answer speaks of is in the present
abbrev pub IsWritable : State → Answer → Type 0
IsWritable s (answer.Label cell) = cell.net < length s.present.nets
IsWritable s (answer.Conflicts found) = Unit {0}
IsWritable s (answer.Diagnoses found) = Unit {0}
IsWritable s (answer.Probe best) = ForSome best (λ p. p.cell.net < length s.present.nets)
IsWritable s (answer.Explained under derivation) = CanBeWritten s.present (derivation_of derivation)
IsWritable s answer.Show = Unit {0}
