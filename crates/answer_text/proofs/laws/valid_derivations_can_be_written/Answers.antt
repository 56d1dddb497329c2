use Rattle.answer_text.proofs.Nameable as lemmas
use Rattle.answer_text.proofs.laws.valid_derivations_can_be_written.Goals as goal

pub returns : goal.returns
returns c = lemmas.valid_derivations_can_be_written
