use Rattle.standing_probe.proofs.Listed as lemmas
use Rattle.standing_probe.proofs.laws.few_diagnoses_are_listed.Goals as goal

pub returns : goal.returns
returns c = lemmas.few_diagnoses_are_listed
