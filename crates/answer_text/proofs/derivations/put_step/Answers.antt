use Rattle.answer_text.proofs.derivations.put_step.Goals as goal

pub returns-in-Inferred : goal.returns-in-Inferred
returns-in-Inferred g c = rw c.in-Inferred.is (c.put_inferred.ensures c.in-Inferred.instance c.in-Inferred.ports)
