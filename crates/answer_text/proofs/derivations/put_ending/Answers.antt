use Rattle.answer_text.proofs.derivations.put_ending.Goals as goal

pub returns-in-Refuted : goal.returns-in-Refuted
returns-in-Refuted g c = rw c.in-Refuted.is (c.put_refuted.ensures c.in-Refuted.instance c.in-Refuted.ports)
