use Rattle.answer_text.proofs.StepLines.{given_at}
use Rattle.answer_text.proofs.derivations.put_facts.Goals as goal

pub put_two_facts-requires-clause-first : goal.put_two_facts-requires-clause-first
put_two_facts-requires-clause-first g c = λ f at. c.requires f (given_at c.args.from.now 0 f at)

pub put_two_facts-requires-clause-second : goal.put_two_facts-requires-clause-second
put_two_facts-requires-clause-second g c = λ f at. c.requires f (given_at c.args.from.now 1 f at)
