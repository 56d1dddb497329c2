use Rattle.environment_sets.proofs.Stepping.{no_bit_from, next_bit_from}
use Rattle.environment_sets.proofs.word.next_bit.Goals as goal

pub returns-then-rest-eq0-clause-next : goal.returns-then-rest-eq0-clause-next
returns-then-rest-eq0-clause-next c = no_bit_from c.args.word c.args.from c.ranges.word.fits c.requires c.if-rest-eq0.true

pub returns-clause-next : goal.returns-clause-next
returns-clause-next c = next_bit_from c.args.word c.args.from c.ranges.word.fits c.requires c.if-rest-eq0.false
