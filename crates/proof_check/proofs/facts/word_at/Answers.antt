use Rattle.proof_check.proofs.Ordered.{word_found}
use Rattle.proof_check.proofs.facts.word_at.Goals as goal

pub returns : goal.returns
returns c = word_found c.args.facts.now c.requires c.args.cell c.place_for.result c.place_for.ensures c.word_from.result c.word_from.ensures
