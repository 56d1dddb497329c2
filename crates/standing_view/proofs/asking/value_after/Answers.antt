use Rattle.environment_sets.specs.Members.{members}
use Rattle.assumption_slots.specs.Slots.{stock}
use Rattle.standing_view.proofs.Asked.{next_word, word_standing, words_standing}
use Rattle.standing_view.proofs.asking.value_after.Goals as goal

pub returns-clause-next : goal.returns-clause-next
returns-clause-next c = λ P parked r.
    let S = stock c.args.engine.now.slots in
    let st = c.args.standing.now in
    next_word S st P parked r c.args.cell c.args.last c.values_after.result (word_standing st c.args.cell (members c.mask-mask.result) c.mask-mask.ensures S c.args.last c.values_after.result c.values_after.ensures.next)

pub returns-clause-falls : goal.returns-clause-falls
returns-clause-falls c =
    words_standing c.args.standing.now c.args.cell (members c.mask-mask.result) c.mask-mask.ensures c.args.engine.now.kept c.args.last c.values_after.result c.values_after.ensures.falls

pub returns-clause-slots : goal.returns-clause-slots
returns-clause-slots c =
    word_standing c.args.standing.now c.args.cell (members c.mask-mask.result) c.mask-mask.ensures (stock c.args.engine.now.slots) c.args.last c.values_after.result c.values_after.ensures.next
