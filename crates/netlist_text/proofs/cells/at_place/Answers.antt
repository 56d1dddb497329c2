use Rattle.std.proofs.Common.{arith, rules, sym}
use Rattle.std.proofs.lemmas.List.Sums.{position_or_len_is}
use Rattle.netlist_text.specs.Cells.{is_at}
use Rattle.netlist_text.proofs.cells.at_place.Goals as goal

pub returns-then-b-eq64 : goal.returns-then-b-eq64
returns-then-b-eq64 c = sym (position_or_len_is is_at c.args.word.now c.loop-i.i 0 (omega arith) c.loop-i.invariant (λ _. search rules))

pub returns : goal.returns
returns c = sym (position_or_len_is is_at c.args.word.now _ 0 (omega arith) (λ k h. c.loop-i.invariant k (omega arith)) (λ h. absurd (omega arith)))
