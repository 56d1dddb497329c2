use Rattle.std.proofs.Common.{arith, ◌≡◌, ◌≤◌, true, get_or, length, nat_lt, nat_le, ◌&&◌}
use Rattle.std.proofs.lemmas.Bool.{and_parts}
use Rattle.std.specs.List.{list_all}
use Rattle.netlist_text.specs.Words.{is_digit}
use Rattle.netlist_text.proofs.Scanned.{digit_at, digit_within, number-more, power-more}
use Rattle.netlist_text.specs.declared.words.TheConstants.{MOST_DIGITS}
use Rattle.netlist_text.proofs.words.number_of.Goals as goal

pub loop-b-preserved : goal.loop-b-preserved
loop-b-preserved c =
    let all : list_all is_digit c.args.word.now ≡ true = (and_parts (nat_lt 0 (length c.args.word.now) && nat_le (length c.args.word.now) MOST_DIGITS) _ c.requires).1 in
    let digit : get_or c.args.word.now c.loop-b.b-index 0 ≤ 57 = digit_within (get_or c.args.word.now c.loop-b.b-index 0) (digit_at c.args.word.now c.loop-b.b-index (omega arith) all) in
    (number-more c.args.word.now c.loop-b.b-index _ (omega arith) c.loop-b.invariant.0, power-more _ _ _ c.loop-b.invariant.1 digit)
