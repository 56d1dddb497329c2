use Rattle.std.proofs.Common.{[], ap, arith, take_all}
use Rattle.bench_io.proofs.PutParts.{Puts-then, Puts-as, Puts-nothing}
use Rattle.netlist_text.specs.Show.{after_spaces, words_in}
use Rattle.netlist_text.proofs.ShownParts.{words-more}
use Rattle.netlist_text.proofs.show.put_words.Goals as goal

pub loop-word-init : goal.loop-word-init
loop-word-init g c = Puts-nothing _ _

pub loop-word-preserved : goal.loop-word-preserved
loop-word-preserved g c =
    Puts-as (words-more c.args.words.now c.loop-word.word-index (record { ref_ptr = (0, 0); now = [] }) c.loop-word-test.true) (Puts-then c.loop-word.invariant (Puts-then c.put-failed.ensures c.put-failed-in-loop-word.ensures))

pub returns : goal.returns
returns g c = Puts-as (ap (λ words. after_spaces (words_in words)) (take_all c.loop-word.word-index c.args.words.now (omega arith))) c.loop-word.invariant
