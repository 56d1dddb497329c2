use Rattle.std.proofs.Common.{take}
use Rattle.bench_io.specs.Puts.{Puts}
use Rattle.netlist_text.specs.Show.{after_spaces, words_in}
use Rattle.netlist_text.proofs.show.put_words.Given as goal

abbrev pub invariant-loop-word : goal.invariant-loop-word
invariant-loop-word g l = Puts l.initial.failed l.failed (g.K.Sink.told l.initial.sink) (g.K.Sink.told l.sink) (after_spaces (words_in (take l.word-index l.words)))
