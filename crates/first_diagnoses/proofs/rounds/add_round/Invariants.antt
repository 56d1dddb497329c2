use Rattle.std.proofs.Common.{◌<◌, length, take}
use Rattle.first_diagnoses.specs.Rounds.{AddsFirst}
use Rattle.first_diagnoses.specs.Waits.{IsSoughtIn, IsOfRoundIn, AreHeavier}
use Rattle.first_diagnoses.proofs.rounds.add_round.Given as goal

abbrev pub invariant-loop-item : goal.invariant-loop-item
invariant-loop-item l =
    record {
      room : length l.found.items < l.round.limit;
      first : AddsFirst l.problem (IsOfRoundIn l.problem (take l.item-index l.waiting) l.round.weight) l.round.limit l.initial.found.items l.found.items;
      rest : AreHeavier l.problem (IsSoughtIn l.problem (take l.item-index l.waiting)) l.round.weight l.later.items;
    }
