use Rattle.std.proofs.Common.{sym, ap, ◌∙◌, arith, take_all}
use Rattle.std.specs.List.{join_with_byte}
use Rattle.circuit_model.specs.Chosen.{chosen_places}
use Rattle.answer_text.specs.Texts.{component_names, parts_in}
use Rattle.answer_text.proofs.Joining.{PutsPieces-push, PutsPieces-as, PutsPieces-none}
use Rattle.answer_text.proofs.Naming.{names-chosen, names-left}
use Rattle.bench_io.proofs.PutParts.{Puts-as}
use Rattle.answer_text.proofs.chosen.put_chosen_parts.Goals as goal
use Rattle.answer_text.proofs.chosen.put_chosen_parts.Goals.{then-has_position, else-has_position}

pub loop-place-init : goal.loop-place-init
loop-place-init g c = PutsPieces-none _ _

pub loop-place-preserved : goal.loop-place-preserved
loop-place-preserved g c = elim c.if-has_position.branch [
  | then-has_position w ↦ rw (w.failed-is, w.sink-is, w.is_first-is)
      (PutsPieces-as (names-chosen (parts_in (chosen_places c.args.chosen.now)) c.args.present.now.parts c.loop-place.place c.part_at-part.result.now c.part_at-part.ensures (sym c.has_position.ensures ∙ w.if-has_position.true))
      (PutsPieces-push c.part_at-part.result.now.name c.loop-place.invariant (rw (← w.bytes.ensures.bytes) w.put_piece-failed.ensures)))
  | else-has_position w ↦ rw (w.failed-is, w.sink-is, w.is_first-is)
      (PutsPieces-as (names-left (parts_in (chosen_places c.args.chosen.now)) c.args.present.now.parts c.loop-place.place c.part_at-part.result.now c.part_at-part.ensures (sym c.has_position.ensures ∙ w.if-has_position.false)) c.loop-place.invariant)
]

pub returns : goal.returns
returns g c =
    Puts-as (ap (λ parts. join_with_byte 44 (component_names (parts_in (chosen_places c.args.chosen.now)) 0 parts)) (take_all c.loop-place.place c.args.present.now.parts (omega (arith, c.parts-place-end.ensures.value))))
    c.loop-place.invariant.puts
