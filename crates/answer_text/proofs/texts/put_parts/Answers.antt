use Rattle.std.proofs.Common.{sym, ap, ◌∙◌, arith, take_all}
use Rattle.std.specs.List.{join_with_byte}
use Rattle.environment_sets.specs.Members.{members}
use Rattle.standing_view.specs.View.{places}
use Rattle.answer_text.specs.Texts.{component_names, parts_in}
use Rattle.answer_text.proofs.Joining.{PutsPieces-push, PutsPieces-as, PutsPieces-none}
use Rattle.answer_text.proofs.Naming.{names-chosen, names-left}
use Rattle.answer_text.proofs.LabelLines.{parts_length}
use Rattle.bench_io.proofs.PutParts.{Puts-as}
use Rattle.answer_text.proofs.texts.put_parts.Goals as goal
use Rattle.answer_text.proofs.texts.put_parts.Goals.{then-has_part, else-has_part}

pub loop-place-init : goal.loop-place-init
loop-place-init g c = PutsPieces-none _ _

pub loop-place-preserved : goal.loop-place-preserved
loop-place-preserved g c = elim c.if-has_part.branch [
  | then-has_part w ↦ rw (w.failed-is, w.sink-is, w.is_first-is)
      (PutsPieces-as (names-chosen (parts_in (places c.args.standing.now (members c.args.env.now))) c.args.present.now.parts c.loop-place.place c.part_at-part.result.now c.part_at-part.ensures (sym c.has_part.ensures ∙ w.if-has_part.true))
      (PutsPieces-push c.part_at-part.result.now.name c.loop-place.invariant (rw (← w.bytes.ensures.bytes) w.put_piece-failed.ensures)))
  | else-has_part w ↦ rw (w.failed-is, w.sink-is, w.is_first-is)
      (PutsPieces-as (names-left (parts_in (places c.args.standing.now (members c.args.env.now))) c.args.present.now.parts c.loop-place.place c.part_at-part.result.now c.part_at-part.ensures (sym c.has_part.ensures ∙ w.if-has_part.false)) c.loop-place.invariant)
]

pub returns : goal.returns
returns g c =
    Puts-as (ap (λ parts. join_with_byte 44 (component_names (parts_in (places c.args.standing.now (members c.args.env.now))) 0 parts)) (take_all c.loop-place.place c.args.present.now.parts (omega (arith, c.parts-place-end.ensures.value))))
    c.loop-place.invariant.puts

pub has_part-requires : goal.has_part-requires
has_part-requires g c = omega (arith, parts_length c.args.standing.now c.args.present.now c.requires, c.loop-place-test.true, c.parts-place-end.ensures.value)
