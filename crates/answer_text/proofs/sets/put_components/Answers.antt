use Rattle.std.proofs.Common.{sym, ap, ◌∙◌, arith, take_all}
use Rattle.std.specs.List.{join_with_byte}
use Rattle.environment_sets.specs.Members.{members}
use Rattle.answer_text.specs.Texts.{component_names}
use Rattle.answer_text.proofs.Joining.{PutsPieces-push, PutsPieces-as, PutsPieces-none}
use Rattle.answer_text.proofs.Naming.{names-chosen, names-left}
use Rattle.bench_io.proofs.PutParts.{Puts-as}
use Rattle.answer_text.proofs.sets.put_components.Goals as goal
use Rattle.answer_text.proofs.sets.put_components.Goals.{then-has, else-has}

pub loop-place-init : goal.loop-place-init
loop-place-init g c = PutsPieces-none _ _

pub loop-place-preserved : goal.loop-place-preserved
loop-place-preserved g c = elim c.if-has.branch [
  | then-has w ↦ rw (w.failed-is, w.sink-is, w.is_first-is)
      (PutsPieces-as (names-chosen (members c.args.positions.now) c.args.present.now.parts c.loop-place.place c.part_at-part.result.now c.part_at-part.ensures (sym c.has.ensures ∙ w.if-has.true))
      (PutsPieces-push c.part_at-part.result.now.name c.loop-place.invariant (rw (← w.bytes.ensures.bytes) w.put_piece-failed.ensures)))
  | else-has w ↦ rw (w.failed-is, w.sink-is, w.is_first-is)
      (PutsPieces-as (names-left (members c.args.positions.now) c.args.present.now.parts c.loop-place.place c.part_at-part.result.now c.part_at-part.ensures (sym c.has.ensures ∙ w.if-has.false)) c.loop-place.invariant)
]

pub returns : goal.returns
returns g c =
    Puts-as (ap (λ parts. join_with_byte 44 (component_names (members c.args.positions.now) 0 parts)) (take_all c.loop-place.place c.args.present.now.parts (omega (arith, c.parts-place-end.ensures.value))))
    c.loop-place.invariant.puts

pub has-requires : goal.has-requires
has-requires g c = omega (arith, c.loop-place-test.true, c.parts-place-end.ensures.value, c.parts-place-end.ensures.lawful.parts)
