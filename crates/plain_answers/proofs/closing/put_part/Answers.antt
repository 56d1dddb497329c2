use Rattle.std.proofs.Common.{sym, ◌∙◌}
use Rattle.plain_answers.specs.Members.{members}
use Rattle.plain_answers.proofs.Gathering.{part_put, part_passed}
use Rattle.plain_answers.proofs.closing.put_part.Goals as goal

pub returns-then-has_part : goal.returns-then-has_part
returns-then-has_part c =
    part_put c.args.place (members c.args.environment.now) c.args.parts.now c.requires _ (sym c.has_part.ensures ∙ c.if-has_part.true) c.in_ok-push.ensures.ok

pub returns : goal.returns
returns c =
    part_passed c.args.place (members c.args.environment.now) c.args.parts.now c.requires (sym c.has_part.ensures ∙ c.if-has_part.false)
