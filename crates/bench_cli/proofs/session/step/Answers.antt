use Rattle.bench_cli.proofs.Serving.{steps_too_long}
use Rattle.bench_cli.proofs.session.step.Goals as goal

pub returns-in-Ok-TooLong : goal.returns-in-Ok-TooLong
returns-in-Ok-TooLong g c =
    let h = rw (c.in-Ok-TooLong.is, c.in-Ok-TooLong.field-0-is) at c.next_line.follows.holds-at-none in
    steps_too_long _ _ _ _ _ h
