use Rattle.std.proofs.Common.{arith, refl, [], ◌∷◌, sym, subst, ◌∙◌, ◌++◌}
use Rattle.bench_io.proofs.Bytes.{Appends-nothing, Rose-later}
use Rattle.bench_cli.specs.Replies.{Exchange}
use Rattle.bench_cli.specs.Turns.{ReadSofar}
use Rattle.session_undo.specs.Presents.{State}
use Rattle.bench_cli.proofs.Causes.{too_much_exactly}
use Rattle.bench_cli.proofs.Sessions.{begun, stepped, ahead_falls, reads_some, outcome_of, writes_part, writes_whole, noted_refused, noted_no_memory, failed_read, read_failed, never_written}
use Rattle.bench_cli.proofs.session.run.Goals as goal

pub loop-answer-init : goal.loop-answer-init
loop-answer-init g c = record {
  exchanges = [];
  read = let P : State → Type 0 = λ s. ReadSofar [] (g.S.Source.told c.args.source.now) (g.S.Source.told c.args.source.now) c.in-Ok.reader s in
      subst P (sym c.in-Ok-open.ensures) (begun _ c.in-Ok.reader c.in-Ok.ensures.0 c.in-Ok.ensures.1 c.in-Ok.ensures.2 c.in-Ok.ensures.3);
  written = Appends-nothing _;
  kept = refl;
  refused = refl;
  no_memory = refl;
}

pub loop-answer-smaller : goal.loop-answer-smaller
loop-answer-smaller g c =
    let i = c.loop-answer.invariant in
    let w = c.in_default.ensures in
    let n = stepped _ _ _ _ _ _ _ _ _ w.0 i.read c.in-Ok-step.ensures w.1 in
    ahead_falls _ _ _ _ _ _ _ _ _ i.read n.0 n.1

pub loop-answer-preserved : goal.loop-answer-preserved
loop-answer-preserved g c =
    let i = c.loop-answer.invariant in
    let q = c.in-Ok-step.ensures in
    let w = c.in_default.ensures in
    let n = stepped _ _ _ _ _ _ _ _ _ w.0 i.read q w.1 in
    let last : Exchange = record { line = q.answer.1.line; reply = w.0 } in
    record {
      exchanges = i.exchanges ++ last ∷ [];
      read = n.0;
      written = writes_whole i.exchanges last _ _ _ i.written w.3.whole;
      kept = w.3.cause.kept ∙ i.kept;
      refused = noted_refused _ _ i.exchanges last w.2 i.refused;
      no_memory = noted_no_memory _ _ i.exchanges last w.2 i.no_memory;
    }

pub returns-in-Err-reply-clause-session : goal.returns-in-Err-reply-clause-session
returns-in-Err-reply-clause-session g c =
    let i = c.loop-answer.invariant in
    let q = c.in-Ok-step.ensures in
    let w = c.in-Err-reply.ensures in
    let n = stepped _ _ _ _ _ _ _ _ _ w.0 i.read q w.1 in
    let last : Exchange = record { line = q.answer.1.line; reply = w.0 } in
    record {
      exchanges = i.exchanges ++ last ∷ [];
      state = c.step.new.session;
      run = n.0.run;
      outcome = (reads_some _ _ _ _ _ n.0, writes_part i.exchanges last _ _ _ i.written w.3.front);
    }

pub returns-in-Err-step-clause-session : goal.returns-in-Err-step-clause-session
returns-in-Err-step-clause-session g c =
    let i = c.loop-answer.invariant in
    record {
      exchanges = i.exchanges;
      state = c.loop-answer.session;
      run = i.read.run;
      outcome = rw c.status_at.ensures (outcome_of c.in-Err-step.ending c.loop-answer.tally i.exchanges _ _ _ _ _ _ _ _ _ i.read i.written i.refused i.no_memory c.in-Err-step.ensures);
    }

pub returns-in-Err-reply-clause-too_much : goal.returns-in-Err-reply-clause-too_much
returns-in-Err-reply-clause-too_much g c = too_much_exactly _ _ _ _ _ (returns-in-Err-reply-clause-session g c)

pub returns-in-Err-step-clause-too_much : goal.returns-in-Err-step-clause-too_much
returns-in-Err-step-clause-too_much g c = too_much_exactly _ _ _ _ _ (returns-in-Err-step-clause-session g c)

pub returns-in-Err-reply-clause-read_counted : goal.returns-in-Err-reply-clause-read_counted
returns-in-Err-reply-clause-read_counted g c =
    let kept = c.in-Ok-step.ensures.cause ∙ c.loop-answer.invariant.read.kept in
    λ more. absurd (omega (arith, kept, more))

pub returns-in-Err-reply-clause-write_fault : goal.returns-in-Err-reply-clause-write_fault
returns-in-Err-reply-clause-write_fault g c =
    let w = c.in-Err-reply.ensures in
    λ _. Rose-later _ _ _ (omega (arith, c.loop-answer.invariant.kept)) w.3.cause.failed

pub returns-in-Err-reply-clause-source_later : goal.returns-in-Err-reply-clause-source_later
returns-in-Err-reply-clause-source_later g c = omega (arith, c.in-Ok-step.ensures.later, c.loop-answer.invariant.read.kept)

pub returns-in-Err-reply-clause-sink_later : goal.returns-in-Err-reply-clause-sink_later
returns-in-Err-reply-clause-sink_later g c =
    let w = c.in-Err-reply.ensures in
    omega (arith, w.3.cause.later, c.loop-answer.invariant.kept)

pub returns-in-Err-step-clause-read_counted : goal.returns-in-Err-step-clause-read_counted
returns-in-Err-step-clause-read_counted g c =
    λ more. c.status_at.ensures ∙ failed_read c.in-Err-step.ending c.loop-answer.tally _ _ _ c.loop-answer.invariant.read.kept c.in-Err-step.ensures.cause more

pub returns-in-Err-step-clause-write_counted : goal.returns-in-Err-step-clause-write_counted
returns-in-Err-step-clause-write_counted g c = λ more. absurd (omega (arith, c.loop-answer.invariant.kept, more))

pub returns-in-Err-step-clause-source_later : goal.returns-in-Err-step-clause-source_later
returns-in-Err-step-clause-source_later g c = omega (arith, c.in-Err-step.ensures.later, c.loop-answer.invariant.read.kept)

pub returns-in-Err-step-clause-sink_later : goal.returns-in-Err-step-clause-sink_later
returns-in-Err-step-clause-sink_later g c = omega (arith, c.loop-answer.invariant.kept)

pub returns-in-Err-step-clause-read_fault : goal.returns-in-Err-step-clause-read_fault
returns-in-Err-step-clause-read_fault g c =
    λ e. read_failed c.in-Err-step.ending c.loop-answer.tally _ _ _ c.loop-answer.invariant.read.kept c.in-Err-step.ensures.cause (sym c.status_at.ensures ∙ e)

pub returns-in-Err-step-clause-write_fault : goal.returns-in-Err-step-clause-write_fault
returns-in-Err-step-clause-write_fault g c = λ e. never_written c.in-Err-step.ending c.loop-answer.tally (sym c.status_at.ensures ∙ e)
