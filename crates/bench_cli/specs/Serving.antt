-- What serving a request comes to.
use Rattle.std.specs.Prelude.{◌≡◌}
use Rattle.netlist_text.specs.declared.requests.Request.{Request}
use Rattle.session_undo.specs.Presents.{State}
use Rattle.session_undo.specs.Replies.{Reply, Text, Refused, NoMemory}
use Rattle.session_undo.specs.Serving.{IsRefused, FindsNoMemory, IsFree}
use Rattle.session_undo.specs.Steps.{Does}
use Rattle.session_undo.specs.declared.refusals.Stop.{Stop}
use Rattle.session_undo.specs.declared.refusals.Stop.TheVariants as stop
use Rattle.bench_cli.specs.declared.turn.LineAnswer.{LineAnswer}
use Rattle.bench_cli.specs.declared.turn.LineAnswer.TheVariants as line

-- what a line is answered that was stopped
abbrev pub answer_for : Stop → LineAnswer
answer_for (stop.Refused refusal) = line.Refused refusal
answer_for stop.OutOfMemory = line.NoMemory

-- a request that was served, or refused, or that found no memory
abbrev pub Serves : State → Request → Reply → State → Type 0
Serves old request (Text text) new = IsFree old request × Does old request (Text text) new
Serves old request (Refused refusal) new = IsRefused old request refusal × (new ≡ old)
Serves old request NoMemory new = FindsNoMemory old request × (new ≡ old)
