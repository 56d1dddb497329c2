-- The replies that the answers to lines stand for.
use Rattle.std.specs.Prelude.{◌≡◌, ℕ, List, [], codes}
use Rattle.session_undo.specs.Answers as answers
use Rattle.session_undo.specs.Answers.{IsToldAs}
use Rattle.session_undo.specs.Presents.{State}
use Rattle.session_undo.specs.Replies.{Reply, Text, Refused, NoMemory}
use Rattle.bench_cli.specs.declared.turn.LineAnswer.{LineAnswer}
use Rattle.bench_cli.specs.declared.turn.LineAnswer.TheVariants as line

-- the reply is the one that the answer stands for in the state
abbrev pub IsReply : State → LineAnswer → Reply → Type 0
IsReply s line.Nothing reply = reply ≡ Text []
IsReply s line.Accepted reply = reply ≡ Text (codes "ok\n")
IsReply s (line.Told answer) reply = (text : List ℕ) × (reply ≡ Text text) × IsToldAs s answer text
IsReply s (line.Refused refusal) reply = reply ≡ Refused refusal
IsReply s line.NoMemory reply = reply ≡ NoMemory

-- what the answer speaks of is in the present
abbrev pub IsWritable : State → LineAnswer → Type 0
IsWritable s line.Nothing = Unit {0}
IsWritable s line.Accepted = Unit {0}
IsWritable s (line.Told answer) = answers.IsWritable s answer
IsWritable s (line.Refused refusal) = Unit {0}
IsWritable s line.NoMemory = Unit {0}
