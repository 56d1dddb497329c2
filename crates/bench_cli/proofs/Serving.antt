-- Lines that are refused whatever the state is.
use Rattle.std.proofs.Common.{◌≡◌, ℕ, ◌<◌, inl, inr, List, length, Ok, Err, refl, sym, subst}
use Rattle.bench_io.specs.Streams.{Telling}
use Rattle.bench_io.specs.declared.limits.TheConstants.{LONGEST_LINE}
use Rattle.bench_io.specs.Reading.{Reading, ReadsLine}
use Rattle.bench_io.specs.declared.lines.Line.TheVariants.{TooLong}
use Rattle.netlist_text.specs.declared.faults.LineFault.{LineFault}
use Rattle.session_undo.specs.Replies.{Reply, Text, Refused, NoMemory}
use Rattle.bench_cli.specs.Serving.{Serves}
use Rattle.netlist_text.specs.declared.requests.Request.{Request}
use Rattle.session_undo.specs.Presents.{State}
use Rattle.session_undo.specs.Steps.{Takes, Reads, too_long, unreadable, refused, refused_late, served}
use Rattle.bench_cli.specs.Turns.{Steps}
use Rattle.bench_cli.specs.declared.turn.LineAnswer.TheVariants as answer
use Rattle.session_undo.specs.declared.refusals.Refusal.TheVariants.{LineTooLong, Unreadable}

pub takes_too_long : (s : State) (line : List ℕ) → LONGEST_LINE < length line → Takes s line (Refused LineTooLong) s
takes_too_long s line h = too_long h refl refl

-- a line was read that is too long
pub steps_too_long : (first reader : Reading) (s : State) (t₀ t₁ : Telling) → ReadsLine first reader t₀ t₁ (Ok TooLong)
    → Steps first reader s s t₀ t₁ (Ok (answer.Refused LineTooLong))
steps_too_long first reader s t₀ t₁ k = record {
  read = k.read;
  consumed = k.consumed;
  taken = k.taken;
  room = k.room;
  later = k.later;
  cause = k.cause;
  answer = (k.answer.0, record { line = k.answer.1; begins = k.answer.3; takes = λ reply is. let P : Reply → Type 0 = λ r. Takes s k.answer.1 r s in subst P (sym is) (takes_too_long s k.answer.1 k.answer.2) }, tt);
}

-- a line that asks a request is answered as the request is
pub takes : (old : State) (line : List ℕ) (request : Request) (reply : Reply) (new : State) → Reads line (Ok request) → Serves old request reply new → Takes old line reply new
takes old line request (Text text) new reads s = served request reads s.0.early s.0.late s.1
takes old line request (Refused refusal) new reads s = elim s.0 as (λ _. Takes old line (Refused refusal) new) [
  | inl early ↦ refused request reads refusal early refl s.1
  | inr late ↦ refused_late request reads late.0 refusal late.1 refl s.1
]
takes old line request NoMemory new reads s = (record { request = request; asks = reads; free = s.0.free; uncaused = s.0.uncaused; wants = s.0.wants }, s.1)

-- a line with a fault is refused by it
pub takes_faulty : (s : State) (line : List ℕ) (fault : LineFault) (reply : Reply) → Reads line (Err fault) → reply ≡ Refused (Unreadable fault) → Takes s line reply s
takes_faulty s line fault reply reads is = let P : Reply → Type 0 = λ r. Takes s line r s in subst P (sym is) (unreadable fault reads refl refl)
