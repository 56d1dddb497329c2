-- The replies to lines.
use Rattle.std.specs.Prelude.{ℕ, List, ◌++◌, codes, decimal}
use Rattle.session_undo.specs.Refusals.{number_of, text_of_refusal}
use Rattle.session_undo.specs.declared.refusals.Refusal.{Refusal}

-- the reply to a line: text, a refusal, or the refusal for want of memory
pub data Reply : Type 0 where
  Text : List ℕ → Reply
  Refused : Refusal → Reply
  NoMemory : Reply

-- the line of a refusal with this number and this text
abbrev pub refusal_line : ℕ → List ℕ → List ℕ
refusal_line number text = codes "no " ++ decimal number ++ codes " " ++ text ++ codes "\n"

-- the bytes of a reply
abbrev pub text_of : Reply → List ℕ
text_of (Text text) = text
text_of (Refused refusal) = refusal_line (number_of refusal) (text_of_refusal refusal)
text_of NoMemory = refusal_line 90 (codes "no memory")
