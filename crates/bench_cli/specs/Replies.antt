-- Lines with their replies.
use Rattle.std.specs.Prelude.{ℕ, Bool, true, false, ◌||◌, List, [], ◌∷◌, ◌++◌}
use Rattle.session_undo.specs.Replies.{Reply, Text, Refused, NoMemory, text_of}

-- a line and its reply
pub record Exchange : Type 0 where
  pub line : List ℕ
  pub reply : Reply

-- the lines, one after another
abbrev pub lines_of_exchanges : List Exchange → List (List ℕ)
lines_of_exchanges [] = []
lines_of_exchanges (e ∷ es) = e.line ∷ lines_of_exchanges es

-- the replies, one after another
abbrev pub transcript : List Exchange → List ℕ
transcript [] = []
transcript (e ∷ es) = text_of e.reply ++ transcript es

-- a refusal other than that for want of memory
abbrev pub is_refused : Reply → Bool
is_refused (Text text) = false
is_refused (Refused refusal) = true
is_refused NoMemory = false

-- the refusal for want of memory
abbrev pub is_no_memory : Reply → Bool
is_no_memory (Text text) = false
is_no_memory (Refused refusal) = false
is_no_memory NoMemory = true

-- some reply is a refusal other than that for want of memory
abbrev pub has_refused : List Exchange → Bool
has_refused [] = false
has_refused (e ∷ es) = is_refused e.reply || has_refused es

-- some line found no memory
abbrev pub has_no_memory : List Exchange → Bool
has_no_memory [] = false
has_no_memory (e ∷ es) = is_no_memory e.reply || has_no_memory es
