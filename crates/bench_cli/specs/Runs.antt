-- The run of a session.
use Rattle.std.specs.Prelude.{◌≡◌, List, [], ◌∷◌}
use Rattle.session_undo.specs.Presents.{State}
use Rattle.session_undo.specs.Steps.{Takes}
use Rattle.bench_cli.specs.Replies.{Exchange}

-- These lines have these replies, one after another, from old to new.
abbrev pub Run : State → List Exchange → State → Type 0
Run old [] new = new ≡ old
Run old (e ∷ es) new = (mid : State) × Takes old e.line e.reply mid × Run mid es new
