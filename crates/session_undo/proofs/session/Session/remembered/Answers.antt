use Rattle.std.proofs.Common.{subst}
use Rattle.session_undo.specs.Remembering.{Remembers}
use Rattle.session_undo.proofs.Remembered.{remembers}
use Rattle.session_undo.proofs.session.Session.remembered.Goals as goal

pub returns : goal.returns
returns c = subst (Remembers c.self.inside.remembered) c.self.view_is (remembers c.self.inside.present c.self.inside.history c.self.inside.remembered c.parts-parts.ensures.lawful c.self.invariant)
