use Rattle.std.proofs.Common.{◌≡◌, List, ap, subst}
use Rattle.environment_sets.specs.Members.{members}
use Rattle.label_engine.specs.Engine.{Kept, Seen, kept_of}
use Rattle.label_engine.specs.Questions.{GivesNextNumber, HasInside}
use Rattle.label_engine.proofs.Asked.{IsExact, is_exact, next_word}
use Rattle.label_engine.proofs.Values.{fewer_left}
use Rattle.label_engine.proofs.engine.Engine.values_after.Goals as goal

pub returns-clause-next : goal.returns-clause-next
returns-clause-next c =
    let exact : IsExact c.args.self.now = is_exact c.self.inside.slots c.self.inside.update.nodes c.self.inside.update.recorded c.self.invariant.up_to_date c.args.self.now c.self.view_is in
    let kept : kept_of c.self.inside.update.nodes.list ≡ c.args.self.now.kept = ap (λ (e : Seen). e.kept) c.self.view_is in
    next_word c.args.self.now exact (members c.args.mask.now) (kept_of c.self.inside.update.nodes.list) kept c.args.cell c.args.last c.word_after.result c.word_after.ensures

pub returns-clause-falls : goal.returns-clause-falls
returns-clause-falls c =
    let kept : kept_of c.self.inside.update.nodes.list ≡ c.args.self.now.kept = ap (λ (e : Seen). e.kept) c.self.view_is in
    let P : List Kept → Type 0 = λ ks. GivesNextNumber (HasInside ks c.args.cell (members c.args.mask.now)) c.args.last c.word_after.result in
    fewer_left c.args.self.now.kept c.args.cell (members c.args.mask.now) c.args.last c.word_after.result (subst P kept c.word_after.ensures)
