use Rattle.std.proofs.Common.{◌≡◌, ◌∷◌, ◌≤◌, inl, inr, true, suc, List, length, take, Some, sym, subst, ◌∙◌, arith}
use Rattle.std.specs.List.{slice_get}
use Rattle.circuit_model.specs.declared.limits.TheConstants.{MOST_EARLIER}
use Rattle.circuit_model.specs.declared.model.Fact.{Fact}
use Rattle.circuit_model.specs.Present.{PresentView}
use Rattle.environment_sets.specs.Lists.{IsIn}
use Rattle.present_history.specs.declared.undoing.Undoing.{Undoing}
use Rattle.present_history.specs.Earlier.{measures, retracted, retracted_by}
use Rattle.standing_view.specs.View.{without_fact}
use Rattle.standing_changes.specs.Remembered.{StandsWith}
use Rattle.standing_changes.specs.declared.remembered.Remembered.{Remembered}
use Rattle.standing_changes.proofs.Parked.{parked_alike, remembered_readings}
use Rattle.session_undo.specs.Remembering.{parked, IsOut}
use Rattle.session_undo.proofs.Noting.{was_out, none_goes, nothing_goes, it_stays, it_goes}
use Rattle.session_undo.proofs.Parked.{is_parked}
use Rattle.session_undo.proofs.remembering.note.Goals as goal

-- what stands with what the kept changes park
carried : (r : Remembered) (s : PresentView) (all kept : List Undoing) → kept ≡ take MOST_EARLIER all → StandsWith r s (parked s (take MOST_EARLIER all)) → StandsWith r s (parked s kept)
carried r s all kept e h = let P : List Undoing → Type 0 = λ us. StandsWith r s (parked s us) in subst P (sym e) h

one_more : (us : List Undoing) (u : Undoing) → length us ≤ MOST_EARLIER → length (u ∷ us) ≤ suc MOST_EARLIER
one_more us u h = omega (arith, h)

pub returns-in_default-clause-stands : goal.returns-in_default-clause-stands
returns-in_default-clause-stands c =
    let r : Remembered = c.args.remembered.now in
    let s : PresentView = c.args.present.now in
    let all : List Undoing = c.args.undoing ∷ c.args.history.now in
    carried r s all c.push.new.self c.push.ensures.kept
    (parked_alike r s (parked s all) (parked s (take MOST_EARLIER all)) (none_goes s all MOST_EARLIER (one_more c.args.history.now c.args.undoing c.push.ensures.fitted) (sym c.push.ensures.dropped ∙ c.in_default.is)) c.requires.stands)

pub returns-in_default-retracted-clause-stands : goal.returns-in_default-retracted-clause-stands
returns-in_default-retracted-clause-stands c =
    let r : Remembered = c.args.remembered.now in
    let s : PresentView = c.args.present.now in
    let all : List Undoing = c.args.undoing ∷ c.args.history.now in
    carried r s all c.push.new.self c.push.ensures.kept
    (parked_alike r s (parked s all) (parked s (take MOST_EARLIER all))
    (nothing_goes s all MOST_EARLIER (one_more c.args.history.now c.args.undoing c.push.ensures.fitted) c.in-Some.oldest (sym c.push.ensures.dropped ∙ c.in-Some.is) (sym c.retracted.ensures ∙ c.in_default-retracted.is)) c.requires.stands)

pub returns-else-not-is_kept-clause-stands : goal.returns-else-not-is_kept-clause-stands
returns-else-not-is_kept-clause-stands c =
    let r : Remembered = c.args.remembered.now in
    let s : PresentView = c.args.present.now in
    let all : List Undoing = c.args.undoing ∷ c.args.history.now in
    let P : List Undoing → Type 0 = λ us. IsOut us s c.in-Some-retracted.fact in
    carried r s all c.push.new.self c.push.ensures.kept
    (parked_alike r s (parked s all) (parked s (take MOST_EARLIER all))
    (it_stays s all MOST_EARLIER (one_more c.args.history.now c.args.undoing c.push.ensures.fitted) c.in-Some.oldest c.in-Some-retracted.fact (sym c.push.ensures.dropped ∙ c.in-Some.is) (sym c.retracted.ensures ∙ c.in-Some-retracted.is) (subst P c.push.ensures.kept c.if-not-is_kept.ensures)) c.requires.stands)

module _ (s : PresentView) (all kept : List Undoing) (f : Fact) (e : kept ≡ take MOST_EARLIER all) (never : IsOut kept s f → ⊥) where
  not_out : IsIn (retracted (take MOST_EARLIER all)) f → ⊥
  not_out h = never (inl (let P : List Undoing → Type 0 = λ us. IsIn (retracted us) f in subst P (sym e) h))

  not_there : measures s f ≡ true → ⊥
  not_there h = never (inr h)

pub forget_reading-requires : goal.forget_reading-requires
forget_reading-requires c =
    let r : Remembered = c.args.remembered.now in
    let s : PresentView = c.args.present.now in
    let all : List Undoing = c.args.undoing ∷ c.args.history.now in
    let f : Fact = c.in-Some-retracted.fact in
    let at : slice_get all MOST_EARLIER ≡ Some c.in-Some.oldest = sym c.push.ensures.dropped ∙ c.in-Some.is in
    (remembered_readings r s (parked s all) c.requires.stands f).1
    (inr (is_parked s all f (record { out = was_out all MOST_EARLIER c.in-Some.oldest f at (sym c.retracted.ensures ∙ c.in-Some-retracted.is); gone = not_there s all c.push.new.self f c.push.ensures.kept c.if-not-is_kept.ensures })))

pub returns-then-not-is_kept-clause-stands : goal.returns-then-not-is_kept-clause-stands
returns-then-not-is_kept-clause-stands c =
    let new : Remembered = c.forget_reading.new.self in
    let s : PresentView = c.args.present.now in
    let all : List Undoing = c.args.undoing ∷ c.args.history.now in
    let f : Fact = c.in-Some-retracted.fact in
    let at : slice_get all MOST_EARLIER ≡ Some c.in-Some.oldest = sym c.push.ensures.dropped ∙ c.in-Some.is in
    let is : retracted_by c.in-Some.oldest ≡ Some f = sym c.retracted.ensures ∙ c.in-Some-retracted.is in
    let out = not_out s all c.push.new.self f c.push.ensures.kept c.if-not-is_kept.ensures in
    let gone = not_there s all c.push.new.self f c.push.ensures.kept c.if-not-is_kept.ensures in
    let was = was_out all MOST_EARLIER c.in-Some.oldest f at is in
    carried new s all c.push.new.self c.push.ensures.kept
    (parked_alike new s (without_fact f (parked s all)) (parked s (take MOST_EARLIER all)) (it_goes s all MOST_EARLIER (one_more c.args.history.now c.args.undoing c.push.ensures.fitted) c.in-Some.oldest f at is out gone was)
    (c.forget_reading.ensures s (parked s all) c.requires.stands (is_parked s all f (record { out = was; gone = gone }))))
