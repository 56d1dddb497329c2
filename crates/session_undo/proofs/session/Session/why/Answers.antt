use Rattle.std.proofs.Common.{◌≡◌, ◌-◌, ◌≤◌, ◌<◌, ℕ, length, inl, inr, Some, refl, sym, ap, subst, ◌∙◌}
use Rattle.std.specs.List.{slice_get}
use Rattle.assumption_slots.specs.Slots.{stock}
use Rattle.circuit_model.specs.Chosen.{chosen_places}
use Rattle.circuit_model.specs.Derivation.{Clash, IsCanonical}
use Rattle.circuit_model.specs.Diagnoses.{Place}
use Rattle.circuit_model.specs.Present.{PresentView, circuit_of}
use Rattle.environment_sets.specs.declared.environment.Env.{Env}
use Rattle.environment_sets.specs.Members.{members}
use Rattle.environment_sets.specs.Sets.{Set}
use Rattle.proof_check.specs.Written.{derivation_of}
use Rattle.standing_view.specs.Conflicts.{IsFirstNogood}
use Rattle.standing_view.specs.Positions.{positions}
use Rattle.standing_view.specs.View.{places}
use Rattle.standing_view.proofs.Named.{the_mask_is_remembered}
use Rattle.session_undo.specs.Checks.{LacksConflict}
use Rattle.session_undo.specs.Presents.{State}
use Rattle.session_undo.specs.Remembering.{parked}
use Rattle.session_undo.specs.Steps.{IsConflictNumber}
use Rattle.session_undo.proofs.Whys.{lacks, lacks_none, conflicts_now, as_many, conflict_of, is_conflict, numbered, read_at}
use Rattle.session_undo.proofs.session.Session.why.Goals as goal

pub conflict_nogood-env-requires-clause-remembered : goal.conflict_nogood-env-requires-clause-remembered
conflict_nogood-env-requires-clause-remembered c = the_mask_is_remembered (stock c.self.inside.remembered.engine.slots) c.self.inside.remembered.standing c.self.inside.present (parked c.self.inside.present c.self.inside.history) c.self.invariant.stands

pub returns-then-not-is_number-clause-answers : goal.returns-then-not-is_number-clause-answers
returns-then-not-is_number-clause-answers c =
    let r = c.self.inside.remembered in
    let s : PresentView = c.self.inside.present in
    let aside = parked s c.self.inside.history in
    let are = conflicts_now r s aside c.self.invariant.stands c.in-Ok.found.items c.in-Ok.ensures.conflicts in
    let many = as_many r s aside c.self.invariant.stands c.in-Ok.found.items c.in-Ok.ensures.conflicts in
    let P : ℕ → Type 0 = λ n. (1 ≤ c.args.number) × (c.args.number - 1 < n) → ⊥ in
    let Q : State → Type 0 = λ old. LacksConflict old.present c.args.number in
    inr (refl, inl (subst Q c.self.view_is (lacks s _ are c.args.number (subst P (ap length c.deref.ensures.value ∙ sym many) c.if-not-is_number.ensures)), refl))

pub conflict_nogood-env-requires-clause-conflict : goal.conflict_nogood-env-requires-clause-conflict
conflict_nogood-env-requires-clause-conflict c =
    let low : c.args.number - 1 < length c.in-Ok.found.items = (let P : ℕ → Type 0 = λ n. c.args.number - 1 < n in subst P (ap length c.deref.ensures.value) c.if-not-is_number.ensures.1) in
    conflict_of c.self.inside.remembered c.self.inside.present (parked c.self.inside.present c.self.inside.history) c.self.invariant.stands c.in-Ok.found.items c.in-Ok.ensures.conflicts (c.args.number - 1) c.index.result.now
    (read_at c.in-Ok.found.items (c.args.number - 1) c.index.result.now c.index.ensures low) c.in-Ok.ensures.inside

pub clash_under-requires-clause-nogood : goal.clash_under-requires-clause-nogood
clash_under-requires-clause-nogood c =
    let s : PresentView = c.self.inside.present in
    let aside = parked s c.self.inside.history in
    let low : c.args.number - 1 < length c.in-Ok.found.items = (let P : ℕ → Type 0 = λ n. c.args.number - 1 < n in subst P (ap length c.deref.ensures.value) c.if-not-is_number.ensures.1) in
    let at = read_at c.in-Ok.found.items (c.args.number - 1) c.index.result.now c.index.ensures low in
    (c.conflict_nogood-env.ensures.first s aside c.self.invariant.stands (is_conflict c.self.inside.remembered s aside c.self.invariant.stands c.in-Ok.found.items c.in-Ok.ensures.conflicts (c.args.number - 1) c.index.result.now at)).nogood

pub returns-in-Ok-clash_under-clause-answers : goal.returns-in-Ok-clash_under-clause-answers
returns-in-Ok-clash_under-clause-answers c =
    let r = c.self.inside.remembered in
    let s : PresentView = c.self.inside.present in
    let aside = parked s c.self.inside.history in
    let found = c.in-Ok.found.items in
    let e : Env = c.index.result.now in
    let number : ℕ = c.args.number in
    let low : number - 1 < length found = (let P : ℕ → Type 0 = λ n. number - 1 < n in subst P (ap length c.deref.ensures.value) c.if-not-is_number.ensures.1) in
    let at : slice_get found (number - 1) ≡ Some e = read_at found (number - 1) e c.index.ensures low in
    let are = conflicts_now r s aside c.self.invariant.stands found c.in-Ok.ensures.conflicts in
    let many = as_many r s aside c.self.invariant.stands found c.in-Ok.ensures.conflicts in
    let within : number - 1 < _ = (let P : ℕ → Type 0 = λ n. number - 1 < n in subst P (sym many) low) in
    let first : IsFirstNogood s (positions r.standing (members e)) (places r.standing (members c.conflict_nogood-env.result)) =
    c.conflict_nogood-env.ensures.first s aside c.self.invariant.stands (is_conflict r s aside c.self.invariant.stands found c.in-Ok.ensures.conflicts (number - 1) e at) in
    let told = c.in-Ok-clash_under.ensures in
    let d = derivation_of c.in-Ok-clash_under.derivation in
    let under : Set Place = chosen_places c.in-Ok-clash_under.under in
    let F : Set Place → Type 0 = λ E. IsFirstNogood s (positions r.standing (members e)) E in
    let K : Set Place → Type 0 = λ E. IsCanonical (circuit_of s) E Clash d in
    let Q : State → Type 0 = λ old. (LacksConflict old.present number → ⊥) in
    let N : State → Type 0 = λ old. IsConflictNumber old.present number (positions r.standing (members e)) in
    let G : State → Type 0 = λ old. IsFirstNogood old.present (positions r.standing (members e)) under in
    let H : State → Type 0 = λ old. IsCanonical (circuit_of old.present) under Clash d in (
      record { early = refl; late = (subst Q c.self.view_is (lacks_none s _ are number c.if-not-is_number.ensures.0 within), tt) },
      inr (record {
        number = number;
        asks = refl;
        conflict = positions r.standing (members e);
        numbered = subst N c.self.view_is (numbered r s aside c.self.invariant.stands found c.in-Ok.ensures.conflicts number e c.if-not-is_number.ensures.0 at);
        first = subst G c.self.view_is (subst F (sym told.same) first);
        canonical = subst H c.self.view_is (subst K (sym told.same) told.canonical);
      }),
    )
