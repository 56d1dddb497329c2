-- What is remembered once the oldest change of a history goes.
use Rattle.std.proofs.Common.{◌≡◌, ◌⊎◌, ℕ, zero, suc, ◌≤◌, inl, inr, true, List, [], ◌∷◌, length, take, Some, None, sym, ap, subst, ◌∙◌}
use Rattle.std.specs.List.{slice_get}
use Rattle.circuit_model.specs.declared.model.Fact.{Fact}
use Rattle.circuit_model.specs.Present.{PresentView}
use Rattle.environment_sets.specs.Lists.{IsIn}
use Rattle.present_history.specs.declared.undoing.Undoing.{Undoing}
use Rattle.present_history.specs.Earlier.{measures, retracted, retracted_by}
use Rattle.present_history.proofs.Earlier.{IsDropped, first_in, later_in, retracted-taken, retracted-dropped}
use Rattle.standing_view.specs.View.{without_fact}
use Rattle.standing_view.proofs.Parked.{is_other, among_others}
use Rattle.standing_changes.proofs.Alike.{AreAlike}
use Rattle.session_undo.specs.Remembering.{parked}
use Rattle.session_undo.proofs.Parked.{aside, is_parked}

-- what the change at a place retracted was retracted
pub was_out : (us : List Undoing) (n : ℕ) (u : Undoing) (f : Fact) → slice_get us n ≡ Some u → retracted_by u ≡ Some f → IsIn (retracted us) f
was_out [] n u f at is = cc
was_out (v ∷ us) zero u f at is = let same : v ≡ u = cc in first_in (retracted_by v) (retracted us) f (ap retracted_by same ∙ is)
was_out (v ∷ us) (suc n) u f at is = later_in (retracted_by v) (retracted us) f (was_out us n u f at is)

module _ (s : PresentView) (us : List Undoing) (n : ℕ) (most : length us ≤ suc n) where
  -- whatever was parked is, since what goes retracted nothing, or what was retracted again or stands
  pub all_stay : ((f : Fact) → IsDropped us n f → IsIn (retracted (take n us)) f ⊎ (measures s f ≡ true)) → AreAlike (parked s us) (parked s (take n us))
  all_stay kept f = (
    λ h. let a = aside s us f h in is_parked s (take n us) f (record {
      gone = a.gone;
      out = elim (retracted-dropped us n f most a.out) [
        | inl before ↦ before
        | inr last ↦ elim (kept f last) [ inl out ↦ out | inr stands ↦ absurd (a.gone stands) ]
      ];
    }),
    λ h. let a = aside s (take n us) f h in is_parked s us f (record { out = retracted-taken us n f a.out; gone = a.gone }),
  )

  -- nothing goes
  pub none_goes : slice_get us n ≡ None → AreAlike (parked s us) (parked s (take n us))
  none_goes none = all_stay (λ f last. let never : None ≡ Some last.undoing = sym none ∙ last.last in absurd (cc))

  -- a change goes that retracted nothing
  pub nothing_goes : (u : Undoing) → slice_get us n ≡ Some u → retracted_by u ≡ None → AreAlike (parked s us) (parked s (take n us))
  nothing_goes u at none = all_stay (λ f last. let same : Some u ≡ Some last.undoing = sym at ∙ last.last in let v : u ≡ last.undoing = cc in let P : Undoing → Type 0 = λ x. retracted_by x ≡ None in let never : None ≡ Some f = sym (subst P v none) ∙ last.fact in absurd (cc))

  -- a change goes that retracted a measurement
  module _ (u : Undoing) (g : Fact) (at : slice_get us n ≡ Some u) (is : retracted_by u ≡ Some g) where
    the_same : (f : Fact) → IsDropped us n f → g ≡ f
    the_same f last =
        let same : Some u ≡ Some last.undoing = sym at ∙ last.last in
        let v : u ≡ last.undoing = cc in
        let P : Undoing → Type 0 = λ x. retracted_by x ≡ Some g in
        let both : Some g ≡ Some f = sym (subst P v is) ∙ last.fact in
        cc

    -- that was retracted again, or stands
    pub it_stays : IsIn (retracted (take n us)) g ⊎ (measures s g ≡ true) → AreAlike (parked s us) (parked s (take n us))
    it_stays kept = all_stay (λ f last. let P : Fact → Type 0 = λ x. IsIn (retracted (take n us)) x ⊎ (measures s x ≡ true) in subst P (the_same f last) kept)

    -- that is remembered no more
    module _ (out : IsIn (retracted (take n us)) g → ⊥) (gone : measures s g ≡ true → ⊥) (was : IsIn (retracted us) g) where
      pub was_parked : IsIn (parked s us) g
      was_parked = is_parked s us g (record { out = was; gone = gone })

      pub it_goes : AreAlike (without_fact g (parked s us)) (parked s (take n us))
      it_goes f = (
        λ h. let k = is_other g f (parked s us) h in let a = aside s us f k.listed in is_parked s (take n us) f (record { gone = a.gone; out = elim (retracted-dropped us n f most a.out) [ inl before ↦ before | inr last ↦ absurd (k.other (the_same f last)) ] }),
        λ h. let a = aside s (take n us) f h in among_others g f (parked s us) (is_parked s us f (record { out = retracted-taken us n f a.out; gone = a.gone })) (λ same. out (let P : Fact → Type 0 = λ x. IsIn (retracted (take n us)) x in subst P (sym same) a.out)),
      )
