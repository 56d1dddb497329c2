-- Lists of parked readings that have the same elements.
use Rattle.std.proofs.Common.{◌≡◌, ◌↔◌, ◌==◌, ◌⊎◌, inl, inr, List, ◌∷◌, sym, subst}
use Rattle.circuit_model.specs.declared.model.Fact.{Fact}
use Rattle.circuit_model.proofs.SameCells.{same_or_other_fact}
use Rattle.environment_sets.specs.Lists.{IsIn}
use Rattle.standing_view.specs.View.{without_fact}
use Rattle.standing_view.proofs.Parked.{IsOther, is_other, among_others}

-- each reading stands in both lists or in neither
abbrev pub AreAlike : List Fact → List Fact → Type 0
AreAlike p q = (f : Fact) → IsIn p f ↔ IsIn q f

module _ (f : Fact) (parked : List Fact) where
  -- a reading that was there, taken out and put in again
  pub put_again : IsIn parked f → AreAlike (f ∷ without_fact f parked) parked
  put_again there g = (
    (λ h. elim h as (λ _. IsIn parked g) [ inl e ↦ subst (λ (g : Fact). IsIn parked g) e there | inr l ↦ (is_other f g parked l).listed ]),
    (λ h. elim (same_or_other_fact f g) as (λ _. IsIn (f ∷ without_fact f parked) g) [ inl e ↦ inl e | inr ne ↦ inr (among_others f g parked h ne) ]),
  )

  apart : (g : Fact) → (IsIn parked f → ⊥) → IsIn parked g → f ≡ g → ⊥
  apart g out h e = out (subst (λ (g : Fact). IsIn parked g) (sym e) h)

  -- a reading that was not there, taken out
  pub never_there : (IsIn parked f → ⊥) → AreAlike parked (without_fact f parked)
  never_there out g = ((λ h. among_others f g parked h (apart g out h)), (λ h. (is_other f g parked h).listed))

  -- a reading that was not there, put in and taken out again
  pub taken_again : (IsIn parked f → ⊥) → AreAlike (without_fact f (f ∷ parked)) parked
  taken_again out g = (
    (λ h. let o : IsOther f g (f ∷ parked) = is_other f g (f ∷ parked) h in elim o.listed as (λ _. IsIn parked g) [ inl e ↦ absurd (o.other e) | inr l ↦ l ]),
    (λ h. among_others f g (f ∷ parked) (inr h) (apart g out h)),
  )
