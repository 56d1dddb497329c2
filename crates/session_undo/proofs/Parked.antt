-- The measurements that are parked, after a change and once it is taken back.
use Rattle.std.proofs.Common.{◌≡◌, ◌⊎◌, ℕ, ◌==◌, inl, inr, Bool, true, false, not, cond, IsTrue, List, ◌∷◌, Option, Some, None, refl, sym, ap, subst, ◌∙◌, arith}
use Rattle.std.specs.Option.{option_map_or}
use Rattle.std.proofs.lemmas.Bool.Decides.{nat_tests}
use Rattle.circuit_model.specs.declared.model.Fact.{Fact}
use Rattle.circuit_model.specs.Present.{PresentView, is_cell, reading_in, with_standing}
use Rattle.circuit_model.proofs.SameCells.{same_cell, cell_itself, fact_by, same_or_other_fact}
use Rattle.circuit_model.proofs.Readings.{reading_in-with_reading}
use Rattle.environment_sets.specs.Lists.{IsIn}
use Rattle.environment_sets.proofs.Listings.{IsIn-filter, IsIn-kept}
use Rattle.present_history.specs.declared.undoing.Undoing.{Undoing}
use Rattle.present_history.specs.declared.undoing.Undoing.TheVariants.{Retracted}
use Rattle.present_history.specs.Earlier.{measures, retracted}
use Rattle.standing_view.specs.View.{without_fact}
use Rattle.standing_view.proofs.Parked.{is_other, among_others}
use Rattle.standing_changes.proofs.Alike.{AreAlike}
use Rattle.session_undo.specs.Remembering.{parked}

true_not : (b : Bool) → IsTrue (not b) → b ≡ true → ⊥
true_not true h e = cc
true_not false h e = cc

not_true : (b : Bool) → (b ≡ true → ⊥) → IsTrue (not b)
not_true true h = absurd (h refl)
not_true false h = refl

-- it was retracted, and does not stand now
pub record IsAside (s : PresentView) (us : List Undoing) (f : Fact) : Type 0 where
  pub out : IsIn (retracted us) f
  pub gone : measures s f ≡ true → ⊥

-- what is parked is what was retracted and does not stand now
pub aside : (s : PresentView) (us : List Undoing) (f : Fact) → IsIn (parked s us) f → IsAside s us f
aside s us f h = let k = IsIn-filter (λ g. not (measures s g)) (retracted us) f h in record { out = k.0; gone = true_not (measures s f) k.1 }

pub is_parked : (s : PresentView) (us : List Undoing) (f : Fact) → IsAside s us f → IsIn (parked s us) f
is_parked s us f h = IsIn-kept (λ g. not (measures s g)) (retracted us) f h.out (not_true (measures s f) h.gone)

-- whether a word is the one that is measured
abbrev is_word : ℕ → Option ℕ → Bool
is_word v o = option_map_or (λ word. word == v) o false

the_word : (v : ℕ) (o : Option ℕ) → o ≡ Some v → is_word v o ≡ true
the_word v o e = rw e (grind (arith, nat_tests))

of_cond : (b : Bool) (v w : ℕ) (o : Option ℕ) → is_word w (cond b (Some v) o) ≡ true → ((b ≡ true) × (v ≡ w)) ⊎ (is_word w o ≡ true)
of_cond true v w o e = inl (refl, grind (arith, nat_tests))
of_cond false v w o e = inr e

kept_word : (b : Bool) (v w : ℕ) (o : Option ℕ) → (b ≡ true → is_word w o ≡ true → ⊥) → is_word w o ≡ true → is_word w (cond b (Some v) o) ≡ true
kept_word true v w o apart e = absurd (apart refl e)
kept_word false v w o apart e = e

no_word : (w : ℕ) (o : Option ℕ) → o ≡ None → is_word w o ≡ true → ⊥
no_word w o e h = let P : Option ℕ → Type 0 = λ p. is_word w p ≡ true in let k : is_word w None ≡ true = subst P e h in cc

-- one measurement more stands, of a cell that is not measured
module _ (s : PresentView) (f : Fact) (free : reading_in s.readings f.cell ≡ None) where
  abbrev more : PresentView
  more = with_standing f s

  reads : (g : Fact) → reading_in more.readings g.cell ≡ cond (is_cell f.cell g.cell) (Some f.value) (reading_in s.readings g.cell)
  reads g = reading_in-with_reading f s.readings g.cell free

  pub gained : measures more f ≡ true
  gained = the_word f.value (reading_in more.readings f.cell) (reads f ∙ ap (λ b. cond b (Some f.value) (reading_in s.readings f.cell)) (cell_itself f.cell))

  pub not_before : measures s f ≡ true → ⊥
  not_before = no_word f.value (reading_in s.readings f.cell) free

  pub still : (g : Fact) → measures s g ≡ true → measures more g ≡ true
  still g h =
      let apart : is_cell f.cell g.cell ≡ true → measures s g ≡ true → ⊥ = λ same k. no_word g.value (reading_in s.readings g.cell) (ap (reading_in s.readings) (sym (same_cell f.cell g.cell same)) ∙ free) k in
      ap (is_word g.value) (reads g) ∙ kept_word (is_cell f.cell g.cell) f.value g.value (reading_in s.readings g.cell) apart h

  pub only : (g : Fact) → measures more g ≡ true → (f ≡ g) ⊎ (measures s g ≡ true)
  only g h = elim (of_cond (is_cell f.cell g.cell) f.value g.value (reading_in s.readings g.cell) (sym (ap (is_word g.value) (reads g)) ∙ h)) [
    | inl here ↦ inl (fact_by f g (same_cell f.cell g.cell here.0) here.1)
    | inr before ↦ inr before
  ]

  -- a measurement that stands again is parked no more
  pub stands_again : (us : List Undoing) → AreAlike (without_fact f (parked s us)) (parked more us)
  stands_again us g = (
    λ h. let k = is_other f g (parked s us) h in let a = aside s us g k.listed in is_parked more us g (record { out = a.out; gone = λ e. elim (only g e) [ inl same ↦ k.other same | inr before ↦ a.gone before ] }),
    λ h. let a = aside more us g h in among_others f g (parked s us) (is_parked s us g (record { out = a.out; gone = λ e. a.gone (still g e) })) (λ same. a.gone (let P : Fact → Type 0 = λ x. measures more x ≡ true in subst P same gained)),
  )

  -- one that a change taken back had retracted is parked no more
  pub stands_again_too : (us : List Undoing) → AreAlike (without_fact f (parked s (Retracted f ∷ us))) (parked more us)
  stands_again_too us g = (
    λ h. let k = is_other f g (parked s (Retracted f ∷ us)) h in let a = aside s (Retracted f ∷ us) g k.listed in is_parked more us g (record {
      out = elim a.out [ inl same ↦ absurd (k.other same) | inr before ↦ before ];
      gone = λ e. elim (only g e) [ inl same ↦ k.other same | inr before ↦ a.gone before ];
    }),
    λ h. let a = aside more us g h in among_others f g (parked s (Retracted f ∷ us)) (is_parked s (Retracted f ∷ us) g (record { out = inr a.out; gone = λ e. a.gone (still g e) })) (λ same. a.gone (let P : Fact → Type 0 = λ x. measures more x ≡ true in subst P same gained)),
  )

  -- one that was retracted is parked
  pub is_retracted : (us : List Undoing) → AreAlike (f ∷ parked more us) (parked s (Retracted f ∷ us))
  is_retracted us g = (
    λ h. elim h [
      | inl same ↦ is_parked s (Retracted f ∷ us) g (record { out = inl same; gone = λ e. not_before (let P : Fact → Type 0 = λ x. measures s x ≡ true in subst P (sym same) e) })
      | inr k ↦ let a = aside more us g k in is_parked s (Retracted f ∷ us) g (record { out = inr a.out; gone = λ e. a.gone (still g e) })
    ],
    λ h. let a = aside s (Retracted f ∷ us) g h in elim a.out [
      | inl same ↦ inl same
      | inr k ↦ elim (same_or_other_fact f g) [
        | inl same ↦ inl same
        | inr other ↦ inr (is_parked more us g (record { out = k; gone = λ e. elim (only g e) [ inl same ↦ other same | inr before ↦ a.gone before ] }))
      ]
    ],
  )

  -- that it was measured is taken back: it stays parked where it was retracted before
  pub parked_again : (us : List Undoing) → IsIn (retracted us) f → AreAlike (f ∷ parked more us) (parked s us)
  parked_again us out g = (
    λ h. elim h [
      | inl same ↦ let P : Fact → Type 0 = λ x. IsAside s us x in is_parked s us g (subst P same (record { out = out; gone = not_before }))
      | inr k ↦ let a = aside more us g k in is_parked s us g (record { out = a.out; gone = λ e. a.gone (still g e) })
    ],
    λ h. let a = aside s us g h in elim (same_or_other_fact f g) [
      | inl same ↦ inl same
      | inr other ↦ inr (is_parked more us g (record { out = a.out; gone = λ e. elim (only g e) [ inl same ↦ other same | inr before ↦ a.gone before ] }))
    ],
  )

  -- and is forgotten where it was not
  pub not_parked_again : (us : List Undoing) → (IsIn (retracted us) f → ⊥) → AreAlike (without_fact f (f ∷ parked more us)) (parked s us)
  not_parked_again us never g = (
    λ h. let k = is_other f g (f ∷ parked more us) h in elim k.listed [
      | inl same ↦ absurd (k.other same)
      | inr there ↦ let a = aside more us g there in is_parked s us g (record { out = a.out; gone = λ e. a.gone (still g e) })
    ],
    λ h. let a = aside s us g h in
        let other : f ≡ g → ⊥ = λ same. never (let P : Fact → Type 0 = λ x. IsIn (retracted us) x in subst P (sym same) a.out) in
        among_others f g (f ∷ parked more us) (inr (is_parked more us g (record { out = a.out; gone = λ e. elim (only g e) [ inl same ↦ other same | inr before ↦ a.gone before ] }))) other,
  )
