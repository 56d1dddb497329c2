-- What a kept list has.
use Rattle.std.proofs.Common.{◌≡◌, ◌⊎◌, inl, inr, List, [], ◌∷◌, ◌++◌, refl, sym, ap, subst}
use Rattle.environment_sets.specs.Sets.{Set}
use Rattle.environment_sets.specs.Lists.{IsIn, AreDistinct, IsRoster}
use Rattle.environment_sets.proofs.Membership.{roster_alike}
use Rattle.circuit_model.specs.declared.model.Fact.{Fact}
use Rattle.circuit_model.specs.Stock.{IsEnvironment, IsRefutedBy, IsInLabel, IsNogood}
use Rattle.circuit_model.specs.Diagnoses.{Place}
use Rattle.circuit_model.specs.Present.{PresentView}
use Rattle.circuit_model.specs.Whole.{stock}
use Rattle.circuit_model.proofs.Monotony.{IsRefutedBy-more}
use Rattle.plain_answers.specs.Subsets.{Keeps}
use Rattle.plain_answers.specs.Tests.{HasFact, IsLeastIn}

module _ {X : Type 0} where
  pub Keeps-more : (P : X → Type 0) (x : X) (xs ys : List X) → P x → Keeps P xs ys → Keeps P (xs ++ x ∷ []) (ys ++ x ∷ [])
  Keeps-more P x [] ys p k = inl ([], ap (λ (ys : List X). ys ++ x ∷ []) k, p, refl)
  Keeps-more P x (y ∷ xs) ys p (inl k) = inl (k.0 ++ x ∷ [], ap (λ (ys : List X). ys ++ x ∷ []) k.1, k.2, Keeps-more P x xs k.0 p k.3)
  Keeps-more P x (y ∷ xs) ys p (inr k) = inr (k.0, Keeps-more P x xs ys p k.1)

  pub Keeps-skip : (P : X → Type 0) (x : X) (xs ys : List X) → (P x → ⊥) → Keeps P xs ys → Keeps P (xs ++ x ∷ []) ys
  Keeps-skip P x [] ys p k = inr (p, k)
  Keeps-skip P x (y ∷ xs) ys p (inl k) = inl (k.0, k.1, k.2, Keeps-skip P x xs k.0 p k.3)
  Keeps-skip P x (y ∷ xs) ys p (inr k) = inr (k.0, Keeps-skip P x xs ys p k.1)

  kept_in : (P : X → Type 0) (xs ys : List X) → Keeps P xs ys → (x : X) → IsIn ys x → IsIn xs x × P x
  kept_in P [] ys k x h = absurd (subst (λ (ys : List X). IsIn ys x) k h)
  kept_in P (y ∷ xs) ys (inl k) x h = first (subst (λ (ys : List X). IsIn ys x) k.1 h) (kept_in P xs k.0 k.3 x) where
    first : (y ≡ x) ⊎ IsIn k.0 x → (IsIn k.0 x → IsIn xs x × P x) → ((y ≡ x) ⊎ IsIn xs x) × P x
    first (inl e) rest = (inl e, subst P e k.2)
    first (inr h) rest = (inr (rest h).0, (rest h).1)
  kept_in P (y ∷ xs) ys (inr k) x h = (inr (kept_in P xs ys k.1 x h).0, (kept_in P xs ys k.1 x h).1)

  in_kept : (P : X → Type 0) (xs ys : List X) → Keeps P xs ys → (x : X) → IsIn xs x → P x → IsIn ys x
  in_kept P [] ys k x h p = absurd h
  in_kept P (y ∷ xs) ys (inl k) x (inl e) p = subst (λ (ys : List X). IsIn ys x) (sym k.1) (inl e)
  in_kept P (y ∷ xs) ys (inl k) x (inr h) p = subst (λ (ys : List X). IsIn ys x) (sym k.1) (inr (in_kept P xs k.0 k.3 x h p))
  in_kept P (y ∷ xs) ys (inr k) x (inl e) p = absurd (k.0 (subst P (sym e) p))
  in_kept P (y ∷ xs) ys (inr k) x (inr h) p = in_kept P xs ys k.1 x h p

  kept_distinct : (P : X → Type 0) (xs ys : List X) → Keeps P xs ys → AreDistinct xs → AreDistinct ys
  kept_distinct P [] ys k d = subst (λ (ys : List X). AreDistinct ys) (sym k) tt
  kept_distinct P (y ∷ xs) ys (inl k) d = subst (λ (ys : List X). AreDistinct ys) (sym k.1) (λ w h. d.0 w (kept_in P xs k.0 k.3 w h).0, kept_distinct P xs k.0 k.3 d.1)
  kept_distinct P (y ∷ xs) ys (inr k) d = kept_distinct P xs ys k.1 d.1

  pub kept_roster : (P Q : X → Type 0) (xs ys : List X) → IsRoster Q xs → Keeps P xs ys → IsRoster (λ x. Q x × P x) ys
  kept_roster P Q xs ys all k = record {
    distinct = kept_distinct P xs ys k all.distinct;
    exact = λ x. (
      λ h. ((all.exact x).0 (kept_in P xs ys k x h).0, (kept_in P xs ys k x h).1),
      λ h. in_kept P xs ys k x ((all.exact x).1 h.0) h.1,
    );
  }

-- the least of those that have the fact are its label
pub label_listed : (s : PresentView) (f : Fact) (all having ys : List (Set Place)) → IsRoster (IsEnvironment (stock s)) all → Keeps (HasFact s f) all having → Keeps (IsLeastIn having) having ys → IsRoster (IsInLabel (stock s) f) ys
label_listed s f all having ys roster has least =
    roster_alike (λ E. (IsEnvironment (stock s) E × HasFact s f E) × IsLeastIn having E) (IsInLabel (stock s) f) ys to from (kept_roster (IsLeastIn having) (λ E. IsEnvironment (stock s) E × HasFact s f E) having ys some least)
  where
    some : IsRoster (λ E. IsEnvironment (stock s) E × HasFact s f E) having
    some = kept_roster (HasFact s f) (IsEnvironment (stock s)) all having roster has

    to : (E : Set Place) → (IsEnvironment (stock s) E × HasFact s f E) × IsLeastIn having E → IsInLabel (stock s) f E
    to E h = record {
      environment = h.0.0;
      consistent = h.0.1.consistent;
      minimal = record {
        holds = h.0.1.follows;
        least = λ F within follows. h.1 F ((some.exact F).1 (λ k m. h.0.0 k (within k m), record { consistent = λ clash. h.0.1.consistent (IsRefutedBy-more (stock s) F E within clash); follows = follows })) within;
      };
    }

    from : (E : Set Place) → IsInLabel (stock s) f E → (IsEnvironment (stock s) E × HasFact s f E) × IsLeastIn having E
    from E h = (
      (h.environment, record { consistent = h.consistent; follows = h.minimal.holds }),
      λ F inside within. h.minimal.least F within ((some.exact F).0 inside).1.follows,
    )

-- the least of those that clash are the nogoods
pub nogoods_listed : (s : PresentView) (all clashing ys : List (Set Place)) → IsRoster (IsEnvironment (stock s)) all → Keeps (IsRefutedBy (stock s)) all clashing → Keeps (IsLeastIn clashing) clashing ys → IsRoster (IsNogood (stock s)) ys
nogoods_listed s all clashing ys roster clash least =
    roster_alike (λ E. (IsEnvironment (stock s) E × IsRefutedBy (stock s) E) × IsLeastIn clashing E) (IsNogood (stock s)) ys to from (kept_roster (IsLeastIn clashing) (λ E. IsEnvironment (stock s) E × IsRefutedBy (stock s) E) clashing ys some least)
  where
    some : IsRoster (λ E. IsEnvironment (stock s) E × IsRefutedBy (stock s) E) clashing
    some = kept_roster (IsRefutedBy (stock s)) (IsEnvironment (stock s)) all clashing roster clash

    to : (E : Set Place) → (IsEnvironment (stock s) E × IsRefutedBy (stock s) E) × IsLeastIn clashing E → IsNogood (stock s) E
    to E h = record {
      environment = h.0.0;
      minimal = record {
        holds = h.0.1;
        least = λ F within refuted. h.1 F ((some.exact F).1 (λ k m. h.0.0 k (within k m), refuted)) within;
      };
    }

    from : (E : Set Place) → IsNogood (stock s) E → (IsEnvironment (stock s) E × IsRefutedBy (stock s) E) × IsLeastIn clashing E
    from E h = ((h.environment, h.minimal.holds), λ F inside within. h.minimal.least F within ((some.exact F).0 inside).1)
