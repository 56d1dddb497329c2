-- What is recorded at first, and with one inference more.
use Rattle.std.proofs.Common.{◌≡◌, ℕ, zero, suc, inl, inr, refl, sym, ap, subst, ◌∙◌, List, [], ◌∷◌, get_or, Option, Some, None}
use Rattle.std.proofs.lemmas.Bool.{cases_eq}
use Rattle.environment_sets.specs.Lists.{IsIn}
use Rattle.index_lists.specs.Chains.{Records, record_at}
use Rattle.index_lists.proofs.Links.{none_is_no_some, same_some}
use Rattle.circuit_model.specs.declared.model.Fact.{Fact}
use Rattle.inference_search.specs.declared.inferred.Inferred.{Inferred}
use Rattle.justifications.specs.declared.model.Inferred as woven
use Rattle.justifications.specs.Chained.{AreAlike, IsAdded}
use Rattle.justifications.specs.Woven.{Woven, fact_at, inferred_at, head_of_inferred, IsFit, IsWoven}
use Rattle.recorded_inferences.specs.Recorded.{told, told_of, recorded_in, AreWith, AreSame}
use Rattle.recorded_inferences.proofs.Told.{told_named, named_told, told_stays, same_are_told}

-- where no name has an inference, none is told
none_told : (w : Woven) (xs : List (Option woven.Inferred)) → ((j : ℕ) → get_or xs j None ≡ None) → told_of w xs ≡ []
none_told w [] none = refl
none_told w (None ∷ xs) none = none_told w xs (λ j. none (suc j))
none_told w (Some x ∷ xs) none = absurd (none_is_no_some x (sym (none zero)))

-- where no name has an inference, none is recorded
pub nothing_told : (w : Woven) → ((j : ℕ) → inferred_at w j ≡ None) → recorded_in w ≡ []
nothing_told w none = none_told w w.inferences.records none

module _ (old new : Woven) (laws : IsWoven old) (stay : (n : ℕ) (f : Fact) → fact_at old n ≡ Some f → fact_at new n ≡ Some f) where
  -- what is recorded is told as before
  pub recorded_as_before : (j : ℕ) (x : woven.Inferred) → inferred_at old j ≡ Some x → told new x ≡ told old x
  recorded_as_before j x at = told_stays old new x (laws.fit j x at) stay

  -- where only nodes came, the same are recorded
  pub nodes_came : new.inferences ≡ old.inferences → AreSame (recorded_in old) (recorded_in new)
  nodes_came same = same_are_told old new (λ j. ap (λ s. record_at s j) same) recorded_as_before

  -- where nodes came, and names kept their inferences, the same are recorded
  pub names_kept : ((j : ℕ) → inferred_at new j ≡ inferred_at old j) → AreSame (recorded_in old) (recorded_in new)
  names_kept same = same_are_told old new same recorded_as_before

  -- where one inference more has a name, one more is recorded
  pub one_came : (key : ℕ) (x : woven.Inferred) (i : Inferred) → IsAdded head_of_inferred old.inferences new.inferences key x → told new x ≡ i → AreWith i (recorded_in old) (recorded_in new)
  one_came key x i added is k = (
    λ at.
        let r = told_named new k at in
        elim (cases_eq r.0 key) [
          | inl e ↦
              let here : inferred_at new key ≡ Some r.1 = subst (λ (n : ℕ). inferred_at new n ≡ Some r.1) e r.2 in
              let same : x ≡ r.1 = same_some x r.1 (sym added.there ∙ here) in
              inr (sym r.3 ∙ (ap (λ (y : woven.Inferred). told new y) (sym same) ∙ is))
          | inr ne ↦
              let was : inferred_at old r.0 ≡ Some r.1 = sym (added.others r.0 ne) ∙ r.2 in
              inl (subst (λ (m : Inferred). IsIn (recorded_in old) m) (sym (recorded_as_before r.0 r.1 was) ∙ r.3) (named_told old r.0 r.1 was))
        ],
    λ either.
        elim either [
          | inl at ↦
              let r = told_named old k at in
              let ne : r.0 ≡ key → ⊥ = (λ e. none_is_no_some r.1 (sym added.free ∙ subst (λ (n : ℕ). inferred_at old n ≡ Some r.1) e r.2)) in
              subst (λ (m : Inferred). IsIn (recorded_in new) m) (recorded_as_before r.0 r.1 r.2 ∙ r.3) (named_told new r.0 r.1 (added.others r.0 ne ∙ r.2))
          | inr e ↦ subst (λ (m : Inferred). IsIn (recorded_in new) m) (is ∙ sym e) (named_told new key x added.there)
        ],
  )

-- nodes come, and then the inference is recorded between them, or it is not
module _
    (old mid new : Woven) (laws : IsWoven old) (stay : (n : ℕ) (f : Fact) → fact_at old n ≡ Some f → fact_at mid n ≡ Some f) (inferences : mid.inferences ≡ old.inferences)
    (nodes : new.facts ≡ mid.facts)
  where
    -- nodes stay while the inference is recorded
    stay_now : (n : ℕ) (f : Fact) → fact_at mid n ≡ Some f → fact_at new n ≡ Some f
    stay_now n f at = ap (λ (s : Records Fact). record_at s n) nodes ∙ at

    -- nodes stay through both
    stay_both : (n : ℕ) (f : Fact) → fact_at old n ≡ Some f → fact_at new n ≡ Some f
    stay_both n f at = stay_now n f (stay n f at)

    -- where it is not recorded, the same are
    pub not_noted : AreAlike mid.inferences new.inferences → AreSame (recorded_in old) (recorded_in new)
    not_noted alike = names_kept old new laws stay_both (λ j. alike.records j ∙ ap (λ (s : Records woven.Inferred). record_at s j) inferences)

    -- where it is recorded, one more is
    pub noted : (key : ℕ) (x : woven.Inferred) (i : Inferred) → IsFit mid x → told mid x ≡ i → IsAdded head_of_inferred mid.inferences new.inferences key x → AreWith i (recorded_in old) (recorded_in new)
    noted key x i fit is added =
        one_came old new laws stay_both key x i (subst (λ (s : Records woven.Inferred). IsAdded head_of_inferred s new.inferences key x) inferences added) (told_stays mid new x fit stay_now ∙ is)
