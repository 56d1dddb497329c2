-- The minimal ones of some sets, with one set more.
use Rattle.std.proofs.Common.{◌≡◌, ℕ, inl, inr, true, false, List, [], ◌∷◌, ◌++◌, refl, sym, ap, subst, ◌∙◌}
use Rattle.std.proofs.lemmas.Bool.{false≢true}
use Rattle.std.proofs.lemmas.List.{map-append}
use Rattle.environment_sets.specs.declared.environment.Env.{Env}
use Rattle.environment_sets.specs.declared.environment.TheConstants.{SLOTS}
use Rattle.environment_sets.specs.Families.{IsCovered, IsAntichain, Adds}
use Rattle.environment_sets.specs.Lists.{IsIn}
use Rattle.environment_sets.specs.Members.{members, sets, HasMember}
use Rattle.environment_sets.specs.Sets.{Set, ◌⊆◌, ◌∩◌, is_within}
use Rattle.environment_sets.proofs.Listings.{IsIn-push, IsIn-front, IsIn-last}
use Rattle.environment_sets.proofs.Slots.{slots_are_below}
use Rattle.environment_sets.proofs.Within.{within_holds, holds_within}
use Rattle.standing_view.specs.Conflicts.{AreLeastOf, meets}

pub least_none : AreLeastOf [] []
least_none = record { sound = λ E h. h; antichain = λ E F h. absurd h; covers = λ E h. absurd h }

module _ (Ks : List (Set ℕ)) (e : Env) (old new : List Env) (was : AreLeastOf Ks old) (antichain : IsAntichain (HasMember new)) where
  pub least_covered : IsCovered (HasMember old) (members e) → new ≡ old → AreLeastOf (Ks ++ members e ∷ []) new
  least_covered cover same = subst (AreLeastOf (Ks ++ members e ∷ [])) (sym same) (record {
    sound = λ E h. IsIn-front Ks (members e) E (was.sound E h);
    antichain = was.antichain;
    covers = λ E h. elim (IsIn-push Ks (members e) E h) as (λ _. IsCovered (HasMember old) E) [
      | inl there ↦ was.covers E there
      | inr this ↦ subst (IsCovered (HasMember old)) this cover
    ];
  })

  pub least_added : Adds (HasMember old) (HasMember new) (members e) → AreLeastOf (Ks ++ members e ∷ []) new
  least_added adds = record {
    sound = λ E h. elim ((adds E).0 h) as (λ _. IsIn (Ks ++ members e ∷ []) E) [
      | inl this ↦ IsIn-last Ks (members e) E this
      | inr there ↦ IsIn-front Ks (members e) E (was.sound E there.0)
    ];
    antichain = antichain;
    covers = λ E h. elim (IsIn-push Ks (members e) E h) as (λ _. IsCovered (HasMember new) E) [
      | inl there ↦ still E (was.covers E there)
      | inr this ↦ (members e, (adds (members e)).1 (inl refl), subst (λ (F : Set ℕ). members e ⊆ F) this (λ k is. is))
    ];
  }
    where
      -- what was covered still is: by the same set, or by the new one inside it
      still : (E : Set ℕ) → IsCovered (HasMember old) E → IsCovered (HasMember new) E
      still E m = elim (is_within SLOTS (members e) m.0) as (λ b. is_within SLOTS (members e) m.0 ≡ b → IsCovered (HasMember new) E) [
        | true ↦ λ within. (members e, (adds (members e)).1 (inl refl), λ k is. m.2 k (within_holds SLOTS (members e) m.0 (slots_are_below e) within k is))
        | false ↦ λ out. (m.0, (adds m.0).1 (inr (m.1, λ within. false≢true (sym out ∙ holds_within SLOTS (members e) m.0 within))), m.2)
      ] refl

-- the component parts of one set more
pub meets_more : (L : Set ℕ) (es : List Env) (e : Env) (K : Set ℕ) → K ≡ members e ∩ L → meets L (sets (es ++ e ∷ [])) ≡ meets L (sets es) ++ K ∷ []
meets_more L es e K same =
    ap (meets L) (map-append members es (e ∷ [])) ∙ (map-append (λ (E : Set ℕ). E ∩ L) (sets es) (members e ∷ []) ∙ ap (λ (F : Set ℕ). meets L (sets es) ++ F ∷ []) (sym same))
