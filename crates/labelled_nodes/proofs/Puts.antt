-- What is put in at a fact or as a nogood, over families.
use Rattle.std.proofs.Common.{◌≡◌, ℕ, ◌⊎◌, inl, inr, subst, ◌↔◌, Some, None, refl}
use Rattle.circuit_model.specs.declared.model.Fact.{Fact}
use Rattle.environment_sets.specs.Sets.{Set, ◌⊆◌}
use Rattle.environment_sets.specs.Families.{Adds, Drops}
use Rattle.propagation.specs.Propagating.{Target, Family, IsPut}

abbrev no_fact : Target
no_fact = None

module _ (U : Set ℕ) (old new : Family) (inside : (F : Set ℕ) → (U ⊆ F) ⊎ (U ⊆ F → ⊥)) where
  -- at a fact: the label gains the set, and all else is as it was
  module _ (f : Fact) (same : (g : Fact) → (f ≡ g) ⊎ (f ≡ g → ⊥)) (adds : Adds (old (Some f)) (new (Some f)) U) (others : (g : Fact) → (f ≡ g → ⊥) → (F : Set ℕ) → old (Some g) F ↔ new (Some g) F) (nogoods : (F : Set ℕ) → old None F ↔ new None F) where
    keeps_at : (F : Set ℕ) → old (Some f) F → new (Some f) F ⊎ (U ⊆ F)
    keeps_at F k = elim (inside F) [ inl within ↦ inr within | inr out ↦ inl ((adds F).1 (inr (k, out))) ]

    pub put_fact : IsPut (Some f) U old new
    put_fact = record {
      there = (adds U).1 (inl refl);
      keeps = λ s F. elim s as (λ t. old t F → new t F ⊎ (((Some f ≡ t) ⊎ (Some f ≡ None)) × (U ⊆ F))) [
        | None ↦ λ k. inl ((nogoods F).0 k)
        | Some g ↦ λ k. elim (same g) [
          | inl e ↦
              let P : Fact → Type 0 = λ x. old (Some x) F → new (Some x) F ⊎ (((Some f ≡ Some x) ⊎ (Some f ≡ None)) × (U ⊆ F)) in
              subst P e (λ (here : old (Some f) F). elim (keeps_at F here) [ inl n ↦ inl n | inr within ↦ inr (inl refl, within) ]) k
          | inr differ ↦ inl ((others g differ F).0 k)
        ]
      ];
      only = λ s F. elim s as (λ t. new t F → ((Some f ≡ t) × (U ≡ F)) ⊎ (old t F × (((Some f ≡ t) ⊎ (Some f ≡ None)) → U ⊆ F → ⊥))) [
        | None ↦ λ k. inr ((nogoods F).1 k, λ at within. elim at [ inl bad ↦ cc | inr bad ↦ cc ])
        | Some g ↦ λ k. elim (same g) [
          | inl e ↦
              let P : Fact → Type 0 = λ x. new (Some x) F → ((Some f ≡ Some x) × (U ≡ F)) ⊎ (old (Some x) F × (((Some f ≡ Some x) ⊎ (Some f ≡ None)) → U ⊆ F → ⊥)) in
              subst P e (λ (here : new (Some f) F). elim ((adds F).0 here) [ inl is ↦ inl (refl, is) | inr o ↦ inr (o.0, λ at within. o.1 within) ]) k
          | inr differ ↦ inr ((others g differ F).1 k, λ at within. elim at [ inl is ↦ differ (let fg : f ≡ g = cc in fg) | inr bad ↦ cc ])
        ]
      ];
    }

  -- as a nogood: each label loses what contains it
  module _ (adds : Adds (old None) (new None) U) (drops : (g : Fact) → Drops (old (Some g)) (new (Some g)) (λ F. U ⊆ F)) where
    pub put_clash : IsPut None U old new
    put_clash = record {
      there = (adds U).1 (inl refl);
      keeps = λ s F. elim s as (λ t. old t F → new t F ⊎ (((no_fact ≡ t) ⊎ (no_fact ≡ None)) × (U ⊆ F))) [
        | None ↦ λ k. elim (inside F) [ inl within ↦ inr (inl refl, within) | inr out ↦ inl ((adds F).1 (inr (k, out))) ]
        | Some g ↦ λ k. elim (inside F) [ inl within ↦ inr (inr refl, within) | inr out ↦ inl ((drops g F).1 (k, out)) ]
      ];
      only = λ s F. elim s as (λ t. new t F → ((no_fact ≡ t) × (U ≡ F)) ⊎ (old t F × (((no_fact ≡ t) ⊎ (no_fact ≡ None)) → U ⊆ F → ⊥))) [
        | None ↦ λ k. elim ((adds F).0 k) [ inl is ↦ inl (refl, is) | inr o ↦ inr (o.0, λ at within. o.1 within) ]
        | Some g ↦ λ k. let o : old (Some g) F × (U ⊆ F → ⊥) = (drops g F).0 k in inr (o.0, λ at within. o.1 within)
      ];
    }
