-- Antichains under changes.
use Rattle.std.proofs.Common.{inl, inr, sym, subst}
use Rattle.environment_sets.specs.Sets.{Set, ◌⊆◌}
use Rattle.environment_sets.specs.Families.{IsCovered, IsAntichain, Adds, Drops}

module _ {N : Type 0} (Old New : Set N → Type 0) where
  -- an antichain stays one where members are dropped
  pub Drops-antichain : (P : Set N → Type 0) → Drops Old New P → IsAntichain Old → IsAntichain New
  Drops-antichain P drops antichain E F a b = antichain E F ((drops E).0 a).0 ((drops F).0 b).0

  -- and where a set that it does not cover is put in
  pub Adds-antichain : (U : Set N) → Adds Old New U → (IsCovered Old U → ⊥) → IsAntichain Old → IsAntichain New
  Adds-antichain U adds uncovered antichain E F a b within =
      elim ((adds E).0 a) [
        | inl e ↦ elim ((adds F).0 b) [
          | inl f ↦ let P : Set N → Type 0 = λ G. F ⊆ G in let Q : Set N → Type 0 = λ G. G ⊆ U in subst P e (subst Q f (λ k h. h))
          | inr old ↦ let Q : Set N → Type 0 = λ G. G ⊆ F in absurd (old.1 (subst Q (sym e) within))
        ]
        | inr old ↦ elim ((adds F).0 b) [
          | inl f ↦ let P : Set N → Type 0 = λ G. E ⊆ G in absurd (uncovered (E, old.0, subst P (sym f) within))
          | inr other ↦ antichain E F old.0 other.0 within
        ]
      ]
