-- Where nothing waits, what is kept is exact.
use Rattle.std.proofs.Common.{◌≡◌, ℕ, zero, suc, ◌⊎◌, inl, inr, refl, ap₂, subst, List, [], ◌∷◌, Option, Some, None, slice_get}
use mathlib.Core.Path.{fun_ext}
use Rattle.circuit_model.specs.declared.model.Cell.{Cell}
use Rattle.circuit_model.specs.declared.model.Fact.{Fact}
use Rattle.circuit_model.specs.Closure.{fact, AreHeld, Holds}
use Rattle.environment_sets.specs.Sets.{Set, ◌⊆◌}
use Rattle.environment_sets.proofs.Membership.{same_bool}
use Rattle.circuit_model.specs.Stock.{Stock, IsChosen, IsRefutedBy, IsInLabel, IsNogood}
use Rattle.environment_sets.specs.Families.{IsCovered}
use Rattle.circuit_model.specs.Settled.{IsSettled, AreExact}
use Rattle.circuit_model.proofs.Monotony.{IsRefutedBy-more}

-- either some port gives the way out, or each port gives the fact
pub ports : (A : Type 0) (B : Fact → Type 0) (cells : List Cell) (known : List (Option ℕ)) → ((p v : ℕ) (c : Cell) → slice_get known p ≡ Some (Some v) → slice_get cells p ≡ Some c → B (fact c v) ⊎ A) → ((p v : ℕ) (c : Cell) → slice_get known p ≡ Some (Some v) → slice_get cells p ≡ Some c → B (fact c v)) ⊎ A
ports A B cells [] each = inl (λ p v c k _. cc)
ports A B [] (o ∷ known) each = inl (λ p v c _ k. cc)
ports A B (d ∷ cells) (None ∷ known) each =
    elim (ports A B cells known (λ p v c k a. each (suc p) v c k a)) [ inl all ↦ inl (step all) | inr out ↦ inr out ]
  where
    step : ((p v : ℕ) (c : Cell) → slice_get known p ≡ Some (Some v) → slice_get cells p ≡ Some c → B (fact c v)) → (p v : ℕ) (c : Cell) → slice_get (None ∷ known) p ≡ Some (Some v) → slice_get (d ∷ cells) p ≡ Some c → B (fact c v)
    step all zero v c k a = cc
    step all (suc p) v c k a = all p v c k a
ports A B (d ∷ cells) (Some w ∷ known) each =
    elim (each zero w d refl refl) [
      | inl b ↦ elim (ports A B cells known (λ p v c k a. each (suc p) v c k a)) [ inl all ↦ inl (step b all) | inr out ↦ inr out ]
      | inr out ↦ inr out
    ]
  where
    step : B (fact d w) → ((p v : ℕ) (c : Cell) → slice_get known p ≡ Some (Some v) → slice_get cells p ≡ Some c → B (fact c v)) → (p v : ℕ) (c : Cell) → slice_get (Some w ∷ known) p ≡ Some (Some v) → slice_get (d ∷ cells) p ≡ Some c → B (fact c v)
    step b all zero v c k a = let word : w ≡ v = cc in let cell : d ≡ c = cc in subst B (ap₂ fact cell word) b
    step b all (suc p) v c k a = all p v c k a

module _ {N : Type 0} where
  pub same_set : (E F : Set N) → E ⊆ F → F ⊆ E → E ≡ F
  same_set E F to from = fun_ext (λ k. same_bool (E k) (F k) (to k) (from k))

module _ {N : Type 0} (S : Stock N) (kept : Fact → Set N → Type 0) (nogoods : Set N → Type 0) (s : IsSettled S kept nogoods) (E : Set N) where
  abbrev Reached : Fact → Type 0
  Reached f = IsCovered (kept f) E ⊎ IsCovered nogoods E

  held : (H : Fact → Type 0) (cells : List Cell) (known : List (Option ℕ)) → ((f : Fact) → H f → Reached f) → AreHeld H cells known → AreHeld (λ f. IsCovered (kept f) E) cells known ⊎ IsCovered nogoods E
  held H cells known reach h =
      elim (ports (IsCovered nogoods E) (λ f. IsCovered (kept f) E) cells known (λ p v c a b. reach _ (h.held p v c a b))) [
        | inl all ↦ inl (record { wide = h.wide; held = all; alike = h.alike })
        | inr out ↦ inr out
      ]

  pub covered : (n : ℕ) (f : Fact) → Holds (IsChosen S E) n f → Reached f
  covered zero f h = s.readings h.name f E h.named h.chosen
  covered (suc n) f (inl h) = covered n f h
  covered (suc n) f (inr h) =
      elim (held (Holds (IsChosen S E) n) h.instance.cells h.known (covered n) h.from) [
        | inl all ↦ s.forced h.assumed.name h.part h.instance h.known h.port f.value f.cell E h.assumed.named h.assumed.chosen h.of_part all h.at h.forces
        | inr out ↦ inr out
      ]

  pub clash_covered : IsRefutedBy S E → IsCovered nogoods E
  clash_covered (n, inl two) =
      elim (covered n _ two.low_holds) [
        | inl low ↦ elim (covered n _ two.high_holds) [ inl high ↦ s.two_words two.cell two.low two.high E two.differ low high | inr out ↦ out ]
        | inr out ↦ out
      ]
  clash_covered (n, inr h) =
      elim (held (Holds (IsChosen S E) n) h.instance.cells h.known (covered n) h.from) [
        | inl all ↦ s.refuted h.assumed.name h.part h.instance h.known E h.assumed.named h.assumed.chosen h.of_part all h.refutes
        | inr out ↦ out
      ]

module _ {N : Type 0} (S : Stock N) (kept : Fact → Set N → Type 0) (nogoods : Set N → Type 0) (s : IsSettled S kept nogoods) where
  kept_to : (f : Fact) (E : Set N) → kept f E → IsInLabel S f E
  kept_to f E k = record {
    environment = s.environments f E k;
    consistent = λ clash. let g : IsCovered nogoods E = clash_covered S kept nogoods s E clash in s.clean f E g.0 k g.1 g.2;
    minimal = record {
      holds = s.sound f E k;
      least = λ F within has. elim (covered S kept nogoods s F has.0 f has.1) [
        | inl c ↦ λ j inside. c.2 j (s.antichain f c.0 E c.1 k (λ i h. within i (c.2 i h)) j inside)
        | inr g ↦ absurd (s.clean f E g.0 k g.1 (λ i h. within i (g.2 i h)))
      ];
    };
  }

  kept_from : (f : Fact) (E : Set N) → IsInLabel S f E → kept f E
  kept_from f E l =
      elim (covered S kept nogoods s E l.minimal.holds.0 f l.minimal.holds.1) [
        | inl c ↦ subst (kept f) (same_set c.0 E c.2 (l.minimal.least c.0 c.2 (s.sound f c.0 c.1))) c.1
        | inr g ↦ absurd (l.consistent (IsRefutedBy-more S g.0 E g.2 (s.nogood_sound g.0 g.1)))
      ]

  nogood_to : (E : Set N) → nogoods E → IsNogood S E
  nogood_to E k = record {
    environment = s.nogood_environments E k;
    minimal = record {
      holds = s.nogood_sound E k;
      least = λ F within clash. let g : IsCovered nogoods F = clash_covered S kept nogoods s F clash in λ j inside. g.2 j (s.nogood_antichain g.0 E g.1 k (λ i h. within i (g.2 i h)) j inside);
    };
  }

  nogood_from : (E : Set N) → IsNogood S E → nogoods E
  nogood_from E l =
      let g : IsCovered nogoods E = clash_covered S kept nogoods s E l.minimal.holds in
      subst nogoods (same_set g.0 E g.2 (l.minimal.least g.0 g.2 (s.nogood_sound g.0 g.1))) g.1

  pub exact : AreExact S kept nogoods
  exact = record { labels = λ f E. (kept_to f E, kept_from f E); nogoods_exact = λ E. (nogood_to E, nogood_from E) }
