-- Facts at the cells near a fact, or at the cells of a component, are all that the search needs.
use Rattle.std.proofs.Common.{◌≡◌, ◌⊎◌, inl, inr, ℕ, List, Option, Some, slice_get, sym, ap, subst}
use Rattle.circuit_model.specs.declared.model.Cell.{Cell}
use Rattle.circuit_model.specs.declared.model.Fact.{Fact}
use Rattle.circuit_model.specs.declared.model.Instance.{Instance}
use Rattle.circuit_model.specs.declared.model.Assumption.{Assumption}
use Rattle.circuit_model.specs.declared.model.Assumption.TheVariants.{Part}
use Rattle.circuit_model.specs.Closure.{fact, AreHeld}
use Rattle.environment_sets.specs.Lists.{IsIn}
use Rattle.environment_sets.proofs.Membership.{IsIn-slice_get}
use Rattle.propagation.specs.Propagating.{IsKnownAt, IsEither}
use Rattle.assumption_slots.specs.Slots.{stock}
use Rattle.inference_search.specs.declared.inferred.Inferred.{Inferred}
use Rattle.inference_search.specs.Found.{AreFound, AreMadeBy}
use Rattle.inference_search.specs.Near.{IsCellOf, IsNear}

-- words that are held by what was met are held by what was met near, where each cell is near
held_near : (P Q : Fact → Type 0) (cells : List Cell) (known : List (Option ℕ)) → ((p v : ℕ) (c : Cell) → slice_get cells p ≡ Some c → P (fact c v) → Q (fact c v)) → AreHeld P cells known → AreHeld Q cells known
held_near P Q cells known moves held = record { wide = held.wide; held = λ p v c e d. moves p v c d (held.held p v c e d); alike = held.alike }

module _ (slots : List (Option Assumption)) (met near : List Fact) (f : Fact) (all : (g : Fact) → IsIn met g → IsNear slots f.cell g.cell → IsIn near g) where
  -- what was met at a cell of an instance that has the fact's cell
  moves : (k : ℕ) (part : List Instance) (instance : Instance) (known : List (Option ℕ)) → stock slots k ≡ Some (Part part) → IsIn part instance → IsKnownAt instance.cells known f
      → (p v : ℕ) (c : Cell) → slice_get instance.cells p ≡ Some c → IsIn met (fact c v) ⊎ (fact c v ≡ f) → IsIn near (fact c v) ⊎ (fact c v ≡ f)
  moves k part instance known there of_part used p v c at (inr is) = inr is
  moves k part instance known there of_part used p v c at (inl h) =
      inl (all (fact c v) h (inr (k, (part, there, (instance, of_part, (IsIn-slice_get instance.cells used.port f.cell used.cell, IsIn-slice_get instance.cells p c at))))))

  -- a word at the fact's cell that was met
  at_cell : (c : Cell) (v w u : ℕ) → IsEither (fact c v) (fact c w) f → IsIn met (fact c u) ⊎ (fact c u ≡ f) → IsIn near (fact c u) ⊎ (fact c u ≡ f)
  at_cell c v w u used (inr is) = inr is
  at_cell c v w u used (inl h) =
      let here : c ≡ f.cell = elim used [ inl e ↦ sym (ap (λ (g : Fact). g.cell) e) | inr e ↦ sym (ap (λ (g : Fact). g.cell) e) ] in
      inl (all (fact c u) h (inl here))

  -- what the search finds among the facts near is all that it finds among those that were met
  pub found_near : (found : List Inferred) → AreFound slots near f found → AreFound slots met f found
  found_near found is = record {
    uses = is.uses;
    are = record {
      leads = is.are.leads;
      forced = λ k part instance known p v c there of_part used held at forces.
          is.are.forced k part instance known p v c there of_part used (held_near _ _ instance.cells known (moves k part instance known there of_part used) held) at forces;
      refuted = λ k part instance known there of_part used held refutes.
          is.are.refuted k part instance known there of_part used (held_near _ _ instance.cells known (moves k part instance known there of_part used) held) refutes;
      two_words = λ c v w differ used low high. is.are.two_words c v w differ used (at_cell c v w v used low) (at_cell c v w w used high);
    };
  }

module _ (slots : List (Option Assumption)) (met near : List Fact) (slot : ℕ) (all : (g : Fact) → IsIn met g → IsCellOf slots slot g.cell → IsIn near g) where
  made_moves : (k : ℕ) (part : List Instance) (instance : Instance) → Some k ≡ Some slot → stock slots k ≡ Some (Part part) → IsIn part instance
      → (p v : ℕ) (c : Cell) → slice_get instance.cells p ≡ Some c → IsIn met (fact c v) → IsIn near (fact c v)
  made_moves k part instance by there of_part p v c at h =
      let same : k ≡ slot = cc in
      let P : ℕ → Type 0 = λ n. stock slots n ≡ Some (Part part) in
      all (fact c v) h (part, subst P same there, (instance, of_part, IsIn-slice_get instance.cells p c at))

  -- what the component makes from facts at its own cells is all that it makes from those that were met
  pub made_near : (found : List Inferred) → AreMadeBy slots near slot found → AreMadeBy slots met slot found
  made_near found is = record {
    maker = is.maker;
    are = record {
      leads = is.are.leads;
      forced = λ k part instance known p v c there of_part by held at forces.
          is.are.forced k part instance known p v c there of_part by (held_near (IsIn met) (IsIn near) instance.cells known (made_moves k part instance by there of_part) held) at forces;
      refuted = λ k part instance known there of_part by held refutes.
          is.are.refuted k part instance known there of_part by (held_near (IsIn met) (IsIn near) instance.cells known (made_moves k part instance by there of_part) held) refutes;
      two_words = λ c v w differ by low high. absurd (cc);
    };
  }
