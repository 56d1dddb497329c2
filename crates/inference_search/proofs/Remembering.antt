-- What is remembered at a slot.
use Rattle.std.proofs.Common.{◌≡◌, inl, inr, ℕ, ◌<◌, ◌≤◌, IsTrue, List, length, Option, Some, slice_get, subst, arith}
use Rattle.std.proofs.lemmas.Bool.{cases_lt}
use Rattle.std.proofs.lemmas.Option.{slice_get_within}
use Rattle.circuit_model.specs.declared.model.Fact.{Fact}
use Rattle.circuit_model.specs.declared.model.Instance.{Instance}
use Rattle.circuit_model.specs.declared.model.Assumption.{Assumption}
use Rattle.circuit_model.specs.declared.model.Assumption.TheVariants.{Part}
use Rattle.environment_sets.specs.Sets.{Set}
use Rattle.environment_sets.specs.Lists.{IsIn}
use Rattle.environment_sets.specs.Steps.{HasNoneFrom, IsNextFrom}
use Rattle.environment_sets.proofs.Membership.{IsIn-slice_get, slice_get-IsIn}
use Rattle.inference_search.specs.declared.inferred.Inferred.{Inferred}
use Rattle.assumption_slots.specs.Slots.{stock}
use Rattle.inference_search.specs.Choices.{Uses, IsMade, IsMadeOf, IsMadeAt, IsDonePart, IsDoneAt}

-- what holds of the instance at each place holds of each instance
pub each_instance : (part : List Instance) (P : Instance → Type 0) → ((k : ℕ) → k < length part → (i : Instance) → slice_get part k ≡ Some i → P i) → (i : Instance) → IsIn part i → P i
each_instance part P all i h = let at : (k : ℕ) × (slice_get part k ≡ Some i) = slice_get-IsIn part i h in all at.0 (slice_get_within part at.0 i at.1) i at.1

-- an instance of the component
pub made_of : (slot : ℕ) (part : List Instance) (must : Option Fact) (k : ℕ) (instance : Instance) → slice_get part k ≡ Some instance → (i : Inferred) → IsMade slot instance must i → IsMadeOf slot part must i
made_of slot part must k instance e i made = (instance, IsIn-slice_get part k instance e, made)

pub at_place : (part : List Instance) (k : ℕ) (here : Instance) (P : Instance → Type 0) → slice_get part k ≡ Some here → P here → (i : Instance) → slice_get part k ≡ Some i → P i
at_place part k here P is h i e = let same : here ≡ i = cc in subst P same h

module _ (slots : List (Option Assumption)) (must : Option Fact) (slot : ℕ) (part : List Instance) (at : stock slots slot ≡ Some (Part part)) where
  pub made_at : (i : Inferred) → IsMadeOf slot part must i → IsMadeAt slots must slot i
  made_at i h = record { maker = h.2.maker; uses = h.2.uses; once = h.2.once; leads = h.2.leads (stock slots) part at h.1 }

  pub done_at : (from : List Fact) (found : List Inferred) → IsDonePart slot from must part found → IsDoneAt slots from must slot found
  done_at from found done other e =
      let same : part ≡ other = cc in
      let P : List Instance → Type 0 = λ part. IsDonePart slot from must part found in
      subst P same done

-- what is done at the slots of a set below one number is done at those below the next slot
pub done_below_next : (near : Set ℕ) (Done : ℕ → Type 0) (from slot : ℕ) → IsNextFrom near from slot → ((k : ℕ) → k < from → IsTrue (near k) → Done k) → (k : ℕ) → k < slot → IsTrue (near k) → Done k
done_below_next near Done from slot next done k below is =
    elim (cases_lt k from) [
      | inl early ↦ done k early is
      | inr late ↦ let past : slot ≤ k = next.least k late is in absurd (omega arith)
    ]

-- where there is no next slot, it is done at each slot of the set
pub done_at_each : (near : Set ℕ) (Done : ℕ → Type 0) (from : ℕ) → HasNoneFrom near from → ((k : ℕ) → k < from → IsTrue (near k) → Done k) → (k : ℕ) → IsTrue (near k) → Done k
done_at_each near Done from none done k is = elim (cases_lt k from) [ inl early ↦ done k early is | inr late ↦ absurd (none k late is) ]

-- a component that has no port at the fact's cell has nothing to be found that uses the fact
pub done_near : (slots : List (Option Assumption)) (must : Option Fact) (from : List Fact) (found : List Inferred) (fact : Fact) (near : Set ℕ) → must ≡ Some fact
    → ((k : ℕ) (part : List Instance) (instance : Instance) (p : ℕ) → stock slots k ≡ Some (Part part) → IsIn part instance → slice_get instance.cells p ≡ Some fact.cell → IsTrue (near k))
    → (k : ℕ) → (IsTrue (near k) → IsDoneAt slots from must k found) → IsDoneAt slots from must k found
done_near slots must from found fact near is complete k done part at instance of_part known held uses =
    let used : Uses (Some fact) instance.cells known = subst (λ (m : Option Fact). Uses m instance.cells known) is uses in
    done (complete k part instance used.port at of_part used.cell) part at instance of_part known held uses
