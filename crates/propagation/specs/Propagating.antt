-- What holds while labels are brought up to date.
use Rattle.std.specs.Prelude.{◌≡◌, ◌↔◌, ℕ, ◌<◌, ◌^◌, ◌⊎◌, IsTrue, IsFalse, List, [], ◌∷◌, Option, Some, None, IsSome, slice_get}
use Rattle.circuit_model.specs.declared.model.Cell.{Cell}
use Rattle.circuit_model.specs.declared.model.Fact.{Fact}
use Rattle.circuit_model.specs.declared.model.Instance.{Instance}
use Rattle.circuit_model.specs.declared.model.Assumption.{Assumption}
use Rattle.circuit_model.specs.declared.model.Assumption.TheVariants.{Part, Reading}
use Rattle.circuit_model.specs.Inference.{ports_of, Forces, Refutes}
use Rattle.circuit_model.specs.Closure.{fact, AreHeld, IsForced, IsRefuted, AreTwoWords}
use Rattle.environment_sets.specs.Lists.{IsIn}
use Rattle.environment_sets.specs.declared.environment.TheConstants.{SLOTS}
use Rattle.environment_sets.specs.Sets.{Set, ◌⊆◌, size_below}
use Rattle.circuit_model.specs.Stock.{Stock, IsEnvironment, Has, IsRefutedBy}
use Rattle.environment_sets.specs.Families.{IsCovered, IsAntichain}

-- what an inference leads to: a fact, or a clash
abbrev pub Target : Type 0
Target = Option Fact

-- sets at each target: environments at a fact, nogoods at the clash
abbrev pub Family : Type 1
Family = Target → Set ℕ → Type 0

-- a recorded inference: the facts that it goes from, each once, what it leads to, and the slot of the component that makes it
pub record RecordedInference : Type 0 where
  pub from : List Fact
  pub to : Target
  pub maker : Option ℕ

-- the closure of the environment has the fact, or, where the target is the clash, it clashes
abbrev pub HasAt : Stock ℕ → Target → Set ℕ → Type 0
HasAt S None E = IsRefutedBy S E
HasAt S (Some f) E = Has S f E

-- the assumption that makes the inference
abbrev pub IsMaker : Stock ℕ → Option ℕ → Assumption → Type 0
IsMaker S maker a = (k : ℕ) × (maker ≡ Some k) × (S k ≡ Some a)

-- the inference is one step of the closure from its own facts, by its maker alone
abbrev pub Leads : Stock ℕ → List Fact → Option ℕ → Target → Type 0
Leads S from maker (Some f) = IsForced (IsMaker S maker) (IsIn from) f
Leads S from maker None = IsRefuted (IsMaker S maker) (IsIn from) ⊎ ((maker ≡ None) × AreTwoWords (IsIn from))

-- the slot of the maker, where there is one, is in the set
abbrev pub HasMaker : Option ℕ → Set ℕ → Type 0
HasMaker maker E = (k : ℕ) → maker ≡ Some k → IsTrue (E k)

-- beside each fact a set that is kept for it, inside E
abbrev pub AreChosen : Family → Set ℕ → List Fact → List (Set ℕ) → Type 0
AreChosen kept E [] [] = Unit {0}
AreChosen kept E (f ∷ fs) (m ∷ ms) = kept (Some f) m × (m ⊆ E) × AreChosen kept E fs ms
AreChosen kept E _ _ = ⊥

-- one of the facts waits with the set beside it
abbrev pub SomeWaits : (Fact → Set ℕ → Type 0) → List Fact → List (Set ℕ) → Type 0
SomeWaits waits (f ∷ fs) (m ∷ ms) = waits f m ⊎ SomeWaits waits fs ms
SomeWaits waits _ _ = ⊥

-- the fact is known at a port: its word, at its cell
pub record IsKnownAt (cells : List Cell) (known : List (Option ℕ)) (f : Fact) : Type 0 where
  pub port : ℕ
  pub word : slice_get known port ≡ Some (Some f.value)
  pub cell : slice_get cells port ≡ Some f.cell

-- a subset of E is kept at the target, or as a nogood
abbrev pub IsReached : Family → Target → Set ℕ → Type 0
IsReached kept t E = IsCovered (kept t) E ⊎ IsCovered (kept None) E

-- E is reached, or a subset of it is still to be put in at the target
abbrev pub IsDue : Family → Family → Target → Set ℕ → Type 0
IsDue kept pending t E = IsReached kept t E ⊎ IsCovered (pending t) E

-- the fact is reached under a proper subset of E
abbrev pub IsReachedUnderLess : Family → Set ℕ → Fact → Type 0
IsReachedUnderLess kept E f = (G : Set ℕ) × (G ⊆ E) × (size_below SLOTS G < size_below SLOTS E) × IsReached kept (Some f) G

-- the component at the slot forces the fact from words that are reached under less than E
abbrev pub IsSourced : Stock ℕ → Family → ℕ → Fact → Set ℕ → Type 0
IsSourced S kept slot f E = IsForced (IsMaker S (Some slot)) (IsReachedUnderLess kept E) f

-- the component at the slot is one instance, with a cell of its own at each port, and with more than one word at each width
pub record IsLone (S : Stock ℕ) (slot : ℕ) : Type 0 where
  pub instance : Instance
  pub named : S slot ≡ Some (Part (instance ∷ []))
  pub celled : (p : ℕ) → p < ports_of instance.prim → IsSome (slice_get instance.cells p)
  pub apart : (p q : ℕ) (c : Cell) → p < ports_of instance.prim → q < ports_of instance.prim → slice_get instance.cells p ≡ Some c → slice_get instance.cells q ≡ Some c → p ≡ q
  pub wide : (p w : ℕ) → slice_get instance.widths p ≡ Some w → 1 < 2 ^ w

-- one of the facts, with the set beside it, has its source in the maker, which is one instance: it would lead back to what it came from
pub record LeadsBack (S : Stock ℕ) (kept : Family) (maker : Option ℕ) (from : List Fact) (ms : List (Set ℕ)) : Type 0 where
  pub slot : ℕ
  pub made : maker ≡ Some slot
  pub lone : IsLone S slot
  pub some_sourced : SomeWaits (IsSourced S kept slot) from ms

-- what is kept are environments of the stock whose closures have the target, none contains another, and none contains a nogood
pub record IsSound (S : Stock ℕ) (kept : Family) : Type 0 where
  pub environments : (t : Target) (E : Set ℕ) → kept t E → IsEnvironment S E
  pub sound : (t : Target) (E : Set ℕ) → kept t E → HasAt S t E
  pub antichain : (t : Target) → IsAntichain (kept t)
  pub clean : (f : Fact) (E g : Set ℕ) → kept (Some f) E → kept None g → g ⊆ E → ⊥

-- an inference to the target, by the maker, from some of the known facts is recorded
abbrev pub HasInference : (RecordedInference → Type 0) → Target → Option ℕ → (Fact → Type 0) → Type 0
HasInference recorded to maker known = (j : RecordedInference) × recorded j × (j.to ≡ to) × (j.maker ≡ maker) × ((f : Fact) → IsIn j.from f → known f)

-- the fact is one of the two
abbrev pub IsEither : Fact → Fact → Fact → Type 0
IsEither f g h = (h ≡ f) ⊎ (h ≡ g)

-- which inferences are meant, by their maker and the known facts
abbrev pub Scope : Type 1
Scope = Option ℕ → (Fact → Type 0) → Type 0

-- all of them
abbrev pub All : Scope
All maker known = Unit {0}

-- those for which the fact is known
abbrev pub Using : Fact → Scope
Using f maker known = known f

-- those that the component at the slot makes
abbrev pub MadeAt : ℕ → Scope
MadeAt slot maker known = maker ≡ Some slot

-- of those that are meant, each inference from facts that were met is recorded, and what is recorded is an inference
pub record AreRecorded (S : Stock ℕ) (met : Fact → Type 0) (scope : Scope) (recorded : RecordedInference → Type 0) : Type 0 where
  pub leads : (j : RecordedInference) → recorded j → Leads S j.from j.maker j.to
  pub forced :
      (k : ℕ) (part : List Instance) (instance : Instance) (known : List (Option ℕ)) (p v : ℕ) (c : Cell) → S k ≡ Some (Part part) → IsIn part instance
      → scope (Some k) (IsKnownAt instance.cells known) → AreHeld met instance.cells known → slice_get instance.cells p ≡ Some c → Forces instance.prim instance.widths known p v
      → HasInference recorded (Some (fact c v)) (Some k) (IsKnownAt instance.cells known)
  pub refuted :
      (k : ℕ) (part : List Instance) (instance : Instance) (known : List (Option ℕ)) → S k ≡ Some (Part part) → IsIn part instance
      → scope (Some k) (IsKnownAt instance.cells known) → AreHeld met instance.cells known → Refutes instance.prim instance.widths known
      → HasInference recorded None (Some k) (IsKnownAt instance.cells known)
  pub two_words :
      (c : Cell) (v w : ℕ) → (v ≡ w → ⊥) → scope None (IsEither (fact c v) (fact c w)) → met (fact c v) → met (fact c w)
      → HasInference recorded None None (IsEither (fact c v) (fact c w))

-- each reading, and each choice of kept sets for a recorded inference, is reached, is to be put in, waits, or leads back
pub record AreCarriedOut (S : Stock ℕ) (kept : Family) (recorded : RecordedInference → Type 0) (pending : Family) (waits : RecordedInference → Fact → Set ℕ → Type 0) : Type 0 where
  pub readings : (k : ℕ) (f : Fact) (E : Set ℕ) → S k ≡ Some (Reading f) → IsTrue (E k) → IsDue kept pending (Some f) E
  pub inferences :
      (j : RecordedInference) (ms : List (Set ℕ)) (E : Set ℕ) → recorded j → AreChosen kept E j.from ms → HasMaker j.maker E
      → IsDue kept pending j.to E ⊎ (SomeWaits (waits j) j.from ms ⊎ LeadsBack S kept j.maker j.from ms)

-- what is to be put in is sound
pub record IsPendingSound (S : Stock ℕ) (pending : Family) : Type 0 where
  pub environments : (t : Target) (E : Set ℕ) → pending t E → IsEnvironment S E
  pub sound : (t : Target) (E : Set ℕ) → pending t E → HasAt S t E

-- what is at hand names a recorded inference, one of its facts, and an environment whose closure has it
pub record IsWaitingSound (S : Stock ℕ) (recorded : RecordedInference → Type 0) (at_hand : RecordedInference → Fact → Set ℕ → Type 0) : Type 0 where
  pub inference : (j : RecordedInference) (f : Fact) (E : Set ℕ) → at_hand j f E → recorded j
  pub antecedent : (j : RecordedInference) (f : Fact) (E : Set ℕ) → at_hand j f E → IsIn j.from f
  pub environment : (j : RecordedInference) (f : Fact) (E : Set ℕ) → at_hand j f E → IsEnvironment S E
  pub sound : (j : RecordedInference) (f : Fact) (E : Set ℕ) → at_hand j f E → Has S f E

-- an inference waits with a set at one of its facts: it is at hand there, or it is recorded and the set came to the fact and was
-- not carried out
abbrev pub Waits : (RecordedInference → Type 0) → (RecordedInference → Fact → Set ℕ → Type 0) → (Fact → Set ℕ → Type 0) → RecordedInference → Fact → Set ℕ → Type 0
Waits recorded at_hand came j f E = at_hand j f E ⊎ (recorded j × IsIn j.from f × came f E)

-- a set that came to a fact is an environment whose closure has it
pub record HaveComeSoundly (S : Stock ℕ) (came : Fact → Set ℕ → Type 0) : Type 0 where
  pub environment : (f : Fact) (E : Set ℕ) → came f E → IsEnvironment S E
  pub sound : (f : Fact) (E : Set ℕ) → came f E → Has S f E

-- what is due to a component, and what came by one, has its source there; what is at hand and what came is reached at its fact
pub record AreSourced
    (S : Stock ℕ) (kept : Family) (due_by : ℕ → Fact → Set ℕ → Type 0) (at_hand : RecordedInference → Fact → Set ℕ → Type 0) (came : Fact → Set ℕ → Type 0)
    (came_by : ℕ → Fact → Set ℕ → Type 0) : Type 0 where
  pub due : (k : ℕ) (f : Fact) (E : Set ℕ) → due_by k f E → IsSourced S kept k f E
  pub at_hand_reached : (j : RecordedInference) (f : Fact) (E : Set ℕ) → at_hand j f E → IsReached kept (Some f) E
  pub came_reached : (f : Fact) (E : Set ℕ) → came f E → IsReached kept (Some f) E
  pub came_sourced : (k : ℕ) (f : Fact) (E : Set ℕ) → came_by k f E → IsSourced S kept k f E

-- the maker of the inference is one instance, and the fact with the set has its source in it
pub record IsPassedOver (S : Stock ℕ) (kept : Family) (maker : Option ℕ) (f : Fact) (E : Set ℕ) : Type 0 where
  pub slot : ℕ
  pub made : maker ≡ Some slot
  pub lone : IsLone S slot
  pub sourced : IsSourced S kept slot f E

-- the two keep the same sets that lack the slot
abbrev pub AgreeWithout : ℕ → Family → Family → Type 0
AgreeWithout slot old new = (t : Target) (E : Set ℕ) → IsFalse (E slot) → old t E ↔ new t E

-- the set is put in at the target: what goes contains it and is kept there, or anywhere where the target is the clash
pub record IsPut (t : Target) (U : Set ℕ) (old new : Family) : Type 0 where
  pub there : new t U
  pub keeps : (s : Target) (F : Set ℕ) → old s F → new s F ⊎ (((t ≡ s) ⊎ (t ≡ None)) × (U ⊆ F))
  pub only : (s : Target) (F : Set ℕ) → new s F → ((t ≡ s) × (U ≡ F)) ⊎ (old s F × (((t ≡ s) ⊎ (t ≡ None)) → U ⊆ F → ⊥))

-- what holds from pick to pick, and after each set that is put in
pub record IsPropagating
    (S : Stock ℕ) (slot : ℕ) (met : Fact → Type 0) (kept : Family) (recorded : RecordedInference → Type 0) (pending : Family) (at_hand : RecordedInference → Fact → Set ℕ → Type 0)
    (came : Fact → Set ℕ → Type 0) : Type 0 where
  pub sound : IsSound S kept
  -- all that is sound without the further slot is reached
  pub before : (t : Target) (E : Set ℕ) → IsFalse (E slot) → HasAt S t E → IsReached kept t E
  pub are : AreRecorded S met All recorded
  pub were_met : (f : Fact) (E : Set ℕ) → kept (Some f) E → met f
  pub carried : AreCarriedOut S kept recorded pending (Waits recorded at_hand came)
  pub due : IsPendingSound S pending
  pub waiting : IsWaitingSound S recorded at_hand
  pub arrivals : HaveComeSoundly S came
