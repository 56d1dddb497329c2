-- What known words at the ports of an instance come to.
use Rattle.std.specs.Prelude.{◌≡◌, ◌⊎◌, ℕ, ◌<◌, List, [], ◌∷◌, Option, Some, None, slice_get}
use Rattle.circuit_model.specs.declared.model.Cell.{Cell}
use Rattle.circuit_model.specs.declared.model.Fact.{Fact}
use Rattle.circuit_model.specs.declared.model.Instance.{Instance}
use Rattle.circuit_model.specs.declared.model.Assumption.{Assumption}
use Rattle.circuit_model.specs.declared.model.Assumption.TheVariants.{Part}
use Rattle.circuit_model.specs.Inference.{Forces, Refutes}
use Rattle.circuit_model.specs.Closure.{fact, AreHeld}
use Rattle.circuit_model.specs.Stock.{Stock}
use Rattle.environment_sets.specs.Lists.{IsIn}
use Rattle.propagation.specs.Propagating.{Leads, IsKnownAt, HasInference}
use Rattle.inference_search.specs.declared.inferred.Inferred.{Inferred}
use Rattle.assumption_slots.specs.Slots.{stock}
use Rattle.inference_search.specs.Inferences.{facts, RecordedIn, IsOnce}

-- one of the three is the fact
abbrev pub IsOneOf : Option Fact → Option Fact → Option Fact → Fact → Type 0
IsOneOf a b z f = (a ≡ Some f) ⊎ (b ≡ Some f) ⊎ (z ≡ Some f)

-- where both are facts, they differ
abbrev pub Differ : Option Fact → Option Fact → Type 0
Differ a b = (f : Fact) → a ≡ Some f → b ≡ Some f → ⊥

-- where both are facts at one cell, they are the same
abbrev pub Agree : Option Fact → Option Fact → Type 0
Agree a b = (f g : Fact) → a ≡ Some f → b ≡ Some g → f.cell ≡ g.cell → f ≡ g

-- no two words are known at one cell
abbrev pub AreAlike : List Cell → List (Option ℕ) → Type 0
AreAlike cells known = (f g : Fact) → IsKnownAt cells known f → IsKnownAt cells known g → f.cell ≡ g.cell → f ≡ g

-- the fact that has to be used, where there is one, is known at a port
abbrev pub Uses : Option Fact → List Cell → List (Option ℕ) → Type 0
Uses None cells known = Unit {0}
Uses (Some f) cells known = IsKnownAt cells known f

-- the inference goes from the fact that has to be used, where there is one
abbrev pub GoesFrom : Option Fact → List Fact → Type 0
GoesFrom None from = Unit {0}
GoesFrom (Some f) from = IsIn from f

-- what was found stays
abbrev pub Stays : List Inferred → List Inferred → Type 0
Stays old new = (i : Inferred) → IsIn old i → IsIn new i

-- what was found stays, what is added has the property, and something is done by what is found now
pub record Finds (Q : Inferred → Type 0) (Done : List Inferred → Type 0) (old new : List Inferred) : Type 0 where
  pub stays : Stays old new
  pub only : (i : Inferred) → IsIn new i → IsIn old i ⊎ Q i
  pub done : Done new

-- the same inference to the fact
abbrev pub to_fact : Inferred → Cell → ℕ → Inferred
to_fact clash c v = record clash { to = Some (fact c v) }

-- it is the inference to the word that is forced at a port
abbrev pub IsForcedWord : List Cell → List (Option ℕ) → Inferred → Inferred → Type 0
IsForcedWord cells forced clash i = (p v : ℕ) × (c : Cell) × (slice_get cells p ≡ Some c) × (slice_get forced p ≡ Some (Some v)) × (i ≡ to_fact clash c v)

-- the inference to the word that is forced at the port is found
abbrev pub HasForcedWord : List Cell → List (Option ℕ) → Inferred → ℕ → List Inferred → Type 0
HasForcedWord cells forced clash p found = (v : ℕ) (c : Cell) → slice_get cells p ≡ Some c → slice_get forced p ≡ Some (Some v) → IsIn found (to_fact clash c v)

-- an inference of the instance, by a component at the slot that has it, from the fact that has to be used
pub record IsMade (slot : ℕ) (instance : Instance) (must : Option Fact) (i : Inferred) : Type 0 where
  pub maker : i.maker ≡ Some slot
  pub uses : GoesFrom must (facts i.first i.second)
  pub once : IsOnce i
  pub leads : (S : Stock ℕ) (part : List Instance) → S slot ≡ Some (Part part) → IsIn part instance → Leads S (facts i.first i.second) i.maker i.to

-- an inference from the known words to the target is found
abbrev pub IsToldOf : ℕ → List Cell → List (Option ℕ) → List Inferred → Option Fact → Type 0
IsToldOf slot cells known found to = HasInference (RecordedIn found) to (Some slot) (IsKnownAt cells known)

-- what the known words say is found
pub record IsTold (slot : ℕ) (instance : Instance) (known : List (Option ℕ)) (found : List Inferred) : Type 0 where
  pub forced : (p v : ℕ) (c : Cell) → slice_get instance.cells p ≡ Some c → Forces instance.prim instance.widths known p v → IsToldOf slot instance.cells known found (Some (fact c v))
  pub refuted : Refutes instance.prim instance.widths known → IsToldOf slot instance.cells known found None

-- what the known words say is found, where they use the fact and no two words are known at one cell
abbrev pub IsDone : ℕ → Instance → Option Fact → List (Option ℕ) → List Inferred → Type 0
IsDone slot instance must known found = AreAlike instance.cells known → Uses must instance.cells known → IsTold slot instance known found

-- the same with these two words and each of the third ones
abbrev pub AreThirdsDone : ℕ → Instance → Option Fact → List (Option ℕ) → Option ℕ → Option ℕ → List Inferred → Type 0
AreThirdsDone slot instance must thirds a b found = (z : Option ℕ) → IsIn thirds z → IsDone slot instance must (a ∷ b ∷ z ∷ []) found

-- the same with this word and each of the second and third ones
abbrev pub AreSecondsDone : ℕ → Instance → Option Fact → List (Option ℕ) → List (Option ℕ) → Option ℕ → List Inferred → Type 0
AreSecondsDone slot instance must seconds thirds a found = (b : Option ℕ) → IsIn seconds b → AreThirdsDone slot instance must thirds a b found

-- the same with each of the first, second and third words
abbrev pub AreAllDone : ℕ → Instance → Option Fact → List (Option ℕ) → List (Option ℕ) → List (Option ℕ) → List Inferred → Type 0
AreAllDone slot instance must firsts seconds thirds found = (a : Option ℕ) → IsIn firsts a → AreSecondsDone slot instance must seconds thirds a found

-- what known words say is found, for all known words that are among the facts and use the one that has to be used
abbrev pub IsDoneFrom : ℕ → List Fact → Option Fact → Instance → List Inferred → Type 0
IsDoneFrom slot from must instance found =
    (known : List (Option ℕ)) → AreHeld (IsIn from) instance.cells known → Uses must instance.cells known → IsTold slot instance known found

-- the same for each instance of the component
abbrev pub IsDonePart : ℕ → List Fact → Option Fact → List Instance → List Inferred → Type 0
IsDonePart slot from must part found = (instance : Instance) → IsIn part instance → IsDoneFrom slot from must instance found

-- the same for the component at the slot, if there is one
abbrev pub IsDoneAt : List (Option Assumption) → List Fact → Option Fact → ℕ → List Inferred → Type 0
IsDoneAt slots from must slot found = (part : List Instance) → stock slots slot ≡ Some (Part part) → IsDonePart slot from must part found

-- an inference of the component, by a slot that has it
abbrev pub IsMadeOf : ℕ → List Instance → Option Fact → Inferred → Type 0
IsMadeOf slot part must i = (instance : Instance) × IsIn part instance × IsMade slot instance must i

-- an inference of what is remembered, from the fact that has to be used
pub record IsMadeAt (slots : List (Option Assumption)) (must : Option Fact) (slot : ℕ) (i : Inferred) : Type 0 where
  pub maker : i.maker ≡ Some slot
  pub uses : GoesFrom must (facts i.first i.second)
  pub once : IsOnce i
  pub leads : Leads (stock slots) (facts i.first i.second) i.maker i.to

-- an inference of what is remembered at some slot
abbrev pub IsMadeAtSome : List (Option Assumption) → Option Fact → Inferred → Type 0
IsMadeAtSome slots must i = (slot : ℕ) × IsMadeAt slots must slot i

-- what is tried at the place: nothing, and, if it is a port, each word of the facts at its cell
pub record AreTries (from : List Fact) (cells : List Cell) (ports p : ℕ) (tries : List (Option ℕ)) : Type 0 where
  pub cell : Cell
  pub there : slice_get cells p ≡ Some cell
  pub nothing : IsIn tries None
  pub words : (v : ℕ) → p < ports → IsIn from (fact cell v) → IsIn tries (Some v)

-- the same at each of the three places
pub record AreChoices (from : List Fact) (cells : List Cell) (ports : ℕ) (firsts seconds thirds : List (Option ℕ)) : Type 0 where
  pub first : AreTries from cells ports 0 firsts
  pub second : AreTries from cells ports 1 seconds
  pub third : AreTries from cells ports 2 thirds

-- the clash of a fact and another word at its cell
abbrev pub clash_of : Fact → Fact → Inferred
clash_of f g = record { first = Some f; second = Some g; to = None; maker = None }

-- it is the clash of the fact and another word at its cell
abbrev pub IsClashOf : Fact → Inferred → Type 0
IsClashOf f i = (g : Fact) × (g.cell ≡ f.cell) × (g.value ≡ f.value → ⊥) × (i ≡ clash_of f g)

-- the clash of the two is found, if these are two words at one cell
abbrev pub HasClashOf : Fact → Fact → List Inferred → Type 0
HasClashOf f g found = g.cell ≡ f.cell → (g.value ≡ f.value → ⊥) → IsIn found (clash_of f g)
