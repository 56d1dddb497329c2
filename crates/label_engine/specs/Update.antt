-- What holds while labels are brought up to date with one assumption more.
use Rattle.std.specs.Prelude.{◌≡◌, ◌⊎◌, ℕ, ◌+◌, ◌*◌, ◌^◌, ◌<◌, Bool, true, false, ◌||◌, ◌&&◌, not, IsTrue, IsFalse, IfSome, ◌==◌, cond, Option, Some, None, List, [], ◌∷◌, ◌++◌, length, map, filter, ◌≤◌, ◌↔◌}
use Rattle.std.specs.Option.{option_or, is_none}
use Rattle.circuit_model.specs.declared.model.Fact.{Fact}
use Rattle.circuit_model.specs.declared.model.Assumption.{Assumption}
use Rattle.circuit_model.specs.Stock.{Stock}
use Rattle.circuit_model.specs.Settled.{IsSettled}
use Rattle.environment_sets.specs.declared.environment.Env.{Env}
use Rattle.environment_sets.specs.declared.environment.TheConstants.{SLOTS}
use Rattle.environment_sets.specs.Sets.{Set, ◌⊆◌, ◌∪◌, no_elements, only}
use Rattle.environment_sets.specs.Members.{members, HasMember}
use Rattle.environment_sets.specs.Lists.{IsIn, AreDistinct}
use Rattle.environment_sets.specs.Families.{Drops}
use Rattle.antichains.specs.Completed.{Complete, Lacking}
use Rattle.propagation.specs.Propagating.{Target, Family, RecordedInference, Leads, All, AreRecorded, IsLone, AreSourced, IsPropagating, IsReached, AgreeWithout, IsPut}
use Rattle.propagation.specs.Uncovered.{uncovered}
use Rattle.labelled_nodes.specs.declared.node.Node.{Node}
use Rattle.label_engine.specs.declared.insertion.Insertion.{Insertion}
use Rattle.inference_search.specs.declared.inferred.Inferred.{Inferred}
use Rattle.assumption_slots.specs.Slots.{stock}
use Rattle.inference_search.specs.Inferences.{facts, inference, RecordedIn, IsOnce}
use Rattle.recorded_inferences.specs.Recorded.{GoesFrom, AreExactly, AreWithout}
use Rattle.inference_search.specs.Found.{AreFound}
use Rattle.label_engine.specs.declared.update.Arrival.{Arrival}
use Rattle.label_engine.specs.declared.update.Pending.{Pending}
use Rattle.label_engine.specs.declared.update.Completing.{Completing}
use Rattle.label_engine.specs.declared.update.Update.{Update}
use Rattle.labelled_nodes.specs.Nodes.{Labelled, is_same, facts_of, label_in, KeptIn, EachDrops, is_supported, reaches}

-- the two are the same target
abbrev pub is_same_target : Target → Target → Bool
is_same_target None None = true
is_same_target None (Some g) = false
is_same_target (Some f) None = false
is_same_target (Some f) (Some g) = is_same f g

-- the inference goes from the fact
abbrev pub goes_from : Fact → Inferred → Bool
goes_from f i = is_same_target i.first (Some f) || is_same_target i.second (Some f)

-- the two are made by the same component, or both by none
abbrev pub is_same_maker : Option ℕ → Option ℕ → Bool
is_same_maker None None = true
is_same_maker None (Some k) = false
is_same_maker (Some k) None = false
is_same_maker (Some k) (Some l) = k == l

-- there is no fact, or the inference goes from it
abbrev pub goes_from_any : Option Fact → Inferred → Bool
goes_from_any None i = true
goes_from_any (Some f) i = goes_from f i

-- whether the one leads to the same as the other, by the same maker, and from no further fact
unfoldable pub says_as_much : Inferred → Inferred → Bool
says_as_much j i = is_same_target j.to i.to && (is_same_maker j.maker i.maker && (goes_from_any j.first i && goes_from_any j.second i))

-- the one leads to the same as the other, by the same maker, and from no further fact
pub record SaysAsMuch (j i : Inferred) : Type 0 where
  pub to : j.to ≡ i.to
  pub maker : j.maker ≡ i.maker
  pub from : (f : Fact) → IsIn (facts j.first j.second) f → IsIn (facts i.first i.second) f

-- one that is recorded, or is to be recorded, says as much
abbrev pub IsSaid : List Inferred → List Inferred → Inferred → Type 0
IsSaid recorded needed i = (j : Inferred) × (IsIn recorded j ⊎ IsIn needed j) × SaysAsMuch j i

-- the facts that the inference goes from differ, and what makes it is a slot
pub record CanBeRecorded (i : Inferred) : Type 0 where
  pub once : IsOnce i
  pub maker : IfSome i.maker (λ slot. slot < SLOTS)

-- more are recorded
abbrev pub AreAlso : List Inferred → List Inferred → List Inferred → Type 0
AreAlso more old new = AreExactly (λ i. IsIn old i ⊎ IsIn more i) new

-- some more are recorded, and none less
pub record HasSomeOf (more old new : List Inferred) : Type 0 where
  pub stay : (i : Inferred) → IsIn old i → IsIn new i
  pub only : (i : Inferred) → IsIn new i → IsIn old i ⊎ IsIn more i

-- of what was found, what is to be recorded: for each that was found, one that is recorded, or is to be, says as much
pub record AreNeeded (recorded found needed : List Inferred) : Type 0 where
  pub of_found : (i : Inferred) → IsIn needed i → IsIn found i
  pub said : (i : Inferred) → IsIn found i → IsSaid recorded needed i

-- the inference is to be recorded too, or one says as much and all stays
abbrev pub IsNeededOrSaid : List Inferred → Inferred → List Inferred → List Inferred → Type 0
IsNeededOrSaid recorded i old new = (new ≡ old ++ i ∷ []) ⊎ ((new ≡ old) × IsSaid recorded old i)

-- the environments that are to be put in at each target
abbrev pub DueIn : List Insertion → Family
DueIn due t E = (d : Insertion) × IsIn due d × (d.target ≡ t) × (members d.env ≡ E)

-- the environments that are to be put in at each fact, and have their source in the component at the slot
abbrev pub DueBy : List Insertion → ℕ → Fact → Set ℕ → Type 0
DueBy due k f E = (d : Insertion) × IsIn due d × (d.target ≡ Some f) × (d.source ≡ Some k) × (members d.env ≡ E)

-- the inference is at hand with an environment of one of its facts
abbrev pub IsAtHand : List Pending → RecordedInference → Fact → Set ℕ → Type 0
IsAtHand work j f E = (p : Pending) × IsIn work p × (inference p.inferred ≡ j) × (p.at ≡ f) × (members p.env ≡ E)

-- the environment came to the fact and was not carried out
abbrev pub HasCome : List Arrival → Fact → Set ℕ → Type 0
HasCome agenda f E = (a : Arrival) × IsIn agenda a × (a.fact ≡ f) × (members a.env ≡ E)

-- the environment that came to the fact has its source in the component at the slot
abbrev pub HasComeBy : List Arrival → ℕ → Fact → Set ℕ → Type 0
HasComeBy agenda k f E = (a : Arrival) × IsIn agenda a × (a.fact ≡ f) × (a.source ≡ Some k) × (members a.env ≡ E)

-- what holds while environments are to be put in, inferences are at hand, and environments that came wait
pub record Holds (slots : List (Option Assumption)) (slot : ℕ) (nodes : Labelled) (recorded : List Inferred) (due : List Insertion) (work : List Pending) (agenda : List Arrival) : Type 0 where
  pub propagating : IsPropagating (stock slots) slot (IsIn (facts_of nodes.list)) (KeptIn nodes) (RecordedIn recorded) (DueIn due) (IsAtHand work) (HasCome agenda)
  pub sourced : AreSourced (stock slots) (KeptIn nodes) (DueBy due) (IsAtHand work) (HasCome agenda) (HasComeBy agenda)

-- it holds of the update
abbrev pub Propagates : List (Option Assumption) → Update → Type 0
Propagates slots u = Holds slots u.slot u.nodes u.recorded u.due.items u.work.items u.agenda

-- it holds with one insertion more that is due
abbrev pub DueAlso : List (Option Assumption) → Insertion → Update → Type 0
DueAlso slots due u = Holds slots u.slot u.nodes u.recorded (due ∷ u.due.items) u.work.items u.agenda

-- it holds with one inference more that is at hand
abbrev pub IsAtHandAlso : List (Option Assumption) → Pending → Update → Type 0
IsAtHandAlso slots item u = Holds slots u.slot u.nodes u.recorded u.due.items (item ∷ u.work.items) u.agenda

-- it holds with one environment more that came
abbrev pub HasComeAlso : List (Option Assumption) → Arrival → Update → Type 0
HasComeAlso slots arrival u = Holds slots u.slot u.nodes u.recorded u.due.items u.work.items (arrival ∷ u.agenda)

-- the inference, with an environment of one of its facts
abbrev pub item_at : Fact → Env → Inferred → Pending
item_at f e i = record { inferred = i; at = f; env = e }

-- whether the target is the clash, or, where it is asked for the others, a fact
abbrev pub ends_in : Bool → Target → Bool
ends_in true None = true
ends_in true (Some f) = false
ends_in false None = false
ends_in false (Some f) = true

-- the component at the slot makes it
abbrev pub is_made_at : ℕ → Option ℕ → Bool
is_made_at slot None = false
is_made_at slot (Some k) = k == slot

-- whether the inference is passed over: it is made at the slot, if there is one
abbrev pub is_passed : Option ℕ → Inferred → Bool
is_passed None i = false
is_passed (Some slot) i = is_made_at slot i.maker

-- the inference goes to a clash, or to a value, and is not passed over
abbrev pub is_next : Option ℕ → Bool → Inferred → Bool
is_next passed clash i = ends_in clash i.to && not (is_passed passed i)

-- each of the inferences from the fact to a clash, or to a value, that is not passed over, with the environment
abbrev pub items_to : Option ℕ → Bool → Fact → Env → List Inferred → List Pending
items_to passed clash f e uses = map (item_at f e) (filter (is_next passed clash) uses)

-- each of the inferences from the fact that is not passed over, with the environment: those to a clash last
abbrev pub items_at : Option ℕ → Fact → Env → List Inferred → List Pending
items_at passed f e uses = items_to passed false f e uses ++ items_to passed true f e uses

-- what is passed over where an environment with the source is brought in: the source, where its component is one instance
abbrev pub IsPassed : List (Option Assumption) → Option ℕ → ℕ → Type 0
IsPassed slots source k = (source ≡ Some k) × IsLone (stock slots) k

-- the environment comes to the target, where that is a fact, with its source
abbrev pub arrivals_at : Target → Env → Option ℕ → List Arrival
arrivals_at None e source = []
arrivals_at (Some f) e source = record { fact = f; env = e; source = source } ∷ []

-- one of the facts that the inference goes from, if it goes from any
abbrev pub some_fact : Inferred → Option Fact
some_fact i = option_or i.first i.second

-- the inference goes from no fact
abbrev pub goes_from_none : Inferred → Bool
goes_from_none i = is_none (some_fact i)

-- the environment, at what the inference leads to
abbrev pub due_with : Env → Inferred → Insertion
due_with e i = record { target = i.to; env = e; source = None }

-- the inference with each environment of the fact's label
abbrev pub items_with : List Node → Inferred → Option Fact → List Pending
items_with nodes i None = []
items_with nodes i (Some f) = map (λ e. item_at f e i) (label_in nodes f)

-- each of the inferences with each environment of one of its facts
abbrev pub items_from : List Node → List Inferred → List Pending
items_from nodes [] = []
items_from nodes (i ∷ is) = items_with nodes i (some_fact i) ++ items_from nodes is

-- of the facts that the inference goes from, the one other than this one
abbrev pub other_fact : Inferred → Fact → Option Fact
other_fact i f = cond (is_same_target i.first (Some f)) i.second i.first

-- the slot of the maker, if there is one
abbrev pub made_by : Option ℕ → Set ℕ
made_by None = no_elements
made_by (Some k) = only k

-- the item's environment, its maker and another set together
abbrev pub union_of : Pending → Set ℕ → Set ℕ
union_of item E = (members item.env ∪ made_by item.inferred.maker) ∪ E

-- a source is the item's maker, and then what is due is more than the item's environment, and more than the set
pub record IsSourceOf (item : Pending) (E U : Set ℕ) (k : ℕ) : Type 0 where
  pub maker : item.inferred.maker ≡ Some k
  pub more : U ⊆ members item.env → ⊥
  pub more_than_other : U ⊆ E → ⊥

-- what is due is the item's union with a set, at what the inference leads to
pub record IsUnion (item : Pending) (E : Set ℕ) (d : Insertion) : Type 0 where
  pub target : d.target ≡ item.inferred.to
  pub joined : members d.env ≡ union_of item E
  pub source : (k : ℕ) → d.source ≡ Some k → IsSourceOf item E (members d.env) k

-- what all unions of the item have, at what the inference leads to
pub record BeginsUnions (item : Pending) (d : Insertion) : Type 0 where
  pub target : d.target ≡ item.inferred.to
  pub joined : members d.env ≡ members item.env ∪ made_by item.inferred.maker

-- the item's union with the set is due, or reached already
abbrev pub IsDueOrReached : Pending → Labelled → List Insertion → Set ℕ → Type 0
IsDueOrReached item nodes due E = ((d : Insertion) × IsIn due d × IsUnion item E d) ⊎ IsReached (KeptIn nodes) item.inferred.to (union_of item E)

-- each of the environments is kept at the target
abbrev pub AreKeptAt : Labelled → Target → List Env → Type 0
AreKeptAt nodes t envs = (E : Set ℕ) → HasMember envs E → KeptIn nodes t E

-- the item's union with the set is due too, or it is reached and what is due stays
abbrev pub IsAddedOrReached : Pending → Labelled → Set ℕ → List Insertion → List Insertion → Type 0
IsAddedOrReached item nodes E old new = ((d : Insertion) × IsUnion item E d × (new ≡ old ++ d ∷ [])) ⊎ ((new ≡ old) × IsReached (KeptIn nodes) item.inferred.to (union_of item E))

-- with any of the slots, the environment contains a nogood
abbrev pub IsCompleting : Labelled → Completing → Type 0
IsCompleting nodes c = Complete (members c.slots) (HasMember nodes.nogoods) (members c.env)

-- with any of the slots, the environment contains a nogood that lacks the slot, and that stays while the slot is worked in
abbrev pub StaysCompleting : ℕ → Labelled → Completing → Type 0
StaysCompleting slot nodes c = Complete (members c.slots) (Lacking slot (HasMember nodes.nogoods)) (members c.env)

-- what was due still is; a union for each environment of the label is due too, or reached; and nothing else is due
pub record HasUnionsWith (item : Pending) (nodes : Labelled) (label : List Env) (old new : List Insertion) : Type 0 where
  pub stays : (d : Insertion) → IsIn old d → IsIn new d
  pub each : (E : Set ℕ) → HasMember label E → IsDueOrReached item nodes new E
  pub only : (d : Insertion) → IsIn new d → IsIn old d ⊎ ((E : Set ℕ) × HasMember label E × IsUnion item E d)

-- what was due still is, and the item's unions, with nothing where there is no other fact, and else with each environment of the
-- other fact's label, are due too, or reached; and nothing else is due
pub record HasUnions (item : Pending) (nodes : Labelled) (old new : List Insertion) : Type 0 where
  pub stays : (d : Insertion) → IsIn old d → IsIn new d
  pub alone : other_fact item.inferred item.at ≡ None → (d : Insertion) × IsIn new d × IsUnion item no_elements d
  pub each : (g : Fact) (E : Set ℕ) → other_fact item.inferred item.at ≡ Some g → KeptIn nodes (Some g) E → IsDueOrReached item nodes new E
  pub only :
      (d : Insertion) → IsIn new d
      → IsIn old d ⊎ (((other_fact item.inferred item.at ≡ None) × IsUnion item no_elements d) ⊎ ((g : Fact) × (E : Set ℕ) × (other_fact item.inferred item.at ≡ Some g) × KeptIn nodes (Some g) E × IsUnion item E d))

-- what is kept are the labels and the nogoods of the stock, its inferences from facts that were met are recorded, what has an
-- environment was met, and no fact has two nodes
pub record AreUpToDate (S : Stock ℕ) (nodes : Labelled) (recorded : List Inferred) : Type 0 where
  pub settled : IsSettled S (λ f. KeptIn nodes (Some f)) (KeptIn nodes None)
  pub are : AreRecorded S (IsIn (facts_of nodes.list)) All (RecordedIn recorded)
  pub were_met : (f : Fact) (E : Set ℕ) → KeptIn nodes (Some f) E → IsIn (facts_of nodes.list) f
  pub once : AreDistinct (facts_of nodes.list)

-- all is up to date with the stock, nothing is due, nothing is at hand and nothing waits
pub record IsAtRest (S : Stock ℕ) (u : Update) : Type 0 where
  pub up_to_date : AreUpToDate S u.nodes u.recorded
  pub none_due : u.due.items ≡ []
  pub none_at_hand : u.work.items ≡ []
  pub nothing_waits : u.agenda ≡ []

-- how much is left to do: the pairs of a target and an environment that are not reached, and within them what came
abbrev pub load : Update → ℕ
load u = uncovered (reaches u.nodes) * 2 ^ 64 + length u.agenda

-- the same is kept that lacks the slot
abbrev pub AgreesWith : Update → Update → Type 0
AgreesWith old new = AgreeWithout old.slot (KeptIn old.nodes) (KeptIn new.nodes)

-- it still holds, and no more is left to do
pub record CarriesOn (slots : List (Option Assumption)) (old new : Update) : Type 0 where
  pub propagates : Propagates slots new
  pub agrees : AgreesWith old new
  pub same_slot : new.slot ≡ old.slot
  pub no_more : load new ≤ load old

-- as before, but the target, where it is a fact, has a node
pub record IsReady (slots : List (Option Assumption)) (due : Insertion) (old new : Update) : Type 0 where
  pub due_also : DueAlso slots due new
  pub were_met : (f : Fact) → due.target ≡ Some f → IsIn (facts_of new.nodes.list) f
  pub labels_same : (f : Fact) → label_in new.nodes.list f ≡ label_in old.nodes.list f
  pub nogoods_same : new.nodes.nogoods ≡ old.nodes.nogoods
  pub due_same : new.due.items ≡ old.due.items
  pub work_same : new.work.items ≡ old.work.items
  pub agenda_same : new.agenda ≡ old.agenda
  pub same_slot : new.slot ≡ old.slot

-- each recorded inference is one step of the closure
abbrev pub AllLead : List (Option Assumption) → List Inferred → Type 0
AllLead slots recorded = (j : RecordedInference) → RecordedIn recorded j → Leads (stock slots) j.from j.maker j.to

-- each recorded inference from facts that have nodes stays
abbrev pub MetStay : List Node → List Inferred → List Inferred → Type 0
MetStay nodes old new = (i : Inferred) → IsIn old i → ((f : Fact) → GoesFrom f i → IsIn (facts_of nodes) f) → IsIn new i

-- what holds at every exit: what lacks the slot is kept as before, what is recorded are inferences, those from facts that had nodes
-- stay, facts that had nodes have them, and no fact comes to have two nodes
pub record Survives (slots : List (Option Assumption)) (old new : Update) : Type 0 where
  pub agrees : AgreesWith old new
  pub same_slot : new.slot ≡ old.slot
  pub stay : MetStay old.nodes.list old.recorded new.recorded
  pub lead : AllLead slots old.recorded → AllLead slots new.recorded
  pub met : (f : Fact) → IsIn (facts_of old.nodes.list) f → IsIn (facts_of new.nodes.list) f
  pub once : AreDistinct (facts_of old.nodes.list) → AreDistinct (facts_of new.nodes.list)

-- the environment is put in at its target; to a fact it came
pub record IsPutThere (due : Insertion) (old new : Update) : Type 0 where
  pub put : IsPut due.target (members due.env) (KeptIn old.nodes) (KeptIn new.nodes)
  pub met : facts_of new.nodes.list ≡ facts_of old.nodes.list
  pub agenda : new.agenda ≡ old.agenda ++ arrivals_at due.target due.env due.source
  pub recorded : new.recorded ≡ old.recorded
  pub due_same : new.due.items ≡ old.due.items
  pub work_same : new.work.items ≡ old.work.items
  pub slot : new.slot ≡ old.slot

-- the labels and the nogoods are as before
pub record AreKeptAlike (old new : Update) : Type 0 where
  pub labels : (f : Fact) → label_in new.nodes.list f ≡ label_in old.nodes.list f
  pub nogoods : new.nodes.nogoods ≡ old.nodes.nogoods

-- of the inferences from facts that were met that use the fact, those that are needed are recorded
pub record HasRecorded (slots : List (Option Assumption)) (met : List Fact) (f : Fact) (old new : List Inferred) : Type 0 where
  pub found : List Inferred
  pub are_found : AreFound slots met f found
  pub needed : List Inferred
  pub are_needed : AreNeeded old found needed
  pub recorded : AreAlso needed old new

-- what was recorded stays, and what else is recorded are inferences that use the fact
pub record HasSomeUses (slots : List (Option Assumption)) (f : Fact) (old new : List Inferred) : Type 0 where
  pub more : List Inferred
  pub some : HasSomeOf more old new
  pub lead : AllLead slots more
  pub uses : (i : Inferred) → IsIn more i → GoesFrom f i

-- the fact was met: of the inferences that use it, those that are needed are recorded, and all else is as before
pub record HasMet (slots : List (Option Assumption)) (f : Fact) (old new : Update) : Type 0 where
  pub recorded : HasRecorded slots (facts_of old.nodes.list) f old.recorded new.recorded
  pub met : facts_of new.nodes.list ≡ facts_of old.nodes.list ++ f ∷ []
  pub due : new.due.items ≡ old.due.items
  pub work : new.work.items ≡ old.work.items
  pub agenda : new.agenda ≡ old.agenda
  pub slot : new.slot ≡ old.slot

-- the stock without the slot
abbrev pub before : List (Option Assumption) → ℕ → Stock ℕ
before slots slot k = cond (k == slot) None (stock slots k)

-- all is up to date without the slot, what is kept is what was kept, and nothing is under way
pub record IsTakenBack (slots : List (Option Assumption)) (old new : Update) : Type 0 where
  pub at_rest : IsAtRest (before slots new.slot) new
  pub same : (t : Target) (E : Set ℕ) → KeptIn old.nodes t E ↔ KeptIn new.nodes t E
  pub same_slot : new.slot ≡ old.slot

-- the inference goes from the fact of a node with no environment
abbrev pub GoesFromUnsupported : List Node → Inferred → Type 0
GoesFromUnsupported nodes i = (n : Node) × IsIn nodes n × IsFalse (is_supported n) × GoesFrom n.fact i

-- the inference is made at the slot, or goes from the fact of a node with no environment
abbrev pub IsForgotten : ℕ → List Node → Inferred → Type 0
IsForgotten slot nodes i = (i.maker ≡ Some slot) ⊎ GoesFromUnsupported nodes i

-- the environments that have the slot are dropped, then the inferences that the slot made or that go from the fact of a node with
-- none, and then these nodes
pub record HasForgotten (slot : ℕ) (old new : Update) : Type 0 where
  pub dropped : List Node
  pub labels : EachDrops (λ F. IsTrue (F slot)) old.nodes.list dropped
  pub supported : new.nodes.list ≡ filter is_supported dropped
  pub nogoods : Drops (HasMember old.nodes.nogoods) (HasMember new.nodes.nogoods) (λ F. IsTrue (F slot))
  pub recorded : AreWithout (IsForgotten slot dropped) old.recorded new.recorded
  pub due_same : new.due.items ≡ old.due.items
  pub work_same : new.work.items ≡ old.work.items
  pub agenda_same : new.agenda ≡ old.agenda
  pub slot_same : new.slot ≡ old.slot
