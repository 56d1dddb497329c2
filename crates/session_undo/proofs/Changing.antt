-- What changes make of what stands and is parked.
use Rattle.std.proofs.Common.{◌≡◌, ◌⊎◌, ◌==◌, ℕ, zero, suc, true, false, not, inl, inr, List, [], ◌∷◌, map, drop, filter, Option, Some, None, refl, sym, ap, subst, ◌∙◌}
use Rattle.std.specs.List.{slice_get, cons_option}
use Rattle.std.specs.Option.{option_map_or}
use Rattle.circuit_model.specs.Closure.{fact}
use Rattle.circuit_model.specs.declared.model.Assumption.{Assumption}
use Rattle.circuit_model.specs.declared.model.Assumption.TheVariants.{Part}
use Rattle.circuit_model.specs.declared.model.Cell.{Cell}
use Rattle.circuit_model.specs.declared.model.Fact.{Fact}
use Rattle.circuit_model.specs.declared.present.Component.{Component}
use Rattle.circuit_model.specs.Present.{PresentView, IsLawful, reading_in, with_standing, without_standing, without_last_part, change_at}
use Rattle.netlist_text.specs.declared.requests.Change.{Change}
use Rattle.netlist_text.specs.declared.requests.Change.TheVariants.{Net, Add, Measure, Cycles, Retract, Undo, Cost, Stuck, Acts, Define, Pin, Inside, UseBlock}
use Rattle.netlist_text.specs.Placing.{changed, adds_part}
use Rattle.present_history.specs.declared.undoing.Undoing.{Undoing}
use Rattle.present_history.specs.declared.undoing.Undoing.TheVariants as back
use Rattle.present_history.specs.Earlier.{retracted, retracted_by}
use Rattle.present_history.specs.Undoing.{undoing_of, undone}
use Rattle.present_history.proofs.Standing.{may_stand, stands_again}
use Rattle.environment_sets.specs.Lists.{IsIn}
use Rattle.standing_view.specs.View.{without_fact}
use Rattle.standing_changes.specs.Remembered.{StandsWith}
use Rattle.standing_changes.specs.declared.remembered.Remembered.{Remembered}
use Rattle.standing_changes.proofs.Parked.{parked_alike, same_parts_and_readings_stand}
use Rattle.session_undo.specs.Remembering.{parked}
use Rattle.session_undo.specs.Serving.{RemembersNothing}
use Rattle.session_undo.proofs.Parked as parking

-- what is assumed of a component
abbrev assumed : Component → Option Assumption
assumed c = Some (Part c.part)

-- A change of one component that leaves its part leaves all parts.
same_parts : (change : Component → Component) → ((c : Component) → (change c).part ≡ c.part) → (place : ℕ) (cs : List Component) → map assumed (change_at place change cs) ≡ map assumed cs
same_parts change same place [] = refl
same_parts change same zero (c ∷ cs) = ap (λ (p : _). Some (Part p) ∷ map assumed cs) (same c)
same_parts change same (suc place) (c ∷ cs) = ap (λ (rest : List (Option Assumption)). assumed c ∷ rest) (same_parts change same place cs)

-- what is parked depends on the measurements alone
abbrev parked_by : List Fact → List Fact → List Fact
parked_by readings out = filter (λ f. not (option_map_or (λ word. word == f.value) (reading_in readings f.cell) false)) out

same_out : (u : Undoing) (us : List Undoing) → retracted_by u ≡ None → retracted (u ∷ us) ≡ retracted us
same_out u us e = ap (λ (o : Option Fact). cons_option o (retracted us)) e

-- a change that retracts nothing and leaves the measurements leaves what is parked
pub same_parked : (s t : PresentView) (us : List Undoing) (u : Undoing) → t.readings ≡ s.readings → retracted_by u ≡ None → parked t (u ∷ us) ≡ parked s us
same_parked s t us u readings none = ap (λ (rs : List Fact). parked_by rs (retracted (u ∷ us))) readings ∙ ap (parked_by s.readings) (same_out u us none)

pub readings_parked : (s t : PresentView) (us : List Undoing) → t.readings ≡ s.readings → parked t us ≡ parked s us
readings_parked s t us readings = ap (λ (rs : List Fact). parked_by rs (retracted us)) readings

-- a change after which nothing more and nothing less stands
pub record LeavesAlone (s t : PresentView) (u : Undoing) : Type 0 where
  pub parts : map assumed t.parts ≡ map assumed s.parts
  pub readings : t.readings ≡ s.readings
  pub nothing : retracted_by u ≡ None

leaves_alone : (s : PresentView) (change : Change) → RemembersNothing change → LeavesAlone s (changed s change) (undoing_of s change)
leaves_alone s (Cycles count) h = record { parts = refl; readings = refl; nothing = refl }
leaves_alone s (Net name width) h = record { parts = refl; readings = refl; nothing = refl }
leaves_alone s (Cost name cost) h = record { parts = same_parts (λ c. record c { cost = cost }) (λ c. refl) _ s.parts; readings = refl; nothing = refl }
leaves_alone s (Add name kind nets) h = absurd h
leaves_alone s (Stuck name value cost) h = record { parts = refl; readings = refl; nothing = refl }
leaves_alone s (Acts name kind cost) h = record { parts = refl; readings = refl; nothing = refl }
leaves_alone s (Define block) h = record { parts = refl; readings = refl; nothing = refl }
leaves_alone s (Pin block name width) h = record { parts = refl; readings = refl; nothing = refl }
leaves_alone s (Inside block name kind nets) h = record { parts = refl; readings = refl; nothing = refl }
leaves_alone s (UseBlock block name nets) h = absurd h
leaves_alone s (Measure net cycle value) h = absurd h
leaves_alone s (Retract net cycle) h = absurd h
leaves_alone s Undo h = absurd h

module _ (r : Remembered) (s t : PresentView) (us : List Undoing) where
  -- what stands for the one, with what is parked, stands for the other
  pub moved : (u : Undoing) → LeavesAlone s t u → StandsWith r s (parked s us) → StandsWith r t (parked t (u ∷ us))
  moved u l h = let P : List Fact → Type 0 = StandsWith r t in subst P (sym (same_parked s t us u l.readings l.nothing)) (same_parts_and_readings_stand r s t (parked s us) l.parts l.readings h)

  -- and back
  pub moved_back : (u : Undoing) → LeavesAlone s t u → StandsWith r s (parked s (u ∷ us)) → StandsWith r t (parked t us)
  moved_back u l h =
      let P : List Fact → Type 0 = StandsWith r t in
      let same : parked s (u ∷ us) ≡ parked t us = same_parked t s us u (sym l.readings) l.nothing in
      subst P same (same_parts_and_readings_stand r s t (parked s (u ∷ us)) l.parts l.readings h)

-- after a change that was made
pub stands_alone : (r : Remembered) (s t : PresentView) (us : List Undoing) (change : Change) → RemembersNothing change → t ≡ changed s change → StandsWith r s (parked s us) → StandsWith r t (parked t (undoing_of s change ∷ us))
stands_alone r s t us change alone made h =
    let P : PresentView → Type 0 = λ x. StandsWith r x (parked x (undoing_of s change ∷ us)) in
    subst P (sym made) (moved r s (changed s change) us (undoing_of s change) (leaves_alone s change alone) h)

-- what takes a new component back
pub undoing_adds : (s : PresentView) (change : Change) → adds_part change ≡ true → undoing_of s change ≡ back.Part
undoing_adds s (Cycles count) e = cc
undoing_adds s (Net name width) e = cc
undoing_adds s (Add name kind nets) e = refl
undoing_adds s (Cost name cost) e = cc
undoing_adds s (Stuck name value cost) e = cc
undoing_adds s (Acts name kind cost) e = cc
undoing_adds s (Define block) e = cc
undoing_adds s (Pin block name width) e = cc
undoing_adds s (Inside block name kind nets) e = cc
undoing_adds s (UseBlock block name nets) e = refl
undoing_adds s (Measure net cycle value) e = cc
undoing_adds s (Retract net cycle) e = cc
undoing_adds s Undo e = cc

adding_leaves : (s : PresentView) (change : Change) → adds_part change ≡ true → (changed s change).readings ≡ s.readings
adding_leaves s (Cycles count) e = cc
adding_leaves s (Net name width) e = cc
adding_leaves s (Add name kind nets) e = refl
adding_leaves s (Cost name cost) e = cc
adding_leaves s (Stuck name value cost) e = cc
adding_leaves s (Acts name kind cost) e = cc
adding_leaves s (Define block) e = cc
adding_leaves s (Pin block name width) e = cc
adding_leaves s (Inside block name kind nets) e = cc
adding_leaves s (UseBlock block name nets) e = refl
adding_leaves s (Measure net cycle value) e = cc
adding_leaves s (Retract net cycle) e = cc
adding_leaves s Undo e = cc

-- a component more alters nothing of what is parked
pub adding_parked : (s t : PresentView) (us : List Undoing) (change : Change) → adds_part change ≡ true → t ≡ changed s change → parked t (undoing_of s change ∷ us) ≡ parked s us
adding_parked s t us change adds made =
    let nothing : retracted_by (undoing_of s change) ≡ None = ap retracted_by (undoing_adds s change adds) in
    same_parked s t us (undoing_of s change) (ap (λ (x : PresentView). x.readings) made ∙ adding_leaves s change adds) nothing

module _ (r : Remembered) (s : PresentView) (us : List Undoing) where
  -- a measurement more
  pub measured_parked : (f : Fact) (t : PresentView) → reading_in s.readings f.cell ≡ None → t ≡ with_standing f s → StandsWith r t (without_fact f (parked s us)) → StandsWith r t (parked t us)
  measured_parked f t free made h =
      let P : PresentView → Type 0 = λ x. StandsWith r x (without_fact f (parked s us)) → StandsWith r x (parked x us) in
      subst P (sym made) (parked_alike r (with_standing f s) (without_fact f (parked s us)) (parked (with_standing f s) us) (parking.stands_again s f free us)) h

  -- a measurement that was retracted
  pub retracted_parked : IsLawful s → (c : Cell) (v : ℕ) → reading_in s.readings c ≡ Some v → StandsWith r (without_standing c s) (fact c v ∷ parked s us) → StandsWith r (without_standing c s) (parked (without_standing c s) (back.Retracted (fact c v) ∷ us))
  retracted_parked lawful c v at h =
      let less : PresentView = without_standing c s in
      let f : Fact = fact c v in
      let alike = parking.is_retracted less f (may_stand s lawful c v at).free us in
      let P : PresentView → Type 0 = λ x. StandsWith r less (f ∷ parked x us) in
      parked_alike r less (f ∷ parked (with_standing f less) us) (parked less (back.Retracted f ∷ us)) alike (subst P (sym (stands_again s lawful c v at)) h)

  -- a measurement that is taken back, and was retracted before
  pub parked_still : IsLawful s → (c : Cell) (v : ℕ) → reading_in s.readings c ≡ Some v → IsIn (retracted us) (fact c v) → StandsWith r (without_standing c s) (fact c v ∷ parked s us) → StandsWith r (without_standing c s) (parked (without_standing c s) us)
  parked_still lawful c v at out h =
      let less : PresentView = without_standing c s in
      let f : Fact = fact c v in
      let alike = parking.parked_again less f (may_stand s lawful c v at).free us out in
      let P : PresentView → Type 0 = λ x. StandsWith r less (f ∷ parked x us) in
      parked_alike r less (f ∷ parked (with_standing f less) us) (parked less us) alike (subst P (sym (stands_again s lawful c v at)) h)

  -- and one that was not
  pub parked_no_more : IsLawful s → (c : Cell) (v : ℕ) → reading_in s.readings c ≡ Some v → (IsIn (retracted us) (fact c v) → ⊥) → StandsWith r (without_standing c s) (without_fact (fact c v) (fact c v ∷ parked s us)) → StandsWith r (without_standing c s) (parked (without_standing c s) us)
  parked_no_more lawful c v at never h =
      let less : PresentView = without_standing c s in
      let f : Fact = fact c v in
      let alike = parking.not_parked_again less f (may_stand s lawful c v at).free us never in
      let P : PresentView → Type 0 = λ x. StandsWith r less (without_fact f (f ∷ parked x us)) in
      parked_alike r less (without_fact f (f ∷ parked (with_standing f less) us)) (parked less us) alike (subst P (sym (stands_again s lawful c v at)) h)

-- the newest change and the others
pub newest_first : {X : Type 0} (old new : List X) (x : X) → Some x ≡ slice_get old 0 → new ≡ drop 1 old → old ≡ x ∷ new
newest_first [] new x e d = cc
newest_first {X} (y ∷ old) new x e d = let same : x ≡ y = cc in (let P : List X → Type 0 = λ rest. y ∷ old ≡ x ∷ rest in subst P (sym d) (ap (λ z. z ∷ old) (sym same)))

pub none_there : {X : Type 0} (old : List X) → None ≡ slice_get old 0 → old ≡ []
none_there [] e = refl
none_there (y ∷ old) e = cc

-- what takes a change back after which nothing more and nothing less stood
abbrev pub TakesNothing : Undoing → Type 0
TakesNothing u = ((n : ℕ) × (u ≡ back.Cycles n)) ⊎ (u ≡ back.Net) ⊎ ((n : ℕ) × (m : ℕ) × (u ≡ back.Cost n m)) ⊎ (u ≡ back.Mode) ⊎ (u ≡ back.Block) ⊎ ((n : ℕ) × (u ≡ back.Pin n)) ⊎ ((n : ℕ) × (u ≡ back.Inner n))

module _ (s : PresentView) (u : Undoing) where
  abbrev Leaves : Undoing → Type 0
  Leaves x = LeavesAlone s (undone x s) x

  pub takes_nothing : TakesNothing u → LeavesAlone s (undone u s) u
  takes_nothing (inl h) = subst Leaves (sym h.1) (record { parts = refl; readings = refl; nothing = refl })
  takes_nothing (inr (inl h)) = subst Leaves (sym h) (record { parts = refl; readings = refl; nothing = refl })
  takes_nothing (inr (inr (inl h))) = subst Leaves (sym h.2) (record { parts = same_parts (λ c. record c { cost = h.1 }) (λ c. refl) h.0 s.parts; readings = refl; nothing = refl })
  takes_nothing (inr (inr (inr (inl h)))) = subst Leaves (sym h) (record { parts = refl; readings = refl; nothing = refl })
  takes_nothing (inr (inr (inr (inr (inl h))))) = subst Leaves (sym h) (record { parts = refl; readings = refl; nothing = refl })
  takes_nothing (inr (inr (inr (inr (inr (inl h)))))) = subst Leaves (sym h.1) (record { parts = refl; readings = refl; nothing = refl })
  takes_nothing (inr (inr (inr (inr (inr (inr h)))))) = subst Leaves (sym h.1) (record { parts = refl; readings = refl; nothing = refl })

-- a component that goes alters nothing of what is parked
pub part_goes : (old new : Remembered) (s : PresentView) (us : List Undoing) (u : Undoing) → u ≡ back.Part → ((parked : List Fact) → StandsWith old s parked → StandsWith new (without_last_part s) parked)
    → StandsWith old s (parked s (u ∷ us)) → StandsWith new (undone u s) (parked (undone u s) us)
part_goes old new s us u is leads h =
    let P : Undoing → Type 0 = λ x. StandsWith old s (parked s (x ∷ us)) in
    let Q : Undoing → Type 0 = λ x. StandsWith new (undone x s) (parked (undone x s) us) in
    subst Q (sym is) (leads (parked s us) (subst P is h))
