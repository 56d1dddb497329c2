-- Clashes of an opened present, lifted.
use Rattle.std.proofs.Common.{◌≡◌, ◌≢◌, ℕ, zero, suc, inl, inr, Bool, true, false, cond, ◌&&◌, not, List, [], ◌∷◌, ◌++◌, map, length, slice_get, Option, Some, None, IsTrue, refl, sym, ap, ap₂, subst, ◌∙◌}
use Rattle.std.specs.List.{All, flat_map, list_any, remove}
use Rattle.std.specs.Str.{bytes_eq}
use Rattle.std.specs.Option.{option_map}
use Rattle.std.proofs.lemmas.Bool.{false≢true, true≢false}
use Rattle.std.proofs.lemmas.Slice.Eq.{bytes_eq-Decides}
use Rattle.std.proofs.lemmas.List.{length-map}
use Rattle.std.proofs.lemmas.Option.{slice_get-map, slice_get_within, same_Some}
use Rattle.environment_sets.specs.Sets.{Set, IsBelow}
use Rattle.environment_sets.specs.Lists.{IsIn, AreDistinct}
use Rattle.environment_sets.proofs.Membership.{IsIn-append, IsIn-left, IsIn-right, IsIn-map, map-IsIn, IsIn-slice_get, list_any-IsIn, IsIn-list_any}
use Rattle.circuit_model.specs.declared.model.Cell.{Cell}
use Rattle.circuit_model.specs.declared.model.Fact.{Fact}
use Rattle.circuit_model.specs.declared.model.Instance.{Instance}
use Rattle.circuit_model.specs.declared.model.Assumption.{Assumption}
use Rattle.circuit_model.specs.declared.model.Assumption.TheVariants.{Part, Reading}
use Rattle.circuit_model.specs.declared.blocks.Inner.{Inner}
use Rattle.circuit_model.specs.declared.present.Component.{Component}
use Rattle.circuit_model.specs.declared.present.Net.{Net}
use Rattle.circuit_model.specs.Closure.{fact}
use Rattle.circuit_model.specs.Kinds.{block_in}
use Rattle.circuit_model.specs.Stock.{IsChosen}
use Rattle.circuit_model.specs.Diagnoses.{Place, AtPart, AtCell, stock_of, with_readings, AreRefuted}
use Rattle.circuit_model.specs.Blocks.{inner_instances, block_part, IsLawfulInner}
use Rattle.circuit_model.specs.Present.{PresentView, block_at, circuit_of, named_in, reading_in, IsUse, HasPins, part_by, IsLawfulComponent, IsLawful}
use Rattle.circuit_model.specs.Opening.{inners_of, opened_name, opened_component, opened_components, opened, positions_of, lift}
use Rattle.circuit_model.proofs.Monotony.{Clashes-along}
use Rattle.circuit_model.proofs.Moves.{All-read}
use Rattle.circuit_model.proofs.Openings.{All-IsIn, opened_part, block_lawful}
use Rattle.circuit_model.proofs.Presents.{count_parts, IsIn-remove, free_is_new, other_bytes}
use Rattle.circuit_model.proofs.Diagnoses.{AreRefuted-more}
use Rattle.circuit_model.proofs.Reiter.{not_without_least}
use Rattle.block_tree.specs.Openings.{OpenedClashesLift}
use Rattle.circuit_model.proofs.Renaming.{passes-elim, passes-intro}

-- the pieces of an element are among those of the list
IsIn-piece : {X Y : Type 0} (f : X → List Y) (xs : List X) (x : X) (y : Y) → IsIn xs x → IsIn (f x) y → IsIn (flat_map f xs) y
IsIn-piece f [] x y h at = absurd h
IsIn-piece {X} {Y} f (z ∷ xs) x y (inl e) at = IsIn-left (f z) (flat_map f xs) y (let P : X → Type 0 = λ w. IsIn (f w) y in subst P (sym e) at)
IsIn-piece f (z ∷ xs) x y (inr h) at = IsIn-right (f z) (flat_map f xs) y (IsIn-piece f xs x y h at)

-- components made one after the other have the pieces that were made for them
pieces_alike : (f : Inner → Component) (g : Inner → List Instance) (xs : List Inner) → ((i : Inner) → IsIn xs i → (f i).part ≡ g i) → flat_map (λ (d : Component). d.part) (map f xs) ≡ flat_map g xs
pieces_alike f g [] same = refl
pieces_alike f g (x ∷ xs) same = ap₂ (λ (is js : List Instance). is ++ js) (same x (inl refl)) (pieces_alike f g xs (λ i inside. same i (inr inside)))

-- the list at two places that have one name is one place
apart_at : {X Y : Type 0} (f : X → Y) (xs : List X) → AreDistinct (map f xs) → (j k : ℕ) (x y : X) → slice_get xs j ≡ Some x → slice_get xs k ≡ Some y → f x ≡ f y → j ≡ k
apart_at f [] d j k x y a b e = cc
apart_at f (z ∷ xs) d zero zero x y a b e = refl
apart_at {X} {Y} f (z ∷ xs) d zero (suc k) x y a b e = absurd (let is : z ≡ x = same_Some z x a in d.0 (f y) (map-IsIn f xs y (IsIn-slice_get xs k y b)) (ap f is ∙ e))
apart_at {X} {Y} f (z ∷ xs) d (suc j) zero x y a b e = absurd (let is : z ≡ y = same_Some z y b in d.0 (f x) (map-IsIn f xs x (IsIn-slice_get xs j x a)) (ap f is ∙ sym e))
apart_at f (z ∷ xs) d (suc j) (suc k) x y a b e = ap suc (apart_at f xs d.1 j k x y a b e)

right_distinct : {X : Type 0} (xs ys : List X) → AreDistinct (xs ++ ys) → AreDistinct ys
right_distinct [] ys h = h
right_distinct (x ∷ xs) ys h = right_distinct xs ys h.1

same_self : (a : List ℕ) → bytes_eq a a ≡ true
same_self a = (bytes_eq-Decides a a).1 refl

none_passes : {X : Type 0} (p : X → Bool) (xs : List X) → ((x : X) → IsIn xs x → IsTrue (p x) → ⊥) → list_any p xs ≡ false
none_passes {X} p xs none = elim (list_any p xs) as (λ t. list_any p xs ≡ t → t ≡ false) [
  | true ↦ λ e. absurd (let r : (x : X) × IsIn xs x × IsTrue (p x) = IsIn-list_any p xs e in none r.0 r.1 r.2)
  | false ↦ λ e. refl
] refl

is_other : (a b c : Bool) (x : Bool) → a ≡ false → b ≡ false → IsTrue c → IsTrue (cond a x (not b && c))
is_other false false c x e f h = h
is_other true b c x e f h = absurd (true≢false e)
is_other false true c x e f h = absurd (true≢false f)

is_block : (a : Bool) (x y : Bool) → a ≡ true → IsTrue x → IsTrue (cond a x y)
is_block true x y e h = h
is_block false x y e h = absurd (false≢true e)

-- a part is no reading
no_part : (cell : Cell) (o : Option ℕ) (part : List Instance) {Y : Type 0} → option_map (λ v. Reading (fact cell v)) o ≡ Some (Part part) → Y
no_part cell None part e = cc
no_part cell (Some v) part e = cc

no_reading : (o : Option (List Instance)) (f : Fact) {Y : Type 0} → option_map Part o ≡ Some (Reading f) → Y
no_reading None f e = cc
no_reading (Some part) f e = cc

-- a lawful present with a block whose inner components' names are new
module _ (s : PresentView) (lawful : IsLawful s) (place : ℕ) (c : Component) (block : ℕ) (there : slice_get s.parts place ≡ Some c) (of_block : block_in c.kind ≡ Some block)
    (free : All (λ i. named_in s (opened_name c i) ≡ None) (block_at s block).inners) (C : Set (List ℕ)) where
  abbrev q : PresentView
  q = opened s place c

  component : IsLawfulComponent s c
  component = All-read (IsLawfulComponent s) s.parts place c there lawful.each_part

  use' : IsUse s block c
  use' = let P : Option ℕ → Type 0 = λ o. HasPins s o c in subst P of_block component.pins

  pub whole : c.part ≡ block_part (block_at s block) c.pins s.cycles
  whole = let P : Option ℕ → Type 0 = λ o. c.part ≡ part_by s o c in subst P of_block component.part

  pub inners_are : inners_of s (block_in c.kind) ≡ (block_at s block).inners
  inners_are = ap (inners_of s) of_block

  -- a component of the present that is another one is not taken out
  other_stays : (k : ℕ) (d : Component) → k ≢ place → slice_get s.parts k ≡ Some d → IsTrue (C d.name) → IsTrue (lift s c C d.name)
  other_stays k d other at chosen =
      let name : Component → List ℕ = λ p. p.name in
      let distinct : AreDistinct (map name s.parts) = right_distinct (map (λ (n : Net). n.name) s.nets) (map name s.parts) lawful.distinct in
      let differ : bytes_eq d.name c.name ≡ false = other_bytes d.name c.name (λ e. other (apart_at name s.parts distinct k place d c at there e)) in
      let new : (i : Inner) → IsIn (inners_of s (block_in c.kind)) i → IsTrue (bytes_eq d.name (opened_name c i)) → ⊥ = λ i inside same.
      let is_inner : IsIn (block_at s block).inners i = subst (λ (is : List Inner). IsIn is i) inners_are inside in
      free_is_new s (opened_name c i) (All-IsIn (λ i. named_in s (opened_name c i) ≡ None) (block_at s block).inners i free is_inner)
      (IsIn-right (map (λ (n : Net). n.name) s.nets) (map name s.parts) (opened_name c i) (subst (λ (n : List ℕ). IsIn (map name s.parts) n) ((bytes_eq-Decides d.name (opened_name c i)).0 same) (map-IsIn name s.parts d (IsIn-slice_get s.parts k d at)))) in
      is_other (bytes_eq d.name c.name) (list_any (λ i. bytes_eq d.name (opened_name c i)) (inners_of s (block_in c.kind))) (C d.name) _ differ (none_passes (λ i. bytes_eq d.name (opened_name c i)) (inners_of s (block_in c.kind)) new) chosen

  -- the block is put in where there is an inner component
  block_in_place : (i : Inner) → IsIn (inners_of s (block_in c.kind)) i → IsTrue (C (opened_name c i)) → IsTrue (lift s c C c.name)
  block_in_place i inside chosen = is_block (bytes_eq c.name c.name) (list_any (λ i. C (opened_name c i)) (inners_of s (block_in c.kind))) _ (same_self c.name) (list_any-IsIn (λ i. C (opened_name c i)) (inners_of s (block_in c.kind)) i inside chosen)

  abbrev InQ : Assumption → Type 0
  InQ = IsChosen (stock_of (circuit_of q)) (with_readings (circuit_of q) (positions_of q.parts C))

  abbrev InS : Assumption → Type 0
  InS = IsChosen (stock_of (circuit_of s)) (with_readings (circuit_of s) (positions_of s.parts (lift s c C)))

  -- the part of a component of the present that is in the lifted set
  chosen_part : (k : ℕ) (d : Component) → slice_get s.parts k ≡ Some d → IsTrue (lift s c C d.name) → InS (Part d.part)
  chosen_part k d at chosen = record {
    name = AtPart k;
    chosen = passes-intro (λ (p : Component). lift s c C p.name) (slice_get s.parts k) d at chosen;
    named = ap (option_map Part) (slice_get-map (λ (p : Component). p.part) s.parts k ∙ ap (option_map (λ (p : Component). p.part)) at);
  }

  part_within : (d : Component) (i : Instance) → IsIn q.parts d → IsTrue (C d.name) → IsIn d.part i → (w : List Instance) × InS (Part w) × IsIn w i
  part_within d i inside chosen at = elim (IsIn-append (remove s.parts place) (opened_components s c) d inside) as (λ _. (w : List Instance) × InS (Part w) × IsIn w i) [
    | inl a ↦ let r : (k : ℕ) × (k ≢ place) × (slice_get s.parts k ≡ Some d) = IsIn-remove s.parts place d a in (d.part, chosen_part r.0 d r.2 (other_stays r.0 d r.1 r.2 chosen), at)
    | inr b ↦
        let r : (x : Inner) × IsIn (inners_of s (block_in c.kind)) x × (opened_component s c x ≡ d) = IsIn-map (opened_component s c) (inners_of s (block_in c.kind)) d b in
        let named : IsTrue (C (opened_name c r.0)) = subst (λ (p : Component). IsTrue (C p.name)) (sym r.2) chosen in
        let is_inner : IsIn (block_at s block).inners r.0 = subst (λ (is : List Inner). IsIn is r.0) inners_are r.1 in
        let l : IsLawfulInner (block_at s block).pins r.0 = All-IsIn (IsLawfulInner (block_at s block).pins) (block_at s block).inners r.0 (block_lawful s lawful c block use').each_inner is_inner in
        let piece : IsIn (inner_instances (block_at s block).pins c.pins s.cycles r.0) i = subst (λ (is : List Instance). IsIn is i) (opened_part s c block use' r.0 l) (subst (λ (p : Component). IsIn p.part i) (sym r.2) at) in
        let inside_whole : IsIn c.part i = subst (λ (is : List Instance). IsIn is i) (sym whole) (IsIn-piece (inner_instances (block_at s block).pins c.pins s.cycles) (block_at s block).inners r.0 i is_inner piece) in
        (c.part, chosen_part place c there (block_in_place r.0 r.1 named), inside_whole)
  ]

  parts_within : (part : List Instance) → InQ (Part part) → (i : Instance) → IsIn part i → (w : List Instance) × InS (Part w) × IsIn w i
  parts_within part h i at = at_name h.name h.chosen h.named
    where
      at_name : (n : Place) → IsTrue (with_readings (circuit_of q) (positions_of q.parts C) n) → stock_of (circuit_of q) n ≡ Some (Part part) → (w : List Instance) × InS (Part w) × IsIn w i
      at_name (AtPart k) chosen named =
          let r : (d : Component) × (slice_get q.parts k ≡ Some d) × IsTrue (C d.name) = passes-elim (λ (p : Component). C p.name) (slice_get q.parts k) chosen in
          let is : option_map Part (slice_get (map (λ (p : Component). p.part) q.parts) k) ≡ Some (Part r.0.part) = ap (option_map Part) (slice_get-map (λ (p : Component). p.part) q.parts k ∙ ap (option_map (λ (p : Component). p.part)) r.1) in
          let same : Part r.0.part ≡ Part part = same_Some (Part r.0.part) (Part part) (sym is ∙ named) in
          let instances : r.0.part ≡ part = cc in
          part_within r.0 i (IsIn-slice_get q.parts k r.0 r.1) r.2 (subst (λ (is : List Instance). IsIn is i) (sym instances) at)
      at_name (AtCell cell) chosen named = no_part cell (reading_in s.readings cell) part named

  readings_within : (f : Fact) → InQ (Reading f) → InS (Reading f)
  readings_within f h = at_name h.name h.chosen h.named
    where
      at_name : (n : Place) → IsTrue (with_readings (circuit_of q) (positions_of q.parts C) n) → stock_of (circuit_of q) n ≡ Some (Reading f) → InS (Reading f)
      at_name (AtPart k) chosen named = no_reading (slice_get (map (λ (p : Component). p.part) q.parts) k) f named
      at_name (AtCell cell) chosen named = record { name = AtCell cell; chosen = chosen; named = named }

  -- the instances of the block are those of its inner components, in order
  pub pieces : c.part ≡ flat_map (λ (d : Component). d.part) (opened_components s c)
  pieces =
      let b = block_at s block in
      let f : Inner → List Instance = inner_instances b.pins c.pins s.cycles in
      let same : (i : Inner) → IsIn b.inners i → (opened_component s c i).part ≡ f i = λ i inside. opened_part s c block use' i (All-IsIn (IsLawfulInner b.pins) b.inners i (block_lawful s lawful c block use').each_inner inside) in
      whole ∙ (sym (pieces_alike (opened_component s c) f b.inners same) ∙ ap (λ (is : List Inner). flat_map (λ (d : Component). d.part) (map (opened_component s c) is)) (sym inners_are))

  -- what clashes clashes when it is lifted
  pub lifted_clashes : AreRefuted (circuit_of q) (positions_of q.parts C) → AreRefuted (circuit_of s) (positions_of s.parts (lift s c C))
  lifted_clashes h = Clashes-along InQ InS readings_within parts_within h

positions_below : (parts : List Component) (C : Set (List ℕ)) → IsBelow (length parts) (positions_of parts C)
positions_below parts C k h = let r : (d : Component) × (slice_get parts k ≡ Some d) × IsTrue (C d.name) = passes-elim (λ (p : Component). C p.name) (slice_get parts k) h in slice_get_within parts k r.0 r.1

pub opened_clashes_lift : OpenedClashesLift
opened_clashes_lift s part c block lawful h = record {
  instances = pieces s lawful part c block h.there h.is_block h.free (λ n. false);
  clashes = λ C. lifted_clashes s lawful part c block h.there h.is_block h.free C;
  conflicts = λ C conflict none.
      let lifted : Set ℕ = positions_of s.parts (lift s c C) in
      let clash : AreRefuted (circuit_of s) lifted = lifted_clashes s lawful part c block h.there h.is_block h.free C conflict.minimal.holds in
      let below : IsBelow (length (circuit_of s).parts) lifted = subst (λ (n : ℕ). IsBelow n lifted) (count_parts s) (positions_below s.parts (lift s c C)) in
      not_without_least (AreRefuted (circuit_of s)) (AreRefuted-more (circuit_of s)) (length (circuit_of s).parts) lifted below clash
      (λ D within least. none D (record { positions = (λ k inside. below k (within k inside)); minimal = least }) within);
}
