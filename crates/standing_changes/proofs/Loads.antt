-- The load over the slots that stand is that of the present.
use Rattle.std.proofs.Common.{◌≡◌, ℕ, ◌+◌, ◌<◌, ◌≤◌, inl, inr, nat_lt, true, false, MatchBool, List, [], ◌∷◌, map, refl, sym, ap, ap₂, subst, ◌∙◌, arith}
use Rattle.std.proofs.lemmas.Bool.Decides.{nat_tests}
use Rattle.std.proofs.lemmas.List.{length-map}
use Rattle.circuit_model.specs.declared.limits.TheConstants.{MOST_LOAD}
use Rattle.circuit_model.specs.declared.model.Fact.{Fact}
use Rattle.circuit_model.specs.Diagnoses.{Place}
use Rattle.circuit_model.specs.Load.{IsLoad}
use Rattle.circuit_model.specs.Present.{PresentView}
use Rattle.circuit_model.specs.Stock.{Stock, IsEnvironment, IsInLabel, IsNogood, within}
use Rattle.circuit_model.specs.Whole as present
use Rattle.circuit_model.proofs.Loads.{loads_grow}
use Rattle.environment_sets.specs.Sets.{Set, ◌⊆◌}
use Rattle.environment_sets.specs.Lists.{IsIn, AreDistinct, IsRoster}
use Rattle.environment_sets.proofs.Membership.{IsIn-map, map-IsIn}
use Rattle.standing_view.specs.Laws.{IsTheSetOf}
use Rattle.standing_view.specs.Standing.{Stands, mask_of}
use Rattle.standing_view.specs.View.{StandsFor, places}
use Rattle.standing_view.proofs.Named.{within_inside, environments_are_slots, slots_are_environments, slots_have_its_labels, slots_have_its_nogoods}
use Rattle.label_engine.specs.Questions.{IsLoadShown, shown_as}
use Rattle.standing_changes.specs.Load.{IsOverloaded, IsWithinLoad, LoadsAreThePresents, LoadsAreUnique}

module _ {X Y : Type 0} (f : X → Y) where
  -- distinct values that the function keeps apart have distinct images
  distinct-map : (xs : List X) → ((x y : X) → IsIn xs x → IsIn xs y → f x ≡ f y → x ≡ y) → AreDistinct xs → AreDistinct (map f xs)
  distinct-map [] one d = tt
  distinct-map (x ∷ xs) one d = (
    (λ y h e. let z : (z : X) × IsIn xs z × (f z ≡ y) = IsIn-map f xs y h in d.0 z.0 z.1 (one x z.0 (inl refl) (inr z.1) (e ∙ sym z.2))),
    distinct-map xs (λ x y a b e. one x y (inr a) (inr b) e) d.1,
  )

  -- a roster under other names
  roster-map :
      (P : X → Type 0) (Q : Y → Type 0) (xs : List X) → ((x y : X) → P x → P y → f x ≡ f y → x ≡ y) → ((x : X) → P x → Q (f x)) → ((y : Y) → Q y → (x : X) × P x × (f x ≡ y))
      → IsRoster P xs → IsRoster Q (map f xs)
  roster-map P Q xs one to from r = record {
    distinct = distinct-map xs (λ x y a b e. one x y ((r.exact x).0 a) ((r.exact y).0 b) e) r.distinct;
    exact = λ y. (
      (λ h. let z : (z : X) × IsIn xs z × (f z ≡ y) = IsIn-map f xs y h in subst Q z.2 (to z.0 ((r.exact z.0).0 z.1))),
      (λ q. let x : (x : X) × P x × (f x ≡ y) = from y q in let In : Y → Type 0 = IsIn (map f xs) in subst In x.2 (map-IsIn f xs x.0 ((r.exact x.0).1 x.1))),
    );
  }

module _ (S : Stock ℕ) (st : Stands) (P : PresentView) (parked : List Fact) (r : StandsFor S st P parked) where
  abbrev Slots : Stock ℕ
  Slots = within (mask_of st) S

  abbrev Present : Stock Place
  Present = present.stock P

  inside : (E : Set ℕ) → IsEnvironment Slots E → E ⊆ mask_of st
  inside E env k h = within_inside S st P parked r k (env k h)

  -- sets of slots that stand are told apart by their places
  one_set : (E F : Set ℕ) → E ⊆ mask_of st → F ⊆ mask_of st → places st E ≡ places st F → E ≡ F
  one_set E F in_E in_F same =
      let G : (G : Set ℕ) × IsTheSetOf st (places st E) G = environments_are_slots S st P parked r (places st E) (slots_are_environments S st P parked r E in_E) in
      G.1.only E in_E refl ∙ sym (G.1.only F in_F (sym same))

  named : Fact × Set ℕ → Fact × Set Place
  named p = (p.0, places st p.1)

  Labelled : Fact × Set ℕ → Type 0
  Labelled p = IsInLabel Slots p.0 p.1

  LabelledThere : Fact × Set Place → Type 0
  LabelledThere p = IsInLabel Present p.0 p.1

  pairs_there : (pairs : List (Fact × Set ℕ)) → IsRoster Labelled pairs → IsRoster LabelledThere (map named pairs)
  unfolding named Labelled LabelledThere
  pairs_there pairs h = roster-map named Labelled LabelledThere pairs
      (λ p q a b e. ap₂ (λ (f : Fact) (E : Set ℕ). let p : Fact × Set ℕ = (f, E) in p) (ap (λ (p : Fact × Set Place). p.0) e) (one_set p.1 q.1 (inside p.1 a.environment) (inside q.1 b.environment) (ap (λ (p : Fact × Set Place). p.1) e)))
      (λ p a. (slots_have_its_labels S st P parked r p.0 p.1 (inside p.1 a.environment)).0 a)
      (λ p a.
      let E : (E : Set ℕ) × IsTheSetOf st p.1 E = environments_are_slots S st P parked r p.1 a.environment in
      let In : Set Place → Type 0 = λ F. IsInLabel Present p.0 F in
      ((p.0, E.0), (slots_have_its_labels S st P parked r p.0 E.0 E.1.inside).1 (subst In (sym E.1.is) a), ap (λ (F : Set Place). let q : Fact × Set Place = (p.0, F) in q) E.1.is))
      h

  nogoods_there : (nogoods : List (Set ℕ)) → IsRoster (IsNogood Slots) nogoods → IsRoster (IsNogood Present) (map (places st) nogoods)
  nogoods_there nogoods h = roster-map (places st) (IsNogood Slots) (IsNogood Present) nogoods
      (λ E F a b e. one_set E F (inside E a.environment) (inside F b.environment) e)
      (λ E a. (slots_have_its_nogoods S st P parked r E (inside E a.environment)).0 a)
      (λ F a.
      let E : (E : Set ℕ) × IsTheSetOf st F E = environments_are_slots S st P parked r F a.environment in
      let Is : Set Place → Type 0 = IsNogood Present in
      (E.0, (slots_have_its_nogoods S st P parked r E.0 E.1.inside).1 (subst Is (sym E.1.is) a), E.1.is))
      h

  load_there : (n : ℕ) → IsLoad Slots n → IsLoad Present n
  unfolding named Labelled LabelledThere
  load_there n load = record {
    pairs = map named load.pairs;
    nogoods = map (places st) load.nogoods;
    pairs_exact = pairs_there load.pairs load.pairs_exact;
    nogoods_exact = nogoods_there load.nogoods load.nogoods_exact;
    count = load.count ∙ ap₂ (λ (a b : ℕ). a + b) (sym (length-map load.pairs named)) (sym (length-map load.nogoods (places st)));
  }

pub loads_are_the_presents : LoadsAreThePresents
loads_are_the_presents S st P parked r n load = load_there S st P parked r n load

-- there is no more than one load
pub one_load : {N : Type 0} (S : Stock N) (m n : ℕ) → IsLoad S m → IsLoad S n → m ≡ n
one_load {N} S m n a b =
    let low : m ≤ n = loads_grow N S S (λ k x h. h) m n a b in
    let high : n ≤ m = loads_grow N S S (λ k x h. h) n m b a in
    omega arith

pub loads_are_unique : LoadsAreUnique
loads_are_unique S m n a b = one_load S m n a b

-- the number that is shown is above the limit where the load is
over : (load shown : ℕ) → shown ≡ shown_as load → nat_lt MOST_LOAD shown ≡ true → MOST_LOAD < load
over load shown is e = grind (arith, nat_tests)

not_over : (load shown : ℕ) → shown ≡ shown_as load → nat_lt MOST_LOAD shown ≡ false → MOST_LOAD < load → ⊥
not_over load shown is e above = grind (arith, nat_tests)

-- the load that is shown of what stands decides whether that of the present is too large
pub load_decides :
    (S : Stock ℕ) (st : Stands) (P : PresentView) (parked : List Fact) → StandsFor S st P parked → (M : Set ℕ) → M ≡ mask_of st → (shown : ℕ) → IsLoadShown (within M S) shown
    → MatchBool (nat_lt MOST_LOAD shown) (IsOverloaded P) (IsWithinLoad P)
load_decides S st P parked r M is shown h =
    let load : ℕ = h.load in
    let Within : Set ℕ → Type 0 = λ M. IsLoad (within M S) load in
    let there : IsLoad (present.stock P) load = loads_are_the_presents S st P parked r load (subst Within is h.is) in
    elim (nat_lt MOST_LOAD shown) as (λ b. nat_lt MOST_LOAD shown ≡ b → MatchBool b (IsOverloaded P) (IsWithinLoad P)) [
      | true ↦ λ e. record { n = load; is = there; above = over load shown h.bounded e }
      | false ↦ λ e o. not_over load shown h.bounded e (subst (λ (n : ℕ). MOST_LOAD < n) (one_load (present.stock P) o.n load o.is there) o.above)
    ] refl
