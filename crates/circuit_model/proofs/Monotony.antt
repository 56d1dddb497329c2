-- What more assumptions close.
use Rattle.std.proofs.Common.{ℕ, zero, suc, inl, inr, Option, List}
use Rattle.circuit_model.specs.declared.model.Cell.{Cell}
use Rattle.circuit_model.specs.declared.model.Fact.{Fact}
use Rattle.circuit_model.specs.declared.model.Assumption.{Assumption}
use Rattle.circuit_model.specs.declared.model.Assumption.TheVariants.{Part, Reading}
use Rattle.circuit_model.specs.declared.model.Instance.{Instance}
use Rattle.environment_sets.specs.Lists.{IsIn}
use Rattle.circuit_model.specs.Closure.{AreHeld, AreTwoWords, IsForced, IsRefuted, Holds, Follows, ClashesAt, Clashes}
use Rattle.environment_sets.specs.Sets.{Set, ◌⊆◌}
use Rattle.circuit_model.specs.Stock.{Stock, IsChosen, Has, IsRefutedBy}
use Rattle.circuit_model.specs.Laws.{ClosuresGrow, SubsetsAreConsistent}

pub AreHeld-map : {H K : Fact → Type 0} {cells : List Cell} {known : List (Option ℕ)} → ((f : Fact) → H f → K f) → AreHeld H cells known → AreHeld K cells known
AreHeld-map g h = record { wide = h.wide; held = λ p v c a b. g _ (h.held p v c a b); alike = h.alike }

pub AreTwoWords-map : {H K : Fact → Type 0} → ((f : Fact) → H f → K f) → AreTwoWords H → AreTwoWords K
AreTwoWords-map g h = record { cell = h.cell; low = h.low; high = h.high; low_holds = g _ h.low_holds; high_holds = g _ h.high_holds; differ = h.differ }

-- what is assumed on one side is assumed on the other, there perhaps of a larger part
module _
    (A B : Assumption → Type 0) (readings : (f : Fact) → A (Reading f) → B (Reading f))
    (parts : (part : List Instance) → A (Part part) → (i : Instance) → IsIn part i → (whole : List Instance) × B (Part whole) × IsIn whole i)
  where
    IsForced-along : {H K : Fact → Type 0} {f : Fact} → ((f : Fact) → H f → K f) → IsForced A H f → IsForced B K f
    IsForced-along g s = let r = parts s.part s.assumed s.instance s.of_part in record {
      part = r.0;
      assumed = r.1;
      instance = s.instance;
      of_part = r.2;
      known = s.known;
      from = AreHeld-map g s.from;
      port = s.port;
      at = s.at;
      forces = s.forces;
    }

    IsRefuted-along : {H K : Fact → Type 0} → ((f : Fact) → H f → K f) → IsRefuted A H → IsRefuted B K
    IsRefuted-along g s = let r = parts s.part s.assumed s.instance s.of_part in record {
      part = r.0;
      assumed = r.1;
      instance = s.instance;
      of_part = r.2;
      known = s.known;
      from = AreHeld-map g s.from;
      refutes = s.refutes;
    }

    Holds-along : (n : ℕ) (f : Fact) → Holds A n f → Holds B n f
    Holds-along zero f h = readings f h
    Holds-along (suc n) f (inl h) = inl (Holds-along n f h)
    Holds-along (suc n) f (inr h) = inr (IsForced-along (Holds-along n) h)

    ClashesAt-along : (n : ℕ) → ClashesAt A n → ClashesAt B n
    ClashesAt-along n (inl h) = inl (AreTwoWords-map (Holds-along n) h)
    ClashesAt-along n (inr h) = inr (IsRefuted-along (Holds-along n) h)

    pub Clashes-along : Clashes A → Clashes B
    Clashes-along (n, h) = (n, ClashesAt-along n h)

module _ {A B : Assumption → Type 0} (more : (a : Assumption) → A a → B a) where
  same_part : (part : List Instance) → A (Part part) → (i : Instance) → IsIn part i → (whole : List Instance) × B (Part whole) × IsIn whole i
  same_part part assumed i h = (part, more _ assumed, h)

  pub IsForced-map : {H K : Fact → Type 0} {f : Fact} → ((f : Fact) → H f → K f) → IsForced A H f → IsForced B K f
  IsForced-map g s = IsForced-along A B (λ f. more (Reading f)) same_part g s

  pub IsRefuted-map : {H K : Fact → Type 0} → ((f : Fact) → H f → K f) → IsRefuted A H → IsRefuted B K
  IsRefuted-map g s = IsRefuted-along A B (λ f. more (Reading f)) same_part g s

  pub Holds-map : (n : ℕ) (f : Fact) → Holds A n f → Holds B n f
  Holds-map n f h = Holds-along A B (λ f. more (Reading f)) same_part n f h

  pub Follows-map : (f : Fact) → Follows A f → Follows B f
  Follows-map f (n, h) = (n, Holds-map n f h)

  pub Clashes-map : Clashes A → Clashes B
  Clashes-map h = Clashes-along A B (λ f. more (Reading f)) same_part h

module _ {N : Type 0} where
  chosen_in_more : (S : Stock N) (E F : Set N) → E ⊆ F → (a : Assumption) → IsChosen S E a → IsChosen S F a
  chosen_in_more S E F within a h = record { name = h.name; chosen = within _ h.chosen; named = h.named }

  pub Has-more : (S : Stock N) (f : Fact) (E F : Set N) → E ⊆ F → Has S f E → Has S f F
  Has-more S f E F within h = Follows-map (chosen_in_more S E F within) f h

  pub IsRefutedBy-more : (S : Stock N) (E F : Set N) → E ⊆ F → IsRefutedBy S E → IsRefutedBy S F
  IsRefutedBy-more S E F within h = Clashes-map (chosen_in_more S E F within) h

pub closures_grow : (N : Type 0) → ClosuresGrow N
closures_grow N S E F within f h = Has-more S f E F within h

pub subsets_are_consistent : (N : Type 0) → SubsetsAreConsistent N
subsets_are_consistent N S E F within fine clash = fine (IsRefutedBy-more S E F within clash)
