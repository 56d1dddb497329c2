-- What lists, rounds and kept sets decide.
use Rattle.std.proofs.Common.{ℕ, zero, suc, inl, inr}
use Rattle.circuit_model.specs.declared.model.Fact.{Fact}
use Rattle.circuit_model.specs.declared.model.Assumption.{Assumption}
use Rattle.circuit_model.specs.Closure.{Holds, ClashesAt, Clashes}
use Rattle.environment_sets.specs.Lists.{IsIn}
use Rattle.circuit_model.specs.Stock.{IsChosen, Has, IsRefutedBy}
use Rattle.environment_sets.specs.Families.{IsCovered}
use Rattle.circuit_model.specs.Decided.{ListedLabelsDecide, ListedNogoodsDecide, SettledListsAreExact, LastRoundsAreClosures, LastRoundsDecideClashes}
use Rattle.circuit_model.proofs.Monotony.{AreTwoWords-map, IsForced-map, IsRefuted-map, Has-more, IsRefutedBy-more}
use Rattle.circuit_model.proofs.Reiter.{not_without_least}
use Rattle.circuit_model.proofs.Listed as listed
use Rattle.circuit_model.proofs.Listed.{decide_covered}
use Rattle.circuit_model.proofs.Settled as settled

pub listed_labels_decide : ListedLabelsDecide
listed_labels_decide n S names f xs exact E env fine = (
  λ has. listed.listed_labels_cover n S names f xs exact E env fine has,
  λ (c : IsCovered (IsIn xs) E). Has-more S f c.0 E c.2 ((exact c.0).0 c.1).minimal.holds,
)

pub listed_nogoods_decide : ListedNogoodsDecide
listed_nogoods_decide n S names xs exact E env = (
  λ clash. elim (decide_covered n E xs (λ m h k i. names k (((exact m).0 h).environment k i))) [
    | inl c ↦ c
    | inr none ↦ absurd (not_without_least (IsRefutedBy S) (λ A B within h. IsRefutedBy-more S A B within h) n E (λ k i. names k (env k i)) clash (λ C within least.
        none (C, (exact C).1 (record { environment = λ k i. env k (within k i); minimal = least }), within)))
  ],
  λ (c : IsCovered (IsIn xs) E). IsRefutedBy-more S c.0 E c.2 ((exact c.0).0 c.1).minimal.holds,
)

pub settled_lists_are_exact : (N : Type 0) → SettledListsAreExact N
settled_lists_are_exact N S kept nogoods s = settled.exact S (λ f E. IsIn (kept f) E) (λ E. IsIn nogoods E) s

-- where round n + 1 adds nothing, no round adds anything
module _ (A : Assumption → Type 0) (n : ℕ) (last : (f : Fact) → Holds A (suc n) f → Holds A n f) where
  readings : (k : ℕ) (f : Fact) → Holds A zero f → Holds A k f
  readings zero f h = h
  readings (suc k) f h = inl (readings k f h)

  within_last : (m : ℕ) (f : Fact) → Holds A m f → Holds A n f
  within_last zero f h = readings n f h
  within_last (suc m) f (inl h) = within_last m f h
  within_last (suc m) f (inr s) = last f (inr (IsForced-map (λ a x. x) (within_last m) s))

  clash_within_last : Clashes A → ClashesAt A n
  clash_within_last (m, inl two) = inl (AreTwoWords-map (within_last m) two)
  clash_within_last (m, inr s) = inr (IsRefuted-map (λ a x. x) (within_last m) s)

pub last_rounds_are_closures : (N : Type 0) → LastRoundsAreClosures N
last_rounds_are_closures N S E n last f = (λ (h : Has S f E). within_last (IsChosen S E) n last h.0 f h.1, λ h. (n, h))

pub last_rounds_decide_clashes : (N : Type 0) → LastRoundsDecideClashes N
last_rounds_decide_clashes N S E n last = (λ h. clash_within_last (IsChosen S E) n last h, λ h. (n, h))
