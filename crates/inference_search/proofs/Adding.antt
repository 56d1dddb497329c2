-- Cells that are added to a list, none twice.
use Rattle.std.proofs.Common.{◌≡◌, ◌↔◌, ◌⊎◌, inl, inr, ℕ, ◌+◌, ◌<◌, ◌≤◌, IsTrue, List, [], ◌∷◌, ◌++◌, length, Option, Some, slice_get, refl, sym, subst, arith}
use Rattle.std.proofs.lemmas.Bool.{cases_lt}
use Rattle.std.proofs.lemmas.Option.{slice_get_within}
use Rattle.circuit_model.specs.declared.model.Cell.{Cell}
use Rattle.circuit_model.specs.declared.model.Instance.{Instance}
use Rattle.circuit_model.specs.declared.model.Assumption.{Assumption}
use Rattle.circuit_model.specs.declared.model.Assumption.TheVariants.{Part}
use Rattle.environment_sets.specs.Lists.{IsIn, IsRoster}
use Rattle.environment_sets.specs.Sets.{Set}
use Rattle.environment_sets.specs.Steps.{HasNoneFrom, IsNextFrom}
use Rattle.assumption_slots.specs.Slots.{stock}
use Rattle.environment_sets.proofs.Listings.{IsIn-push, IsIn-front, IsIn-last}
use Rattle.environment_sets.proofs.Membership.{AreDistinct-push, IsIn-slice_get, slice_get-IsIn}
use Rattle.inference_search.specs.Near.{AreAdded, IsJoinedAt, IsNear}

pub added_same : (P : Cell → Type 0) (old : List Cell) → ((d : Cell) → P d → IsIn old d) → AreAdded P old old
added_same P old there = record { once = λ d. d; exact = λ d. (λ h. inl h, λ h. elim h [ inl before ↦ before | inr p ↦ there d p ]) }

pub added_one : (old new : List Cell) (cell : Cell) → (IsIn old cell → ⊥) → new ≡ old ++ cell ∷ [] → AreAdded (λ d. d ≡ cell) old new
added_one old new cell out pushed =
    let P : List Cell → Type 0 = AreAdded (λ d. d ≡ cell) old in
    subst P (sym pushed) (record {
      once = λ distinct. AreDistinct-push old cell distinct out;
      exact = λ d. (
        λ h. elim (IsIn-push old cell d h) [ inl before ↦ inl before | inr here ↦ inr (sym here) ],
        λ h. elim h [ inl before ↦ IsIn-front old cell d before | inr same ↦ IsIn-last old cell d (sym same) ],
      );
    })

pub added_then : (P Q R : Cell → Type 0) (old mid new : List Cell) → AreAdded P old mid → AreAdded Q mid new → ((d : Cell) → R d ↔ (P d ⊎ Q d)) → AreAdded R old new
added_then P Q R old mid new one two is = record {
  once = λ distinct. two.once (one.once distinct);
  exact = λ d. (
    λ h. elim ((two.exact d).0 h) [
      | inl middle ↦ elim ((one.exact d).0 middle) [ inl before ↦ inl before | inr p ↦ inr ((is d).1 (inl p)) ]
      | inr q ↦ inr ((is d).1 (inr q))
    ],
    λ h. elim h [
      | inl before ↦ (two.exact d).1 (inl ((one.exact d).1 (inl before)))
      | inr r ↦ elim ((is d).0 r) [ inl p ↦ (two.exact d).1 (inl ((one.exact d).1 (inr p))) | inr q ↦ (two.exact d).1 (inr q) ]
    ],
  );
}

pub added_map : (P Q : Cell → Type 0) (old new : List Cell) → ((d : Cell) → P d ↔ Q d) → AreAdded P old new → AreAdded Q old new
added_map P Q old new is one = record {
  once = one.once;
  exact = λ d. (
    λ h. elim ((one.exact d).0 h) [ inl before ↦ inl before | inr p ↦ inr ((is d).0 p) ],
    λ h. elim h [ inl before ↦ (one.exact d).1 (inl before) | inr q ↦ (one.exact d).1 (inr ((is d).1 q)) ],
  );
}

-- what is added to no cells is all
pub added_roster : (P : Cell → Type 0) (old new : List Cell) → old ≡ [] → AreAdded P old new → IsRoster P new
added_roster P old new none one =
    let from_none : AreAdded P [] new = subst (λ (l : List Cell). AreAdded P l new) none one in
    record { distinct = from_none.once tt; exact = λ d. (λ h. elim ((from_none.exact d).0 h) [ inl nowhere ↦ absurd nowhere | inr p ↦ p ], λ p. (from_none.exact d).1 (inr p)) }

-- of the places before one more, one has it before, or this one does
module _ {X : Type 0} (xs : List X) (P : X → Cell → Type 0) where
  abbrev pub HasBefore : ℕ → Cell → Type 0
  HasBefore n d = (k : ℕ) × (x : X) × (k < n) × (slice_get xs k ≡ Some x) × P x d

  pub none_before : (old : List Cell) → AreAdded (HasBefore 0) old old
  none_before old = added_same (HasBefore 0) old (λ d h. absurd (omega (arith, h.2)))

  pub one_before : (n : ℕ) (x : X) → slice_get xs n ≡ Some x → (old mid new : List Cell) → AreAdded (HasBefore n) old mid → AreAdded (P x) mid new → AreAdded (HasBefore (n + 1)) old new
  one_before n x at old mid new was now =
      added_then (HasBefore n) (P x) (HasBefore (n + 1)) old mid new was now (λ d. (
        λ h. elim (before_or_here h.0 h.2) [
          | inl early ↦ inl (h.0, h.1, early, h.3, h.4)
          | inr same ↦
              let there : slice_get xs n ≡ Some h.1 = subst (λ (k : ℕ). slice_get xs k ≡ Some h.1) same h.3 in
              let one : h.1 ≡ x = cc in
              inr (subst (λ (y : X). P y d) one h.4)
        ],
        λ h. elim h [ inl early ↦ (early.0, early.1, omega (arith, early.2), early.3, early.4) | inr here ↦ (n, x, omega arith, at, here) ],
      ))
    where
      before_or_here : (k : ℕ) → k < n + 1 → (k < n) ⊎ (k ≡ n)
      before_or_here k low = grind arith

  pub all_before : (n : ℕ) → length xs ≤ n → (old new : List Cell) → AreAdded (HasBefore n) old new → AreAdded (λ d. (x : X) × IsIn xs x × P x d) old new
  all_before n past old new was = added_map (HasBefore n) (λ d. (x : X) × IsIn xs x × P x d) old new (λ d. (
    λ h. (h.1, IsIn-slice_get xs h.0 h.1 h.3, h.4),
    λ h. let at : (k : ℕ) × (slice_get xs k ≡ Some h.0) = slice_get-IsIn xs h.0 h.1 in (at.0, h.0, within at.0 h.0 at.1, at.1, h.2),
  )) was
    where
      within : (k : ℕ) (x : X) → slice_get xs k ≡ Some x → k < n
      within k x at = let low : k < length xs = slice_get_within xs k x at in omega (arith, low, past)

-- it is the cell itself, or the component at a slot of the set below the number joins the two
abbrev pub IsNearBelow : List (Option Assumption) → Cell → Set ℕ → ℕ → Cell → Type 0
IsNearBelow slots c near n d = (d ≡ c) ⊎ ((slot : ℕ) × (slot < n) × IsTrue (near slot) × IsJoinedAt slots c slot d)

module _ (slots : List (Option Assumption)) (c : Cell) (near : Set ℕ) where
  pub near_begins : (old new : List Cell) → old ≡ [] → AreAdded (λ d. d ≡ c) old new → AreAdded (IsNearBelow slots c near 0) [] new
  near_begins old new none one =
      added_map (λ d. d ≡ c) (IsNearBelow slots c near 0) [] new (λ d. (λ e. inl e, λ h. elim h [ inl e ↦ e | inr far ↦ absurd (omega (arith, far.1)) ])) (subst (λ (l : List Cell). AreAdded (λ d. d ≡ c) l new) none one)

  -- the next slot of the set
  pub near_more : (from slot : ℕ) (mid new : List Cell) → IsNextFrom near from slot → AreAdded (IsNearBelow slots c near from) [] mid → AreAdded (IsJoinedAt slots c slot) mid new → AreAdded (IsNearBelow slots c near (slot + 1)) [] new
  near_more from slot mid new next was now =
      added_then (IsNearBelow slots c near from) (IsJoinedAt slots c slot) (IsNearBelow slots c near (slot + 1)) [] mid new was now (λ d. (
        λ h. elim h [
          | inl e ↦ inl (inl e)
          | inr there ↦ elim (cases there.0 there.1 there.2) [
            | inl early ↦ inl (inr (there.0, early, there.2, there.3))
            | inr same ↦ inr (subst (λ (k : ℕ). IsJoinedAt slots c k d) same there.3)
          ]
        ],
        λ h. elim h [
          | inl below ↦ elim below [ inl e ↦ inl e | inr there ↦ let low : from ≤ slot = next.reached in inr (there.0, omega (arith, there.1, low), there.2, there.3) ]
          | inr here ↦ inr (slot, omega arith, next.member, here)
        ],
      ))
    where
      cases : (k : ℕ) → k < slot + 1 → IsTrue (near k) → (k < from) ⊎ (k ≡ slot)
      cases k low is = elim (cases_lt k from) [ inl early ↦ inl early | inr late ↦ let past : slot ≤ k = next.least k late is in inr (omega (arith, low, past)) ]

  -- no slot of the set is left, and it has each component that has the cell
  pub near_ends :
      (from : ℕ) (new : List Cell) → HasNoneFrom near from
      → ((k : ℕ) (part : List Instance) (instance : Instance) (p : ℕ) → stock slots k ≡ Some (Part part) → IsIn part instance → slice_get instance.cells p ≡ Some c → IsTrue (near k))
      → AreAdded (IsNearBelow slots c near from) [] new → IsRoster (IsNear slots c) new
  near_ends from new none complete was =
      added_roster (IsNear slots c) [] new refl (added_map (IsNearBelow slots c near from) (IsNear slots c) [] new (λ d. (
        λ h. elim h [ inl e ↦ inl e | inr there ↦ inr (there.0, there.3) ],
        λ h. elim h [ inl e ↦ inl e | inr there ↦ inr (there.0, below d there.0 there.1, in_near d there.0 there.1, there.1) ],
      )) was)
    where
      in_near : (d : Cell) (k : ℕ) → IsJoinedAt slots c k d → IsTrue (near k)
      in_near d k (part, at, (instance, of_part, (one, other))) = let p : (p : ℕ) × (slice_get instance.cells p ≡ Some c) = slice_get-IsIn instance.cells c one in complete k part instance p.0 at of_part p.1

      below : (d : Cell) (k : ℕ) → IsJoinedAt slots c k d → k < from
      below d k joined = elim (cases_lt k from) [ inl early ↦ early | inr late ↦ absurd (none k late (in_near d k joined)) ]
