-- The order of sets is an order.
use Rattle.std.proofs.Common.{◌≡◌, ℕ, ◌≤◌, length, drop, Bool, true, false, not, ◌&&◌, if◌then◌else◌, ◌⊎◌, inl, inr, true≢false, refl, sym, ap, ap₂, ◌∙◌, List, [], ◌∷◌, nat_cmp, arith, Ordering, Less, Equal, Greater}
use Rattle.std.specs.List.{count_by}
use Rattle.std.proofs.lemmas.Bool.Decides.{nat_tests}
use Rattle.std.proofs.lemmas.List.{drop_all}
use Rattle.std.proofs.lemmas.Bool.{false_from_ne_true}
use mathlib.Core.Path.{fun_ext}
use Rattle.environment_sets.specs.Sets.{Set, IsBelow, size_below}
use Rattle.environment_sets.specs.Lists.{IsIn}
use Rattle.environment_sets.specs.Orders.{first_of_both, by_first, compare_in, ComesBefore, ListsAll, IsOrder}
use Rattle.environment_sets.specs.Laws.{OrderIsStrict, OrderIsTransitive, EqualSetsAreSame, OrderIsTotal, ListingsAreUnique}
use Rattle.environment_sets.proofs.Sizes.{sizes_are_counts}
use Rattle.environment_sets.proofs.Listings.{same_listing}

-- at one name: what the two have there, and how they compare by the later names
abbrev pub at_name : Bool → Bool → Ordering → Ordering
at_name a b r = if a && not b then Less else (if b && not a then Greater else r)

at_name-apart : (a b : Bool) (r s : Ordering) → at_name a b r ≡ Less → at_name b a s ≡ Less → (r ≡ Less → s ≡ Less → ⊥) → ⊥
at_name-apart true true r s e f rest = rest e f
at_name-apart true false r s e f rest = cc
at_name-apart false true r s e f rest = cc
at_name-apart false false r s e f rest = rest e f

at_name-along : (a b c : Bool) (r s t : Ordering) → at_name a b r ≡ Less → at_name b c s ≡ Less → (r ≡ Less → s ≡ Less → t ≡ Less) → at_name a c t ≡ Less
at_name-along true true true r s t e f rest = rest e f
at_name-along true true false r s t e f rest = refl
at_name-along true false true r s t e f rest = cc
at_name-along true false false r s t e f rest = refl
at_name-along false true c r s t e f rest = cc
at_name-along false false true r s t e f rest = cc
at_name-along false false false r s t e f rest = rest e f

at_name-same : (a b : Bool) (r : Ordering) → at_name a b r ≡ Equal → (a ≡ b) × (r ≡ Equal)
at_name-same true true r e = (refl, e)
at_name-same true false r e = cc
at_name-same false true r e = cc
at_name-same false false r e = (refl, e)

at_name-turned : (a b : Bool) (r s : Ordering) → at_name a b r ≡ Greater → (r ≡ Greater → s ≡ Less) → at_name b a s ≡ Less
at_name-turned true true r s e rest = rest e
at_name-turned true false r s e rest = cc
at_name-turned false true r s e rest = refl
at_name-turned false false r s e rest = rest e

-- by sizes m and n
by_size-apart : (m n : ℕ) (r s : Ordering) → first_of_both (nat_cmp m n) r ≡ Less → first_of_both (nat_cmp n m) s ≡ Less → (r ≡ Less → s ≡ Less → ⊥) → ⊥
by_size-apart m n r s e f rest = grind (arith, nat_tests)

by_size-along : (l m n : ℕ) (r s t : Ordering) → first_of_both (nat_cmp l m) r ≡ Less → first_of_both (nat_cmp m n) s ≡ Less → (r ≡ Less → s ≡ Less → t ≡ Less) → first_of_both (nat_cmp l n) t ≡ Less
by_size-along l m n r s t e f rest = grind (arith, nat_tests)

by_size-same : (m n : ℕ) (r : Ordering) → first_of_both (nat_cmp m n) r ≡ Equal → r ≡ Equal
by_size-same m n r e = grind (arith, nat_tests)

by_size-turned : (m n : ℕ) (r s : Ordering) → first_of_both (nat_cmp m n) r ≡ Greater → (r ≡ Greater → s ≡ Less) → first_of_both (nat_cmp n m) s ≡ Less
by_size-turned m n r s e rest = grind (arith, nat_tests)

module _ {N : Type 0} where
  by_first-apart : (order : List N) (E F : Set N) → by_first order E F ≡ Less → by_first order F E ≡ Less → ⊥
  by_first-apart [] E F e f = cc
  by_first-apart (k ∷ order) E F e f = at_name-apart (E k) (F k) _ _ e f (by_first-apart order E F)

  by_first-along : (order : List N) (E F G : Set N) → by_first order E F ≡ Less → by_first order F G ≡ Less → by_first order E G ≡ Less
  by_first-along [] E F G e f = cc
  by_first-along (k ∷ order) E F G e f = at_name-along (E k) (F k) (G k) _ _ _ e f (by_first-along order E F G)

  by_first-same : (order : List N) (E F : Set N) → by_first order E F ≡ Equal → (k : N) → IsIn order k → E k ≡ F k
  by_first-same [] E F e k h = absurd h
  by_first-same (n ∷ order) E F e k (inl same) = ap E (sym same) ∙ ((at_name-same (E n) (F n) _ e).0 ∙ ap F same)
  by_first-same (n ∷ order) E F e k (inr later) = by_first-same order E F (at_name-same (E n) (F n) _ e).1 k later

  by_first-turned : (order : List N) (E F : Set N) → by_first order E F ≡ Greater → by_first order F E ≡ Less
  by_first-turned [] E F e = cc
  by_first-turned (k ∷ order) E F e = at_name-turned (E k) (F k) _ _ e (by_first-turned order E F)

  -- sets that agree on the names are the same, where the names list them
  same_sets : (order : List N) (E F : Set N) → ListsAll order E → ListsAll order F → ((k : N) → IsIn order k → E k ≡ F k) → E ≡ F
  same_sets order E F all others agree =
      fun_ext (λ k. elim (E k) as (λ b. E k ≡ b → E k ≡ F k) [
        | true ↦ λ is. agree k (all k is)
        | false ↦ λ out. out ∙ sym (false_from_ne_true (F k) (λ there. true≢false (sym there ∙ (sym (agree k (others k there)) ∙ out))))
      ] refl)

pub by_first-past : (order : List ℕ) (E F : Set ℕ) (i : ℕ) → length order ≤ i → by_first (drop i order) E F ≡ Equal
by_first-past order E F i high = rw (drop_all i order high) refl

-- the sizes may be counted by any order that lists both
pub compare_in-sizes : (n : ℕ) (order : List ℕ) (E F : Set ℕ) → IsOrder n order → ListsAll order E → ListsAll order F → IsBelow n E → IsBelow n F → compare_in order E F ≡ first_of_both (nat_cmp (size_below n E) (size_below n F)) (by_first order E F)
compare_in-sizes n order E F is all others low lower =
    ap₂ (λ l m. first_of_both (nat_cmp l m) (by_first order E F)) (sizes_are_counts n E order low is.distinct all) (sizes_are_counts n F order lower is.distinct others)

pub first_of_both-equal : (o r s : Ordering) → s ≡ first_of_both o r → o ≡ Equal → r ≡ s
first_of_both-equal Less r s e f = cc
first_of_both-equal Equal r s e f = sym e
first_of_both-equal Greater r s e f = cc

pub first_of_both-unequal : (o r s : Ordering) → s ≡ first_of_both o r → (o ≡ Equal → ⊥) → o ≡ s
first_of_both-unequal Less r s e f = sym e
first_of_both-unequal Equal r s e f = absurd (f refl)
first_of_both-unequal Greater r s e f = sym e

pub order_is_strict : (N : Type 0) → OrderIsStrict N
order_is_strict N order E F e f = by_size-apart (count_by E order) (count_by F order) (by_first order E F) (by_first order F E) e f (by_first-apart order E F)

pub order_is_transitive : (N : Type 0) → OrderIsTransitive N
order_is_transitive N order E F G e f =
    by_size-along (count_by E order) (count_by F order) (count_by G order) (by_first order E F) (by_first order F G) (by_first order E G) e f (by_first-along order E F G)

pub equal_sets_are_same : (N : Type 0) → EqualSetsAreSame N
equal_sets_are_same N order E F all others e = same_sets order E F all others (by_first-same order E F (by_size-same (count_by E order) (count_by F order) (by_first order E F) e))

pub order_is_total : (N : Type 0) → OrderIsTotal N
order_is_total N order E F all others =
    elim (compare_in order E F) as (λ o. compare_in order E F ≡ o → ComesBefore order E F ⊎ ((E ≡ F) ⊎ ComesBefore order F E)) [
      | Less ↦ λ e. inl e
      | Equal ↦ λ e. inr (inl (equal_sets_are_same N order E F all others e))
      | Greater ↦ λ e. inr (inr (by_size-turned (count_by E order) (count_by F order) (by_first order E F) (by_first order F E) e (by_first-turned order E F)))
    ] refl

pub listings_are_unique : (N : Type 0) → ListingsAreUnique N
listings_are_unique N order xs ys rising listing =
    same_listing (ComesBefore order) (IsIn xs) xs ys (order_is_strict N order) (record { rising = rising; exact = λ E. (λ h. h, λ h. h) }) listing
