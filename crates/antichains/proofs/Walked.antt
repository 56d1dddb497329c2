-- Members that a walk passes over by their sizes.
use Rattle.std.proofs.Common.{◌≡◌, inl, inr, ℕ, ◌<◌, true, false, true≢false, Option, Some, None, refl, sym, ap, subst, ◌∙◌, List, nat_cmp, Bor}
use Rattle.std.specs.Option.{option_map, option_copied, ForSome}
use Rattle.std.specs.Cmp.{nat_cmp_is}
use Rattle.std.specs.declared.cmp.Ordering.TheVariants.{Less, Greater}
use Rattle.environment_sets.specs.declared.environment.Env.{Env}
use Rattle.environment_sets.specs.declared.environment.TheConstants.{SLOTS}
use Rattle.environment_sets.specs.Members.{members}
use Rattle.environment_sets.specs.Sets.{Set, is_within}
use Rattle.environment_sets.specs.Orders.{ComesBefore, ListsAll, IsOrder, compare_in, first_of_both, by_first}
use Rattle.environment_sets.proofs.OrderLaws.{compare_in-sizes}
use Rattle.environment_sets.proofs.Slots.{slots_are_below}
use Rattle.environment_sets.proofs.Within.{within_holds, holds_within}
use Rattle.antichains.specs.Nearest.{IsLess, IsMore, IsPassed}
use Rattle.antichains.specs.Signed.{size_of}

module _ (order : List ℕ) (is : IsOrder SLOTS order) (e f : Env) (listed : ListsAll order (members e)) (other : ListsAll order (members f)) where
  sizes : compare_in order (members e) (members f) ≡ first_of_both (nat_cmp (size_of e) (size_of f)) (by_first order (members e) (members f))
  sizes = compare_in-sizes SLOTS order (members e) (members f) is listed other (slots_are_below e) (slots_are_below f)

  smaller_is_first : size_of e < size_of f → ComesBefore order (members e) (members f)
  smaller_is_first less = sizes ∙ ap (λ o. first_of_both o (by_first order (members e) (members f))) (sym (nat_cmp_is (size_of e) (size_of f) Less less))

  larger_is_not_first : size_of f < size_of e → ComesBefore order (members e) (members f) → ⊥
  larger_is_not_first more first = let greater : Greater ≡ Less = sym (ap (λ o. first_of_both o (by_first order (members e) (members f))) (sym (nat_cmp_is (size_of e) (size_of f) Greater more))) ∙ (sym sizes ∙ first) in absurd (cc)

module _ (order : List ℕ) (mask : Set ℕ) (is : IsOrder SLOTS order) (listed : ListsAll order mask) (e : Env) where
  -- what has fewer slots than the last does not come after it
  pub smaller_is_passed : (last : Option Env) (found : Option (Set ℕ)) → ForSome last (λ l. ListsAll order (members l)) → IsLess (size_of e) (option_map size_of last) → IsPassed order mask (option_map members last) found (members e)
  smaller_is_passed None found other less = absurd less
  smaller_is_passed (Some l) found other less = inl (λ (within, after). larger_is_not_first order is l e (other l refl) (λ k h. listed k (within k h)) less after)

  -- what has more slots than what was found is behind it, if it is inside the mask
  pub larger_is_passed : (last : Option (Set ℕ)) (found : Option Env) → ForSome found (λ f. ListsAll order (members f)) → IsMore (size_of e) (option_map size_of found) → IsPassed order mask last (option_map members found) (members e)
  larger_is_passed last None other more = absurd more
  larger_is_passed last (Some f) other more =
      elim (is_within SLOTS (members e) mask) as (λ b. is_within SLOTS (members e) mask ≡ b → IsPassed order mask last (Some (members f)) (members e)) [
        | true ↦ λ inside. inr (smaller_is_first order is f e (other f refl) (λ k h. listed k (within_holds SLOTS (members e) mask (slots_are_below e) inside k h)) more)
        | false ↦ λ outside. inl (λ (within, _). true≢false (sym (holds_within SLOTS (members e) mask within) ∙ outside))
      ] refl

-- what holds of what is lent holds of a copy of it
pub of_copied : (o : Option (Bor Env)) (P : Env → Type 0) → ForSome o (λ l. P l.now) → ForSome (option_copied o) P
of_copied None P holds x e = absurd (cc)
of_copied (Some lent) P holds x e = let same : lent.now ≡ x = cc in subst P same (holds lent refl)
