-- The slots in their order.
use Rattle.std.proofs.Common.{◌≡◌, ℕ, ◌+◌, ◌<◌, inl, inr, IsTrue, List, [], ◌∷◌, ◌++◌, sym, subst, arith}
use Rattle.std.proofs.lemmas.Bool.{cases_eq}
use Rattle.environment_sets.specs.declared.environment.Env.{Env}
use Rattle.environment_sets.specs.declared.environment.TheConstants.{SLOTS}
use Rattle.environment_sets.specs.Members.{members, HasMember}
use Rattle.environment_sets.specs.Lists.{IsIn, IsRising, IsListing}
use Rattle.environment_sets.specs.Orders.{IsOrder}
use Rattle.environment_sets.proofs.Listings.{IsIn-push, IsIn-front, IsIn-last, IsRising-push}
use Rattle.environment_sets.proofs.Membership.{IsIn-map}
use Rattle.environment_sets.proofs.Slots.{slots_are_below}
use Rattle.environment_sets.specs.Costs.{ListsEach}

-- the numbers below n, rising
abbrev pub ListsBelow : ℕ → List ℕ → Type 0
ListsBelow n = IsListing (λ i j. i < j) (λ k. k < n)

pub one_more : (n : ℕ) (old : List ℕ) → ListsBelow n old → ListsBelow (n + 1) (old ++ n ∷ [])
one_more n old listing =
    record {
      rising = IsRising-push (λ i j. i < j) old n listing.rising (λ k h. (listing.exact k).0 h);
      exact = λ k. (
        λ h. elim (IsIn-push old n k h) [ inl there ↦ let low : k < n = (listing.exact k).0 there in omega arith | inr same ↦ omega arith ],
        λ low. elim (cases_eq n k) [ inl same ↦ IsIn-last old n k same | inr other ↦ IsIn-front old n k ((listing.exact k).1 (omega arith)) ],
      );
    }

apart : (xs : List ℕ) → IsRising (λ i j. i < j) xs → IsRising (λ i j. i ≡ j → ⊥) xs
apart [] up = tt
apart (x ∷ xs) up = (λ y h same. let less : x < y = up.0 y h in omega arith, apart xs up.1)

pub is_order : (order : List ℕ) → ListsBelow SLOTS order → IsOrder SLOTS order
is_order order listing = record { below = λ k h. (listing.exact k).0 h; distinct = apart order listing.rising }

pub lists_each : (order : List ℕ) (es : List Env) → ListsBelow SLOTS order → ListsEach order (HasMember es)
lists_each order es listing E h k is =
    let r : (e : Env) × IsIn es e × (members e ≡ E) = IsIn-map members es E h in
    (listing.exact k).1 (slots_are_below r.0 k (subst (λ F. IsTrue (F k)) (sym r.2) is))
