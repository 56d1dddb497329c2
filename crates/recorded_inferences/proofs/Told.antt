-- Recorded inferences and what is told of them.
use Rattle.std.proofs.Common.{◌≡◌, ◌⊎◌, ℕ, zero, suc, inl, inr, refl, sym, ap, subst, ◌∙◌, List, [], ◌∷◌, get_or, Option, Some, None, IsSome}
use Rattle.environment_sets.specs.Lists.{IsIn}
use Rattle.index_lists.proofs.Links.{none_is_no_some, same_some}
use Rattle.circuit_model.specs.declared.model.Fact.{Fact}
use Rattle.inference_search.specs.declared.inferred.Inferred.{Inferred}
use Rattle.inference_search.specs.Inferences.{facts}
use Rattle.justifications.specs.declared.model.Inferred as woven
use Rattle.justifications.specs.declared.model.Target.{Target}
use Rattle.justifications.specs.declared.model.Target.TheVariants.{Node, Clash}
use Rattle.justifications.specs.Woven.{Woven, fact_at, inferred_at, antecedent, IsThere, IsFit}
use Rattle.justifications.specs.Woven as links
use Rattle.justifications.proofs.Chaining.{some_is}
use Rattle.recorded_inferences.specs.Recorded.{fact_of, fact_led_to, told, told_of, recorded_in, GoesFrom, AreSame}

-- what is told is told of one under a name
told_listed : (w : Woven) (xs : List (Option woven.Inferred)) (i : Inferred) → IsIn (told_of w xs) i → (j : ℕ) × (x : woven.Inferred) × (get_or xs j None ≡ Some x) × (told w x ≡ i)
told_listed w [] i at = absurd at
told_listed w (None ∷ xs) i at = let r = told_listed w xs i at in (suc r.0, r.1, r.2, r.3)
told_listed w (Some x ∷ xs) i (inl e) = (zero, x, refl, e)
told_listed w (Some x ∷ xs) i (inr at) = let r = told_listed w xs i at in (suc r.0, r.1, r.2, r.3)

-- what has a name is told
listed_told : (w : Woven) (xs : List (Option woven.Inferred)) (j : ℕ) (x : woven.Inferred) → get_or xs j None ≡ Some x → IsIn (told_of w xs) (told w x)
listed_told w [] j x e = absurd (none_is_no_some x e)
listed_told w (None ∷ xs) zero x e = absurd (none_is_no_some x e)
listed_told w (Some y ∷ xs) zero x e = inl (ap (λ (z : woven.Inferred). told w z) (same_some y x e))
listed_told w (None ∷ xs) (suc j) x e = listed_told w xs j x e
listed_told w (Some y ∷ xs) (suc j) x e = inr (listed_told w xs j x e)

-- a recorded inference has a name
pub told_named : (w : Woven) (i : Inferred) → IsIn (recorded_in w) i → (j : ℕ) × (x : woven.Inferred) × (inferred_at w j ≡ Some x) × (told w x ≡ i)
told_named w i at = told_listed w w.inferences.records i at

-- what has a name is a recorded inference
pub named_told : (w : Woven) (j : ℕ) (x : woven.Inferred) → inferred_at w j ≡ Some x → IsIn (recorded_in w) (told w x)
named_told w j x e = listed_told w w.inferences.records j x e

module _ (old new : Woven) (stay : (n : ℕ) (f : Fact) → fact_at old n ≡ Some f → fact_at new n ≡ Some f) where
  -- a node that is there has the same fact
  pub fact_stays : (n : ℕ) → IsSome (fact_at old n) → fact_at new n ≡ fact_at old n
  fact_stays n there = let is = some_is (fact_at old n) there in stay n is.0 is.1 ∙ sym is.1

  -- nodes that are there have the same facts
  pub fact_of_stays : (o : Option ℕ) → ((n : ℕ) → o ≡ Some n → IsSome (fact_at old n)) → fact_of new o ≡ fact_of old o
  fact_of_stays None there = refl
  fact_of_stays (Some n) there = fact_stays n (there n refl)

  -- what is led to is told as before
  pub fact_led_to_stays : (t : Target) → IsThere old t → fact_led_to new t ≡ fact_led_to old t
  fact_led_to_stays Clash there = refl
  fact_led_to_stays (Node n) there = fact_stays n.place there

  -- an inference between nodes that are there is told as before
  told_as_before : (x : woven.Inferred) → IsFit old x → told new x ≡ told old x
  told_as_before x fit =
      let first = fact_of_stays (antecedent 0 x) fit.first in
      let second = fact_of_stays (antecedent 1 x) fit.second in
      let to = fact_led_to_stays x.to fit.to in
      λ i. record { first = first i; second = second i; to = to i; maker = x.maker }

-- an inference between nodes that stay is told as before
pub told_stays : (old new : Woven) (x : woven.Inferred) → IsFit old x → ((n : ℕ) (f : Fact) → fact_at old n ≡ Some f → fact_at new n ≡ Some f) → told new x ≡ told old x
told_stays old new x fit stay = told_as_before old new stay x fit

-- where the same names have the same inferences, told as before, the same are recorded
pub same_are_told : (old new : Woven) → ((j : ℕ) → inferred_at new j ≡ inferred_at old j) → ((j : ℕ) (x : woven.Inferred) → inferred_at old j ≡ Some x → told new x ≡ told old x) → AreSame (recorded_in old) (recorded_in new)
same_are_told old new same as_before i = (
  λ at.
      let r = told_named new i at in
      let was : inferred_at old r.0 ≡ Some r.1 = sym (same r.0) ∙ r.2 in
      subst (λ (k : Inferred). IsIn (recorded_in old) k) (sym (as_before r.0 r.1 was) ∙ r.3) (named_told old r.0 r.1 was),
  λ at.
      let r = told_named old i at in
      subst (λ (k : Inferred). IsIn (recorded_in new) k) (as_before r.0 r.1 r.2 ∙ r.3) (named_told new r.0 r.1 (same r.0 ∙ r.2)),
)

-- the same of the same
pub same_again : (is js ks : List Inferred) → AreSame is js → AreSame js ks → AreSame is ks
same_again is js ks a b i = (λ at. (a i).0 ((b i).0 at), λ at. (b i).1 ((a i).1 at))

-- a fact that is one of the two
in_facts : (a b : Option Fact) (f : Fact) → (a ≡ Some f) ⊎ (b ≡ Some f) → IsIn (facts a b) f
in_facts None None f (inl e) = absurd (none_is_no_some f e)
in_facts None None f (inr e) = absurd (none_is_no_some f e)
in_facts (Some g) None f (inl e) = inl (same_some g f e)
in_facts (Some g) None f (inr e) = absurd (none_is_no_some f e)
in_facts None (Some h) f (inl e) = absurd (none_is_no_some f e)
in_facts None (Some h) f (inr e) = inl (same_some h f e)
in_facts (Some g) (Some h) f (inl e) = inl (same_some g f e)
in_facts (Some g) (Some h) f (inr e) = inr (inl (same_some h f e))

-- which of the two the fact is
facts_in : (a b : Option Fact) (f : Fact) → IsIn (facts a b) f → (a ≡ Some f) ⊎ (b ≡ Some f)
facts_in None None f at = absurd at
facts_in (Some g) None f (inl e) = inl (ap (λ (k : Fact). Some k) e)
facts_in (Some g) None f (inr at) = absurd at
facts_in None (Some h) f (inl e) = inr (ap (λ (k : Fact). Some k) e)
facts_in None (Some h) f (inr at) = absurd at
facts_in (Some g) (Some h) f (inl e) = inl (ap (λ (k : Fact). Some k) e)
facts_in (Some g) (Some h) f (inr (inl e)) = inr (ap (λ (k : Fact). Some k) e)
facts_in (Some g) (Some h) f (inr (inr at)) = absurd at

-- the node of a fact that is told
node_told : (w : Woven) (o : Option ℕ) (f : Fact) → fact_of w o ≡ Some f → (n : ℕ) × (o ≡ Some n) × (fact_at w n ≡ Some f)
node_told w None f e = absurd (none_is_no_some f e)
node_told w (Some n) f e = (n, refl, e)

-- what goes from a node goes from its fact
pub goes_from_fact : (w : Woven) (n : ℕ) (f : Fact) (x : woven.Inferred) → fact_at w n ≡ Some f → links.GoesFrom n x → GoesFrom f (told w x)
goes_from_fact w n f x at (inl e) = in_facts (told w x).first (told w x).second f (inl (ap (λ (o : Option ℕ). fact_of w o) e ∙ at))
goes_from_fact w n f x at (inr e) = in_facts (told w x).first (told w x).second f (inr (ap (λ (o : Option ℕ). fact_of w o) e ∙ at))

-- what goes from a fact goes from a node that has it
pub goes_from_node : (w : Woven) (f : Fact) (x : woven.Inferred) → GoesFrom f (told w x) → (n : ℕ) × (fact_at w n ≡ Some f) × links.GoesFrom n x
goes_from_node w f x at =
    elim (facts_in (told w x).first (told w x).second f at) [
      | inl e ↦ let r = node_told w (antecedent 0 x) f e in (r.0, r.2, inl r.1)
      | inr e ↦ let r = node_told w (antecedent 1 x) f e in (r.0, r.2, inr r.1)
    ]
