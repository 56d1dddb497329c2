-- A walk over the inferences that go from a node.
use Rattle.std.proofs.Common.{◌≡◌, ◌⊎◌, ℕ, ◌<◌, inl, inr, true, false, ◌==◌, cond, refl, sym, ap, subst, ◌∙◌, List, [], ◌∷◌, ◌++◌, length, Option, Some, None, IsSome, arith}
use Rattle.std.proofs.lemmas.Bool.{cases_eq}
use Rattle.std.proofs.lemmas.Bool.Decides.{nat_tests}
use Rattle.environment_sets.specs.Lists.{IsIn, AreDistinct}
use Rattle.environment_sets.proofs.Listings.{IsIn-push, IsIn-front, IsIn-last}
use Rattle.index_lists.specs.Lists.{first_of, next_in}
use Rattle.index_lists.proofs.Links.{same_some, first_in_it}
use Rattle.circuit_model.specs.declared.model.Fact.{Fact}
use Rattle.circuit_model.proofs.Renaming.{is_some_of}
use Rattle.inference_search.specs.declared.inferred.Inferred.{Inferred}
use Rattle.justifications.specs.declared.model.Inferred as woven
use Rattle.justifications.specs.Woven.{Woven, fact_at, inferred_at, uses_of, IsWoven}
use Rattle.justifications.specs.Woven as links
use Rattle.justifications.proofs.Uses.{some_and_is, some_and_of}
use Rattle.justifications.proofs.Calling.{next_listed}
use Rattle.recorded_inferences.specs.Recorded.{told, recorded_in, GoesFrom, AreUses}
use Rattle.recorded_inferences.proofs.Told.{told_named, named_told, goes_from_fact, goes_from_node}

-- the names from this one on
abbrev pub from_name : List ℕ → ℕ → List ℕ
from_name [] k = []
from_name (x ∷ xs) k = cond (x == k) (x ∷ xs) (from_name xs k)

-- the names from this one on, if there is one
abbrev pub rest_of : List ℕ → Option ℕ → List ℕ
rest_of xs None = []
rest_of xs (Some k) = from_name xs k

-- from the first one on there are all
first_rest : (xs : List ℕ) → rest_of xs (first_of xs) ≡ xs
first_rest [] = refl
first_rest (x ∷ xs) = let is : (x == x) ≡ true = grind (arith, nat_tests) in ap (λ b. cond b (x ∷ xs) (from_name xs x)) is

-- what is behind the first is so without it
rest_behind : (x : ℕ) (xs : List ℕ) (o : Option ℕ) → ((m : ℕ) → o ≡ Some m → x ≡ m → ⊥) → rest_of (x ∷ xs) o ≡ rest_of xs o
rest_behind x xs None out = refl
rest_behind x xs (Some m) out =
    let ne : x ≡ m → ⊥ = out m refl in
    let no_test : (x == m) ≡ false = grind (arith, nat_tests, ne) in
    ap (λ b. cond b (x ∷ xs) (from_name xs m)) no_test

-- from a name on there are it, and what is from the next one on
pub next_rest : (xs : List ℕ) (k : ℕ) → AreDistinct xs → IsIn xs k → from_name xs k ≡ k ∷ rest_of xs (next_in xs k)
next_rest [] k d at = absurd at
next_rest (x ∷ xs) k d at = elim (cases_eq x k) [
  | inl same ↦
      let is : (x == k) ≡ true = grind (arith, nat_tests) in
      let next : next_in (x ∷ xs) k ≡ first_of xs = ap (λ b. cond b (first_of xs) (next_in xs k)) is in
      let behind : rest_of (x ∷ xs) (first_of xs) ≡ xs = rest_behind x xs (first_of xs) (λ m e f. d.0 m (first_in_it xs m e) f) ∙ first_rest xs in
      ap (λ b. cond b (x ∷ xs) (from_name xs k)) is ∙ (ap (λ (y : ℕ). y ∷ xs) same ∙ ap (λ (l : List ℕ). k ∷ l) (sym (ap (λ (o : Option ℕ). rest_of (x ∷ xs) o) next ∙ behind)))
  | inr ne ↦
      let out : (x == k) ≡ false = grind (arith, nat_tests) in
      let later : IsIn xs k = elim at [ inl e ↦ absurd (ne e) | inr i ↦ i ] in
      let next : next_in (x ∷ xs) k ≡ next_in xs k = ap (λ b. cond b (first_of xs) (next_in xs k)) out in
      let behind : rest_of (x ∷ xs) (next_in xs k) ≡ rest_of xs (next_in xs k) = rest_behind x xs (next_in xs k) (λ m e f. d.0 m (next_listed xs k m e) f) in
      ap (λ b. cond b (x ∷ xs) (from_name xs k)) out ∙ (next_rest xs k d.1 later ∙ ap (λ (l : List ℕ). k ∷ l) (sym (ap (λ (o : Option ℕ). rest_of (x ∷ xs) o) next ∙ behind)))
]

-- an inference goes from the node, told by its facts
pub record IsUse (w : Woven) (node : ℕ) (i : Inferred) : Type 0 where
  pub name : ℕ
  pub linked : woven.Inferred
  pub listed : IsIn (uses_of w node) name
  pub is : inferred_at w name ≡ Some linked
  pub told_so : told w linked ≡ i

-- what is found are inferences that go from the node; each of these is found or comes from the next one on
pub record AreWalked (w : Woven) (node : ℕ) (found : List Inferred) (next : Option ℕ) : Type 0 where
  pub listed : (k : ℕ) → next ≡ Some k → IsIn (uses_of w node) k
  pub sound : (i : Inferred) → IsIn found i → IsUse w node i
  pub complete : (j : ℕ) (x : woven.Inferred) → inferred_at w j ≡ Some x → IsIn (uses_of w node) j → IsIn found (told w x) ⊎ IsIn (rest_of (uses_of w node) next) j

module _ (w : Woven) (laws : IsWoven w) (node : ℕ) where
  -- what is listed goes from the node
  pub listed_use : (j : ℕ) → IsIn (uses_of w node) j → (x : woven.Inferred) × (inferred_at w j ≡ Some x) × links.GoesFrom node x
  listed_use j at = some_and_is (inferred_at w j) (links.GoesFrom node) (((laws.uses node).exact j).0 at)

  -- what is listed is recorded
  pub listed_there : (j : ℕ) → IsIn (uses_of w node) j → IsSome (inferred_at w j)
  listed_there j at = let r = listed_use j at in is_some_of (inferred_at w j) r.0 r.1

  -- at first nothing is found
  pub walked_none : (found : List Inferred) (next : Option ℕ) → found ≡ [] → next ≡ first_of (uses_of w node) → AreWalked w node found next
  walked_none found next none first = record {
    listed = λ k e. first_in_it (uses_of w node) k (sym first ∙ e);
    sound = λ i at. absurd (subst (λ (l : List Inferred). IsIn l i) none at);
    complete = λ j x e at. inr (subst (λ (l : List ℕ). IsIn l j) (sym (ap (λ (o : Option ℕ). rest_of (uses_of w node) o) first ∙ first_rest (uses_of w node))) at);
  }

  module _ (found : List Inferred) (next : Option ℕ) (walked : AreWalked w node found next) (k : ℕ) (at : next ≡ Some k) where
    -- what comes from this one on
    from_here : rest_of (uses_of w node) next ≡ k ∷ rest_of (uses_of w node) (next_in (uses_of w node) k)
    from_here = ap (λ (o : Option ℕ). rest_of (uses_of w node) o) at ∙ next_rest (uses_of w node) k (laws.uses node).distinct (walked.listed k at)

    module _ (next' : Option ℕ) (behind : next' ≡ next_in (uses_of w node) k) where
      -- it, and what comes from the next one on
      split_here : rest_of (uses_of w node) next ≡ k ∷ rest_of (uses_of w node) next'
      split_here = from_here ∙ ap (λ (o : Option ℕ). k ∷ rest_of (uses_of w node) o) (sym behind)

      -- fewer are left
      pub walked_shorter : length (rest_of (uses_of w node) next') < length (rest_of (uses_of w node) next)
      walked_shorter = let long : length (rest_of (uses_of w node) next) ≡ length (k ∷ rest_of (uses_of w node) next') = ap (λ (l : List ℕ). length l) split_here in omega arith

      -- one more is found
      pub walked_next : (x : woven.Inferred) → inferred_at w k ≡ Some x → (found' : List Inferred) → found' ≡ found ++ told w x ∷ [] → AreWalked w node found' next'
      walked_next x is found' pushed = record {
        listed = λ m e. next_listed (uses_of w node) k m (sym behind ∙ e);
        sound = λ i in_new. elim (IsIn-push found (told w x) i (subst (λ (l : List Inferred). IsIn l i) pushed in_new)) [
          | inl old ↦ walked.sound i old
          | inr e ↦ record { name = k; linked = x; listed = walked.listed k at; is = is; told_so = e }
        ];
        complete = λ j y there in_uses. elim (walked.complete j y there in_uses) [
          | inl old ↦ inl (subst (λ (l : List Inferred). IsIn l (told w y)) (sym pushed) (IsIn-front found (told w x) (told w y) old))
          | inr left ↦ elim (subst (λ (l : List ℕ). IsIn l j) split_here left) [
            | inl e ↦
                let same : x ≡ y = same_some x y (sym is ∙ (ap (λ (n : ℕ). inferred_at w n) e ∙ there)) in
                inl (subst (λ (l : List Inferred). IsIn l (told w y)) (sym pushed) (IsIn-last found (told w x) (told w y) (ap (λ (z : woven.Inferred). told w z) same)))
            | inr later ↦ inr later
          ]
        ];
      }

  -- at the end all are found
  pub walked_all : (found : List Inferred) (next : Option ℕ) → AreWalked w node found next → next ≡ None → (fact : Fact) → fact_at w node ≡ Some fact → AreUses (recorded_in w) fact found
  walked_all found next walked end fact is i = (
    λ at.
        let step = walked.sound i at in
        let r = listed_use step.name step.listed in
        let same : r.0 ≡ step.linked = same_some r.0 step.linked (sym r.1 ∙ step.is) in
        let goes : links.GoesFrom node step.linked = subst (λ (x : woven.Inferred). links.GoesFrom node x) same r.2 in
        (subst (λ (k : Inferred). IsIn (recorded_in w) k) step.told_so (named_told w step.name step.linked step.is), subst (λ (k : Inferred). GoesFrom fact k) step.told_so (goes_from_fact w node fact step.linked is goes)),
    λ both.
        let r = told_named w i both.0 in
        let from = goes_from_node w fact r.1 (subst (λ (k : Inferred). GoesFrom fact k) (sym r.3) both.1) in
        let here : links.GoesFrom node r.1 = subst (λ (n : ℕ). links.GoesFrom n r.1) (laws.one_node from.0 node fact from.1 is) from.2 in
        let listed : IsIn (uses_of w node) r.0 = ((laws.uses node).exact r.0).1 (some_and_of (inferred_at w r.0) (links.GoesFrom node) r.1 r.2 here) in
        let there : IsIn found (told w r.1) = elim (walked.complete r.0 r.1 r.2 listed) [
          | inl old ↦ old
          | inr left ↦ absurd (subst (λ (o : Option ℕ). IsIn (rest_of (uses_of w node) o) r.0) end left)
        ] in
        subst (λ (k : Inferred). IsIn found k) r.3 there,
  )

-- where the fact has no node, nothing goes from it
pub no_uses : (w : Woven) (fact : Fact) → ((n : ℕ) → fact_at w n ≡ Some fact → ⊥) → (found : List Inferred) → found ≡ [] → AreUses (recorded_in w) fact found
no_uses w fact none found empty i = (
  λ at. absurd (subst (λ (l : List Inferred). IsIn l i) empty at),
  λ both.
      let r = told_named w i both.0 in
      let from = goes_from_node w fact r.1 (subst (λ (k : Inferred). GoesFrom fact k) (sym r.3) both.1) in
      absurd (none from.0 from.1),
)
