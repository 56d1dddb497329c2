-- Where an inference stands among those that go from a node.
use Rattle.std.proofs.Common.{◌≡◌, ◌⊎◌, ℕ, inl, inr, refl, sym, ap, subst, ◌∙◌, List, [], ◌∷◌, ◌++◌, Option, Some, None, IsSome, IfSome, IsSomeAnd}
use Rattle.environment_sets.specs.Lists.{IsIn}
use Rattle.index_lists.specs.Chains.{Records, record_at, keys_in}
use Rattle.index_lists.proofs.Links.{none_is_no_some, same_some}
use Rattle.circuit_model.proofs.Renaming.{is_some_of}
use Rattle.justifications.specs.declared.model.Inferred.{Inferred}
use Rattle.justifications.specs.Chained.{said_by, AreAllChained}
use Rattle.justifications.specs.Woven.{antecedent, head_of_inferred}
use Rattle.justifications.proofs.Chaining.{stands}

pub in_either : {X : Type 0} (xs ys : List X) (x : X) → IsIn (xs ++ ys) x → IsIn xs x ⊎ IsIn ys x
in_either [] ys x i = inr i
in_either (z ∷ zs) ys x i = elim i [
  | inl e ↦ inl (inl e)
  | inr j ↦ elim (in_either zs ys x j) [ inl a ↦ inl (inr a) | inr b ↦ inr b ]
]

pub in_first_of : {X : Type 0} (xs ys : List X) (x : X) → IsIn xs x → IsIn (xs ++ ys) x
in_first_of [] ys x i = absurd i
in_first_of (z ∷ zs) ys x i = elim i [ inl e ↦ inl e | inr j ↦ inr (in_first_of zs ys x j) ]

pub in_second_of : {X : Type 0} (xs ys : List X) (x : X) → IsIn ys x → IsIn (xs ++ ys) x
in_second_of [] ys x i = i
in_second_of (z ∷ zs) ys x i = inr (in_second_of zs ys x i)

module _ {T : Type 0} (heads : ℕ → T → Option ℕ) (s : Records T) (chained : AreAllChained heads s) (lane head key : ℕ) where
  -- what stands in a list has a record, which says so
  pub listed_is : IsIn (keys_in s lane head) key → (x : T) × (record_at s key ≡ Some x) × (heads lane x ≡ Some head)
  listed_is i =
      elim (record_at s key) as (λ o. record_at s key ≡ o → (x : T) × (record_at s key ≡ Some x) × (heads lane x ≡ Some head)) [
        | None ↦ λ e. absurd (none_is_no_some head (sym (ap (λ (o : Option T). said_by (heads lane) o) e) ∙ ((chained lane head).exact key).0 i))
        | Some x ↦ λ e. (x, e, sym (ap (λ (o : Option T). said_by (heads lane) o) e) ∙ ((chained lane head).exact key).0 i)
      ] refl

module _ (s : Records Inferred) (chained : AreAllChained head_of_inferred s) (node key : ℕ) (listed : IsIn (keys_in s 0 node ++ keys_in s 1 node) key) where
  pub use_recorded : IsSome (record_at s key)
  use_recorded = elim (in_either (keys_in s 0 node) (keys_in s 1 node) key listed) [
    | inl i ↦ is_some_of (record_at s key) _ (listed_is head_of_inferred s chained 0 node key i).1
    | inr i ↦ is_some_of (record_at s key) _ (listed_is head_of_inferred s chained 1 node key i).1
  ]

  module _ (x : Inferred) (at : record_at s key ≡ Some x) where
    pub use_first : antecedent 0 x ≡ Some node → IsIn (keys_in s 0 node) key
    use_first e = stands head_of_inferred s s chained key x at 0 node e

    pub not_use_first : (antecedent 0 x ≡ Some node → ⊥) → IsIn (keys_in s 0 node) key → ⊥
    not_use_first out i = let it = listed_is head_of_inferred s chained 0 node key i in out (ap (λ (y : Inferred). antecedent 0 y) (same_some x it.0 (sym at ∙ it.1)) ∙ it.2)

    pub use_second : (antecedent 0 x ≡ Some node → ⊥) → IsIn (keys_in s 1 node) key
    use_second out = elim (in_either (keys_in s 0 node) (keys_in s 1 node) key listed) [ inl i ↦ absurd (not_use_first out i) | inr i ↦ i ]

-- what is given as an option
pub some_and_is : {T : Type 0} (o : Option T) (P : T → Type 0) → IsSomeAnd o P → (x : T) × (o ≡ Some x) × P x
some_and_is None P h = absurd h
some_and_is (Some x) P h = (x, refl, h)

pub some_and_of : {T : Type 0} (o : Option T) (P : T → Type 0) (x : T) → o ≡ Some x → P x → IsSomeAnd o P
some_and_of {T} o P x e p = let Q : Option T → Type 0 = λ q. IsSomeAnd q P in subst Q (sym e) p

pub if_some_of : {T : Type 0} (o : Option T) (P : T → Type 0) → ((x : T) → o ≡ Some x → P x) → IfSome o P
if_some_of None P h = tt
if_some_of (Some x) P h = h x refl

pub if_some_is : {T : Type 0} (o : Option T) (P : T → Type 0) → IfSome o P → (x : T) → o ≡ Some x → P x
if_some_is {T} o P h x e = let Q : Option T → Type 0 = λ q. IfSome q P in subst Q e h
