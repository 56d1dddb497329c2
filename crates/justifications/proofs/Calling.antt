-- What callers have of a walk, and of a node that was found or made.
use Rattle.std.proofs.Common.{◌≡◌, ℕ, inl, inr, true, false, ◌==◌, cond, refl, sym, ap, subst, ◌∙◌, List, [], ◌∷◌, Some, None, Ok, Err, Result, IfOk, OnErr, arith}
use Rattle.std.proofs.lemmas.Bool.{cases_eq}
use Rattle.std.proofs.lemmas.Bool.Decides.{nat_tests}
use Rattle.std.specs.declared.alloc.AllocError.{AllocError}
use Rattle.environment_sets.specs.Lists.{IsIn}
use Rattle.circuit_model.specs.declared.model.Fact.{Fact}
use Rattle.index_lists.specs.Lists.{first_of, next_in}
use Rattle.index_lists.proofs.Links.{none_is_no_some, first_in_it}
use Rattle.justifications.specs.declared.model.NodeId.{NodeId}
use Rattle.justifications.specs.Woven.{Woven, fact_at, Finds}
use Rattle.justifications.specs.Chained.{AreAlike}

-- where there is no first, there is none
pub none_listed : (xs : List ℕ) → first_of xs ≡ None → xs ≡ []
none_listed [] e = refl
none_listed (x ∷ xs) e = absurd (none_is_no_some x (sym e))

-- the next stands in the list
pub next_listed : (xs : List ℕ) (key k : ℕ) → next_in xs key ≡ Some k → IsIn xs k
next_listed [] key k e = absurd (none_is_no_some k e)
next_listed (x ∷ xs) key k e = elim (cases_eq x key) [
  | inl same ↦
      let is : (x == key) ≡ true = grind (arith, nat_tests) in
      inr (first_in_it xs k (sym (ap (λ b. cond b (first_of xs) (next_in xs key)) is) ∙ e))
  | inr ne ↦
      let out : (x == key) ≡ false = grind (arith, nat_tests) in
      inr (next_listed xs key k (sym (ap (λ b. cond b (first_of xs) (next_in xs key)) out) ∙ e))
]

module _ (old new : Woven) (n : ℕ) (fact : Fact) (f : Finds old new n fact) where
  -- the node has the fact
  pub found_there : fact_at new n ≡ Some fact
  found_there = elim f [ inl was ↦ was.1.records n ∙ was.0 | inr made ↦ made.1.there ]

  -- nodes stay, with their facts
  pub found_stay : (k : ℕ) (g : Fact) → fact_at old k ≡ Some g → fact_at new k ≡ Some g
  found_stay k g at = elim f [
    | inl was ↦ was.1.records k ∙ at
    | inr made ↦ made.1.others k (λ e. none_is_no_some g (sym made.1.free ∙ subst (λ (i : ℕ). fact_at old i ≡ Some g) e at)) ∙ at
  ]

-- nodes stay, with their facts, after an error too
pub nodes_stay : (old new : Woven) (fact : Fact) (r : Result NodeId AllocError) → IfOk r (λ n. Finds old new n.place fact) → OnErr r (AreAlike old.facts new.facts) → (k : ℕ) (g : Fact) → fact_at old k ≡ Some g → fact_at new k ≡ Some g
nodes_stay old new fact (Ok n) f err k g at = found_stay old new n.place fact f k g at
nodes_stay old new fact (Err x) f err k g at = err.records k ∙ at
