-- What contracts say of all nodes and inferences.
use Rattle.std.proofs.Common.{◌≡◌, ◌⊎◌, ℕ, inl, inr, refl, sym, ap, subst, ◌∙◌, List, [], ◌∷◌, ◌++◌, Option, Some, None, IsSomeAnd, arith}
use Rattle.environment_sets.specs.Lists.{IsIn, AreDistinct, IsRoster}
use Rattle.circuit_model.specs.declared.model.Cell.{Cell}
use Rattle.circuit_model.specs.declared.model.Fact.{Fact}
use Rattle.index_lists.specs.Chains.{keys_in}
use Rattle.index_lists.proofs.Links.{none_is_no_some, same_some}
use Rattle.justifications.specs.declared.model.Target.{Target}
use Rattle.justifications.specs.declared.model.Target.TheVariants.{Node, Clash}
use Rattle.justifications.specs.declared.model.Inferred.{Inferred}
use Rattle.justifications.specs.declared.table.Named.{Named}
use Rattle.justifications.specs.Chained.{said_by}
use Rattle.justifications.specs.Woven.{Woven, fact_at, inferred_at, IsWoven, place_of_cell, place_of_target, head_of_fact, head_of_inferred, antecedent, GoesFrom}
use Rattle.justifications.specs.Kept.{AreKept}
use Rattle.justifications.proofs.Rosters.{roster_of}
use Rattle.justifications.proofs.Uses.{in_either, in_first_of, in_second_of}

-- two lists that share nothing, one behind the other
apart_lists : (xs ys : List ℕ) → AreDistinct xs → AreDistinct ys → ((k : ℕ) → IsIn xs k → IsIn ys k → ⊥) → AreDistinct (xs ++ ys)
apart_lists [] ys dx dy out = dy
apart_lists (x ∷ xs) ys dx dy out = (
  λ y i e. elim (in_either xs ys y i) [ inl a ↦ dx.0 y a e | inr b ↦ out x (inl refl) (subst (λ (k : ℕ). IsIn ys k) (sym e) b) ],
  apart_lists xs ys dx.1 dy (λ k a b. out k (inr a) b),
)

both_rosters : (P Q : ℕ → Type 0) (xs ys : List ℕ) → IsRoster P xs → IsRoster Q ys → ((k : ℕ) → P k → Q k → ⊥) → IsRoster (λ k. P k ⊎ Q k) (xs ++ ys)
both_rosters P Q xs ys p q out = record {
  distinct = apart_lists xs ys p.distinct q.distinct (λ k a b. out k ((p.exact k).0 a) ((q.exact k).0 b));
  exact = λ k. (
    λ i. elim (in_either xs ys k i) [ inl a ↦ inl ((p.exact k).0 a) | inr b ↦ inr ((q.exact k).0 b) ],
    λ e. elim e [ inl a ↦ in_first_of xs ys k ((p.exact k).1 a) | inr b ↦ in_second_of xs ys k ((q.exact k).1 b) ],
  );
}

same_target : (a b : Target) → place_of_target a ≡ place_of_target b → a ≡ b
same_target Clash Clash e = refl
same_target Clash (Node n) e = absurd (omega (arith, e))
same_target (Node m) Clash e = absurd (omega (arith, e))
same_target (Node m) (Node n) e = let same : m.place ≡ n.place = omega (arith, e) in λ i. Node (record { place = same i })

module _ (cell : Cell) where
  says_cell : (o : Option Fact) → said_by (head_of_fact 0) o ≡ Some (place_of_cell cell) → IsSomeAnd o (λ f. place_of_cell f.cell ≡ place_of_cell cell)
  says_cell None e = none_is_no_some (place_of_cell cell) e
  says_cell (Some f) e = same_some (place_of_cell f.cell) (place_of_cell cell) e

  cell_says : (o : Option Fact) → IsSomeAnd o (λ f. place_of_cell f.cell ≡ place_of_cell cell) → said_by (head_of_fact 0) o ≡ Some (place_of_cell cell)
  cell_says None e = absurd e
  cell_says (Some f) e = ap (λ (n : ℕ). Some n) e

says_target : (target : Target) (o : Option Inferred) → said_by (head_of_inferred 2) o ≡ Some (place_of_target target) → IsSomeAnd o (λ x. x.to ≡ target)
says_target target None e = none_is_no_some (place_of_target target) e
says_target target (Some x) e = same_target x.to target (same_some (place_of_target x.to) (place_of_target target) e)

target_says : (target : Target) (o : Option Inferred) → IsSomeAnd o (λ x. x.to ≡ target) → said_by (head_of_inferred 2) o ≡ Some (place_of_target target)
target_says target None e = absurd e
target_says target (Some x) e = ap (λ (t : Target). Some (place_of_target t)) e

says_maker : (slot : ℕ) (o : Option Inferred) → said_by (head_of_inferred 3) o ≡ Some slot → IsSomeAnd o (λ x. x.maker ≡ Some slot)
says_maker slot None e = none_is_no_some slot e
says_maker slot (Some x) e = e

maker_says : (slot : ℕ) (o : Option Inferred) → IsSomeAnd o (λ x. x.maker ≡ Some slot) → said_by (head_of_inferred 3) o ≡ Some slot
maker_says slot None e = absurd e
maker_says slot (Some x) e = e

module _ (n : ℕ) where
  says_use : (o : Option Inferred) → ((said_by (head_of_inferred 0) o ≡ Some n) ⊎ (said_by (head_of_inferred 1) o ≡ Some n)) → IsSomeAnd o (GoesFrom n)
  says_use None e = elim e [ inl a ↦ none_is_no_some n a | inr b ↦ none_is_no_some n b ]
  says_use (Some x) e = e

  use_says : (o : Option Inferred) → IsSomeAnd o (GoesFrom n) → (said_by (head_of_inferred 0) o ≡ Some n) ⊎ (said_by (head_of_inferred 1) o ≡ Some n)
  use_says None e = absurd e
  use_says (Some x) e = e

  once_of : (o : Option Inferred) → ((x : Inferred) → o ≡ Some x → antecedent 0 x ≡ Some n → antecedent 1 x ≡ Some n → ⊥) → said_by (head_of_inferred 0) o ≡ Some n → said_by (head_of_inferred 1) o ≡ Some n → ⊥
  once_of None out a b = none_is_no_some n a
  once_of (Some x) out a b = out x refl a b

pub woven : (entries : List (Named × ℕ)) (w : Woven) → AreKept entries w → IsWoven w
woven entries w kept =
    let chained = kept.inferences.chained in
    record {
      one_node = λ i j fact a b. same_some i j (sym (kept.nodes.told.told i fact a) ∙ kept.nodes.told.told j fact b);
      numbers = kept.nodes.numbers;
      fit = kept.inferences.fit;
      nodes = λ cell. roster_of (keys_in w.facts 0 (place_of_cell cell)) (kept.nodes.chained 0 (place_of_cell cell)) (λ k e. says_cell cell (fact_at w k) e) (λ k e. cell_says cell (fact_at w k) e);
      uses = λ n. roster_of (keys_in w.inferences 0 n ++ keys_in w.inferences 1 n)
          (both_rosters (λ k. said_by (head_of_inferred 0) (inferred_at w k) ≡ Some n) (λ k. said_by (head_of_inferred 1) (inferred_at w k) ≡ Some n) (keys_in w.inferences 0 n) (keys_in w.inferences 1 n) (chained 0 n) (chained 1 n)
          (λ k a b. once_of n (inferred_at w k) (λ x at. (kept.inferences.fit k x at).once n) a b))
          (λ k e. says_use n (inferred_at w k) e) (λ k e. use_says n (inferred_at w k) e);
      supports = λ target. roster_of (keys_in w.inferences 2 (place_of_target target)) (chained 2 (place_of_target target)) (λ k e. says_target target (inferred_at w k) e) (λ k e. target_says target (inferred_at w k) e);
      made = λ slot. roster_of (keys_in w.inferences 3 slot) (chained 3 slot) (λ k e. says_maker slot (inferred_at w k) e) (λ k e. maker_says slot (inferred_at w k) e);
    }
