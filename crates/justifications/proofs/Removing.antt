-- One node less.
use Rattle.std.proofs.Common.{◌≡◌, ◌≢◌, ℕ, zero, suc, ◌+◌, inl, inr, refl, sym, ap, subst, ◌∙◌, List, [], Option, Some, None, IsSome, arith}
use Rattle.std.proofs.lemmas.Bool.{cases_eq}
use Rattle.environment_sets.specs.Lists.{IsIn}
use Rattle.circuit_model.specs.declared.model.Fact.{Fact}
use Rattle.circuit_model.proofs.Renaming.{is_some_of}
use Rattle.index_lists.specs.Lists.{Lists, list_at, without, Changes}
use Rattle.index_lists.specs.Chains.{Records, record_at, lane_at, keys_in}
use Rattle.index_lists.proofs.Links.{none_is_no_some, same_some, without_absent}
use Rattle.justifications.specs.declared.model.NodeId.{NodeId}
use Rattle.justifications.specs.declared.model.Target.{Target}
use Rattle.justifications.specs.declared.model.Target.TheVariants.{Node, Clash}
use Rattle.justifications.specs.declared.model.Inferred.{Inferred}
use Rattle.justifications.specs.declared.table.Named.{Named}
use Rattle.justifications.specs.Chained.{AreAllChained, IsRemoved}
use Rattle.justifications.specs.Woven.{Woven, fact_at, inferred_at, antecedent, place_of_cell, place_of_target, head_of_fact, head_of_inferred, uses_of, supports_of, IsThere, IsFit}
use Rattle.justifications.specs.Kept.{AreKept, IsEntered}
use Rattle.justifications.proofs.Chaining.{removed_chained, stands}
use Rattle.justifications.proofs.Tables.{told_removed}
use Rattle.justifications.proofs.Uses.{listed_is, in_first_of, in_second_of}
use Rattle.justifications.proofs.Lanes.{unlinked_here}

not_zero : (l : ℕ) → suc l ≢ 0
not_zero l e = omega (arith, e)

-- a fact leaves the list of its cell
module _ (old mid : Records Fact) (chained : AreAllChained head_of_fact old) (key : ℕ) (fact : Fact) (at : record_at old key ≡ Some fact) where
  pub fact_listed : IsIn (keys_in old 0 (place_of_cell fact.cell)) key
  fact_listed = stands head_of_fact old old chained key fact at 0 (place_of_cell fact.cell) refl

  pub fact_unlinked : ((head : ℕ) → IsIn (keys_in old 0 head) key → Changes (lane_at old 0) (lane_at mid 0) head (without key (keys_in old 0 head))) → ((l : ℕ) → l ≢ 0 → lane_at mid l ≡ lane_at old l)
      → (l h : ℕ) → keys_in mid l h ≡ without key (keys_in old l h)
  fact_unlinked here others zero h = unlinked_here (lane_at old 0) (lane_at mid 0) key (place_of_cell fact.cell)
      (λ h' i. let it = listed_is head_of_fact old chained 0 h' key i in let same : fact ≡ it.0 = same_some fact it.0 (sym at ∙ it.1) in ap (λ (f : Fact). place_of_cell f.cell) same ∙ same_some (place_of_cell it.0.cell) h' it.2)
      (here (place_of_cell fact.cell) fact_listed) h
  fact_unlinked here others (suc l) h =
      ap (λ (s : Lists). list_at s h) (others (suc l) (not_zero l)) ∙ sym (without_absent key (keys_in old (suc l) h) (λ i. let it = listed_is head_of_fact old chained (suc l) h key i in none_is_no_some h it.2))

-- a node that no inference names
module _ (entries entries' : List (Named × ℕ)) (w : Woven) (facts' : Records Fact) (kept : AreKept entries w) (node : NodeId) (unused : uses_of w node.place ≡ []) (unsupported : supports_of w (Node node) ≡ [])
    (a : IsRemoved w.facts facts' node.place) where
  abbrev left : Woven
  left = record { facts = facts'; inferences = w.inferences }

  stay : (n : ℕ) → n ≢ node.place → IsSome (fact_at w n) → IsSome (fact_at left n)
  stay n ne some = let P : Option Fact → Type 0 = λ o. IsSome o in subst P (sym (a.others n ne)) some

  there_left : (to : Target) → (place_of_target to ≡ node.place + 1 → ⊥) → IsThere w to → IsThere left to
  there_left Clash out t = tt
  there_left (Node n) out t = stay n.place (λ e. out (ap (λ (k : ℕ). k + 1) e)) t

  module _ (j : ℕ) (x : Inferred) (at : inferred_at w j ≡ Some x) where
    not_first : antecedent 0 x ≡ Some node.place → ⊥
    not_first e = subst (λ (l : List ℕ). IsIn l j) unused (in_first_of (keys_in w.inferences 0 node.place) (keys_in w.inferences 1 node.place) j (stands head_of_inferred w.inferences w.inferences kept.inferences.chained j x at 0 node.place e))

    not_second : antecedent 1 x ≡ Some node.place → ⊥
    not_second e = subst (λ (l : List ℕ). IsIn l j) unused (in_second_of (keys_in w.inferences 0 node.place) (keys_in w.inferences 1 node.place) j (stands head_of_inferred w.inferences w.inferences kept.inferences.chained j x at 1 node.place e))

    not_to : place_of_target x.to ≡ node.place + 1 → ⊥
    not_to e = subst (λ (l : List ℕ). IsIn l j) unsupported (stands head_of_inferred w.inferences w.inferences kept.inferences.chained j x at 2 (node.place + 1) (ap (λ (k : ℕ). Some k) e))

    fit_left : IsFit w x → IsFit left x
    fit_left f = record {
      first = λ n e. stay n (λ same. not_first (e ∙ ap (λ (k : ℕ). Some k) same)) (f.first n e);
      second = λ n e. stay n (λ same. not_second (e ∙ ap (λ (k : ℕ). Some k) same)) (f.second n e);
      once = f.once;
      to = there_left x.to not_to f.to;
      maker = f.maker;
    }

  pub node_removed : (fact : Fact) → fact_at w node.place ≡ Some fact → IsEntered entries entries' fact None → AreKept entries' left
  node_removed fact was e = record {
    nodes = record {
      told = told_removed entries entries' w.facts facts' kept.nodes.told node.place fact was a e;
      chained = removed_chained head_of_fact w.facts facts' kept.nodes.chained node.place a;
      numbers = λ k some. elim (cases_eq k node.place) [
        | inl same ↦ kept.nodes.numbers k (is_some_of (fact_at w k) fact (subst (λ i. fact_at w i ≡ Some fact) (sym same) was))
        | inr ne ↦ kept.nodes.numbers k (let P : Option Fact → Type 0 = λ o. IsSome o in subst P (a.others k ne) some)
      ];
    };
    inferences = record { chained = kept.inferences.chained; fit = λ j x at. fit_left j x at (kept.inferences.fit j x at) };
  }
