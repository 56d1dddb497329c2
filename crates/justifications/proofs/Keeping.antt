-- What a weave keeps.
use Rattle.std.proofs.Common.{◌≡◌, ℕ, zero, suc, ◌<◌, ◌≤◌, inl, inr, refl, sym, subst, ◌∙◌, List, [], length, Option, Some, None, Ok, Err, Result, IfOk, OnErr, IsSome, IfSome, arith}
use Rattle.std.proofs.lemmas.Bool.{cases_eq}
use Rattle.std.specs.declared.alloc.AllocError.{AllocError}
use Rattle.environment_sets.specs.declared.environment.TheConstants.{SLOTS}
use Rattle.circuit_model.specs.declared.model.Fact.{Fact}
use Rattle.circuit_model.proofs.Renaming.{is_some_of}
use Rattle.environment_sets.proofs.Listings.{none_is_not}
use Rattle.index_lists.specs.Chains.{Records, record_at, lane_at}
use Rattle.index_lists.proofs.Links.{none_is_no_some, same_some}
use Rattle.justifications.specs.declared.model.NodeId.{NodeId}
use Rattle.justifications.specs.declared.model.JustId.{JustId}
use Rattle.justifications.specs.declared.model.Target.{Target}
use Rattle.justifications.specs.declared.model.Target.TheVariants.{Node, Clash}
use Rattle.justifications.specs.declared.model.Inferred.{Inferred}
use Rattle.justifications.specs.declared.model.TheConstants.{MOST_NODES}
use Rattle.justifications.specs.declared.table.Named.{Named}
use Rattle.justifications.specs.Chained.{AreAllChained, AreAlike, IsAdded, IsRemoved}
use Rattle.justifications.specs.Woven.{Woven, fact_at, IsThere, IsFit, antecedent, place_of_target, head_of_fact, head_of_inferred}
use Rattle.justifications.specs.Kept.{number_in, IsLow, AreKept, IsEntered}
use Rattle.justifications.proofs.Chaining.{nothing_chained, alike_chained, added_chained, removed_chained}
use Rattle.justifications.proofs.Uses.{if_some_of}
use Rattle.justifications.proofs.Tables.{told_added, told_alike, nothing_told}

pub nothing_kept :
    (entries : List (Named × ℕ)) (w : Woven) → entries ≡ [] → ((k : ℕ) → record_at w.facts k ≡ None) → ((lane : ℕ) → length (lane_at w.facts lane).lists ≡ 0) → ((k : ℕ) → record_at w.inferences k ≡ None)
    → ((lane : ℕ) → length (lane_at w.inferences lane).lists ≡ 0) → AreKept entries w
nothing_kept entries w e facts heads inferences heads' = subst (λ (es : List (Named × ℕ)). AreKept es w) (sym e) (record {
  nodes = record {
    told = nothing_told w.facts facts;
    chained = nothing_chained head_of_fact w.facts facts heads;
    numbers = λ n some. absurd (none_is_not (record_at w.facts n) (facts n) some);
  };
  inferences = record {
    chained = nothing_chained head_of_inferred w.inferences inferences heads';
    fit = λ j x at. absurd (none_is_no_some x (sym (inferences j) ∙ at));
  };
})

module _ (w w' : Woven) (stay : (n : ℕ) → IsSome (fact_at w n) → IsSome (fact_at w' n)) where
  there_kept : (to : Target) → IsThere w to → IsThere w' to
  there_kept Clash t = tt
  there_kept (Node n) t = stay n.place t

  pub fit_kept : (x : Inferred) → IsFit w x → IsFit w' x
  fit_kept x f = record { first = λ n e. stay n (f.first n e); second = λ n e. stay n (f.second n e); once = f.once; to = there_kept x.to f.to; maker = f.maker }

module _ (entries entries' : List (Named × ℕ)) (w : Woven) (facts' : Records Fact) (kept : AreKept entries w) where
  -- one node more
  pub node_added : (n : ℕ) (fact : Fact) → number_in entries fact ≡ None → IsAdded head_of_fact w.facts facts' n fact → IsEntered entries entries' fact (Some n) → n < MOST_NODES → AreKept entries' (record { facts = facts'; inferences = w.inferences })
  node_added n fact none a e low = record {
    nodes = record {
      told = told_added entries entries' w.facts facts' kept.nodes.told n fact none a e;
      chained = added_chained head_of_fact w.facts facts' kept.nodes.chained n fact a;
      numbers = λ k some. elim (cases_eq k n) [
        | inl same ↦ subst (λ j. j < MOST_NODES) (sym same) low
        | inr ne ↦ kept.nodes.numbers k (let P : Option Fact → Type 0 = λ o. IsSome o in subst P (a.others k ne) some)
      ];
    };
    inferences = record {
      chained = kept.inferences.chained;
      fit = λ j x at. fit_kept w (record { facts = facts'; inferences = w.inferences }) (λ k some. elim (cases_eq k n) [
        | inl same ↦ subst (λ i. IsSome (record_at facts' i)) (sym same) (is_some_of (record_at facts' n) fact a.there)
        | inr ne ↦ let P : Option Fact → Type 0 = λ o. IsSome o in subst P (sym (a.others k ne)) some
      ]) x (kept.inferences.fit j x at);
    };
  }

  pub nodes_alike : AreAlike w.facts facts' → entries' ≡ entries → AreKept entries' (record { facts = facts'; inferences = w.inferences })
  nodes_alike a e = record {
    nodes = record {
      told = told_alike entries entries' w.facts facts' kept.nodes.told a e;
      chained = alike_chained head_of_fact w.facts facts' kept.nodes.chained a;
      numbers = λ k some. kept.nodes.numbers k (let P : Option Fact → Type 0 = λ o. IsSome o in subst P (a.records k) some);
    };
    inferences = record {
      chained = kept.inferences.chained;
      fit = λ j x at. fit_kept w (record { facts = facts'; inferences = w.inferences }) (λ k some. let P : Option Fact → Type 0 = λ o. IsSome o in subst P (sym (a.records k)) some) x (kept.inferences.fit j x at);
    };
  }

  -- whichever of the two
  pub node_made : (fact : Fact) (r : Result NodeId AllocError) → number_in entries fact ≡ None → IfOk r (λ n. IsAdded head_of_fact w.facts facts' n.place fact) → IfOk r (λ n. IsEntered entries entries' fact (Some n.place))
      → IfOk r (λ n. n.place < MOST_NODES) → OnErr r (AreAlike w.facts facts') → OnErr r (entries' ≡ entries) → AreKept entries' (record { facts = facts'; inferences = w.inferences })
  node_made fact (Ok n) none a e low err err' = node_added n.place fact none a e low
  node_made fact (Err x) none a e low err err' = nodes_alike err err'

-- inferences that are fit say no head that is too high
module _ (w : Woven) (numbers : (n : ℕ) → IsSome (fact_at w n) → n < MOST_NODES) where
  pub target_low : (to : Target) → IsThere w to → place_of_target to ≤ MOST_NODES
  target_low Clash t = omega arith
  target_low (Node n) t = let low : n.place < MOST_NODES = numbers n.place t in omega arith

  maker_low : (maker : Option ℕ) → IfSome maker (λ slot. slot < SLOTS) → IfSome maker (λ slot. slot ≤ MOST_NODES)
  maker_low None low = tt
  maker_low (Some slot) low = omega (arith, low)

  antecedent_low : (o : Option ℕ) → ((n : ℕ) → o ≡ Some n → IsSome (fact_at w n)) → IfSome o (λ n. n ≤ MOST_NODES)
  antecedent_low None there = tt
  antecedent_low (Some n) there = let low : n < MOST_NODES = numbers n (there n refl) in omega arith

  pub fit_is_low : (x : Inferred) → IsFit w x → IsLow x
  fit_is_low x f zero = antecedent_low (antecedent 0 x) f.first
  fit_is_low x f (suc zero) = antecedent_low (antecedent 1 x) f.second
  fit_is_low x f (suc (suc zero)) = target_low x.to f.to
  fit_is_low x f (suc (suc (suc zero))) = maker_low x.maker f.maker
  fit_is_low x f (suc (suc (suc (suc lane)))) = tt

module _ (entries : List (Named × ℕ)) (w : Woven) (inferences' : Records Inferred) (kept : AreKept entries w) where
  abbrev later : Woven
  later = record { facts = w.facts; inferences = inferences' }

  pub inference_added : (j : ℕ) (x : Inferred) → IsFit w x → IsAdded head_of_inferred w.inferences inferences' j x → AreKept entries later
  inference_added j x fit a = record {
    nodes = kept.nodes;
    inferences = record {
      chained = added_chained head_of_inferred w.inferences inferences' kept.inferences.chained j x a;
      fit = λ k y at. fit_kept w later (λ n some. some) y (elim (cases_eq k j) [
        | inl same ↦ subst (λ z. IsFit w z) (same_some x y (sym a.there ∙ subst (λ i. record_at inferences' i ≡ Some y) same at)) fit
        | inr ne ↦ kept.inferences.fit k y (sym (a.others k ne) ∙ at)
      ]);
    };
  }

  pub inferences_alike : AreAlike w.inferences inferences' → AreKept entries later
  inferences_alike a = record {
    nodes = kept.nodes;
    inferences = record {
      chained = alike_chained head_of_inferred w.inferences inferences' kept.inferences.chained a;
      fit = λ k y at. fit_kept w later (λ n some. some) y (kept.inferences.fit k y (sym (a.records k) ∙ at));
    };
  }

  pub inference_noted : (x : Inferred) (r : Result JustId AllocError) → IsFit w x → IfOk r (λ j. IsAdded head_of_inferred w.inferences inferences' j.place x) → OnErr r (AreAlike w.inferences inferences') → AreKept entries later
  inference_noted x (Ok j) fit a err = inference_added j.place x fit a
  inference_noted x (Err e) fit a err = inferences_alike err

  pub inference_removed : (j : ℕ) → IsRemoved w.inferences inferences' j → AreKept entries later
  inference_removed j a = record {
    nodes = kept.nodes;
    inferences = record {
      chained = removed_chained head_of_inferred w.inferences inferences' kept.inferences.chained j a;
      fit = λ k y at. fit_kept w later (λ n some. some) y (elim (cases_eq k j) [
        | inl same ↦ absurd (none_is_no_some y (sym a.gone ∙ subst (λ i. record_at inferences' i ≡ Some y) same at))
        | inr ne ↦ kept.inferences.fit k y (sym (a.others k ne) ∙ at)
      ]);
    };
  }

  pub inferences_left : AreAllChained head_of_inferred inferences' → ((j : ℕ) → IsSome (record_at inferences' j) → record_at inferences' j ≡ record_at w.inferences j) → AreKept entries later
  inferences_left chained stay = record {
    nodes = kept.nodes;
    inferences = record { chained = chained; fit = λ k y at. fit_kept w later (λ n some. some) y (kept.inferences.fit k y (sym (stay k (is_some_of (record_at inferences' k) y at)) ∙ at)) };
  }

pub all_low : (entries : List (Named × ℕ)) (w : Woven) → AreKept entries w → (j : ℕ) → IfSome (record_at w.inferences j) IsLow
all_low entries w kept j = if_some_of (record_at w.inferences j) IsLow (λ x at. fit_is_low w kept.nodes.numbers x (kept.inferences.fit j x at))
