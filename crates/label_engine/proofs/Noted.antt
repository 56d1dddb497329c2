-- What is recorded, and that it can be.
use Rattle.std.proofs.Common.{◌≡◌, ℕ, ◌+◌, ◌<◌, ◌≤◌, ◌⊎◌, inl, inr, true, true≢false, refl, sym, ap, subst, ◌∙◌, List, [], ◌∷◌, ◌++◌, length, take, drop, get_or, Option, Some, None, IfSome, IsFalse}
use Rattle.std.proofs.lemmas.List.{take_more, take-append-drop, take_all}
use Rattle.environment_sets.specs.declared.environment.TheConstants.{SLOTS}
use Rattle.environment_sets.specs.Lists.{IsIn, AreDistinct}
use Rattle.environment_sets.proofs.Membership.{IsIn-append, IsIn-left, IsIn-right}
use Rattle.circuit_model.specs.declared.model.Assumption.{Assumption}
use Rattle.circuit_model.specs.declared.model.Fact.{Fact}
use Rattle.propagation.specs.Propagating.{Target, Leads}
use Rattle.propagation.proofs.Unions.{maker_some}
use Rattle.assumption_slots.specs.Slots.{stock}
use Rattle.assumption_slots.proofs.Remembered.{some_within}
use Rattle.inference_search.specs.declared.inferred.Inferred.{Inferred}
use Rattle.inference_search.specs.Inferences.{facts, inference, IsOnce}
use Rattle.inference_search.specs.Found.{AreFound}
use Rattle.recorded_inferences.specs.Recorded.{GoesFrom, AreSame, AreWith, AreWithout}
use Rattle.labelled_nodes.specs.declared.node.Node.{Node}
use Rattle.label_engine.specs.declared.update.Update.{Update}
use Rattle.labelled_nodes.specs.Nodes.{facts_of, is_supported}
use Rattle.label_engine.specs.Update.{CanBeRecorded, AreAlso, HasSomeOf, AreNeeded, AllLead, MetStay, HasSomeUses, GoesFromUnsupported, AgreesWith, Survives}

-- no more is recorded than was
pub also_none : (recorded : List Inferred) → AreAlso [] recorded recorded
also_none recorded i = ((λ (h : IsIn recorded i). inl h), λ h. elim h [ inl o ↦ o | inr bad ↦ absurd bad ])

module _ (found old mid : List Inferred) (n : ℕ) (also : AreAlso (take n found) old mid) where
  -- one more of what was found
  pub also_more : (new : List Inferred) (d : Inferred) → n < length found → AreWith (get_or found n d) mid new → AreAlso (take (n + 1) found) old new
  also_more new d low with i = (to, from)
    where
      longer : take (n + 1) found ≡ take n found ++ get_or found n d ∷ []
      longer = take_more found n d low

      to : IsIn new i → IsIn old i ⊎ IsIn (take (n + 1) found) i
      to h = elim ((with i).0 h) [
        | inl m ↦ elim ((also i).0 m) [
          | inl o ↦ inl o
          | inr f ↦ inr (subst (λ (l : List Inferred). IsIn l i) (sym longer) (IsIn-left (take n found) (get_or found n d ∷ []) i f))
        ]
        | inr e ↦ inr (subst (λ (l : List Inferred). IsIn l i) (sym longer) (IsIn-right (take n found) (get_or found n d ∷ []) i (inl (sym e))))
      ]

      from : IsIn old i ⊎ IsIn (take (n + 1) found) i → IsIn new i
      from (inl o) = (with i).1 (inl ((also i).1 (inl o)))
      from (inr f) = elim (IsIn-append (take n found) (get_or found n d ∷ []) i (subst (λ (l : List Inferred). IsIn l i) longer f)) [
        | inl m ↦ (with i).1 (inl ((also i).1 (inr m)))
        | inr l ↦ elim l [ inl e ↦ (with i).1 (inr (sym e)) | inr bad ↦ absurd bad ]
      ]

  -- all that was found
  pub also_all : length found ≤ n → AreAlso found old mid
  also_all long = subst (λ (l : List Inferred). AreAlso l old mid) (take_all n found long) also

-- some more
pub some_so_far : (found old new : List Inferred) (n : ℕ) → AreAlso (take n found) old new → HasSomeOf found old new
some_so_far found old new n also = record {
  stay = λ i h. (also i).1 (inl h);
  only = λ i h. elim ((also i).0 h) [ inl o ↦ inl o | inr f ↦ inr (subst (λ (l : List Inferred). IsIn l i) (take-append-drop n found) (IsIn-left (take n found) (drop n found) i f)) ];
}

pub some_after : (found old mid new : List Inferred) → HasSomeOf found old mid → AreSame mid new → HasSomeOf found old new
some_after found old mid new some same = record { stay = λ i h. (same i).1 (some.stay i h); only = λ i h. some.only i ((same i).0 h) }

-- the maker of an inference is a slot
leads_fit : (slots : List (Option Assumption)) → length slots ≡ SLOTS → (from : List Fact) (maker : Option ℕ) (to : Target) → Leads (stock slots) from maker to → IfSome maker (λ k. k < SLOTS)
leads_fit slots wide from maker to leads =
    elim maker as (λ m. maker ≡ m → IfSome m (λ k. k < SLOTS)) [
      | None ↦ λ _. tt
      | Some k ↦ λ is. subst (λ (n : ℕ). k < n) wide (some_within slots k (maker_some (stock slots) from maker to leads k is))
    ] refl

module _ (slots : List (Option Assumption)) (wide : length slots ≡ SLOTS) (found : List Inferred) (once : (i : Inferred) → IsIn found i → IsOnce i) (lead : AllLead slots found) where
  -- what was found can be recorded
  pub can_be : (i : Inferred) → IsIn found i → CanBeRecorded i
  can_be i h = record { once = once i h; maker = leads_fit slots wide (facts i.first i.second) i.maker i.to (lead (inference i) (i, h, refl)) }

  -- so can what is needed of it
  pub needed_can_be : (recorded needed : List Inferred) → AreNeeded recorded found needed → (i : Inferred) → IsIn needed i → CanBeRecorded i
  needed_can_be recorded needed are i h = can_be i (are.of_found i h)

-- what is needed of inferences are inferences
pub needed_lead : (slots : List (Option Assumption)) (recorded found needed : List Inferred) → AreNeeded recorded found needed → AllLead slots found → AllLead slots needed
needed_lead slots recorded found needed are lead j r = lead j (r.0, are.of_found r.0 r.1, r.2)

-- some of what is needed is recorded, which uses the fact
pub some_uses :
    (slots : List (Option Assumption)) (met : List Fact) (f : Fact) (old new found needed : List Inferred) → AreFound slots met f found → AreNeeded old found needed → HasSomeOf needed old new
    → HasSomeUses slots f old new
some_uses slots met f old new found needed are_found are_needed some = record {
  more = needed;
  some = some;
  lead = needed_lead slots old found needed are_needed are_found.are.leads;
  uses = λ i h. are_found.uses i (are_needed.of_found i h);
}

-- nothing more is recorded
pub no_uses : (slots : List (Option Assumption)) (f : Fact) (recorded : List Inferred) → HasSomeUses slots f recorded recorded
no_uses slots f recorded = record { more = []; some = record { stay = λ i h. h; only = λ i h. inl h }; lead = λ j r. absurd r.1; uses = λ i h. absurd h }

-- more is recorded: what was recorded stays, and all are inferences
pub still_lead : (slots : List (Option Assumption)) (more old new : List Inferred) → HasSomeOf more old new → AllLead slots more → AllLead slots old → AllLead slots new
still_lead slots more old new some lead all j r = elim (some.only r.0 r.1) [ inl o ↦ all j (r.0, o, r.2) | inr m ↦ lead j (r.0, m, r.2) ]

-- what uses the fact, which was not met, is recorded no more
module _ (slots : List (Option Assumption)) (old mid : Update) (f : Fact) (s : Survives slots old mid) (unmet : IsIn (facts_of old.nodes.list) f → ⊥) (recorded : List Inferred) (without : AreWithout (GoesFrom f) mid.recorded recorded) where
  pub stays_without : MetStay old.nodes.list old.recorded recorded
  stays_without i there from = (without i).1 (s.stay i there from, λ uses. unmet (from f uses))

  pub leads_without : AllLead slots old.recorded → AllLead slots recorded
  leads_without all j r = s.lead all j (r.0, ((without r.0).0 r.1).0, r.2)

-- the inferences from nodes with no environment are dropped, node by node
module _ (nodes : List Node) (n : ℕ) (d : Node) (low : n < length nodes) (old mid new : List Inferred) (so_far : AreWithout (GoesFromUnsupported (take n nodes)) old mid) where
  longer : take (n + 1) nodes ≡ take n nodes ++ get_or nodes n d ∷ []
  longer = take_more nodes n d low

  before : (m : Node) → IsIn (take n nodes) m → IsIn (take (n + 1) nodes) m
  before m h = subst (λ (l : List Node). IsIn l m) (sym longer) (IsIn-left (take n nodes) (get_or nodes n d ∷ []) m h)

  here : IsIn (take (n + 1) nodes) (get_or nodes n d)
  here = subst (λ (l : List Node). IsIn l (get_or nodes n d)) (sym longer) (IsIn-right (take n nodes) (get_or nodes n d ∷ []) (get_or nodes n d) (inl refl))

  split : (m : Node) → IsIn (take (n + 1) nodes) m → IsIn (take n nodes) m ⊎ (get_or nodes n d ≡ m)
  split m h = elim (IsIn-append (take n nodes) (get_or nodes n d ∷ []) m (subst (λ (l : List Node). IsIn l m) longer h)) [
    | inl a ↦ inl a
    | inr l ↦ elim l [ inl e ↦ inr e | inr bad ↦ absurd bad ]
  ]

  pub dropped_one : IsFalse (is_supported (get_or nodes n d)) → AreWithout (GoesFrom (get_or nodes n d).fact) mid new → AreWithout (GoesFromUnsupported (take (n + 1) nodes)) old new
  dropped_one none without i = (to, from)
    where
      to : IsIn new i → IsIn old i × (GoesFromUnsupported (take (n + 1) nodes) i → ⊥)
      to h =
          let m : IsIn mid i × (GoesFrom (get_or nodes n d).fact i → ⊥) = (without i).0 h in
          let o : IsIn old i × (GoesFromUnsupported (take n nodes) i → ⊥) = (so_far i).0 m.0 in (
            o.0,
            λ g. elim (split g.0 g.1) [
              | inl a ↦ o.1 (g.0, a, g.2, g.3)
              | inr e ↦ m.1 (let P : Node → Type 0 = λ x. GoesFrom x.fact i in subst P (sym e) g.3)
            ],
          )

      from : IsIn old i × (GoesFromUnsupported (take (n + 1) nodes) i → ⊥) → IsIn new i
      from h = (without i).1 ((so_far i).1 (h.0, λ g. h.1 (g.0, before g.0 g.1, g.2, g.3)), λ uses. h.1 (get_or nodes n d, here, none, uses))

  pub passed_one : is_supported (get_or nodes n d) ≡ true → AreWithout (GoesFromUnsupported (take (n + 1) nodes)) old mid
  passed_one some i = (to, from)
    where
      to : IsIn mid i → IsIn old i × (GoesFromUnsupported (take (n + 1) nodes) i → ⊥)
      to h =
          let o : IsIn old i × (GoesFromUnsupported (take n nodes) i → ⊥) = (so_far i).0 h in (
            o.0,
            λ g. elim (split g.0 g.1) [
              | inl a ↦ o.1 (g.0, a, g.2, g.3)
              | inr e ↦ true≢false (sym some ∙ (ap is_supported e ∙ g.2))
            ],
          )

      from : IsIn old i × (GoesFromUnsupported (take (n + 1) nodes) i → ⊥) → IsIn mid i
      from h = (so_far i).1 (h.0, λ g. h.1 (g.0, before g.0 g.1, g.2, g.3))

-- none so far
pub none_dropped : (recorded : List Inferred) → AreWithout (GoesFromUnsupported []) recorded recorded
none_dropped recorded i = ((λ (h : IsIn recorded i). (h, λ g. g.1)), λ h. h.0)

-- all nodes
pub all_dropped : (nodes : List Node) (n : ℕ) (old new : List Inferred) → length nodes ≤ n → AreWithout (GoesFromUnsupported (take n nodes)) old new → AreWithout (GoesFromUnsupported nodes) old new
all_dropped nodes n old new long without = subst (λ (l : List Node). AreWithout (GoesFromUnsupported l) old new) (take_all n nodes long) without

-- more is recorded, and labels and all else are as before
pub survives_noted : (slots : List (Option Assumption)) (old new : Update) (more : List Inferred) → AgreesWith old new → new.slot ≡ old.slot → HasSomeOf more old.recorded new.recorded → AllLead slots more → ((f : Fact) → IsIn (facts_of old.nodes.list) f → IsIn (facts_of new.nodes.list) f) → (AreDistinct (facts_of old.nodes.list) → AreDistinct (facts_of new.nodes.list)) → Survives slots old new
survives_noted slots old new more agrees slot some lead met once = record {
  agrees = agrees;
  same_slot = slot;
  stay = λ i there from. some.stay i there;
  lead = λ all. still_lead slots more old.recorded new.recorded some lead all;
  met = met;
  once = once;
}
