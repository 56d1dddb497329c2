-- The steps of the program, joined.
use Rattle.std.proofs.Common.{◌≡◌, ℕ, Bool, ◌^◌, ◌<◌, inl, inr, refl, sym, ap, subst, ◌∙◌, ◌↔◌, List, [], ◌∷◌, ◌++◌, length, Option, Some, None, Result, Ok, Err, IfOk, take, drop, get_or, suc, drop-cons, OnOk, OnErr, arith}
use Rattle.environment_sets.proofs.Membership.{AreDistinct-push, IsIn-append, IsIn-left, IsIn-right}
use Rattle.std.specs.List.{slice_get, remove}
use Rattle.std.proofs.lemmas.List.{take-append-drop, map-append}
use Rattle.std.proofs.lemmas.Option.{slice_get_within, get_or_from_slice_get}
use Rattle.circuit_model.specs.declared.model.Fact.{Fact}
use Rattle.circuit_model.specs.declared.model.Assumption.{Assumption}
use Rattle.circuit_model.specs.Settled.{IsSettled}
use Rattle.environment_sets.specs.Sets.{Set}
use Rattle.environment_sets.specs.Members.{members}
use Rattle.environment_sets.specs.Lists.{IsIn, AreDistinct}
use Rattle.propagation.specs.Propagating.{Target, Family, RecordedInference, IsReached, AreSourced, AgreeWithout, IsPropagating}
use Rattle.propagation.proofs.Sources.{sourced_on}
use Rattle.propagation.proofs.Whole as whole
use Rattle.propagation.specs.Uncovered.{uncovered, TargetFits}
use Rattle.labelled_nodes.specs.declared.node.Node.{Node}
use Rattle.label_engine.specs.declared.insertion.Insertion.{Insertion}
use Rattle.inference_search.specs.declared.inferred.Inferred.{Inferred}
use Rattle.label_engine.specs.declared.update.Arrival.{Arrival}
use Rattle.label_engine.specs.declared.update.Pending.{Pending}
use Rattle.label_engine.specs.declared.update.Update.{Update}
use Rattle.labelled_nodes.specs.Nodes.{Labelled, facts_of, label_in, KeptIn, reaches}
use Rattle.label_engine.specs.Update.{AllLead, Survives, other_fact, DueIn, DueBy, IsAtHand, HasCome, HasComeBy, Propagates, Holds, DueAlso, HasUnions, HasUnionsWith, HasMet, AreKeptAlike, IsPutThere, IsReady, IsAtRest, CarriesOn, AgreesWith}
use Rattle.assumption_slots.specs.Slots.{stock}
use Rattle.inference_search.specs.Inferences.{RecordedIn}
use Rattle.label_engine.proofs.Families.{same_family, same_test, label_in-met}
use Rattle.label_engine.proofs.Holding.{holds_reached, holds_met, holds_put, sourced_put, agrees_put, fewer_uncovered, load_falls}

pub IfOk-map : {A E : Type 0} {P Q : A → Type 0} → (r : Result A E) → ((x : A) → P x → Q x) → IfOk r P → IfOk r Q
IfOk-map (Ok x) f h = f x h
IfOk-map (Err e) f h = h

-- the unions with the other_fact's label are all unions
pub unions_with_other : (item : Pending) (labels : Labelled) (g : Fact) (old new : List Insertion) → other_fact item.inferred item.at ≡ Some g → HasUnionsWith item labels (label_in labels.list g) old new → HasUnions item labels old new
unions_with_other item labels g old new p u = record {
  stays = u.stays;
  alone = λ e. absurd (let bad : Some g ≡ None = sym p ∙ e in cc);
  each = λ h E e k. let both : Some h ≡ Some g = sym e ∙ p in let same : h ≡ g = cc in let P : Fact → Type 0 = λ x. KeptIn labels (Some x) E in u.each E (subst P same k);
  only = λ d i. elim (u.only d i) [
    | inl o ↦ inl o
    | inr r ↦ inr (inr (g, r.0, p, r.1, r.2))
  ];
}

-- a fact is met, or memory ran out
module _ {A E : Type 0} (r : Result A E) (old new : Labelled) (f : Fact) (ok : OnOk r (new.list ≡ old.list ++ record { fact = f; label = [] } ∷ [])) (err : OnErr r (new.list ≡ old.list)) where
  pub labels_met : (g : Fact) → label_in new.list g ≡ label_in old.list g
  labels_met g =
      elim r as (λ (x : Result A E). OnOk x (new.list ≡ old.list ++ record { fact = f; label = [] } ∷ []) → OnErr x (new.list ≡ old.list) → label_in new.list g ≡ label_in old.list g) [
        | Ok x ↦ λ o _. ap (λ l. label_in l g) o ∙ label_in-met old.list f g
        | Err e ↦ λ _ o. ap (λ l. label_in l g) o
      ] ok err

  pub facts_met : (g : Fact) → IsIn (facts_of old.list) g → IsIn (facts_of new.list) g
  facts_met g there =
      elim r as (λ (x : Result A E). OnOk x (new.list ≡ old.list ++ record { fact = f; label = [] } ∷ []) → OnErr x (new.list ≡ old.list) → IsIn (facts_of new.list) g) [
        | Ok x ↦ λ o _. subst (λ (l : List Fact). IsIn l g) (sym (ap facts_of o ∙ map-append (λ (n : Node). n.fact) old.list (record { fact = f; label = [] } ∷ []))) (IsIn-left (facts_of old.list) (f ∷ []) g there)
        | Err e ↦ λ _ o. subst (λ (l : List Fact). IsIn l g) (sym (ap facts_of o)) there
      ] ok err

  -- no fact comes to have two nodes, where it had none
  pub once_met : (IsIn (facts_of old.list) f → ⊥) → AreDistinct (facts_of old.list) → AreDistinct (facts_of new.list)
  once_met unmet d =
      elim r as (λ (x : Result A E). OnOk x (new.list ≡ old.list ++ record { fact = f; label = [] } ∷ []) → OnErr x (new.list ≡ old.list) → AreDistinct (facts_of new.list)) [
        | Ok x ↦ λ o _. subst AreDistinct (sym (ap facts_of o ∙ map-append (λ (n : Node). n.fact) old.list (record { fact = f; label = [] } ∷ []))) (AreDistinct-push (facts_of old.list) f d unmet)
        | Err e ↦ λ _ o. subst AreDistinct (sym (ap facts_of o)) d
      ] ok err

pub agrees_same : (old new : Update) → AreKeptAlike old new → AgreesWith old new
agrees_same old new s t E _ = let P : Family → Type 0 = λ K. K t E ↔ KeptIn new.nodes t E in subst P (same_family old.nodes new.nodes s.labels s.nogoods) ((λ (k : KeptIn new.nodes t E). k), (λ (k : KeptIn new.nodes t E). k))

pub survives_same : (slots : List (Option Assumption)) (w : Update) → Survives slots w w
survives_same slots w = record {
  agrees = λ t E _. ((λ (k : KeptIn w.nodes t E). k), (λ (k : KeptIn w.nodes t E). k));
  same_slot = refl;
  stay = λ i there from. there;
  lead = λ all. all;
  met = λ f there. there;
  once = λ (d : AreDistinct (facts_of w.nodes.list)). d;
}

-- one step after another
agree_trans : (slot : ℕ) (a b c : Family) → AgreeWithout slot a b → AgreeWithout slot b c → AgreeWithout slot a c
agree_trans slot a b c x y t E out = ((λ (k : a t E). (y t E out).0 ((x t E out).0 k)), (λ (k : c t E). (x t E out).1 ((y t E out).1 k)))

pub agrees_on : (a b c : Update) → AgreesWith a b → b.slot ≡ a.slot → AgreesWith b c → AgreesWith a c
agrees_on a b c first same then = agree_trans a.slot (KeptIn a.nodes) (KeptIn b.nodes) (KeptIn c.nodes) first (let P : ℕ → Type 0 = λ s. AgreeWithout s (KeptIn b.nodes) (KeptIn c.nodes) in subst P same then)

pub survives_on : (slots : List (Option Assumption)) (a b c : Update) → Survives slots a b → Survives slots b c → Survives slots a c
survives_on slots a b c first then = record {
  agrees = agrees_on a b c first.agrees first.same_slot then.agrees;
  same_slot = then.same_slot ∙ first.same_slot;
  stay = λ i there from. then.stay i (first.stay i there from) (λ f uses. first.met f (from f uses));
  lead = λ all. then.lead (first.lead all);
  met = λ f there. then.met f (first.met f there);
  once = λ (d : AreDistinct (facts_of a.nodes.list)). then.once (first.once d);
}

-- a change of labels alone
pub survives_then : (slots : List (Option Assumption)) (a b c : Update) → Survives slots a b → AgreesWith b c → c.slot ≡ b.slot → c.recorded ≡ b.recorded → facts_of c.nodes.list ≡ facts_of b.nodes.list → Survives slots a c
survives_then slots a b c first agrees slot recorded met = record {
  agrees = agrees_on a b c first.agrees first.same_slot agrees;
  same_slot = slot ∙ first.same_slot;
  stay = λ i there from. subst (λ (l : List Inferred). IsIn l i) (sym recorded) (first.stay i there from);
  lead = λ all. subst (AllLead slots) (sym recorded) (first.lead all);
  met = λ f there. subst (λ (l : List Fact). IsIn l f) (sym met) (first.met f there);
  once = λ (d : AreDistinct (facts_of a.nodes.list)). subst AreDistinct (sym met) (first.once d);
}

-- the last comes first
last_first : {X : Type 0} (old xs : List X) (x : X) → old ≡ xs ++ x ∷ [] → (k : X) → IsIn old k ↔ IsIn (x ∷ xs) k
last_first {X} old xs x e k = (
  (λ (i : IsIn old k). elim (IsIn-append xs (x ∷ []) k (let P : List X → Type 0 = λ l. IsIn l k in subst P e i)) [ inl a ↦ inr a | inr b ↦ elim b [ inl y ↦ inl y | inr bad ↦ absurd bad ] ]),
  (λ (i : IsIn (x ∷ xs) k). let P : List X → Type 0 = λ l. IsIn l k in subst P (sym e) (elim i [ inl y ↦ IsIn-right xs (x ∷ []) k (inl y) | inr a ↦ IsIn-left xs (x ∷ []) k a ])),
)

module _ (slots : List (Option Assumption)) where
  pub carries_same : (w : Update) → Propagates slots w → CarriesOn slots w w
  carries_same w was = record {
    propagates = was;
    agrees = λ t E _. ((λ (k : KeptIn w.nodes t E). k), (λ (k : KeptIn w.nodes t E). k));
    same_slot = refl;
    no_more = omega arith;
  }

  pub carries_on : (a b c : Update) → CarriesOn slots a b → CarriesOn slots b c → CarriesOn slots a c
  carries_on a b c first then = record {
    propagates = then.propagates;
    agrees = agrees_on a b c first.agrees first.same_slot then.agrees;
    same_slot = then.same_slot ∙ first.same_slot;
    no_more = omega (arith, then.no_more, first.no_more);
  }

  module _ (due : Insertion) where
    pub ready_now_met : (f : Fact) (old new : Update) → DueAlso slots due old → due.target ≡ Some f → (IsIn (facts_of old.nodes.list) f → ⊥) → AreKeptAlike old new → HasMet slots f old new → IsReady slots due old new
    ready_now_met f old new was at unmet same e = record {
      due_also =
          let P : Family → Type 0 = λ K. IsPropagating (stock slots) new.slot (IsIn (facts_of new.nodes.list)) K (RecordedIn new.recorded) (DueIn (due ∷ new.due.items)) (IsAtHand new.work.items) (HasCome new.agenda) in
          let Q : Family → Type 0 = λ K. AreSourced (stock slots) K (DueBy (due ∷ new.due.items)) (IsAtHand new.work.items) (HasCome new.agenda) (HasComeBy new.agenda) in
          record {
            propagating = subst P (sym (same_family old.nodes new.nodes same.labels same.nogoods)) (rw (e.slot, e.met, e.due, e.work, e.agenda) (holds_met slots old.slot old.nodes old.recorded due old.due.items old.work.items old.agenda was f unmet e.recorded.found e.recorded.needed new.recorded e.recorded.are_found e.recorded.are_needed e.recorded.recorded));
            sourced = subst Q (sym (same_family old.nodes new.nodes same.labels same.nogoods)) (rw (e.due, e.work, e.agenda) was.sourced);
          };
      were_met = λ g same_target. rw e.met (let both : Some f ≡ Some g = sym at ∙ same_target in let gf : f ≡ g = cc in subst (IsIn (facts_of old.nodes.list ++ f ∷ [])) gf (IsIn-right (facts_of old.nodes.list) (f ∷ []) f (inl refl)));
      labels_same = same.labels;
      nogoods_same = same.nogoods;
      due_same = e.due;
      work_same = e.work;
      agenda_same = e.agenda;
      same_slot = e.slot;
    }

    pub ready_met : (old : Update) → DueAlso slots due old → ((f : Fact) → due.target ≡ Some f → IsIn (facts_of old.nodes.list) f) → IsReady slots due old old
    ready_met old was were_met = record {
      due_also = was;
      were_met = were_met;
      labels_same = λ f. refl;
      nogoods_same = refl;
      due_same = refl;
      work_same = refl;
      agenda_same = refl;
      same_slot = refl;
    }

    pub carries_reached : (old : Update) → DueAlso slots due old → IsReached (KeptIn old.nodes) due.target (members due.env) → CarriesOn slots old old
    carries_reached old was r = carries_same old (holds_reached slots old.slot old.nodes old.recorded due old.due.items old.work.items old.agenda was r)

    module _ (old mid new : Update) (ready : IsReady slots due old mid) (out : IsReached (KeptIn old.nodes) due.target (members due.env) → ⊥) where
      pub out_mid : IsReached (KeptIn mid.nodes) due.target (members due.env) → ⊥
      out_mid = let P : Family → Type 0 = λ K. IsReached K due.target (members due.env) → ⊥ in subst P (sym (same_family old.nodes mid.nodes ready.labels_same ready.nogoods_same)) out

      module _ (put : IsPutThere due mid new) where
        pub agrees_put_there : AgreesWith mid new
        agrees_put_there = agrees_put slots mid.slot mid.nodes mid.recorded due mid.due.items mid.work.items mid.agenda ready.due_also out_mid ready.were_met new.nodes put.put

        pub carries_put : TargetFits due.target → length new.agenda < 2 ^ 64 → CarriesOn slots old new
        carries_put fits few = record {
          propagates = record {
            propagating = rw (put.slot, put.met, put.recorded, put.due_same, put.work_same, put.agenda) (holds_put slots mid.slot mid.nodes mid.recorded due mid.due.items mid.work.items mid.agenda ready.due_also out_mid ready.were_met new.nodes put.put);
            sourced = rw (put.due_same, put.work_same, put.agenda) (sourced_put slots mid.slot mid.nodes mid.recorded due mid.due.items mid.work.items mid.agenda ready.due_also out_mid ready.were_met new.nodes put.put);
          };
          agrees = agrees_on old mid new (agrees_same old mid (record { labels = ready.labels_same; nogoods = ready.nogoods_same })) ready.same_slot agrees_put_there;
          same_slot = put.slot ∙ ready.same_slot;
          no_more =
              let less : uncovered (reaches new.nodes) < uncovered (reaches mid.nodes) = fewer_uncovered slots mid.slot mid.nodes mid.recorded due mid.due.items mid.work.items mid.agenda ready.due_also out_mid ready.were_met new.nodes put.put fits in
              let less_old : uncovered (reaches new.nodes) < uncovered (reaches old.nodes) = (let P : (Target → Set ℕ → Bool) → Type 0 = λ r. uncovered (reaches new.nodes) < uncovered r in subst P (same_test old.nodes mid.nodes ready.labels_same ready.nogoods_same) less) in
              omega (arith, load_falls (uncovered (reaches new.nodes)) (uncovered (reaches old.nodes)) (length new.agenda) (length old.agenda) less_old few);
        }

  module _ (slot : ℕ) (labels : Labelled) (recorded : List Inferred) where
    same_dues : (xs ys : List Insertion) → ((d : Insertion) → IsIn xs d ↔ IsIn ys d) → (t : Target) (E : Set ℕ) → DueIn xs t E ↔ DueIn ys t E
    same_dues xs ys same t E = ((λ (d : DueIn xs t E). (d.0, (same d.0).0 d.1, d.2, d.3)), (λ (d : DueIn ys t E). (d.0, (same d.0).1 d.1, d.2, d.3)))

    same_items : (xs ys : List Pending) → ((i : Pending) → IsIn xs i ↔ IsIn ys i) → (j : RecordedInference) (f : Fact) (m : Set ℕ) → IsAtHand xs j f m ↔ IsAtHand ys j f m
    same_items xs ys same j f m = ((λ (w : IsAtHand xs j f m). (w.0, (same w.0).0 w.1, w.2, w.3, w.4)), (λ (w : IsAtHand ys j f m). (w.0, (same w.0).1 w.1, w.2, w.3, w.4)))

    same_arrivals : (xs ys : List Arrival) → ((a : Arrival) → IsIn xs a ↔ IsIn ys a) → (f : Fact) (m : Set ℕ) → HasCome xs f m ↔ HasCome ys f m
    same_arrivals xs ys same f m = ((λ (c : HasCome xs f m). (c.0, (same c.0).0 c.1, c.2, c.3)), (λ (c : HasCome ys f m). (c.0, (same c.0).1 c.1, c.2, c.3)))

    same : {X : Type 0} (xs : List X) (x : X) → IsIn xs x ↔ IsIn xs x
    same xs x = ((λ (i : IsIn xs x). i), (λ (i : IsIn xs x). i))

    reordered :
        (dues dues' : List Insertion) (work work' : List Pending) (agenda agenda' : List Arrival) → ((d : Insertion) → IsIn dues d ↔ IsIn dues' d) → ((i : Pending) → IsIn work i ↔ IsIn work' i)
        → ((a : Arrival) → IsIn agenda a ↔ IsIn agenda' a) → Holds slots slot labels recorded dues work agenda → Holds slots slot labels recorded dues' work' agenda'
    reordered dues dues' work work' agenda agenda' d w a was = record {
      propagating =
          whole.reordered (stock slots) slot (IsIn (facts_of labels.list)) (KeptIn labels) (RecordedIn recorded) (DueIn dues) (IsAtHand work) (HasCome agenda) was.propagating (DueIn dues') (IsAtHand work') (HasCome agenda')
          (same_dues dues dues' d) (same_items work work' w) (same_arrivals agenda agenda' a);
      sourced =
          sourced_on (stock slots) (KeptIn labels) (KeptIn labels) (DueBy dues) (DueBy dues') (HasComeBy agenda) (HasComeBy agenda') (IsAtHand work) (IsAtHand work') (HasCome agenda) (HasCome agenda') was.sourced
          (λ t E r. r) (λ k f E x. inl (x.0, (d x.0).1 x.1, x.2, x.3, x.4)) (λ j f E x. inl (x.0, (w x.0).1 x.1, x.2, x.3, x.4)) (λ f E x. inl (x.0, (a x.0).1 x.1, x.2, x.3)) (λ k f E x. inl (x.0, (a x.0).1 x.1, x.2, x.3, x.4));
    }

    -- the last that is due is taken
    pub holds_popped :
        (old dues : List Insertion) (due : Insertion) (work : List Pending) (agenda : List Arrival) → old ≡ dues ++ due ∷ []
        → Holds slots slot labels recorded old work agenda → Holds slots slot labels recorded (due ∷ dues) work agenda
    holds_popped old dues due work agenda e = reordered old (due ∷ dues) work work agenda agenda (last_first old dues due e) (same work) (same agenda)

    -- the last that is at hand is taken
    pub work_popped :
        (dues : List Insertion) (old work : List Pending) (item : Pending) (agenda : List Arrival) → old ≡ work ++ item ∷ []
        → Holds slots slot labels recorded dues old agenda → Holds slots slot labels recorded dues (item ∷ work) agenda
    work_popped dues old work item agenda e = reordered dues dues old (item ∷ work) agenda agenda (same dues) (last_first old work item e) (same agenda)

    -- any of those that came is taken
    pub holds_taken :
        (dues : List Insertion) (work : List Pending) (old rest : List Arrival) (arrival : Arrival) → ((k : Arrival) → IsIn old k ↔ IsIn (arrival ∷ rest) k)
        → Holds slots slot labels recorded dues work old → Holds slots slot labels recorded dues work (arrival ∷ rest)
    holds_taken dues work old rest arrival moved = reordered dues dues work work old (arrival ∷ rest) (same dues) (same work) moved

    -- nothing is due, nothing is at hand and nothing waits
    pub holds_ended : Holds slots slot labels recorded [] [] [] → IsSettled (stock slots) (λ f. KeptIn labels (Some f)) (KeptIn labels None)
    holds_ended was = whole.ended (stock slots) slot (IsIn (facts_of labels.list)) (KeptIn labels) (RecordedIn recorded) (DueIn []) (IsAtHand []) (HasCome []) was.propagating (λ t E k. k.1) (λ i g m w. w.1) (λ g m c. c.1)

pub taken_item : {X : Type 0} (xs : List X) (i : ℕ) (x : X) → slice_get xs i ≡ Some x → (k : X) → IsIn xs k ↔ IsIn (x ∷ remove xs i) k
taken_item {X} xs i x at k = (to, from)
  where
    parts : xs ≡ take i xs ++ (x ∷ drop (suc i) xs)
    parts =
        let low : i < length xs = slice_get_within xs i x at in
        let is : get_or xs i x ≡ x = get_or_from_slice_get xs i x x at in
        sym (take-append-drop i xs) ∙ ap (λ l. take i xs ++ l) (drop-cons xs i x low ∙ ap (λ y. y ∷ drop (suc i) xs) is)

    to : IsIn xs k → IsIn (x ∷ remove xs i) k
    to h = elim (IsIn-append (take i xs) (x ∷ drop (suc i) xs) k (let P : List X → Type 0 = λ l. IsIn l k in subst P parts h)) [
      | inl a ↦ inr (IsIn-left (take i xs) (drop (suc i) xs) k a)
      | inr b ↦ elim b [ inl e ↦ inl e | inr r ↦ inr (IsIn-right (take i xs) (drop (suc i) xs) k r) ]
    ]

    from : IsIn (x ∷ remove xs i) k → IsIn xs k
    from h = let P : List X → Type 0 = λ l. IsIn l k in subst P (sym parts) (elim h [
      | inl e ↦ IsIn-right (take i xs) (x ∷ drop (suc i) xs) k (inl e)
      | inr r ↦ elim (IsIn-append (take i xs) (drop (suc i) xs) k r) [ inl a ↦ IsIn-left (take i xs) (x ∷ drop (suc i) xs) k a | inr b ↦ IsIn-right (take i xs) (x ∷ drop (suc i) xs) k (inr b) ]
    ])

pub at_rest :
    (slots : List (Option Assumption)) (w : Update) → Propagates slots w → w.due.items ≡ [] → w.work.items ≡ [] → w.agenda ≡ [] → AreDistinct (facts_of w.nodes.list)
    → IsAtRest (stock slots) w
at_rest slots w was none_due none_at_hand nothing_waits once = record {
  up_to_date = record {
    settled = holds_ended slots w.slot w.nodes w.recorded (rw (← none_due, ← none_at_hand, ← nothing_waits) was);
    are = was.propagating.are;
    were_met = was.propagating.were_met;
    once = once;
  };
  none_due = none_due;
  none_at_hand = none_at_hand;
  nothing_waits = nothing_waits;
}
