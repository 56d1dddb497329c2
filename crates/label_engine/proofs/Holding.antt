-- What holds of the lists, kept by each step.
use Rattle.std.proofs.Common.{◌≡◌, ℕ, ◌+◌, ◌*◌, ◌^◌, ◌<◌, ◌⊎◌, inl, inr, Bool, true, false, not, IsTrue, true≢false, IfSome, refl, sym, ap, subst, ◌∙◌, List, [], ◌∷◌, ◌++◌, filter, Option, Some, None, arith}
use Rattle.std.proofs.lemmas.Bool.{and_from}
use Rattle.environment_sets.proofs.Listings.{IsIn-filter, IsIn-kept}
use Rattle.environment_sets.proofs.Membership.{IsIn-append, IsIn-left, IsIn-map, IsIn-right, map-IsIn}
use Rattle.circuit_model.specs.declared.model.Fact.{Fact}
use Rattle.circuit_model.specs.declared.model.Assumption.{Assumption}
use Rattle.environment_sets.specs.declared.environment.Env.{Env}
use Rattle.environment_sets.specs.Sets.{Set}
use Rattle.environment_sets.specs.Members.{members}
use Rattle.environment_sets.specs.Lists.{IsIn}
use Rattle.environment_sets.proofs.Slots.{slots_are_below}
use Rattle.propagation.specs.Propagating.{Target, RecordedInference, Using, IsReached, IsSourced, IsPassedOver, AreSourced, AgreeWithout, IsPut, IsPropagating}
use Rattle.propagation.specs.Uncovered.{uncovered, TargetFits}
use Rattle.propagation.proofs.Uncovered.{uncovered_less}
use Rattle.propagation.proofs.Meeting.{recorded_met}
use Rattle.propagation.proofs.Steps.{reached_stays, reached_there, IsSourced-map}
use Rattle.propagation.proofs.Sources.{sourced_on}
use Rattle.std.proofs.lemmas.Bool.Decides.{nat_tests}
use Rattle.propagation.proofs.Whole as whole
use Rattle.label_engine.specs.declared.insertion.Insertion.{Insertion}
use Rattle.inference_search.specs.declared.inferred.Inferred.{Inferred}
use Rattle.label_engine.specs.declared.update.Arrival.{Arrival}
use Rattle.label_engine.specs.declared.update.Pending.{Pending}
use Rattle.labelled_nodes.specs.Nodes.{Labelled, facts_of, KeptIn, reaches}
use Rattle.label_engine.specs.Update.{AreNeeded, AreAlso, DueIn, DueBy, IsAtHand, HasCome, HasComeBy, Holds, ends_in, is_made_at, is_passed, is_next, IsPassed, item_at, items_to, items_at, arrivals_at}
use Rattle.recorded_inferences.specs.Recorded.{GoesFrom, AreUses}
use Rattle.assumption_slots.specs.Slots.{stock}
use Rattle.inference_search.specs.Inferences.{inference, RecordedIn}
use Rattle.inference_search.specs.Found.{AreFound}
use Rattle.label_engine.proofs.Needed.{needed_are}
use Rattle.label_engine.proofs.Families.{reached_is, is_reached_of, not_reached_is}

module _ (slots : List (Option Assumption)) (slot : ℕ) (labels : Labelled) (recorded : List Inferred) (due : Insertion) (dues : List Insertion) (work : List Pending) (agenda : List Arrival) where
  abbrev Before : Type 0
  Before = Holds slots slot labels recorded (due ∷ dues) work agenda

  abbrev Met : List Fact
  Met = facts_of labels.list

  rest : (s : Target) (E : Set ℕ) → DueIn (due ∷ dues) s E → DueIn dues s E ⊎ ((s ≡ due.target) × (E ≡ members due.env))
  rest s E (k, inl e, t, m) = inr (sym t ∙ sym (ap (λ (x : Insertion). x.target) e), sym m ∙ sym (ap (λ (x : Insertion). members x.env) e))
  rest s E (k, inr i, t, m) = inl (k, i, t, m)

  fewer : (s : Target) (E : Set ℕ) → DueIn dues s E → DueIn (due ∷ dues) s E
  fewer s E k = (k.0, inr k.1, k.2, k.3)

  there : DueIn (due ∷ dues) due.target (members due.env)
  there = (due, inl refl, refl, refl)

  -- what is reached already goes
  pub holds_reached : Before → IsReached (KeptIn labels) due.target (members due.env) → Holds slots slot labels recorded dues work agenda
  holds_reached was r = record {
    propagating = whole.reached_goes (stock slots) slot (IsIn Met) (KeptIn labels) (RecordedIn recorded) (DueIn (due ∷ dues)) (IsAtHand work) (HasCome agenda) was.propagating (DueIn dues) due.target (members due.env) rest fewer r;
    sourced =
        sourced_on (stock slots) (KeptIn labels) (KeptIn labels) (DueBy (due ∷ dues)) (DueBy dues) (HasComeBy agenda) (HasComeBy agenda) (IsAtHand work) (IsAtHand work) (HasCome agenda) (HasCome agenda) was.sourced
        (λ t E reached. reached) (λ k f E d. inl (d.0, inr d.1, d.2, d.3, d.4)) (λ j f E w. inl w) (λ f E c. inl c) (λ k f E c. inl c);
  }

  -- a fact comes met
  pub holds_met :
      Before → (f : Fact) → (IsIn Met f → ⊥) → (found needed all : List Inferred) → AreFound slots Met f found → AreNeeded recorded found needed → AreAlso needed recorded all
      → IsPropagating (stock slots) slot (IsIn (Met ++ f ∷ [])) (KeptIn labels) (RecordedIn all) (DueIn (due ∷ dues)) (IsAtHand work) (HasCome agenda)
  holds_met was f unmet found needed all are are_needed also =
      whole.fact_met (stock slots) slot (IsIn Met) (KeptIn labels) (RecordedIn recorded) (DueIn (due ∷ dues)) (IsAtHand work) (HasCome agenda) was.propagating f
      unmet
      (IsIn (Met ++ f ∷ [])) (λ g a. IsIn-left Met (f ∷ []) g a)
      (RecordedIn all) more new
      (recorded_met (stock slots) (IsIn Met) (IsIn (Met ++ f ∷ [])) f split (RecordedIn recorded) (RecordedIn all) (RecordedIn all) was.propagating.are more (λ j r. r) (λ j r. inr r) (needed_are recorded found needed all are_needed also (stock slots) (λ g. IsIn Met g ⊎ (g ≡ f)) (Using f) was.propagating.are.leads are.are))
    where
      more : (j : RecordedInference) → RecordedIn recorded j → RecordedIn all j
      more j r = (r.0, (also r.0).1 (inl r.1), r.2)

      new : (j : RecordedInference) → RecordedIn all j → RecordedIn recorded j ⊎ IsIn j.from f
      new j r =
          elim ((also r.0).0 r.1) [
            | inl o ↦ inl (r.0, o, r.2)
            | inr n ↦ inr (let P : RecordedInference → Type 0 = λ i. IsIn i.from f in subst P r.2 (are.uses r.0 (are_needed.of_found r.0 n)))
          ]

      split : (g : Fact) → IsIn (Met ++ f ∷ []) g → IsIn Met g ⊎ (g ≡ f)
      split g i = elim (IsIn-append Met (f ∷ []) g i) [ inl a ↦ inl a | inr l ↦ elim l [ inl e ↦ inr (sym e) | inr bad ↦ absurd bad ] ]

  module _
      (was : Before) (not_reached : IsReached (KeptIn labels) due.target (members due.env) → ⊥) (were_met : (f : Fact) → due.target ≡ Some f → IsIn Met f) (after : Labelled)
      (put : IsPut due.target (members due.env) (KeptIn labels) (KeptIn after))
    where
      abbrev Arrivals : List Arrival
      Arrivals = agenda ++ arrivals_at due.target due.env due.source

      earlier : (f : Fact) (m : Set ℕ) → HasCome agenda f m → HasCome Arrivals f m
      earlier f m c = (c.0, IsIn-left agenda (arrivals_at due.target due.env due.source) c.0 c.1, c.2, c.3)

      comes : (f : Fact) → due.target ≡ Some f → HasCome Arrivals f (members due.env)
      comes f e =
          let a : Arrival = record { fact = f; env = due.env; source = due.source } in
          let P : Target → Type 0 = λ t. IsIn (arrivals_at t due.env due.source) a in
          (a, IsIn-right agenda (arrivals_at due.target due.env due.source) a (subst P (sym e) (inl refl)), refl, refl)

      arrival_of : (t : Target) (f : Fact) (m : Set ℕ) → HasCome (arrivals_at t due.env due.source) f m → (t ≡ Some f) × (m ≡ members due.env)
      arrival_of None f m c = absurd c.1
      arrival_of (Some g) f m (a, inl e, at, is) = (ap (λ x. Some x) (ap (λ (x : Arrival). x.fact) e ∙ at), sym is ∙ sym (ap (λ (x : Arrival). members x.env) e))
      arrival_of (Some g) f m (a, inr bad, at, is) = absurd bad

      arrival : (f : Fact) (m : Set ℕ) → HasCome Arrivals f m → HasCome agenda f m ⊎ ((due.target ≡ Some f) × (m ≡ members due.env))
      arrival f m c =
          elim (IsIn-append agenda (arrivals_at due.target due.env due.source) c.0 c.1) [
            | inl o ↦ inl (c.0, o, c.2, c.3)
            | inr n ↦ inr (arrival_of due.target f m (c.0, n, c.2, c.3))
          ]

      pub holds_put : IsPropagating (stock slots) slot (IsIn Met) (KeptIn after) (RecordedIn recorded) (DueIn dues) (IsAtHand work) (HasCome Arrivals)
      holds_put =
          whole.added (stock slots) slot (IsIn Met) (KeptIn labels) (RecordedIn recorded) (DueIn (due ∷ dues)) (IsAtHand work) (HasCome agenda) was.propagating (DueIn dues) due.target (members due.env) rest fewer
          (KeptIn after) put not_reached (was.propagating.due.environments due.target (members due.env) there) (was.propagating.due.sound due.target (members due.env) there) were_met (HasCome Arrivals) earlier comes arrival

      stays : (t : Target) (E : Set ℕ) → IsReached (KeptIn labels) t E → IsReached (KeptIn after) t E
      stays = reached_stays due.target (members due.env) (KeptIn labels) (KeptIn after) put

      arrival_by : (t : Target) (k : ℕ) (f : Fact) (m : Set ℕ) → HasComeBy (arrivals_at t due.env due.source) k f m → (t ≡ Some f) × (due.source ≡ Some k) × (members due.env ≡ m)
      arrival_by None k f m c = absurd c.1
      arrival_by (Some g) k f m (a, inl e, at, by, is) = (ap (λ x. Some x) (ap (λ (x : Arrival). x.fact) e ∙ at), ap (λ (x : Arrival). x.source) e ∙ by, ap (λ (x : Arrival). members x.env) e ∙ is)
      arrival_by (Some g) k f m (a, inr bad, at, by, is) = absurd bad

      come_reached : (f : Fact) (m : Set ℕ) → HasCome Arrivals f m → HasCome agenda f m ⊎ IsReached (KeptIn after) (Some f) m
      come_reached f m c =
          elim (arrival f m c) [
            | inl o ↦ inl o
            | inr n ↦
                let P : Target → Type 0 = λ t. IsReached (KeptIn after) t m in
                let Q : Set ℕ → Type 0 = λ F. IsReached (KeptIn after) due.target F in
                inr (subst P n.0 (subst Q (sym n.1) (reached_there due.target (members due.env) (KeptIn labels) (KeptIn after) put (members due.env) (λ k h. h))))
          ]

      come_sourced : (k : ℕ) (f : Fact) (m : Set ℕ) → HasComeBy Arrivals k f m → HasComeBy agenda k f m ⊎ IsSourced (stock slots) (KeptIn after) k f m
      come_sourced k f m c =
          elim (IsIn-append agenda (arrivals_at due.target due.env due.source) c.0 c.1) [
            | inl o ↦ inl (c.0, o, c.2, c.3, c.4)
            | inr n ↦
                let a = arrival_by due.target k f m (c.0, n, c.2, c.3, c.4) in
                inr (IsSourced-map (stock slots) (KeptIn labels) (KeptIn after) stays k f m (was.sourced.due k f m (due, inl refl, a.0, a.1, a.2)))
          ]

      pub sourced_put : AreSourced (stock slots) (KeptIn after) (DueBy dues) (IsAtHand work) (HasCome Arrivals) (HasComeBy Arrivals)
      sourced_put =
          sourced_on (stock slots) (KeptIn labels) (KeptIn after) (DueBy (due ∷ dues)) (DueBy dues) (HasComeBy agenda) (HasComeBy Arrivals) (IsAtHand work) (IsAtHand work) (HasCome agenda) (HasCome Arrivals) was.sourced
          stays (λ k f E d. inl (d.0, inr d.1, d.2, d.3, d.4)) (λ j f E w. inl w) come_reached come_sourced

      pub agrees_put : AgreeWithout slot (KeptIn labels) (KeptIn after)
      agrees_put =
          whole.agrees (stock slots) slot (IsIn Met) (KeptIn labels) (RecordedIn recorded) (DueIn (due ∷ dues)) (IsAtHand work) (HasCome agenda) was.propagating (DueIn dues) due.target (members due.env) rest fewer
          (KeptIn after) put not_reached (was.propagating.due.environments due.target (members due.env) there) (was.propagating.due.sound due.target (members due.env) there) were_met (HasCome Arrivals) earlier comes arrival

      stays_reached : (t : Target) (E : Set ℕ) → IsTrue (reaches labels t E) → IsTrue (reaches after t E)
      stays_reached t E h = is_reached_of after t E (reached_stays due.target (members due.env) (KeptIn labels) (KeptIn after) put t E (reached_is labels t E h))

      pub fewer_uncovered : TargetFits due.target → uncovered (reaches after) < uncovered (reaches labels)
      fewer_uncovered fits =
          uncovered_less (reaches labels) (reaches after) stays_reached due.target (members due.env) fits (slots_are_below due.env) (not_reached_is labels due.target (members due.env) not_reached)
          (is_reached_of after due.target (members due.env) (reached_there due.target (members due.env) (KeptIn labels) (KeptIn after) put (members due.env) (λ k h. h)))

-- an environment that came is taken: each recorded inference from its fact is at hand with it
module _ (recorded uses : List Inferred) (f : Fact) (e : Env) (are : AreUses recorded f uses) where
  module _ (passed : Option ℕ) where
    item_to : (clash : Bool) (i : Inferred) → IsIn uses i → IsTrue (ends_in clash i.to) → is_passed passed i ≡ false → IsIn (items_to passed clash f e uses) (item_at f e i)
    item_to clash i r ends stays = map-IsIn (item_at f e) (filter (is_next passed clash) uses) i (IsIn-kept (is_next passed clash) uses i r (and_from _ _ ends (ap not stays)))

    ends_somehow : (t : Target) → IsTrue (ends_in false t) ⊎ IsTrue (ends_in true t)
    ends_somehow None = inr refl
    ends_somehow (Some g) = inl refl

    item : (j : RecordedInference) (r : RecordedIn recorded j) → is_passed passed r.0 ≡ false → IsIn j.from f → IsAtHand (items_at passed f e uses) j f (members e)
    item j r stays i =
        let u : IsIn uses r.0 = (are r.0).1 (r.1, (let P : RecordedInference → Type 0 = λ x. IsIn x.from f in subst P (sym r.2) i)) in
        let there : IsIn (items_at passed f e uses) (item_at f e r.0) =
        elim (ends_somehow r.0.to) [
          | inl value ↦ IsIn-left (items_to passed false f e uses) (items_to passed true f e uses) (item_at f e r.0) (item_to false r.0 u value stays)
          | inr clash ↦ IsIn-right (items_to passed false f e uses) (items_to passed true f e uses) (item_at f e r.0) (item_to true r.0 u clash stays)
        ] in
        (item_at f e r.0, there, r.2, refl, refl)

    -- an item of either kind is of an inference that goes from the fact
    from_to : (clash : Bool) (p : Pending) → IsIn (items_to passed clash f e uses) p → (i : Inferred) × IsIn uses i × (item_at f e i ≡ p)
    from_to clash p w =
        let i : (i : Inferred) × IsIn (filter (is_next passed clash) uses) i × (item_at f e i ≡ p) = IsIn-map (item_at f e) (filter (is_next passed clash) uses) p w in
        (i.0, (IsIn-filter (is_next passed clash) uses i.0 i.1).0, i.2)

    item_of : (j : RecordedInference) (g : Fact) (m : Set ℕ) → IsAtHand (items_at passed f e uses) j g m → RecordedIn recorded j × IsIn j.from f × (g ≡ f) × (m ≡ members e)
    item_of j g m w =
        let i : (i : Inferred) × IsIn uses i × (item_at f e i ≡ w.0) =
        elim (IsIn-append (items_to passed false f e uses) (items_to passed true f e uses) w.0 w.1) [
          | inl value ↦ from_to false w.0 value
          | inr clash ↦ from_to true w.0 clash
        ] in
        let at : f ≡ g = ap (λ (x : Pending). x.at) i.2 ∙ w.3 in
        let same : inference i.0 ≡ j = ap (λ (x : Pending). inference x.inferred) i.2 ∙ w.2 in
        let Q : RecordedInference → Type 0 = λ x. IsIn x.from f in
        let is : IsIn recorded i.0 × GoesFrom f i.0 = (are i.0).0 i.1 in
        ((i.0, is.0, same), subst Q same is.1, sym at, sym w.4 ∙ sym (ap (λ (x : Pending). members x.env) i.2))

    -- what is passed over is made at the slot
    passed_is : (p : Option ℕ) (i : Inferred) → is_passed p i ≡ true → (k : ℕ) × (p ≡ Some k) × (i.maker ≡ Some k)
    passed_is None i h = absurd (true≢false (sym h))
    passed_is (Some k) i h = (k, refl, at_slot i.maker h)
      where
        at_slot : (maker : Option ℕ) → is_made_at k maker ≡ true → maker ≡ Some k
        at_slot None h = absurd (true≢false (sym h))
        at_slot (Some n) h = let same : n ≡ k = grind (arith, nat_tests) in ap (λ (x : ℕ). Some x) same

    module _ (slots : List (Option Assumption)) (slot : ℕ) (labels : Labelled) (dues : List Insertion) (work : List Pending) (agenda : List Arrival) (source : Option ℕ) (only_lone : IfSome passed (IsPassed slots source)) where
      abbrev Taken : Arrival
      Taken = record { fact = f; env = e; source = source }

      abbrev Items : List Pending
      Items = items_at passed f e uses

      left : (g : Fact) (m : Set ℕ) → HasCome (Taken ∷ agenda) g m → HasCome agenda g m ⊎ ((g ≡ f) × (m ≡ members e))
      left g m (a, inl same, at, is) = inr (sym at ∙ sym (ap (λ (x : Arrival). x.fact) same), sym is ∙ sym (ap (λ (x : Arrival). members x.env) same))
      left g m (a, inr i, at, is) = inl (a, i, at, is)

      items : (j : RecordedInference) (g : Fact) (m : Set ℕ) → IsAtHand (work ++ Items) j g m → IsAtHand work j g m ⊎ (RecordedIn recorded j × IsIn j.from f × (g ≡ f) × (m ≡ members e))
      items j g m w =
          elim (IsIn-append work Items w.0 w.1) [
            | inl o ↦ inl (w.0, o, w.2, w.3, w.4)
            | inr n ↦ inr (item_of j g m (w.0, n, w.2, w.3, w.4))
          ]

      module _ (was : Holds slots slot labels recorded dues work (Taken ∷ agenda)) where
        passed_over : (j : RecordedInference) (r : RecordedIn recorded j) → is_passed passed r.0 ≡ true → IsPassedOver (stock slots) (KeptIn labels) j.maker f (members e)
        passed_over j r h =
            let k : (k : ℕ) × (passed ≡ Some k) × (r.0.maker ≡ Some k) = passed_is passed r.0 h in
            let is : IsPassed slots source k.0 = (let P : Option ℕ → Type 0 = λ o. IfSome o (IsPassed slots source) in subst P k.1 only_lone) in
            record {
              slot = k.0;
              made = sym (ap (λ (x : RecordedInference). x.maker) r.2) ∙ k.2;
              lone = is.1;
              sourced = was.sourced.came_sourced k.0 f (members e) (Taken, inl refl, refl, is.0, refl);
            }

        at_hand_or_over : (j : RecordedInference) → RecordedIn recorded j → IsIn j.from f → IsAtHand (work ++ Items) j f (members e) ⊎ IsPassedOver (stock slots) (KeptIn labels) j.maker f (members e)
        at_hand_or_over j r i =
            elim (is_passed passed r.0) as (λ b. is_passed passed r.0 ≡ b → IsAtHand (work ++ Items) j f (members e) ⊎ IsPassedOver (stock slots) (KeptIn labels) j.maker f (members e)) [
              | true ↦ λ h. inr (passed_over j r h)
              | false ↦ λ stays. let w : IsAtHand Items j f (members e) = item j r stays i in inl (w.0, IsIn-right work Items w.0 w.1, w.2, w.3, w.4)
            ] refl

        item_reached : (j : RecordedInference) (g : Fact) (m : Set ℕ) → IsAtHand (work ++ Items) j g m → IsAtHand work j g m ⊎ IsReached (KeptIn labels) (Some g) m
        item_reached j g m w =
            elim (items j g m w) [
              | inl o ↦ inl o
              | inr n ↦ inr (was.sourced.came_reached g m (Taken, inl refl, sym n.2, sym n.3))
            ]

        pub holds_brought : Holds slots slot labels recorded dues (work ++ Items) agenda
        holds_brought = record {
          propagating =
              whole.brought (stock slots) slot (IsIn (facts_of labels.list)) (KeptIn labels) (RecordedIn recorded) (DueIn dues) (IsAtHand work) (HasCome (Taken ∷ agenda)) was.propagating
              (IsAtHand (work ++ Items)) (HasCome agenda) f (members e) (Taken, inl refl, refl, refl) left
              (λ g m c. (c.0, inr c.1, c.2, c.3)) (λ j g m w. (w.0, IsIn-left work Items w.0 w.1, w.2, w.3, w.4))
              at_hand_or_over items;
          sourced =
              sourced_on (stock slots) (KeptIn labels) (KeptIn labels) (DueBy dues) (DueBy dues) (HasComeBy (Taken ∷ agenda)) (HasComeBy agenda) (IsAtHand work) (IsAtHand (work ++ Items)) (HasCome (Taken ∷ agenda)) (HasCome agenda) was.sourced
              (λ t E r. r) (λ k g E d. inl d) item_reached (λ g E c. inl (c.0, inr c.1, c.2, c.3)) (λ k g E c. inl (c.0, inr c.1, c.2, c.3, c.4));
        }

-- the load falls where fewer pairs are left, whatever waits
pub load_falls : (new old waits before : ℕ) → new < old → waits < 2 ^ 64 → new * 2 ^ 64 + waits < old * 2 ^ 64 + before
load_falls new old waits before less few = omega arith
