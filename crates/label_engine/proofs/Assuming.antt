-- The stock without the slot, and what begins an assumption at the slot.
use Rattle.std.proofs.Common.{◌≡◌, ◌≢◌, ◌↔◌, ℕ, zero, ◌⊎◌, inl, inr, Bool, true, false, ◌==◌, cond, IsTrue, IsFalse, true≢false, refl, sym, ap, subst, ◌∙◌, List, [], ◌∷◌, ◌++◌, map, filter, Option, Some, None, IsSome, append_assoc, append-nil, ◌+◌, ◌<◌, length, take, get_or, arith}
use Rattle.environment_sets.proofs.Listings.{IsIn-filter, IsIn-kept}
use Rattle.environment_sets.proofs.Membership.{IsIn-append, IsIn-left, IsIn-map, IsIn-right, map-IsIn}
use Rattle.std.specs.Option.{option_or, is_none}
use Rattle.std.proofs.lemmas.Bool.Decides.{nat_tests}
use Rattle.std.proofs.lemmas.List.{take_more}
use Rattle.circuit_model.specs.declared.model.Fact.{Fact}
use Rattle.circuit_model.specs.declared.model.Instance.{Instance}
use Rattle.circuit_model.specs.declared.model.Assumption.{Assumption}
use Rattle.circuit_model.specs.declared.model.Assumption.TheVariants.{Part, Reading}
use Rattle.circuit_model.specs.Stock.{Stock, IsEnvironment, Has}
use Rattle.environment_sets.specs.Families.{IsCovered}
use Rattle.circuit_model.specs.Laws.{HasOneMore}
use Rattle.environment_sets.specs.declared.environment.Env.{Env}
use Rattle.environment_sets.specs.Sets.{Set, ◌⊆◌, only}
use Rattle.environment_sets.specs.Members.{members, HasMember}
use Rattle.environment_sets.specs.Lists.{IsIn}
use Rattle.propagation.specs.Propagating.{Target, RecordedInference, HasAt, HasMaker, AreChosen, SomeWaits, IsDue, IsSound, HasInference, All, AreRecorded, IsReached, IsSourced, AreSourced, IsPendingSound, IsWaitingSound, IsPropagating}
use Rattle.propagation.proofs.Start.{NoItem, NoArrival, start_reading, start_part, choice_reached, sound_of_settled}
use Rattle.propagation.proofs.Entry.{leads_more, sound_more}
use Rattle.propagation.proofs.Unions.{leads_on}
use Rattle.propagation.proofs.Whole as whole
use Rattle.labelled_nodes.specs.declared.node.Node.{Node}
use Rattle.label_engine.specs.declared.insertion.Insertion.{Insertion}
use Rattle.label_engine.specs.declared.update.Pending.{Pending}
use Rattle.label_engine.specs.declared.update.Update.{Update}
use Rattle.labelled_nodes.specs.Nodes.{facts_of, label_in, KeptIn}
use Rattle.label_engine.specs.Update.{before, DueIn, DueBy, IsAtHand, HasCome, HasComeBy, Holds, IsAtRest, some_fact, goes_from_none, due_with, item_at, items_with, items_from}
use Rattle.inference_search.specs.declared.inferred.Inferred.{Inferred}
use Rattle.assumption_slots.specs.Slots.{stock}
use Rattle.inference_search.specs.Inferences.{facts, inference, RecordedIn}
use Rattle.inference_search.specs.Found.{AreMadeBy}
use Rattle.label_engine.specs.Update.{AreNeeded, AreAlso}
use Rattle.label_engine.proofs.Needed.{was_found, said_now}

pub decide : (slot k : ℕ) → (k ≡ slot) ⊎ (k ≢ slot)
decide slot k =
    elim (k == slot) as (λ b. (k == slot) ≡ b → (k ≡ slot) ⊎ (k ≢ slot)) [
      | true ↦ λ e. inl (grind (arith, nat_tests))
      | false ↦ λ e. inr (λ h. grind (arith, nat_tests))
    ] refl

module _ (slots : List (Option Assumption)) (slot : ℕ) where
  pub one_more_slot : HasOneMore ℕ (before slots slot) (stock slots) slot
  one_more_slot = (part, rest)
    where
      part : (k : ℕ) (a : Assumption) → before slots slot k ≡ Some a → stock slots k ≡ Some a
      part k a e =
          elim (k == slot) as (λ b. cond b None (stock slots k) ≡ Some a → stock slots k ≡ Some a) [
            | true ↦ λ h. absurd (cc)
            | false ↦ λ h. h
          ] e

      rest : (k : ℕ) (a : Assumption) → k ≢ slot → stock slots k ≡ Some a → before slots slot k ≡ Some a
      rest k a ne e = let out : (k == slot) ≡ false = grind (arith, nat_tests) in rw out e

  pub lacks : (E : Set ℕ) → IsEnvironment (before slots slot) E → IsFalse (E slot)
  lacks E env =
      elim (E slot) as (λ b. E slot ≡ b → b ≡ false) [
        | true ↦ λ inside. absurd (
            let same : (slot == slot) ≡ true = grind (arith, nat_tests) in
            let P : Bool → Type 0 = λ b. IsSome (cond b None (stock slots slot)) in
            let bad : IsSome {T = Assumption} None = subst P same (env slot inside) in
            true≢false (sym bad))
        | false ↦ λ _. refl
      ] refl

-- the items with which the inferences begin: each environment of one of the facts of each
pub in_items : (nodes : List Node) (is : List Inferred) (i : Inferred) (f : Fact) (E : Set ℕ) → IsIn is i → some_fact i ≡ Some f → HasMember (label_in nodes f) E → (x : Pending) × IsIn (items_from nodes is) x × (x.inferred ≡ i) × (x.at ≡ f) × (members x.env ≡ E)
in_items nodes [] i f E h e k = absurd h
in_items nodes (j ∷ is) i f E (inl same) e k =
    let env : (env : Env) × IsIn (label_in nodes f) env × (members env ≡ E) = IsIn-map members (label_in nodes f) E k in
    let x : Pending = item_at f env.0 i in
    let at : some_fact j ≡ Some f = ap some_fact same ∙ e in
    let here : IsIn (items_with nodes j (Some f)) x = (let P : Inferred → Type 0 = λ y. IsIn (items_with nodes y (Some f)) x in subst P (sym same) (map-IsIn (λ d. item_at f d i) (label_in nodes f) env.0 env.1)) in
    let P : Option Fact → Type 0 = λ o. IsIn (items_with nodes j o ++ items_from nodes is) x in
    (x, subst P (sym at) (IsIn-left (items_with nodes j (Some f)) (items_from nodes is) x here), refl, refl, env.2)
in_items nodes (j ∷ is) i f E (inr later) e k =
    let r : (x : Pending) × IsIn (items_from nodes is) x × (x.inferred ≡ i) × (x.at ≡ f) × (members x.env ≡ E) = in_items nodes is i f E later e k in
    (r.0, IsIn-right (items_with nodes j (some_fact j)) (items_from nodes is) r.0 r.1, r.2, r.3, r.4)

-- what an item of the list is
pub record IsItemFrom (nodes : List Node) (is : List Inferred) (x : Pending) : Type 0 where
  pub found : IsIn is x.inferred
  pub at_fact : some_fact x.inferred ≡ Some x.at
  pub kept : HasMember (label_in nodes x.at) (members x.env)

of_items_with : (nodes : List Node) (i : Inferred) (o : Option Fact) (x : Pending) → some_fact i ≡ o → IsIn (items_with nodes i o) x → IsItemFrom nodes (i ∷ []) x
of_items_with nodes i None x e h = absurd h
of_items_with nodes i (Some f) x e h =
    let env : (env : Env) × IsIn (label_in nodes f) env × (item_at f env i ≡ x) = IsIn-map (λ d. item_at f d i) (label_in nodes f) x h in
    let P : Pending → Type 0 = λ y. IsItemFrom nodes (i ∷ []) y in
    subst P env.2 (record { found = inl refl; at_fact = e; kept = map-IsIn members (label_in nodes f) env.0 env.1 })

pub of_items : (nodes : List Node) (is : List Inferred) (x : Pending) → IsIn (items_from nodes is) x → IsItemFrom nodes is x
of_items nodes [] x h = absurd h
of_items nodes (i ∷ is) x h =
    elim (IsIn-append (items_with nodes i (some_fact i)) (items_from nodes is) x h) [
      | inl a ↦
          let r : IsItemFrom nodes (i ∷ []) x = of_items_with nodes i (some_fact i) x refl a in
          record { found = IsIn-left (i ∷ []) is x.inferred r.found; at_fact = r.at_fact; kept = r.kept }
      | inr b ↦
          let r : IsItemFrom nodes is x = of_items nodes is x b in
          record { found = inr r.found; at_fact = r.at_fact; kept = r.kept }
    ]

items_from-append : (nodes : List Node) (is js : List Inferred) → items_from nodes (is ++ js) ≡ items_from nodes is ++ items_from nodes js
items_from-append nodes [] js = refl
items_from-append nodes (i ∷ is) js = ap (λ l. items_with nodes i (some_fact i) ++ l) (items_from-append nodes is js) ∙ sym (append_assoc (items_with nodes i (some_fact i)) (items_from nodes is) (items_from nodes js))

-- one inference more
pub items_from-more :
    (nodes : List Node) (found : List Inferred) (n : ℕ) (d : Inferred) (start old new : List Pending) → n < length found → old ≡ start ++ items_from nodes (take n found)
    → new ≡ old ++ items_with nodes (get_or found n d) (some_fact (get_or found n d)) → new ≡ start ++ items_from nodes (take (n + 1) found)
items_from-more nodes found n d start old new low so_far then =
    let i : Inferred = get_or found n d in
    let front : items_from nodes (take (n + 1) found) ≡ items_from nodes (take n found) ++ items_with nodes i (some_fact i) =
    ap (items_from nodes) (take_more found n d low) ∙ (items_from-append nodes (take n found) (i ∷ []) ∙ ap (λ l. items_from nodes (take n found) ++ l) (append-nil (items_with nodes i (some_fact i)))) in
    then ∙ (ap (λ l. l ++ items_with nodes i (some_fact i)) so_far ∙ (append_assoc start (items_from nodes (take n found)) (items_with nodes i (some_fact i)) ∙ ap (λ l. start ++ l) (sym front)))

-- the fact that is looked at is one that the inference goes from
some_is_of : (a b : Option Fact) (f : Fact) → option_or a b ≡ Some f → IsIn (facts a b) f
some_is_of (Some a) None f e = inl (let x : a ≡ f = cc in x)
some_is_of (Some a) (Some b) f e = inl (let x : a ≡ f = cc in x)
some_is_of None (Some b) f e = inl (let x : b ≡ f = cc in x)
some_is_of None None f e = absurd (cc)

-- the set of the slot alone
module _ (slots : List (Option Assumption)) (slot : ℕ) (env : Env) (is : members env ≡ only slot) where
  slot_only : (k : ℕ) → IsTrue (members env k) → k ≡ slot
  slot_only k h = let same : IsTrue (k == slot) = sym (ap (λ (F : Set ℕ). F k) is) ∙ h in grind (arith, nat_tests)

  slot_inside : IsTrue (members env slot)
  slot_inside = ap (λ (F : Set ℕ). F slot) is ∙ (let same : IsTrue (slot == slot) = grind (arith, nat_tests) in same)

  only_environment : IsSome (stock slots slot) → IsEnvironment (stock slots) (members env)
  only_environment there k h = let P : ℕ → Type 0 = λ i. IsSome (stock slots i) in subst P (sym (slot_only k h)) there

  only_inside : (E : Set ℕ) → IsTrue (E slot) → members env ⊆ E
  only_inside E h k i = let P : ℕ → Type 0 = λ x. IsTrue (E x) in subst P (sym (slot_only k i)) h

  only_maker : HasMaker (Some slot) (members env)
  only_maker k e = let same : slot ≡ k = cc in let P : ℕ → Type 0 = λ x. IsTrue (members env x) in subst P same slot_inside

module _ (slots : List (Option Assumption)) (w : Update) (rest : IsAtRest (before slots w.slot) w) (env : Env) (is : members env ≡ only w.slot) where
  abbrev S : Stock ℕ
  S = before slots w.slot

  abbrev Met : Fact → Type 0
  Met = IsIn (facts_of w.nodes.list)

  abbrev Old : RecordedInference → Type 0
  Old = RecordedIn w.recorded

  more : HasOneMore ℕ S (stock slots) w.slot
  more = one_more_slot slots w.slot

  none_came : (f : Fact) (E : Set ℕ) → NoArrival f E ↔ HasCome [] f E
  none_came f E = ((λ (h : ⊥). absurd h), (λ (h : HasCome [] f E). h.1))

  -- a reading: its own environment is due
  module _ (f : Fact) (reads : stock slots w.slot ≡ Some (Reading f)) where
    abbrev First : Insertion
    First = record { target = Some f; env = env; source = None }

    first_environment : IsEnvironment (stock slots) (members env)
    first_environment = only_environment slots w.slot env is (rw reads refl)

    first_has : HasAt (stock slots) (Some f) (members env)
    first_has = (zero, record { name = w.slot; chosen = slot_inside slots w.slot env is; named = reads })

    due_environment : (t : Target) (E : Set ℕ) → DueIn (First ∷ []) t E → IsEnvironment (stock slots) E
    due_environment t E (k, inl e, a, b) = subst (IsEnvironment (stock slots)) (ap (λ (x : Insertion). members x.env) e ∙ b) first_environment
    due_environment t E (k, inr bad, a, b) = absurd bad

    due_has : (t : Target) (E : Set ℕ) → DueIn (First ∷ []) t E → HasAt (stock slots) t E
    due_has t E (k, inl e, a, b) =
        let same : Some f ≡ t = ap (λ (x : Insertion). x.target) e ∙ a in
        let P : Set ℕ → Type 0 = λ F. HasAt (stock slots) t F in
        let Q : Target → Type 0 = λ s. HasAt (stock slots) s (members env) in
        subst P (ap (λ (x : Insertion). members x.env) e ∙ b) (subst Q same first_has)
    due_has t E (k, inr bad, a, b) = absurd bad

    alone : (E : Set ℕ) → IsTrue (E w.slot) → IsCovered (DueIn (First ∷ []) (Some f)) E
    alone E h = (members env, (First, inl refl, refl, refl), only_inside slots w.slot env is E h)

    reading_sourced : (k : ℕ) (g : Fact) (E : Set ℕ) → DueBy (First ∷ []) k g E → IsSourced (stock slots) (KeptIn w.nodes) k g E
    reading_sourced k g E (d, inl e, at, by, is) = absurd (let none : None ≡ d.source = ap (λ (x : Insertion). x.source) e in let no : None ≡ Some k = none ∙ by in cc)
    reading_sourced k g E (d, inr bad, at, by, is) = absurd bad

    first_sourced : AreSourced (stock slots) (KeptIn w.nodes) (DueBy (First ∷ [])) (IsAtHand []) (HasCome []) (HasComeBy [])
    first_sourced = record { due = reading_sourced; at_hand_reached = λ j g E h. absurd h.1; came_reached = λ g E h. absurd h.1; came_sourced = λ k g E h. absurd h.1 }

    first_propagating : IsPropagating (stock slots) w.slot Met (KeptIn w.nodes) Old (DueIn (First ∷ [])) (IsAtHand []) (HasCome [])
    first_propagating =
        let was : IsPropagating (stock slots) w.slot Met (KeptIn w.nodes) Old (DueIn (First ∷ [])) NoItem NoArrival =
        start_reading S (stock slots) w.slot more (decide w.slot) Met (KeptIn w.nodes) Old rest.up_to_date.settled rest.up_to_date.are rest.up_to_date.were_met (DueIn (First ∷ []))
        (record { environments = due_environment; sound = due_has }) f reads alone in
        whole.reordered (stock slots) w.slot Met (KeptIn w.nodes) Old (DueIn (First ∷ [])) NoItem NoArrival was (DueIn (First ∷ [])) (IsAtHand []) (HasCome [])
        (λ t E. ((λ (k : DueIn (First ∷ []) t E). k), (λ (k : DueIn (First ∷ []) t E). k))) (λ j g m. ((λ (h : ⊥). absurd h), (λ (h : IsAtHand [] j g m). h.1))) none_came

    first_due : Holds slots w.slot w.nodes w.recorded (First ∷ []) [] []
    first_due = record { propagating = first_propagating; sourced = first_sourced }

    pub reading_begins : (dues : List Insertion) → dues ≡ w.due.items ++ First ∷ [] → Holds slots w.slot w.nodes w.recorded dues w.work.items w.agenda
    reading_begins dues e = rw (e, rest.none_due, rest.none_at_hand, rest.nothing_waits) first_due

  -- a component: its inferences are recorded, and what they lead to is due or at hand
  module _ (part : List Instance) (works : stock slots w.slot ≡ Some (Part part)) (all found : List Inferred) (made : AreMadeBy slots (facts_of w.nodes.list) w.slot all) (needed : AreNeeded w.recorded all found) (New : List Inferred) (also : AreAlso found w.recorded New) where
    abbrev Dues : List Insertion
    Dues = map (due_with env) (filter goes_from_none found)

    abbrev Items : List Pending
    Items = items_from w.nodes.list found

    front : (j : RecordedInference) → Old j → RecordedIn New j
    front j r = (r.0, (also r.0).1 (inl r.1), r.2)

    still : (to : Target) (maker : Option ℕ) (known : Fact → Type 0) → HasInference Old to maker known → HasInference (RecordedIn New) to maker known
    still to maker known j = (j.0, front j.0 j.1, j.2, j.3, j.4)

    now : (to : Target) (maker : Option ℕ) (known : Fact → Type 0) → HasInference (RecordedIn all) to maker known → HasInference (RecordedIn New) to maker known
    now = said_now w.recorded all found New needed also

    makes : (i : Inferred) → IsIn found i → i.maker ≡ Some w.slot
    makes i h = made.maker i (needed.of_found i h)

    split : (j : RecordedInference) → RecordedIn New j → Old j ⊎ RecordedIn found j
    split j r = elim ((also r.0).0 r.1) [ inl o ↦ inl (r.0, o, r.2) | inr n ↦ inr (r.0, n, r.2) ]

    now_recorded : AreRecorded (stock slots) Met All (RecordedIn New)
    now_recorded = record {
      leads = λ j r. elim (split j r) [
        | inl o ↦ leads_more S (stock slots) w.slot more j.from j.maker j.to (rest.up_to_date.are.leads j o)
        | inr n ↦ made.are.leads j (was_found w.recorded all found New needed also j n)
      ];
      forced = λ k p instance known q v c named of_part _ held at forces. elim (decide w.slot k) [
        | inl e ↦ now _ _ _ (made.are.forced k p instance known q v c named of_part (ap (λ (x : ℕ). Some x) e) held at forces)
        | inr ne ↦ still _ _ _ (rest.up_to_date.are.forced k p instance known q v c (more.1 k (Part p) ne named) of_part tt held at forces)
      ];
      refuted = λ k p instance known named of_part _ held refutes. elim (decide w.slot k) [
        | inl e ↦ now _ _ _ (made.are.refuted k p instance known named of_part (ap (λ (x : ℕ). Some x) e) held refutes)
        | inr ne ↦ still _ _ _ (rest.up_to_date.are.refuted k p instance known (more.1 k (Part p) ne named) of_part tt held refutes)
      ];
      two_words = λ c v x differ _ low high. still _ _ _ (rest.up_to_date.are.two_words c v x differ tt low high);
    }

    now_made : (j : RecordedInference) → RecordedIn New j → Old j ⊎ (j.maker ≡ Some w.slot)
    now_made j r = elim (split j r) [ inl o ↦ inl o | inr n ↦ inr (sym (ap (λ (i : RecordedInference). i.maker) n.2) ∙ makes n.0 n.1) ]

    sound_now : IsSound (stock slots) (KeptIn w.nodes)
    sound_now = sound_more S (stock slots) w.slot more (KeptIn w.nodes) (sound_of_settled S (KeptIn w.nodes) rest.up_to_date.settled)

    waiting : IsWaitingSound (stock slots) (RecordedIn New) (IsAtHand Items)
    waiting = record {
      inference = λ j f E x. (x.0.inferred, (also x.0.inferred).1 (inr (of_items w.nodes.list found x.0 x.1).found), x.2);
      antecedent = λ j f E x.
          let it : IsItemFrom w.nodes.list found x.0 = of_items w.nodes.list found x.0 x.1 in
          let P : RecordedInference → Type 0 = λ i. IsIn i.from f in
          subst P x.2 (subst (IsIn (facts x.0.inferred.first x.0.inferred.second)) x.3 (some_is_of x.0.inferred.first x.0.inferred.second x.0.at it.at_fact));
      environment = λ j f E x. subst (IsEnvironment (stock slots)) x.4 (sound_now.environments (Some x.0.at) (members x.0.env) (of_items w.nodes.list found x.0 x.1).kept);
      sound = λ j f E x.
          let P : Set ℕ → Type 0 = λ F. Has (stock slots) f F in
          let Q : Fact → Type 0 = λ g. Has (stock slots) g (members x.0.env) in
          subst P x.4 (subst Q x.3 (sound_now.sound (Some x.0.at) (members x.0.env) (of_items w.nodes.list found x.0 x.1).kept));
    }

    -- what is due at once: the target of an inference from no fact
    due_of : (d : Insertion) → IsIn Dues d → (i : Inferred) × IsIn found i × IsTrue (goes_from_none i) × (due_with env i ≡ d)
    due_of d h =
        let i : (i : Inferred) × IsIn (filter goes_from_none found) i × (due_with env i ≡ d) = IsIn-map (due_with env) (filter goes_from_none found) d h in
        let k : IsIn found i.0 × IsTrue (goes_from_none i.0) = IsIn-filter goes_from_none found i.0 i.1 in
        (i.0, k.0, k.1, i.2)

    from_none : (a b : Option Fact) → IsTrue (is_none (option_or a b)) → (f : Fact) → IsIn (facts a b) f → ⊥
    from_none None None t f h = h
    from_none None (Some b) t f h = true≢false (sym t)
    from_none (Some a) None t f h = true≢false (sym t)
    from_none (Some a) (Some b) t f h = true≢false (sym t)

    due_leads : (i : Inferred) → IsIn found i → IsTrue (goes_from_none i) → HasAt (stock slots) i.to (members env)
    due_leads i h none =
        leads_on (stock slots) (members env) (facts i.first i.second) i.maker i.to (made.are.leads (inference i) (i, needed.of_found i h, refl))
        (let P : Option ℕ → Type 0 = λ m. HasMaker m (members env) in subst P (sym (makes i h)) (only_maker slots w.slot env is))
        (λ f at. absurd (from_none i.first i.second none f at))

    due_now : IsPendingSound (stock slots) (DueIn Dues)
    due_now = record {
      environments = λ t E d.
          let i : (i : Inferred) × IsIn found i × IsTrue (goes_from_none i) × (due_with env i ≡ d.0) = due_of d.0 d.1 in
          subst (IsEnvironment (stock slots)) (ap (λ (x : Insertion). members x.env) i.3 ∙ d.3) (only_environment slots w.slot env is (rw works refl));
      sound = λ t E d.
          let i : (i : Inferred) × IsIn found i × IsTrue (goes_from_none i) × (due_with env i ≡ d.0) = due_of d.0 d.1 in
          let P : Set ℕ → Type 0 = λ F. HasAt (stock slots) t F in
          let Q : Target → Type 0 = λ s. HasAt (stock slots) s (members env) in
          subst P (ap (λ (x : Insertion). members x.env) i.3 ∙ d.3) (subst Q (ap (λ (x : Insertion). x.target) i.3 ∙ d.2) (due_leads i.0 i.1 i.2));
    }

    -- each choice for an inference of the component is due, or at hand with one of its facts
    module _ (i : Inferred) (of_found : IsIn found i) (E : Set ℕ) (maker : HasMaker i.maker E) where
      abbrev IsSeenTo : List Fact → List (Set ℕ) → Type 0
      IsSeenTo from ms = IsDue (KeptIn w.nodes) (DueIn Dues) i.to E ⊎ SomeWaits (IsAtHand Items (inference i)) from ms

      slot_in : IsTrue (E w.slot)
      slot_in = maker w.slot (makes i of_found)

      due_there : IsTrue (goes_from_none i) → IsDue (KeptIn w.nodes) (DueIn Dues) i.to E
      due_there none = inr (members env, (due_with env i, map-IsIn (due_with env) (filter goes_from_none found) i (IsIn-kept goes_from_none found i of_found none), refl, refl), only_inside slots w.slot env is E slot_in)

      is_there : (f : Fact) (m : Set ℕ) → some_fact i ≡ Some f → KeptIn w.nodes (Some f) m → IsAtHand Items (inference i) f m
      is_there f m at k =
          let x : (x : Pending) × IsIn Items x × (x.inferred ≡ i) × (x.at ≡ f) × (members x.env ≡ m) = in_items w.nodes.list found i f m of_found at k in
          (x.0, x.1, ap inference x.2, x.3, x.4)

      seen_to : (a b : Option Fact) → i.first ≡ a → i.second ≡ b → (ms : List (Set ℕ)) → AreChosen (KeptIn w.nodes) E (facts a b) ms → IsSeenTo (facts a b) ms
      seen_to None None ea eb ms c = inl (due_there (rw (ea, eb) refl))
      seen_to (Some a) None ea eb [] c = absurd c
      seen_to (Some a) None ea eb (m ∷ ms) c = inr (inl (is_there a m (rw ea refl) c.0))
      seen_to None (Some b) ea eb [] c = absurd c
      seen_to None (Some b) ea eb (m ∷ ms) c = inr (inl (is_there b m (rw (ea, eb) refl) c.0))
      seen_to (Some a) (Some b) ea eb [] c = absurd c
      seen_to (Some a) (Some b) ea eb (m ∷ ms) c = inr (inl (is_there a m (rw ea refl) c.0))

    choices :
        (j : RecordedInference) (ms : List (Set ℕ)) (E : Set ℕ) → RecordedIn New j → j.maker ≡ Some w.slot → AreChosen (KeptIn w.nodes) E j.from ms → HasMaker j.maker E
        → IsDue (KeptIn w.nodes) (DueIn Dues) j.to E ⊎ SomeWaits (IsAtHand Items j) j.from ms
    choices j ms E r by chosen maker =
        elim (split j r) [
          | inl o ↦ inl (inl (choice_reached S (KeptIn w.nodes) rest.up_to_date.settled j ms E (rest.up_to_date.are.leads j o) chosen maker))
          | inr n ↦
              let P : RecordedInference → Type 0 = λ i. AreChosen (KeptIn w.nodes) E i.from ms → HasMaker i.maker E → IsDue (KeptIn w.nodes) (DueIn Dues) i.to E ⊎ SomeWaits (IsAtHand Items i) i.from ms in
              subst P n.2 (λ (c : AreChosen (KeptIn w.nodes) E (facts n.0.first n.0.second) ms) (m : HasMaker n.0.maker E). seen_to n.0 n.1 E m n.0.first n.0.second refl refl ms c) chosen maker
        ]

    due_sourced : (k : ℕ) (g : Fact) (E : Set ℕ) → DueBy Dues k g E → IsSourced (stock slots) (KeptIn w.nodes) k g E
    due_sourced k g E d =
        let i : (i : Inferred) × IsIn found i × IsTrue (goes_from_none i) × (due_with env i ≡ d.0) = due_of d.0 d.1 in
        let none : None ≡ d.0.source = ap (λ (x : Insertion). x.source) i.3 in
        absurd (let no : None ≡ Some k = none ∙ d.3 in cc)

    items_reached : (j : RecordedInference) (g : Fact) (E : Set ℕ) → IsAtHand Items j g E → IsReached (KeptIn w.nodes) (Some g) E
    items_reached j g E x =
        let P : Set ℕ → Type 0 = λ F. IsReached (KeptIn w.nodes) (Some g) F in
        let Q : Fact → Type 0 = λ f. IsReached (KeptIn w.nodes) (Some f) (members x.0.env) in
        subst P x.4 (subst Q x.3 (inl (members x.0.env, (of_items w.nodes.list found x.0 x.1).kept, λ k h. h)))

    all_sourced : AreSourced (stock slots) (KeptIn w.nodes) (DueBy Dues) (IsAtHand Items) (HasCome []) (HasComeBy [])
    all_sourced = record { due = due_sourced; at_hand_reached = items_reached; came_reached = λ g E h. absurd h.1; came_sourced = λ k g E h. absurd h.1 }

    all_propagating : IsPropagating (stock slots) w.slot Met (KeptIn w.nodes) (RecordedIn New) (DueIn Dues) (IsAtHand Items) (HasCome [])
    all_propagating =
        let was : IsPropagating (stock slots) w.slot Met (KeptIn w.nodes) (RecordedIn New) (DueIn Dues) (IsAtHand Items) NoArrival =
        start_part S (stock slots) w.slot more (decide w.slot) Met (KeptIn w.nodes) Old rest.up_to_date.settled rest.up_to_date.are rest.up_to_date.were_met (DueIn Dues) due_now part works (RecordedIn New) (IsAtHand Items) now_recorded now_made waiting choices in
        whole.reordered (stock slots) w.slot Met (KeptIn w.nodes) (RecordedIn New) (DueIn Dues) (IsAtHand Items) NoArrival was (DueIn Dues) (IsAtHand Items) (HasCome [])
        (λ t E. ((λ (k : DueIn Dues t E). k), (λ (k : DueIn Dues t E). k))) (λ j g m. ((λ (h : IsAtHand Items j g m). h), (λ (h : IsAtHand Items j g m). h))) none_came

    all_begun : Holds slots w.slot w.nodes New Dues Items []
    all_begun = record { propagating = all_propagating; sourced = all_sourced }

    pub part_begins :
        (dues : List Insertion) (items : List Pending) → dues ≡ w.due.items ++ Dues → items ≡ w.work.items ++ Items
        → Holds slots w.slot w.nodes New dues items w.agenda
    part_begins dues items d i = rw (d, i, rest.none_due, rest.none_at_hand, rest.nothing_waits) all_begun
