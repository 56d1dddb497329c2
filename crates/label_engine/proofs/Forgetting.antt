-- Without an assumption that was remembered: labels and nogoods without its slot.
use Rattle.std.proofs.Common.{◌≡◌, ◌≢◌, ℕ, zero, suc, ◌⊎◌, inl, inr, true, false, ◌==◌, cond, IsTrue, IsFalse, true≢false, refl, sym, ap, subst, ◌∙◌, List, [], ◌∷◌, set, filter, Option, Some, None, IsSome, arith}
use Rattle.std.specs.List.{find}
use Rattle.std.proofs.lemmas.Bool.{false_from_ne_true}
use Rattle.std.proofs.lemmas.Bool.Decides.{nat_tests}
use Rattle.circuit_model.specs.declared.model.Cell.{Cell}
use Rattle.circuit_model.specs.declared.model.Fact.{Fact}
use Rattle.circuit_model.specs.declared.model.Assumption.{Assumption}
use Rattle.circuit_model.specs.Closure.{fact}
use Rattle.circuit_model.specs.Laws.{HasOneMore}
use Rattle.circuit_model.specs.Settled.{IsSettled}
use Rattle.circuit_model.specs.Stock.{Stock, IsEnvironment}
use Rattle.circuit_model.proofs.Monotony.{AreHeld-map, IsForced-map, IsRefuted-map}
use Rattle.environment_sets.specs.declared.environment.Env.{Env}
use Rattle.environment_sets.specs.Sets.{Set}
use Rattle.environment_sets.specs.Members.{members, HasMember}
use Rattle.environment_sets.specs.Lists.{IsIn, AreDistinct}
use Rattle.environment_sets.specs.Families.{IsCovered, Drops}
use Rattle.environment_sets.proofs.Listings.{IsIn-filter}
use Rattle.environment_sets.proofs.Membership.{map-IsIn}
use Rattle.propagation.specs.Propagating.{Target, Family, RecordedInference, IsMaker, Leads, All, AreRecorded, HasInference, IsEither}
use Rattle.propagation.proofs.Entry.{has_in_part}
use Rattle.inference_search.specs.declared.inferred.Inferred.{Inferred}
use Rattle.inference_search.specs.Inferences.{RecordedIn}
use Rattle.assumption_slots.specs.Slots.{stock}
use Rattle.labelled_nodes.specs.declared.node.Node.{Node}
use Rattle.label_engine.specs.declared.update.Update.{Update}
use Rattle.labelled_nodes.specs.Nodes.{is_same, facts_of, envs_of, label_in, KeptIn, has_any, is_supported}
use Rattle.label_engine.specs.Update.{IsForgotten, HasForgotten, IsAtRest}
use Rattle.recorded_inferences.specs.Recorded.{GoesFrom}
use Rattle.label_engine.specs.Engine.{Seen, label_of, label_at, kept_of, Forgets}
use Rattle.label_engine.proofs.Asked.{seen}
use Rattle.label_engine.proofs.Kept.{label_of_nodes}
use Rattle.labelled_nodes.proofs.Supported.{distinct_left, none_supports}
use Rattle.labelled_nodes.proofs.Labelled.{is_at, same_fact, fact_same, fact_same_of, dropped_label, dropped_facts}
use Rattle.label_engine.proofs.Remembering.{set_elsewhere}

-- a set without the slot
abbrev without : ℕ → Set ℕ → Set ℕ
without slot E k = cond (k == slot) false (E k)

module _ (slot : ℕ) (E : Set ℕ) where
  lacks_it : IsTrue (without slot E slot) → ⊥
  lacks_it h =
      elim (slot == slot) as (λ b. (slot == slot) ≡ b → IsTrue (cond b false (E slot)) → ⊥) [
        | true ↦ λ _ k. true≢false (sym k)
        | false ↦ λ out _. let is : (slot == slot) ≡ true = grind (arith, nat_tests) in true≢false (sym is ∙ out)
      ] refl h

  stays_in : (k : ℕ) → k ≢ slot → IsTrue (E k) → IsTrue (without slot E k)
  stays_in k ne h =
      elim (k == slot) as (λ b. (k == slot) ≡ b → IsTrue (cond b false (E k))) [
        | true ↦ λ is. let same : k ≡ slot = grind (arith, nat_tests) in absurd (ne same)
        | false ↦ λ _. h
      ] refl

  was_in : (k : ℕ) → IsTrue (without slot E k) → IsTrue (E k)
  was_in k h = elim (k == slot) as (λ b. IsTrue (cond b false (E k)) → IsTrue (E k)) [ true ↦ λ bad. absurd (true≢false (sym bad)) | false ↦ λ is. is ] h

-- what is remembered without the slot
module _ (S R : Stock ℕ) (slot : ℕ) (free : S slot ≡ None) (others : (k : ℕ) → k ≢ slot → S k ≡ R k) where
  not_there : (k : ℕ) (a : Assumption) → S k ≡ Some a → k ≢ slot
  not_there k a e same = let bad : Some a ≡ None = sym e ∙ (ap S same ∙ free) in absurd (cc)

  more : HasOneMore ℕ S R slot
  more = (λ k a e. sym (others k (not_there k a e)) ∙ e, λ k a ne e. others k ne ∙ e)

  pub leads_less : (from : List Fact) (maker : Option ℕ) (to : Target) → (maker ≡ Some slot → ⊥) → Leads R from maker to → Leads S from maker to
  leads_less from maker to other leads = elim to as (λ t. Leads R from maker t → Leads S from maker t) [
    | Some g ↦ λ h. IsForced-map maker_stays (λ f i. i) h
    | None ↦ λ h. elim h [ inl r ↦ inl (IsRefuted-map maker_stays (λ f i. i) r) | inr two ↦ inr two ]
  ] leads
    where
      maker_stays : (a : Assumption) → IsMaker R maker a → IsMaker S maker a
      maker_stays a m = (m.0, m.1, others m.0 (λ e. other (m.1 ∙ ap (λ (k : ℕ). Some k) e)) ∙ m.2)

  module _ (old new : Family) (drops : (t : Target) → Drops (old t) (new t) (λ F. IsTrue (F slot))) where
    covered_to : (t : Target) (E : Set ℕ) → IsCovered (new t) E → IsCovered (old t) (without slot E)
    covered_to t E c = let k = (drops t c.0).0 c.1 in (c.0, k.0, λ n h. stays_in slot E n (λ e. k.1 (let P : ℕ → Type 0 = λ m. IsTrue (c.0 m) in subst P e h)) (c.2 n h))

    covered_from : (t : Target) (E : Set ℕ) → IsCovered (old t) (without slot E) → IsCovered (new t) E
    covered_from t E c = (c.0, (drops t c.0).1 (c.1, λ h. lacks_it slot E (c.2 slot h)), λ n h. was_in slot E n (c.2 n h))

    either_from : (t : Target) (E : Set ℕ) → IsCovered (old t) (without slot E) ⊎ IsCovered (old None) (without slot E) → IsCovered (new t) E ⊎ IsCovered (new None) E
    either_from t E (inl c) = inl (covered_from t E c)
    either_from t E (inr c) = inr (covered_from None E c)

    lacking : (t : Target) (E : Set ℕ) → new t E → IsFalse (E slot)
    lacking t E k = false_from_ne_true (E slot) ((drops t E).0 k).1

    was : (t : Target) (E : Set ℕ) → new t E → old t E
    was t E k = ((drops t E).0 k).0

    environment_left : (t : Target) (E : Set ℕ) → new t E → IsEnvironment R E → IsEnvironment S E
    environment_left t E h env k inside = let P : Option Assumption → Type 0 = λ o. IsSome o in subst P (sym (others k (λ e. true≢false (sym inside ∙ (ap E e ∙ lacking t E h))))) (env k inside)

    named : (k : ℕ) (a : Assumption) → S k ≡ Some a → R k ≡ Some a
    named k a e = more.0 k a e

    pub settled_without : IsSettled R (λ f. old (Some f)) (old None) → IsSettled S (λ f. new (Some f)) (new None)
    settled_without s = record {
      environments = λ f E k. environment_left (Some f) E k (s.environments f E (was (Some f) E k));
      sound = λ f E k. has_in_part S R slot more (Some f) E (lacking (Some f) E k) (s.sound f E (was (Some f) E k));
      nogood_environments = λ E k. environment_left None E k (s.nogood_environments E (was None E k));
      nogood_sound = λ E k. has_in_part S R slot more None E (lacking None E k) (s.nogood_sound E (was None E k));
      antichain = λ f E F e g within. s.antichain f E F (was (Some f) E e) (was (Some f) F g) within;
      nogood_antichain = λ E F e g within. s.nogood_antichain E F (was None E e) (was None F g) within;
      clean = λ f E g e n within. s.clean f E g (was (Some f) E e) (was None g n) within;
      readings = λ k f E at inside. either_from (Some f) E (s.readings k f (without slot E) (named k _ at) (stays_in slot E k (not_there k _ at) inside));
      forced = λ k part instance known p v c E at inside of_part held port forces. either_from (Some (fact c v)) E (s.forced k part instance known p v c (without slot E) (named k _ at) (stays_in slot E k (not_there k _ at) inside) of_part (AreHeld-map (λ f h. covered_to (Some f) E h) held) port forces);
      refuted = λ k part instance known E at inside of_part held refutes. covered_from None E (s.refuted k part instance known (without slot E) (named k _ at) (stays_in slot E k (not_there k _ at) inside) of_part (AreHeld-map (λ f h. covered_to (Some f) E h) held) refutes);
      two_words = λ c v w E differ low high. covered_from None E (s.two_words c v w (without slot E) differ (covered_to (Some (fact c v)) E low) (covered_to (Some (fact c w)) E high));
    }

  -- what is recorded from facts that are met
  module _
      (met met' : Fact → Type 0) (recorded recorded' : RecordedInference → Type 0) (fewer : (f : Fact) → met' f → met f) (leads : (j : RecordedInference) → recorded' j → Leads S j.from j.maker j.to)
      (stays : (j : RecordedInference) → recorded j → (j.maker ≡ Some slot → ⊥) → ((f : Fact) → IsIn j.from f → met' f) → recorded' j)
    where
      has : (to : Target) (maker : Option ℕ) (known : Fact → Type 0) → (maker ≡ Some slot → ⊥) → ((f : Fact) → known f → met' f) → HasInference recorded to maker known → HasInference recorded' to maker known
      has to maker known other all h = (h.0, stays h.0 h.1 (λ e. other (sym h.3 ∙ e)) (λ f i. all f (h.4 f i)), h.2, h.3, h.4)

      either_met : (c : Cell) (v w : ℕ) → met' (fact c v) → met' (fact c w) → (f : Fact) → IsEither (fact c v) (fact c w) f → met' f
      either_met c v w low high f (inl e) = subst met' (sym e) low
      either_met c v w low high f (inr e) = subst met' (sym e) high

      none_is_none : {k : ℕ} → None ≡ Some k → ⊥
      none_is_none e = cc

      pub recorded_without : AreRecorded R met All recorded → AreRecorded S met' All recorded'
      recorded_without are = record {
        leads = leads;
        forced = λ k part instance known p v c at of_part scope held port forces.
            has (Some (fact c v)) (Some k) _ (λ e. not_there k _ at (cc)) (λ f i. held.held i.port f.value f.cell i.word i.cell) (are.forced k part instance known p v c (more.0 k _ at) of_part scope (AreHeld-map fewer held) port forces);
        refuted = λ k part instance known at of_part scope held refutes.
            has None (Some k) _ (λ e. not_there k _ at (cc)) (λ f i. held.held i.port f.value f.cell i.word i.cell) (are.refuted k part instance known (more.0 k _ at) of_part scope (AreHeld-map fewer held) refutes);
        two_words = λ c v w differ scope low high. has None None _ (λ e. none_is_none e) (λ f i. either_met c v w low high f i) (are.two_words c v w differ scope (fewer _ low) (fewer _ high));
      }

-- nodes with no environment are left out
label_unmet : (nodes : List Node) (f : Fact) → (IsIn (facts_of nodes) f → ⊥) → label_in nodes f ≡ []
label_unmet [] f out = refl
label_unmet (n ∷ nodes) f out =
    elim (is_same n.fact f) as (λ b. is_same n.fact f ≡ b → envs_of (cond b (Some n) (find (is_at f) nodes)) ≡ []) [
      | true ↦ λ is. absurd (out (inl (same_fact n.fact f is)))
      | false ↦ λ _. label_unmet nodes f (λ h. out (inr h))
    ] refl

label_supported : (nodes : List Node) → AreDistinct (facts_of nodes) → (f : Fact) → label_in (filter is_supported nodes) f ≡ label_in nodes f
label_supported [] d f = refl
label_supported (n ∷ nodes) d f =
    elim (is_supported n) as (λ b. is_supported n ≡ b → label_in (cond b (n ∷ filter is_supported nodes) (filter is_supported nodes)) f ≡ label_in (n ∷ nodes) f) [
      | true ↦ λ _. elim (is_same n.fact f) as (λ b. envs_of (cond b (Some n) (find (is_at f) (filter is_supported nodes))) ≡ envs_of (cond b (Some n) (find (is_at f) nodes))) [
        | true ↦ refl
        | false ↦ label_supported nodes d.1 f
      ]
      | false ↦ λ out. elim (is_same n.fact f) as (λ b. is_same n.fact f ≡ b → label_in (filter is_supported nodes) f ≡ envs_of (cond b (Some n) (find (is_at f) nodes))) [
        | true ↦ λ is. label_supported nodes d.1 f ∙ (label_unmet nodes f (λ h. d.0 f h (same_fact n.fact f is)) ∙ sym (none_supports n.label out))
        | false ↦ λ _. label_supported nodes d.1 f
      ] refl
    ] refl

-- a fact that was met has a node whose label is its own
met_label : (nodes : List Node) (f : Fact) → IsIn (facts_of nodes) f → (n : Node) × IsIn nodes n × (label_in nodes f ≡ n.label)
met_label [] f h = absurd h
met_label (n ∷ nodes) f h =
    elim (is_same n.fact f) as (λ b. is_same n.fact f ≡ b → (m : Node) × IsIn (n ∷ nodes) m × (envs_of (cond b (Some n) (find (is_at f) nodes)) ≡ m.label)) [
      | true ↦ λ _. (n, inl refl, refl)
      | false ↦ λ out. elim h [
        | inl e ↦ absurd (true≢false (sym (fact_same_of n.fact f e) ∙ out))
        | inr later ↦ let r : (m : Node) × IsIn nodes m × (label_in nodes f ≡ m.label) = met_label nodes f later in (r.0, inr r.1, r.2)
      ]
    ] refl

-- where no fact has two nodes, the label of a node's fact is the node's
own_label : (nodes : List Node) → AreDistinct (facts_of nodes) → (n : Node) → IsIn nodes n → label_in nodes n.fact ≡ n.label
own_label [] d n h = absurd h
own_label (m ∷ nodes) d n (inl e) =
    let P : Node → Type 0 = λ x. label_in (m ∷ nodes) x.fact ≡ x.label in
    subst P e (ap (λ b. envs_of (cond b (Some m) (find (is_at m.fact) nodes))) (fact_same m.fact))
own_label (m ∷ nodes) d n (inr later) =
    elim (is_same m.fact n.fact) as (λ b. is_same m.fact n.fact ≡ b → envs_of (cond b (Some m) (find (is_at n.fact) nodes)) ≡ n.label) [
      | true ↦ λ is. absurd (d.0 m.fact (subst (λ (f : Fact). IsIn (facts_of nodes) f) (sym (same_fact m.fact n.fact is)) (map-IsIn (λ (x : Node). x.fact) nodes n later)) refl)
      | false ↦ λ _. own_label nodes d.1 n later
    ] refl

-- a label that has any environment has a member
some_member : (es : List Env) → IsTrue (has_any es) → (E : Set ℕ) × HasMember es E
some_member [] h = absurd (true≢false (sym h))
some_member (e ∷ es) h = (members e, inl refl)

-- a fact with an environment was met
pub member_met : (nodes : List Node) (f : Fact) (E : Set ℕ) → HasMember (label_in nodes f) E → IsIn (facts_of nodes) f
member_met [] f E h = absurd h
member_met (n ∷ nodes) f E h =
    elim (is_same n.fact f) as (λ b. is_same n.fact f ≡ b → HasMember (envs_of (cond b (Some n) (find (is_at f) nodes))) E → IsIn (facts_of (n ∷ nodes)) f) [
      | true ↦ λ is _. inl (same_fact n.fact f is)
      | false ↦ λ _ k. inr (member_met nodes f E k)
    ] refl h

-- the update without the slot
module _ (old new : Update) (slot : ℕ) (gone : HasForgotten slot old new) (once : AreDistinct (facts_of old.nodes.list)) where
  abbrev Old : List Node
  Old = old.nodes.list

  abbrev New : List Node
  New = new.nodes.list

  abbrev Left : List Node
  Left = gone.dropped

  once_left : AreDistinct (facts_of Left)
  once_left = subst AreDistinct (sym (dropped_facts (λ F. IsTrue (F slot)) Old Left gone.labels)) once

  label_new : (f : Fact) → label_in New f ≡ label_in Left f
  label_new f = ap (λ l. label_in l f) gone.supported ∙ label_supported Left once_left f

  pub drops_new : (t : Target) → Drops (KeptIn old.nodes t) (KeptIn new.nodes t) (λ F. IsTrue (F slot))
  drops_new None = gone.nogoods
  drops_new (Some f) =
      let P : List Env → Type 0 = λ es. Drops (HasMember (label_in Old f)) (HasMember es) (λ F. IsTrue (F slot)) in
      subst P (sym (label_new f)) (dropped_label (λ F. IsTrue (F slot)) Old Left f gone.labels)

  pub once_new : AreDistinct (facts_of New)
  once_new = let P : List Node → Type 0 = λ l. AreDistinct (facts_of l) in subst P (sym gone.supported) (distinct_left Left once_left)

  -- a fact that is met has an environment
  pub met_supported : (f : Fact) → IsIn (facts_of New) f → (E : Set ℕ) × KeptIn new.nodes (Some f) E
  met_supported f h =
      let P : List Node → Type 0 = λ l. IsIn (facts_of l) f in
      let n : (n : Node) × IsIn (filter is_supported Left) n × (label_in (filter is_supported Left) f ≡ n.label) = met_label (filter is_supported Left) f (subst P gone.supported h) in
      let E : (E : Set ℕ) × HasMember n.0.label E = some_member n.0.label (IsIn-filter is_supported Left n.0 n.1).1 in
      (E.0, subst (λ (es : List Env). HasMember es E.0) (sym (ap (λ l. label_in l f) gone.supported ∙ n.2)) E.1)

  -- what goes from facts that are met, and the slot did not make, is not forgotten
  pub stays_recorded : (i : Inferred) → IsIn old.recorded i → (i.maker ≡ Some slot → ⊥) → ((f : Fact) → GoesFrom f i → IsIn (facts_of New) f) → IsIn new.recorded i
  stays_recorded i there other all =
      (gone.recorded i).1 (
        there,
        λ forgotten. elim forgotten [
          | inl made ↦ other made
          | inr from ↦
              let has : (E : Set ℕ) × KeptIn new.nodes (Some from.0.fact) E = met_supported from.0.fact (all from.0.fact from.3) in
              let none : label_in New from.0.fact ≡ [] = label_new from.0.fact ∙ (own_label Left once_left from.0 from.1 ∙ none_supports from.0.label from.2) in
              subst (λ (es : List Env). HasMember es has.0) none has.1
        ],
      )

  recorded_was : (j : RecordedInference) → RecordedIn new.recorded j → RecordedIn old.recorded j × (j.maker ≡ Some slot → ⊥)
  recorded_was j r =
      let was : IsIn old.recorded r.0 × (IsForgotten slot Left r.0 → ⊥) = (gone.recorded r.0).0 r.1 in
      ((r.0, was.0, r.2), λ e. was.1 (inl (ap (λ (x : RecordedInference). x.maker) r.2 ∙ e)))

  recorded_stays : (j : RecordedInference) → RecordedIn old.recorded j → (j.maker ≡ Some slot → ⊥) → ((f : Fact) → IsIn j.from f → IsIn (facts_of New) f) → RecordedIn new.recorded j
  recorded_stays j r other all =
      let P : RecordedInference → Type 0 = λ x. (f : Fact) → IsIn x.from f → IsIn (facts_of New) f in
      (r.0, stays_recorded r.0 r.1 (λ e. other (sym (ap (λ (x : RecordedInference). x.maker) r.2) ∙ e)) (subst P (sym r.2) all), r.2)

  -- what is recorded are inferences of what is remembered without the slot
  module _ (S R : Stock ℕ) (free : S slot ≡ None) (others : (k : ℕ) → k ≢ slot → S k ≡ R k) where
    pub leads_new : ((j : RecordedInference) → RecordedIn old.recorded j → Leads R j.from j.maker j.to) → (j : RecordedInference) → RecordedIn new.recorded j → Leads S j.from j.maker j.to
    leads_new leads j r = let was : RecordedIn old.recorded j × (j.maker ≡ Some slot → ⊥) = recorded_was j r in leads_less S R slot free others j.from j.maker j.to was.1 (leads j was.0)

    module _ (rest : IsAtRest R old) where
      met_before : (f : Fact) → IsIn (facts_of New) f → IsIn (facts_of Old) f
      met_before f h = let has : (E : Set ℕ) × KeptIn new.nodes (Some f) E = met_supported f h in rest.up_to_date.were_met f has.0 ((drops_new (Some f) has.0).0 has.1).0

      pub forgotten : IsAtRest S new
      forgotten = record {
        up_to_date = record {
          settled = settled_without S R slot free others (KeptIn old.nodes) (KeptIn new.nodes) drops_new rest.up_to_date.settled;
          are =
              recorded_without S R slot free others (IsIn (facts_of Old)) (IsIn (facts_of New)) (RecordedIn old.recorded) (RecordedIn new.recorded) met_before
              (leads_new rest.up_to_date.are.leads) recorded_stays rest.up_to_date.are;
          were_met = λ f E k. member_met New f E k;
          once = once_new;
        };
        none_due = gone.due_same ∙ rest.none_due;
        none_at_hand = gone.work_same ∙ rest.none_at_hand;
        nothing_waits = gone.agenda_same ∙ rest.nothing_waits;
      }

-- the slot is freed
freed_here : (xs : List (Option Assumption)) (k : ℕ) → stock (set xs k None) k ≡ None
freed_here [] k = refl
freed_here (x ∷ xs) zero = refl
freed_here (x ∷ xs) (suc k) = freed_here xs k

module _ (slots : List (Option Assumption)) (slot : ℕ) (old new : Update) (gone : HasForgotten slot old new) (rest : IsAtRest (stock slots) old) (freed : List (Option Assumption)) (freed_is : freed ≡ set slots slot None) where
  free_now : stock freed slot ≡ None
  free_now = ap (λ l. stock l slot) freed_is ∙ freed_here slots slot

  others_now : (k : ℕ) → k ≢ slot → stock freed k ≡ stock slots k
  others_now k ne = ap (λ l. stock l k) freed_is ∙ set_elsewhere slots slot k None ne

  pub rests : IsAtRest (stock freed) new
  rests = forgotten old new slot gone rest.up_to_date.once (stock freed) (stock slots) free_now others_now rest

  pub forgets : (before : Seen) → seen slots old.nodes ≡ before → (what : Assumption) → stock before.slots slot ≡ Some what → Forgets (stock before.slots) slot what (stock freed)
  forgets before e what there =
      let P : List (Option Assumption) → Type 0 = λ l. (k : ℕ) → k ≢ slot → stock freed k ≡ stock l k in
      record { there = there; free = free_now; others = subst P (ap (λ (s : Seen). s.slots) e) others_now }

  pub labels_without : (before : Seen) → seen slots old.nodes ≡ before → (f : Fact) → Drops (label_at before f) (label_at (seen freed new.nodes) f) (λ E. IsTrue (E slot))
  labels_without before e f =
      let P : List Env → List Env → Type 0 = λ xs ys. Drops (HasMember xs) (HasMember ys) (λ E. IsTrue (E slot)) in
      let Q : Seen → Type 0 = λ s. Drops (label_at s f) (label_at (seen freed new.nodes) f) (λ E. IsTrue (E slot)) in
      subst Q e
      (subst (P (label_of (kept_of old.nodes.list) f)) (sym (label_of_nodes new.nodes.list rests.up_to_date.once f))
      (subst (λ (xs : List Env). P xs (label_in new.nodes.list f)) (sym (label_of_nodes old.nodes.list rest.up_to_date.once f)) (drops_new old new slot gone rest.up_to_date.once (Some f))))
