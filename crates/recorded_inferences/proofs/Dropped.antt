-- What is told after nodes and inferences were dropped.
use Rattle.std.proofs.Common.{◌≡◌, ℕ, ◌<◌, ◌==◌, not, inl, inr, refl, sym, ap, subst, ◌∙◌, List, [], ◌++◌, length, Option, Some, None, IsSomeAnd}
use Rattle.std.proofs.lemmas.Bool.{cases_eq}
use Rattle.std.proofs.lemmas.List.Elements.{filter-append}
use Rattle.environment_sets.specs.Lists.{IsIn}
use Rattle.circuit_model.specs.declared.model.Fact.{Fact}
use Rattle.index_lists.specs.Lists.{first_of, without}
use Rattle.index_lists.specs.Chains.{keys_in}
use Rattle.index_lists.proofs.Links.{none_is_no_some, same_some, first_in_it}
use Rattle.justifications.specs.declared.model.NodeId.{NodeId}
use Rattle.justifications.specs.declared.model.Target.{Target}
use Rattle.justifications.specs.declared.model.Target.TheVariants.{Node, Clash}
use Rattle.justifications.specs.declared.model.Inferred as woven
use Rattle.justifications.specs.Chained.{IsRemoved}
use Rattle.justifications.specs.Woven.{Woven, IsWoven, fact_at, inferred_at, antecedent, uses_of, supports_of, made_by}
use Rattle.justifications.specs.Woven as weaving
use Rattle.justifications.proofs.Uses.{some_and_is, some_and_of}
use Rattle.justifications.proofs.Dropping.{shorter}
use Rattle.justifications.proofs.Calling.{none_listed}
use Rattle.inference_search.specs.declared.inferred.Inferred.{Inferred}
use Rattle.recorded_inferences.specs.Recorded.{fact_of, fact_led_to, told, recorded_in, GoesFrom, AreSame, AreWithout}
use Rattle.recorded_inferences.specs.Dropped.{AreToldAlike, IsLess, AreLeft}
use Rattle.recorded_inferences.proofs.Told.{told_named, named_told, same_are_told, goes_from_fact, goes_from_node}

-- what is under a name is as it was, where the inferences are
same_name : (old new : Woven) → new.inferences ≡ old.inferences → (j : ℕ) → inferred_at new j ≡ inferred_at old j
same_name old new e j = ap (λ s. weaving.inferred_at (record { facts = old.facts; inferences = s }) j) e

-- the same are recorded
pub alike_same : (old new : Woven) → AreToldAlike old new → AreSame (recorded_in old) (recorded_in new)
alike_same old new a = same_are_told old new (same_name old new a.inferences) a.alike

-- what is told, by its parts
told_by_parts : (old new : Woven) (x : woven.Inferred) → fact_of new (antecedent 0 x) ≡ fact_of old (antecedent 0 x) → fact_of new (antecedent 1 x) ≡ fact_of old (antecedent 1 x) → fact_led_to new x.to ≡ fact_led_to old x.to → told new x ≡ told old x
told_by_parts old new x a b t = λ i. record { first = a i; second = b i; to = t i; maker = x.maker }

-- a node was dropped that no inference names
module _ (old new : Woven) (laws : IsWoven old) (node : NodeId) (unused : uses_of old node.place ≡ []) (unsupported : supports_of old (Node node) ≡ []) (a : IsRemoved old.facts new.facts node.place) where
  -- an antecedent that is not the node has the same fact
  fact_left : (o : Option ℕ) → (o ≡ Some node.place → ⊥) → fact_of new o ≡ fact_of old o
  fact_left None out = refl
  fact_left (Some n) out = a.others n (λ e. out (ap (λ (k : ℕ). Some k) e))

  -- what is led to and is not the node has the same fact
  target_left : (t : Target) → (t ≡ Node node → ⊥) → fact_led_to new t ≡ fact_led_to old t
  target_left Clash out = refl
  target_left (Node n) out = a.others n.place (λ e. out (λ i. Node (record { place = e i })))

  module _ (j : ℕ) (x : woven.Inferred) (at : inferred_at old j ≡ Some x) where
    -- no recorded inference goes from the node
    not_used : weaving.GoesFrom node.place x → ⊥
    not_used from = subst (λ (l : List ℕ). IsIn l j) unused (((laws.uses node.place).exact j).1 (some_and_of (inferred_at old j) (weaving.GoesFrom node.place) x at from))

    -- no recorded inference leads to the node
    not_led_to : x.to ≡ Node node → ⊥
    not_led_to e = subst (λ (l : List ℕ). IsIn l j) unsupported (((laws.supports (Node node)).exact j).1 (some_and_of (inferred_at old j) (λ y. y.to ≡ Node node) x at e))

    -- each is told alike
    told_left : told new x ≡ told old x
    told_left = told_by_parts old new x (fact_left (antecedent 0 x) (λ e. not_used (inl e))) (fact_left (antecedent 1 x) (λ e. not_used (inr e))) (target_left x.to not_led_to)

  -- the same are recorded, and told alike
  pub alike_without_node : new.inferences ≡ old.inferences → AreToldAlike old new
  alike_without_node same = record { inferences = same; alike = told_left }

-- one inference less
pub less_at_once : (old new : Woven) (name : ℕ) → IsRemoved old.inferences new.inferences name → new.facts ≡ old.facts → IsLess old new name
less_at_once old new name a same = record {
  removed = a;
  alike = λ j x at i. told (record { facts = same i; inferences = new.inferences }) x;
}

-- one inference less, and then a node that no inference names
pub less_alike : (old now new : Woven) (name : ℕ) → IsLess old now name → AreToldAlike now new → IsLess old new name
less_alike old now new name less a = record {
  removed = subst (λ s. IsRemoved old.inferences s name) (sym a.inferences) less.removed;
  alike = λ j x at. let was = sym (same_name now new a.inferences j) ∙ at in a.alike j x was ∙ less.alike j x was;
}

-- while those are dropped that have a property
module _ (P : Inferred → Type 0) (old : Woven) where
  -- before the first one all are left
  pub left_all : (now : Woven) → now ≡ old → AreLeft P old now
  left_all now e = subst (λ (w : Woven). AreLeft P old w) (sym e) (record { same = λ j x at. at; alike = λ j x at. refl; stay = λ j x at out. at })

  module _ (now : Woven) (l : AreLeft P old now) where
    -- one with the property is dropped
    pub left_less : (new : Woven) (name : ℕ) (y : woven.Inferred) → inferred_at now name ≡ Some y → P (told old y) → IsLess now new name → AreLeft P old new
    left_less new name y there has less =
        let was : (j : ℕ) (x : woven.Inferred) → inferred_at new j ≡ Some x → inferred_at now j ≡ Some x = λ j x at. elim (cases_eq j name) [
          | inl e ↦ absurd (none_is_no_some x (sym less.removed.gone ∙ subst (λ (k : ℕ). inferred_at new k ≡ Some x) e at))
          | inr ne ↦ sym (less.removed.others j ne) ∙ at
        ] in
        record {
          same = λ j x at. l.same j x (was j x at);
          alike = λ j x at. less.alike j x at ∙ l.alike j x (was j x at);
          stay = λ j x at out. elim (cases_eq j name) [
            | inl e ↦
                let here : inferred_at now name ≡ Some x = subst (λ (k : ℕ). inferred_at now k ≡ Some x) e (l.stay j x at out) in
                absurd (out (subst (λ (z : woven.Inferred). P (told old z)) (same_some y x (sym there ∙ here)) has))
            | inr ne ↦ less.removed.others j ne ∙ l.stay j x at out
          ];
        }

    -- when none has it any more, exactly those with it are recorded no more
    pub left_without : ((j : ℕ) (x : woven.Inferred) → inferred_at now j ≡ Some x → P (told old x) → ⊥) → AreWithout P (recorded_in old) (recorded_in now)
    left_without none i = (
      λ h.
          let it = told_named now i h in
          let e : told old it.1 ≡ i = sym (l.alike it.0 it.1 it.2) ∙ it.3 in
          (subst (λ (k : Inferred). IsIn (recorded_in old) k) e (named_told old it.0 it.1 (l.same it.0 it.1 it.2)), λ p. none it.0 it.1 it.2 (subst P (sym e) p)),
      λ h.
          let it = told_named old i h.0 in
          let at : inferred_at now it.0 ≡ Some it.1 = l.stay it.0 it.1 it.2 (λ p. h.1 (subst P it.3 p)) in
          subst (λ (k : Inferred). IsIn (recorded_in now) k) (l.alike it.0 it.1 at ∙ it.3) (named_told now it.0 it.1 at),
    )

-- those of one maker
module _ (now : Woven) (laws : IsWoven now) (slot : ℕ) where
  -- the first of the chain is recorded, and of the maker
  pub first_made_there : (name : ℕ) → first_of (made_by now slot) ≡ Some name → IsSomeAnd (inferred_at now name) (λ x. x.maker ≡ Some slot)
  first_made_there name first = ((laws.made slot).exact name).0 (first_in_it (made_by now slot) name first)

  -- where the chain has no first one, none is of the maker
  pub none_made : first_of (made_by now slot) ≡ None → (j : ℕ) (x : woven.Inferred) → inferred_at now j ≡ Some x → x.maker ≡ Some slot → ⊥
  none_made none j x at is = subst (λ (l : List ℕ). IsIn l j) (none_listed (made_by now slot) none) (((laws.made slot).exact j).1 (some_and_of (inferred_at now j) (λ y. y.maker ≡ Some slot) x at is))

-- those that go from one node
module _ (now : Woven) (laws : IsWoven now) (node : ℕ) where
  -- the first of the chain is recorded, and goes from the node
  pub first_use_there : (name : ℕ) → first_of (uses_of now node) ≡ Some name → IsSomeAnd (inferred_at now name) (weaving.GoesFrom node)
  first_use_there name first = ((laws.uses node).exact name).0 (first_in_it (uses_of now node) name first)

  -- where the chain has no first one, none goes from the node
  pub none_goes : first_of (uses_of now node) ≡ None → (j : ℕ) (x : woven.Inferred) → inferred_at now j ≡ Some x → weaving.GoesFrom node x → ⊥
  none_goes none j x at is = subst (λ (l : List ℕ). IsIn l j) (none_listed (uses_of now node) none) (((laws.uses node).exact j).1 (some_and_of (inferred_at now j) (weaving.GoesFrom node) x at is))

-- the chains become shorter
module _ (now new : Woven) (name : ℕ) (less : IsLess now new name) where
  -- that of a maker
  pub made_shorter : (slot : ℕ) → first_of (made_by now slot) ≡ Some name → length (made_by new slot) < length (made_by now slot)
  made_shorter slot first = subst (λ (l : List ℕ). length l < length (made_by now slot)) (sym (less.removed.keys 3 slot)) (shorter name (made_by now slot) first)

  -- those that go from a node, without the one that is dropped
  uses_without : (node : ℕ) → uses_of new node ≡ without name (uses_of now node)
  uses_without node =
      let first = less.removed.keys 0 node in
      let second = less.removed.keys 1 node in
      ap (λ (l : List ℕ). l ++ keys_in new.inferences 1 node) first
      ∙ (ap (λ (l : List ℕ). without name (keys_in now.inferences 0 node) ++ l) second
      ∙ sym (filter-append (λ k. not (k == name)) (keys_in now.inferences 0 node) (keys_in now.inferences 1 node)))

  -- that of the inferences that go from a node
  pub uses_shorter : (node : ℕ) → first_of (uses_of now node) ≡ Some name → length (uses_of new node) < length (uses_of now node)
  uses_shorter node first = subst (λ (l : List ℕ). length l < length (uses_of now node)) (sym (uses_without node)) (shorter name (uses_of now node) first)

-- what goes from the fact goes from its node alone
pub goes_from_the_node : (w : Woven) → IsWoven w → (n : ℕ) (f : Fact) → fact_at w n ≡ Some f → (x : woven.Inferred) → GoesFrom f (told w x) → weaving.GoesFrom n x
goes_from_the_node w laws n f at x from =
    let it = goes_from_node w f x from in
    subst (λ (k : ℕ). weaving.GoesFrom k x) (laws.one_node it.0 n f it.1 at) it.2

-- where the fact has no node, nothing goes from it
pub no_node_no_use : (w : Woven) (f : Fact) → ((n : ℕ) → fact_at w n ≡ Some f → ⊥) → AreWithout (GoesFrom f) (recorded_in w) (recorded_in w)
no_node_no_use w f none = left_without (GoesFrom f) w w (left_all (GoesFrom f) w w refl) (λ j x at from. let it = goes_from_node w f x from in none it.0 it.1)

-- one more of one maker is dropped
pub made_next : (old now new : Woven) → IsWoven now → (slot : ℕ) → AreLeft (λ i. i.maker ≡ Some slot) old now → (name : ℕ) → first_of (made_by now slot) ≡ Some name → IsLess now new name → AreLeft (λ i. i.maker ≡ Some slot) old new
made_next old now new laws slot l name first less =
    let it = some_and_is (inferred_at now name) (λ x. x.maker ≡ Some slot) (first_made_there now laws slot name first) in
    left_less (λ i. i.maker ≡ Some slot) old now l new name it.0 it.1 it.2 less

-- all of one maker are dropped
pub made_done : (old now : Woven) → IsWoven now → (slot : ℕ) → AreLeft (λ i. i.maker ≡ Some slot) old now → first_of (made_by now slot) ≡ None → AreWithout (λ i. i.maker ≡ Some slot) (recorded_in old) (recorded_in now)
made_done old now laws slot l none = left_without (λ i. i.maker ≡ Some slot) old now l (none_made now laws slot none)

-- one more that goes from the fact is dropped
pub uses_next : (old now new : Woven) → IsWoven now → (node : ℕ) (f : Fact) → fact_at old node ≡ Some f → AreLeft (GoesFrom f) old now → (name : ℕ) → first_of (uses_of now node) ≡ Some name → IsLess now new name → AreLeft (GoesFrom f) old new
uses_next old now new laws node f at l name first less =
    let it = some_and_is (inferred_at now name) (weaving.GoesFrom node) (first_use_there now laws node name first) in
    left_less (GoesFrom f) old now l new name it.0 it.1 (goes_from_fact old node f it.0 at it.2) less

-- all that go from the fact are dropped
pub uses_done : (old now : Woven) → IsWoven old → IsWoven now → (node : ℕ) (f : Fact) → fact_at old node ≡ Some f → AreLeft (GoesFrom f) old now → first_of (uses_of now node) ≡ None → AreWithout (GoesFrom f) (recorded_in old) (recorded_in now)
uses_done old now were laws node f at l none = left_without (GoesFrom f) old now l (λ j x here from. none_goes now laws node none j x here (goes_from_the_node old were node f at x from))
