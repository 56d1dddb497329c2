-- What lists hold, as families.
use Rattle.std.proofs.Common.{◌≡◌, ℕ, inl, inr, true, false, ◌||◌, cond, IsTrue, IsFalse, true≢false, refl, sym, ap, subst, ◌∙◌, List, [], ◌∷◌, ◌++◌, Some, None}
use Rattle.std.proofs.lemmas.Bool.{or_cases, or_left, or_right}
use Rattle.environment_sets.proofs.Membership.{IsIn-list_any, IsIn-map, list_any-IsIn, map-IsIn}
use Rattle.std.specs.List.{list_any, find}
use mathlib.Core.Path.{fun_ext}
use Rattle.circuit_model.specs.declared.model.Fact.{Fact}
use Rattle.environment_sets.specs.Families.{IsCovered}
use Rattle.environment_sets.specs.declared.environment.Env.{Env}
use Rattle.environment_sets.specs.declared.environment.TheConstants.{SLOTS}
use Rattle.environment_sets.specs.Sets.{Set, ◌⊆◌, is_within}
use Rattle.environment_sets.specs.Members.{members, HasMember}
use Rattle.environment_sets.specs.Lists.{IsIn}
use Rattle.environment_sets.proofs.Slots.{slots_are_below}
use Rattle.environment_sets.proofs.Within.{within_holds, holds_within}
use Rattle.propagation.specs.Propagating.{Target, IsReached}
use Rattle.labelled_nodes.specs.declared.node.Node.{Node}
use Rattle.labelled_nodes.specs.Nodes.{Labelled, is_same, facts_of, envs_of, label_in, KeptIn, covers, reaches}
use Rattle.label_engine.specs.Update.{is_same_target}
use Rattle.labelled_nodes.proofs.Labelled.{is_at, same_fact, fact_same, fact_same_of}

pub same_target : (t s : Target) → IsTrue (is_same_target t s) → t ≡ s
same_target None None h = refl
same_target None (Some g) h = absurd (true≢false (sym h))
same_target (Some f) None h = absurd (true≢false (sym h))
same_target (Some f) (Some g) h = ap (λ x. Some x) (same_fact f g h)

pub target_same : (t s : Target) → t ≡ s → IsTrue (is_same_target t s)
target_same t s e = let P : Target → Type 0 = λ q. IsTrue (is_same_target t q) in subst P e (elim t as (λ q. IsTrue (is_same_target q q)) [ None ↦ refl | Some f ↦ fact_same f ])

-- the test says whether a set is reached
covers_is : (es : List Env) (E : Set ℕ) → IsTrue (covers es E) → IsCovered (HasMember es) E
covers_is es E h =
    let e : (e : Env) × IsIn es e × IsTrue (is_within SLOTS (members e) E) = IsIn-list_any (λ e. is_within SLOTS (members e) E) es h in
    (members e.0, map-IsIn members es e.0 e.1, within_holds SLOTS (members e.0) E (slots_are_below e.0) e.2)

is_covers_of : (es : List Env) (E : Set ℕ) → IsCovered (HasMember es) E → IsTrue (covers es E)
is_covers_of es E c =
    let e : (e : Env) × IsIn es e × (members e ≡ c.0) = IsIn-map members es c.0 c.1 in
    list_any-IsIn (λ x. is_within SLOTS (members x) E) es e.0 e.1 (holds_within SLOTS (members e.0) E (let P : Set ℕ → Type 0 = λ F. F ⊆ E in subst P (sym e.2) c.2))

pub reached_is : (labels : Labelled) (t : Target) (E : Set ℕ) → IsTrue (reaches labels t E) → IsReached (KeptIn labels) t E
reached_is labels None E h = inl (covers_is labels.nogoods E h)
reached_is labels (Some f) E h = elim (or_cases _ _ h) [ inl a ↦ inl (covers_is (label_in labels.list f) E a) | inr b ↦ inr (covers_is labels.nogoods E b) ]

pub is_reached_of : (labels : Labelled) (t : Target) (E : Set ℕ) → IsReached (KeptIn labels) t E → IsTrue (reaches labels t E)
is_reached_of labels None E (inl c) = is_covers_of labels.nogoods E c
is_reached_of labels None E (inr c) = is_covers_of labels.nogoods E c
is_reached_of labels (Some f) E (inl c) = or_left _ _ (is_covers_of (label_in labels.list f) E c)
is_reached_of labels (Some f) E (inr c) = or_right _ _ (is_covers_of labels.nogoods E c)

pub not_reached_is : (labels : Labelled) (t : Target) (E : Set ℕ) → (IsReached (KeptIn labels) t E → ⊥) → IsFalse (reaches labels t E)
not_reached_is labels t E out =
    elim (reaches labels t E) as (λ b. reaches labels t E ≡ b → IsFalse b) [
      | true ↦ λ is. absurd (out (reached_is labels t E is))
      | false ↦ λ _. refl
    ] refl

-- the same labels and nogoods are the same family
module _ (old new : Labelled) (labels : (f : Fact) → label_in new.list f ≡ label_in old.list f) (nogoods : new.nogoods ≡ old.nogoods) where
  pub same_family : KeptIn new ≡ KeptIn old
  same_family = fun_ext (λ t. fun_ext (λ E. at t E))
    where
      at : (t : Target) (E : Set ℕ) → KeptIn new t E ≡ KeptIn old t E
      at None E = ap (λ l. HasMember l E) nogoods
      at (Some f) E = ap (λ l. HasMember l E) (labels f)

  pub same_test : reaches new ≡ reaches old
  same_test = fun_ext (λ t. fun_ext (λ E. at t E))
    where
      at : (t : Target) (E : Set ℕ) → reaches new t E ≡ reaches old t E
      at None E = ap (λ l. covers l E) nogoods
      at (Some f) E = ap (λ l. covers l E || covers new.nogoods E) (labels f) ∙ ap (λ l. covers (label_in old.list f) E || covers l E) nogoods

-- a fact that is met has no environment yet
pub label_in-met : (nodes : List Node) (f g : Fact) → label_in (nodes ++ record { fact = f; label = [] } ∷ []) g ≡ label_in nodes g
label_in-met [] f g = elim (is_same f g) as (λ b. envs_of (cond b (Some (record { fact = f; label = [] })) None) ≡ []) [ true ↦ refl | false ↦ refl ]
label_in-met (n ∷ nodes) f g =
    elim (is_same n.fact g) as (λ b. envs_of (cond b (Some n) (find (is_at g) (nodes ++ record { fact = f; label = [] } ∷ []))) ≡ envs_of (cond b (Some n) (find (is_at g) nodes))) [
      | true ↦ refl
      | false ↦ label_in-met nodes f g
    ]

pub met_is : (nodes : List Node) (f : Fact) → IsTrue (list_any (λ n. is_same n.fact f) nodes) → IsIn (facts_of nodes) f
met_is nodes f h =
    let n : (n : Node) × IsIn nodes n × IsTrue (is_same n.fact f) = IsIn-list_any (λ n. is_same n.fact f) nodes h in
    subst (IsIn (facts_of nodes)) (same_fact n.0.fact f n.2) (map-IsIn (λ (x : Node). x.fact) nodes n.0 n.1)

pub unmet_is : (nodes : List Node) (f : Fact) → IsFalse (list_any (λ n. is_same n.fact f) nodes) → IsIn (facts_of nodes) f → ⊥
unmet_is nodes f out i =
    let n : (n : Node) × IsIn nodes n × (n.fact ≡ f) = IsIn-map (λ (x : Node). x.fact) nodes f i in
    true≢false (sym (list_any-IsIn (λ x. is_same x.fact f) nodes n.0 n.1 (fact_same_of n.0.fact f n.2)) ∙ out)
