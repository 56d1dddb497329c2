-- What is kept in the nodes, as environments with their facts.
use Rattle.std.proofs.Common.{◌≡◌, ℕ, inl, inr, Bool, true, false, cond, IsTrue, IsFalse, refl, sym, ap, ap₂, subst, ◌∙◌, List, [], ◌∷◌, ◌++◌, map, filter, append-nil, Some}
use Rattle.std.specs.List.{find}
use Rattle.std.proofs.lemmas.Bool.{false_from_ne_true}
use Rattle.circuit_model.specs.declared.model.Fact.{Fact}
use Rattle.environment_sets.specs.declared.environment.Env.{Env}
use Rattle.environment_sets.specs.Sets.{Set}
use Rattle.environment_sets.specs.Members.{members, HasMember}
use Rattle.environment_sets.specs.Lists.{IsIn, AreDistinct}
use Rattle.environment_sets.proofs.Listings.{IsIn-filter, IsIn-kept}
use Rattle.environment_sets.proofs.Membership.{IsIn-append, IsIn-left, IsIn-right, IsIn-map, map-IsIn}
use Rattle.labelled_nodes.specs.declared.node.Node.{Node}
use Rattle.labelled_nodes.specs.Nodes.{is_same, facts_of, envs_of, label_in}
use Rattle.label_engine.specs.Engine.{Kept, label_of, kept_at, kept_of}
use Rattle.labelled_nodes.proofs.Labelled.{is_at, same_fact, fact_same}

abbrev with_fact : Fact → Env → Kept
with_fact f e = record { fact = f; env = e }

abbrev env_of : Kept → Env
env_of k = k.env

-- an environment that is kept for a fact
pub kept_member : (kept : List Kept) (f : Fact) (E : Set ℕ) → HasMember (label_of kept f) E → (k : Kept) × IsIn kept k × (k.fact ≡ f) × (members k.env ≡ E)
kept_member kept f E h =
    let test : Kept → Bool = λ k. is_same k.fact f in
    let e : (e : Env) × IsIn (map env_of (filter test kept)) e × (members e ≡ E) = IsIn-map members (map env_of (filter test kept)) E h in
    let k : (k : Kept) × IsIn (filter test kept) k × (k.env ≡ e.0) = IsIn-map env_of (filter test kept) e.0 e.1 in
    let r : IsIn kept k.0 × IsTrue (test k.0) = IsIn-filter test kept k.0 k.1 in
    (k.0, r.0, same_fact k.0.fact f r.1, ap members k.2 ∙ e.2)

pub member_kept : (kept : List Kept) (k : Kept) → IsIn kept k → HasMember (label_of kept k.fact) (members k.env)
member_kept kept k h =
    let test : Kept → Bool = λ j. is_same j.fact k.fact in
    map-IsIn members (map env_of (filter test kept)) k.env (map-IsIn env_of (filter test kept) k (IsIn-kept test kept k h (fact_same k.fact)))

-- the environments of all nodes
of_kept : (nodes : List Node) (k : Kept) → IsIn (kept_of nodes) k → (n : Node) × IsIn nodes n × (n.fact ≡ k.fact) × IsIn n.label k.env
of_kept [] k h = absurd h
of_kept (n ∷ nodes) k h =
    elim (IsIn-append (kept_at n) (kept_of nodes) k h) [
      | inl here ↦
          let e : (e : Env) × IsIn n.label e × (with_fact n.fact e ≡ k) = IsIn-map (with_fact n.fact) n.label k here in
          (n, inl refl, ap (λ (j : Kept). j.fact) e.2, subst (IsIn n.label) (ap env_of e.2) e.1)
      | inr later ↦ let r : (m : Node) × IsIn nodes m × (m.fact ≡ k.fact) × IsIn m.label k.env = of_kept nodes k later in (r.0, inr r.1, r.2, r.3)
    ]

to_kept : (nodes : List Node) (n : Node) → IsIn nodes n → (e : Env) → IsIn n.label e → IsIn (kept_of nodes) (with_fact n.fact e)
to_kept [] n h e i = absurd h
to_kept (m ∷ nodes) n (inl same) e i =
    let P : Node → Type 0 = λ x. IsIn (kept_at m ++ kept_of nodes) (with_fact x.fact e) in
    let Q : Node → Type 0 = λ x. IsIn x.label e in
    subst P same (IsIn-left (kept_at m) (kept_of nodes) (with_fact m.fact e) (map-IsIn (with_fact m.fact) m.label e (subst Q (sym same) i)))
to_kept (m ∷ nodes) n (inr later) e i = IsIn-right (kept_at m) (kept_of nodes) (with_fact n.fact e) (to_kept nodes n later e i)

pub node_of : (nodes : List Node) (f : Fact) (E : Set ℕ) → HasMember (label_of (kept_of nodes) f) E → (n : Node) × IsIn nodes n × (n.fact ≡ f) × HasMember n.label E
node_of nodes f E h =
    let k : (k : Kept) × IsIn (kept_of nodes) k × (k.fact ≡ f) × (members k.env ≡ E) = kept_member (kept_of nodes) f E h in
    let n : (n : Node) × IsIn nodes n × (n.fact ≡ k.0.fact) × IsIn n.label k.0.env = of_kept nodes k.0 k.1 in
    (n.0, n.1, n.2 ∙ k.2, subst (HasMember n.0.label) k.3 (map-IsIn members n.0.label k.0.env n.3))

pub of_node : (nodes : List Node) (n : Node) (E : Set ℕ) → IsIn nodes n → HasMember n.label E → HasMember (label_of (kept_of nodes) n.fact) E
of_node nodes n E there h =
    let e : (e : Env) × IsIn n.label e × (members e ≡ E) = IsIn-map members n.label E h in
    subst (HasMember (label_of (kept_of nodes) n.fact)) e.2 (member_kept (kept_of nodes) (with_fact n.fact e.0) (to_kept nodes n there e.0 e.1))

-- joined lists
label_of-append : (xs ys : List Kept) (f : Fact) → label_of (xs ++ ys) f ≡ label_of xs f ++ label_of ys f
label_of-append [] ys f = refl
label_of-append (x ∷ xs) ys f =
    let test : Kept → Bool = λ k. is_same k.fact f in
    elim (is_same x.fact f) as (λ b. map env_of (cond b (x ∷ filter test (xs ++ ys)) (filter test (xs ++ ys))) ≡ map env_of (cond b (x ∷ filter test xs) (filter test xs)) ++ label_of ys f) [
      | true ↦ ap (λ (es : List Env). x.env ∷ es) (label_of-append xs ys f)
      | false ↦ label_of-append xs ys f
    ]

-- the environments with one fact
module _ (g f : Fact) where
  abbrev rest : List Env → List Kept
  rest es = filter (λ k. is_same k.fact f) (map (with_fact g) es)

  label_of-same : IsTrue (is_same g f) → (es : List Env) → label_of (map (with_fact g) es) f ≡ es
  label_of-same is [] = refl
  label_of-same is (e ∷ es) = ap (λ b. map env_of (cond b (with_fact g e ∷ rest es) (rest es))) is ∙ ap (λ (l : List Env). e ∷ l) (label_of-same is es)

  label_of-other : IsFalse (is_same g f) → (es : List Env) → label_of (map (with_fact g) es) f ≡ []
  label_of-other out [] = refl
  label_of-other out (e ∷ es) = ap (λ b. map env_of (cond b (with_fact g e ∷ rest es) (rest es))) out ∙ label_of-other out es

abbrev joined : List Env → List Env → List Env
joined xs ys = xs ++ ys

differs : (f g : Fact) → (f ≡ g → ⊥) → IsFalse (is_same f g)
differs f g out = false_from_ne_true (is_same f g) (λ is. out (same_fact f g is))

label_of-unmet : (nodes : List Node) (f : Fact) → (IsIn (facts_of nodes) f → ⊥) → label_of (kept_of nodes) f ≡ []
label_of-unmet [] f out = refl
label_of-unmet (n ∷ nodes) f out =
    label_of-append (kept_at n) (kept_of nodes) f
    ∙ ap₂ joined (label_of-other n.fact f (differs n.fact f (λ e. out (inl e))) n.label) (label_of-unmet nodes f (λ h. out (inr h)))

-- where no fact has two nodes, the label of a fact is that of its node
pub label_of_nodes : (nodes : List Node) → AreDistinct (facts_of nodes) → (f : Fact) → label_of (kept_of nodes) f ≡ label_in nodes f
label_of_nodes [] once f = refl
label_of_nodes (n ∷ nodes) once f =
    label_of-append (kept_at n) (kept_of nodes) f
    ∙ elim (is_same n.fact f) as (λ b. is_same n.fact f ≡ b → label_of (kept_at n) f ++ label_of (kept_of nodes) f ≡ envs_of (cond b (Some n) (find (is_at f) nodes))) [
      | true ↦ λ is. ap₂ joined (label_of-same n.fact f is n.label) (label_of-unmet nodes f (λ h. once.0 f h (same_fact n.fact f is))) ∙ append-nil n.label
      | false ↦ λ out. ap₂ joined (label_of-other n.fact f out n.label) (label_of_nodes nodes once.1 f)
    ] refl
