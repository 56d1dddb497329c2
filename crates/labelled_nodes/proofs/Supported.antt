-- Nodes with no environment are left out.
use Rattle.std.proofs.Common.{◌≡◌, ℕ, ◌+◌, ◌≤◌, arith, true, false, cond, IsTrue, IsFalse, true≢false, refl, ap, subst, ◌∙◌, List, [], ◌∷◌, filter, length}
use Rattle.circuit_model.specs.declared.model.Fact.{Fact}
use Rattle.environment_sets.specs.declared.environment.Env.{Env}
use Rattle.environment_sets.specs.Lists.{IsIn, AreDistinct}
use Rattle.environment_sets.proofs.Listings.{IsIn-filter}
use Rattle.environment_sets.proofs.Membership.{IsIn-map, map-IsIn}
use Rattle.labelled_nodes.specs.declared.node.Node.{Node}
use Rattle.labelled_nodes.specs.Nodes.{facts_of, has_any, is_supported}
use Rattle.labelled_nodes.specs.Counted.{count_in}

facts_fewer : (nodes : List Node) (f : Fact) → IsIn (facts_of (filter is_supported nodes)) f → IsIn (facts_of nodes) f
facts_fewer nodes f h =
    let n : (n : Node) × IsIn (filter is_supported nodes) n × (n.fact ≡ f) = IsIn-map (λ (x : Node). x.fact) (filter is_supported nodes) f h in
    let there : IsIn nodes n.0 × IsTrue (is_supported n.0) = IsIn-filter is_supported nodes n.0 n.1 in
    subst (IsIn (facts_of nodes)) n.2 (map-IsIn (λ (x : Node). x.fact) nodes n.0 there.0)

pub distinct_left : (nodes : List Node) → AreDistinct (facts_of nodes) → AreDistinct (facts_of (filter is_supported nodes))
distinct_left [] d = tt
distinct_left (n ∷ nodes) d = elim (is_supported n) as (λ b. AreDistinct (facts_of (cond b (n ∷ filter is_supported nodes) (filter is_supported nodes)))) [
  | true ↦ ((λ f h. d.0 f (facts_fewer nodes f h)), distinct_left nodes d.1)
  | false ↦ distinct_left nodes d.1
]

pub none_supports : (es : List Env) → IsFalse (has_any es) → es ≡ []
none_supports [] h = refl
none_supports (e ∷ es) h = absurd (true≢false h)

-- they had nothing to be counted
pub count_left : (nodes : List Node) → count_in (filter is_supported nodes) ≡ count_in nodes
count_left [] = refl
count_left (n ∷ nodes) =
    elim (is_supported n) as (λ b. is_supported n ≡ b → count_in (cond b (n ∷ filter is_supported nodes) (filter is_supported nodes)) ≡ length n.label + count_in nodes) [
      | true ↦ λ _. ap (λ k. length n.label + k) (count_left nodes)
      | false ↦ λ out. count_left nodes ∙ none_more n.label (count_in nodes) (ap (λ (es : List Env). length es) (none_supports n.label out))
    ] refl
  where
    none_more : (es : List Env) (k : ℕ) → length es ≡ 0 → k ≡ length es + k
    none_more es k none = omega (arith, none)

-- where as many are left as there were, all are
left_fewer : (nodes : List Node) → length (filter is_supported nodes) ≤ length nodes
left_fewer [] = omega arith
left_fewer (n ∷ nodes) =
    let rest : length (filter is_supported nodes) ≤ length nodes = left_fewer nodes in
    elim (is_supported n) as (λ b. length (cond b (n ∷ filter is_supported nodes) (filter is_supported nodes)) ≤ length (n ∷ nodes)) [ true ↦ omega (arith, rest) | false ↦ omega (arith, rest) ]

pub all_left : (nodes : List Node) → length nodes ≤ length (filter is_supported nodes) → filter is_supported nodes ≡ nodes
all_left [] as_many = refl
all_left (n ∷ nodes) as_many =
    elim (is_supported n) as (λ b. length (n ∷ nodes) ≤ length (cond b (n ∷ filter is_supported nodes) (filter is_supported nodes)) → cond b (n ∷ filter is_supported nodes) (filter is_supported nodes) ≡ n ∷ nodes) [
      | true ↦ λ long. ap (λ (ns : List Node). n ∷ ns) (all_left nodes (omega (arith, long)))
      | false ↦ λ long. absurd (let fewer : length (filter is_supported nodes) ≤ length nodes = left_fewer nodes in omega (arith, long, fewer))
    ] as_many
