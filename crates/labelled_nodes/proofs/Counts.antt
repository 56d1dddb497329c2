-- How many sets and pairs are inside a mask.
use Rattle.std.proofs.Common.{◌≡◌, ℕ, zero, suc, take, ◌+◌, ◌-◌, ◌^◌, min, inl, inr, Bool, true, false, ◌||◌, cond, IsTrue, IsFalse, true≢false, refl, sym, ap, subst, ◌∙◌, List, [], ◌∷◌, ◌++◌, map, Some, None, arith, length-append}
use Rattle.std.specs.List.{find, list_any}
use Rattle.std.proofs.lemmas.List.{length-map, take-map}
use Rattle.environment_sets.specs.Families.{AreInside}
use Rattle.circuit_model.specs.declared.model.Fact.{Fact}
use Rattle.environment_sets.specs.declared.environment.Env.{Env}
use Rattle.environment_sets.specs.Lists.{IsIn, AreDistinct}
use Rattle.environment_sets.specs.Members.{HasMember}
use Rattle.environment_sets.specs.Sets.{Set, ◌⊆◌}
use Rattle.labelled_nodes.specs.declared.node.Node.{Node}
use Rattle.labelled_nodes.specs.Nodes.{is_same, facts_of, label_in, envs_of}
use Rattle.labelled_nodes.specs.Counted.{ArePairs}
use Rattle.environment_sets.proofs.Membership.{IsIn-append, IsIn-left, IsIn-right, IsIn-map, map-IsIn, AreDistinct-append}
use Rattle.labelled_nodes.proofs.Labelled.{is_at, same_fact, fact_same_of}

abbrev met : Fact → List Node → Bool
met f ns = list_any (λ n. is_same n.fact f) ns

-- where no fact has two nodes, that of the last node has none before it
pub none_before : (ns : List Node) (n : Node) → AreDistinct (facts_of (ns ++ n ∷ [])) → IsFalse (met n.fact ns)
none_before [] n d = refl
none_before (m ∷ ns) n d =
    elim (is_same m.fact n.fact) as (λ b. is_same m.fact n.fact ≡ b → IsFalse (b || met n.fact ns)) [
      | true ↦ λ is. absurd (d.0 n.fact (map-IsIn (λ (k : Node). k.fact) (ns ++ n ∷ []) n (IsIn-right ns (n ∷ []) n (inl refl))) (same_fact m.fact n.fact is))
      | false ↦ λ _. none_before ns n d.1
    ] refl

in_take : {X : Type 0} (k : ℕ) (xs : List X) (x : X) → IsIn (take k xs) x → IsIn xs x
in_take zero xs x h = absurd h
in_take (suc k) [] x h = h
in_take (suc k) (y ∷ xs) x (inl e) = inl e
in_take (suc k) (y ∷ xs) x (inr h) = inr (in_take k xs x h)

distinct_take : {X : Type 0} (k : ℕ) (xs : List X) → AreDistinct xs → AreDistinct (take k xs)
distinct_take zero xs d = tt
distinct_take (suc k) [] d = tt
distinct_take (suc k) (x ∷ xs) d = (λ y h. d.0 y (in_take k xs y h), distinct_take k xs d.1)

-- the facts of the first nodes
pub once_front : (k : ℕ) (ns : List Node) → AreDistinct (facts_of ns) → AreDistinct (facts_of (take k ns))
once_front k ns d = subst AreDistinct (take-map (λ (n : Node). n.fact) k ns) (distinct_take k (facts_of ns) d)

-- the labels of a list with one node more
label_in-none : (ns : List Node) (f : Fact) → IsFalse (met f ns) → label_in ns f ≡ []
label_in-none [] f out = refl
label_in-none (n ∷ ns) f out =
    elim (is_same n.fact f) as (λ b. IsFalse (b || met f ns) → envs_of (cond b (Some n) (find (is_at f) ns)) ≡ []) [
      | true ↦ λ bad. absurd (true≢false bad)
      | false ↦ λ rest. label_in-none ns f rest
    ] out

label_in-other : (ns : List Node) (n : Node) (f : Fact) → IsFalse (is_same n.fact f) → label_in (ns ++ n ∷ []) f ≡ label_in ns f
label_in-other [] n f out = ap (λ b. envs_of (cond b (Some n) None)) out
label_in-other (m ∷ ns) n f out =
    elim (is_same m.fact f) as (λ b. envs_of (cond b (Some m) (find (is_at f) (ns ++ n ∷ []))) ≡ envs_of (cond b (Some m) (find (is_at f) ns))) [
      | true ↦ refl
      | false ↦ label_in-other ns n f out
    ]

label_in-new : (ns : List Node) (n : Node) (f : Fact) → IsFalse (met f ns) → IsTrue (is_same n.fact f) → label_in (ns ++ n ∷ []) f ≡ n.label
label_in-new [] n f out is = ap (λ b. envs_of (cond b (Some n) None)) is
label_in-new (m ∷ ns) n f out is =
    elim (is_same m.fact f) as (λ b. IsFalse (b || met f ns) → envs_of (cond b (Some m) (find (is_at f) (ns ++ n ∷ []))) ≡ n.label) [
      | true ↦ λ bad. absurd (true≢false bad)
      | false ↦ λ rest. label_in-new ns n f rest is
    ] out

module _ (ns : List Node) (n : Node) (mask : Set ℕ) (m : ℕ) (pairs : ArePairs ns mask m) where
  abbrev IsKeptIn : List Node → Fact × Set ℕ → Type 0
  IsKeptIn nodes p = HasMember (label_in nodes p.0) p.1 × (p.1 ⊆ mask)

  kept_along : (old new : List Node) (p : Fact × Set ℕ) → label_in old p.0 ≡ label_in new p.0 → IsKeptIn old p → IsKeptIn new p
  kept_along old new p same h = (let P : List Env → Type 0 = λ es. HasMember es p.1 in subst P same h.0, h.1)

  module _ (out : IsFalse (met n.fact ns)) (k : ℕ) (label : AreInside (HasMember n.label) mask k) where
    abbrev added : List (Fact × Set ℕ)
    added = map (λ (E : Set ℕ). (n.fact, E)) label.inside

    added_distinct : (Es : List (Set ℕ)) → AreDistinct Es → AreDistinct {X = Fact × Set ℕ} (map (λ (E : Set ℕ). (n.fact, E)) Es)
    added_distinct [] d = tt
    added_distinct (E ∷ Es) d = (
      λ p h same. let r : (F : Set ℕ) × IsIn Es F × ((n.fact, F) ≡ p) = IsIn-map (λ (F : Set ℕ). (n.fact, F)) Es p h in d.0 r.0 r.1 (ap (λ (q : Fact × Set ℕ). q.1) (same ∙ sym r.2)),
      added_distinct Es d.1,
    )

    -- none of those before is of the fact
    old_other : (p : Fact × Set ℕ) → IsKeptIn ns p → IsFalse (is_same n.fact p.0)
    old_other p kept =
        elim (is_same n.fact p.0) as (λ b. is_same n.fact p.0 ≡ b → IsFalse b) [
          | true ↦ λ at. absurd (let P : Fact → Type 0 = λ f. HasMember (label_in ns f) p.1 in let Q : List Env → Type 0 = λ es. HasMember es p.1 in subst Q (label_in-none ns n.fact out) (subst P (sym (same_fact n.fact p.0 at)) kept.0))
          | false ↦ λ _. refl
        ] refl

    added_fact : (p : Fact × Set ℕ) → IsIn added p → (n.fact ≡ p.0) × IsIn label.inside p.1
    added_fact p h =
        let r : (F : Set ℕ) × IsIn label.inside F × ((n.fact, F) ≡ p) = IsIn-map (λ (F : Set ℕ). (n.fact, F)) label.inside p h in
        (ap (λ (q : Fact × Set ℕ). q.0) r.2, subst (IsIn label.inside) (ap (λ (q : Fact × Set ℕ). q.1) r.2) r.1)

    apart : (p : Fact × Set ℕ) → IsIn pairs.pairs p → IsIn added p → ⊥
    apart p old here = true≢false (sym (fact_same_of n.fact p.0 (added_fact p here).0) ∙ old_other p ((pairs.exact.exact p).0 old))

    kept_of : (p : Fact × Set ℕ) → IsIn (pairs.pairs ++ added) p → IsKeptIn (ns ++ n ∷ []) p
    kept_of p h =
        elim (IsIn-append pairs.pairs added p h) [
          | inl old ↦
              let kept : IsKeptIn ns p = (pairs.exact.exact p).0 old in
              kept_along ns (ns ++ n ∷ []) p (sym (label_in-other ns n p.0 (old_other p kept))) kept
          | inr here ↦
              let at : (n.fact ≡ p.0) × IsIn label.inside p.1 = added_fact p here in
              let inside : HasMember n.label p.1 × (p.1 ⊆ mask) = (label.exact.exact p.1).0 at.1 in
              let out_there : IsFalse (met p.0 ns) = (let P : Fact → Type 0 = λ f. IsFalse (met f ns) in subst P at.0 out) in
              let Q : List Env → Type 0 = λ es. HasMember es p.1 in
              (subst Q (sym (label_in-new ns n p.0 out_there (fact_same_of n.fact p.0 at.0))) inside.0, inside.1)
        ]

    of_kept : (p : Fact × Set ℕ) → IsKeptIn (ns ++ n ∷ []) p → IsIn (pairs.pairs ++ added) p
    of_kept p kept =
        elim (is_same n.fact p.0) as (λ b. is_same n.fact p.0 ≡ b → IsIn (pairs.pairs ++ added) p) [
          | true ↦ λ at.
              let same : n.fact ≡ p.0 = same_fact n.fact p.0 at in
              let out_there : IsFalse (met p.0 ns) = (let P : Fact → Type 0 = λ f. IsFalse (met f ns) in subst P same out) in
              let Q : List Env → Type 0 = λ es. HasMember es p.1 in
              let there : IsIn label.inside p.1 = (label.exact.exact p.1).1 (subst Q (label_in-new ns n p.0 out_there at) kept.0, kept.1) in
              let whole : IsIn added (n.fact, p.1) = map-IsIn (λ (E : Set ℕ). (n.fact, E)) label.inside p.1 there in
              IsIn-right pairs.pairs added p (let P : Fact → Type 0 = λ f. IsIn added (f, p.1) in subst P same whole)
          | false ↦ λ other. IsIn-left pairs.pairs added p ((pairs.exact.exact p).1 (kept_along (ns ++ n ∷ []) ns p (label_in-other ns n p.0 other) kept))
        ] refl

    -- another node adds those of its label
    pub pairs_more : ArePairs (ns ++ n ∷ []) mask (m + k)
    pairs_more = record {
      pairs = pairs.pairs ++ added;
      exact = record {
        distinct = AreDistinct-append pairs.pairs added pairs.exact.distinct (added_distinct label.inside label.exact.distinct) apart;
        exact = λ p. (kept_of p, of_kept p);
      };
      count = omega (arith, pairs.count, label.count, length-append pairs.pairs added, length-map {B = Fact × Set ℕ} label.inside (λ (E : Set ℕ). (n.fact, E)));
    }

-- sums that are shown
shown_sum : (top n k : ℕ) → min (min n top + k) top ≡ min (n + k) top
shown_sum top n k = omega arith

pub shown_more : (n k shown : ℕ) → shown ≡ min n (2 ^ 64 - 1) → min (shown + k) (2 ^ 64 - 1) ≡ min (n + k) (2 ^ 64 - 1)
shown_more n k shown is = ap (λ m. min (m + k) (2 ^ 64 - 1)) is ∙ shown_sum (2 ^ 64 - 1) n k
