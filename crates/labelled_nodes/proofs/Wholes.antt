-- What all labels have together, and how many environments, as labels change.
use Rattle.std.proofs.Common.{◌≡◌, ℕ, zero, suc, ◌+◌, ◌<◌, ◌⊎◌, inl, inr, true, false, not, ◌&&◌, ◌==◌, IsTrue, IfSome, refl, sym, ap, subst, ◌∙◌, List, [], ◌∷◌, ◌++◌, length, take, filter, get_or, set, Option, Some, None, arith}
use Rattle.std.proofs.lemmas.List.{take_all, take_more, length-map}
use Rattle.std.proofs.lemmas.Bool.{and_from, eqb-true, or_left, or_right}
use Rattle.environment_sets.specs.declared.environment.Env.{Env}
use Rattle.environment_sets.specs.Families.{Adds, AreInside}
use Rattle.environment_sets.specs.Lists.{IsIn, AreDistinct}
use Rattle.environment_sets.specs.Members.{members, sets, HasMember}
use Rattle.environment_sets.specs.Sets.{Set, ◌⊆◌, ◌∪◌, ◌∖◌, only}
use Rattle.environment_sets.proofs.Listings.{IsIn-filter, IsIn-push, IsIn-get_or}
use Rattle.labelled_nodes.specs.declared.node.Node.{Node}
use Rattle.labelled_nodes.specs.Nodes.{facts_of, is_supported, EachDrops}
use Rattle.labelled_nodes.specs.Counted.{ArePairs, IsMoved, IsWhole, count_in}
use Rattle.labelled_nodes.proofs.Counts.{none_before, once_front, pairs_more}
use Rattle.labelled_nodes.proofs.Supported.{count_left}

pub whole_none : (nodes : List Node) (reach : Set ℕ) → nodes ≡ [] → IsWhole nodes reach (Some 0)
whole_none nodes reach none =
    let P : List Node → Type 0 = λ ns. IsWhole ns reach (Some 0) in
    subst P (sym none) (record { once = λ n h. absurd h; within = λ n E h m. absurd h; counted = refl })

count_push : (nodes : List Node) (n : Node) → count_in (nodes ++ n ∷ []) ≡ count_in nodes + length n.label
count_push [] n = omega arith
count_push (m ∷ nodes) n = let rest : count_in (nodes ++ n ∷ []) ≡ count_in nodes + length n.label = count_push nodes n in omega (arith, rest)

-- so many environments are counted, and no label has one twice
pub record AreCounted (nodes : List Node) (count : Option ℕ) : Type 0 where
  pub counted : IfSome count (λ k. k ≡ count_in nodes)
  pub once : (n : Node) → IsIn nodes n → AreDistinct (sets n.label)

pub none_counted : AreCounted [] (Some 0)
none_counted = record { counted = refl; once = λ n h. absurd h }

-- those of one label more
pub counted_more :
    (nodes : List Node) (n : Node) (count : Option ℕ) (more : ℕ) (new_count : Option ℕ) → AreCounted nodes count → more ≡ length n.label → AreDistinct (sets n.label)
    → IfSome new_count (λ m. (k : ℕ) × (count ≡ Some k) × (m ≡ k + more)) → AreCounted (nodes ++ n ∷ []) new_count
counted_more nodes n count more new_count was long distinct is = record {
  counted = counted new_count is;
  once = λ m h. elim (IsIn-push nodes n m h) [
    | inl before ↦ was.once m before
    | inr here ↦ (let Q : Node → Type 0 = λ x. AreDistinct (sets x.label) in subst Q here distinct)
  ];
} where
  counted : (new_count : Option ℕ) → IfSome new_count (λ m. (k : ℕ) × (count ≡ Some k) × (m ≡ k + more)) → IfSome new_count (λ k. k ≡ count_in (nodes ++ n ∷ []))
  counted None is = tt
  counted (Some m) is =
      let before : is.0 ≡ count_in nodes = (let P : Option ℕ → Type 0 = λ o. IfSome o (λ k. k ≡ count_in nodes) in subst P is.1 was.counted) in
      omega (arith, is.2, before, long, count_push nodes n)

-- a node with an empty label more
pub whole_met : (nodes new : List Node) (reach : Set ℕ) (count : Option ℕ) (n : Node) → n.label ≡ [] → new ≡ nodes ++ n ∷ [] → IsWhole nodes reach count → IsWhole new reach count
whole_met nodes new reach count n empty pushed was =
    let P : List Node → Type 0 = λ ns. IsWhole ns reach count in
    let no_more : length n.label ≡ 0 = ap (λ (es : List Env). length es) empty in
    subst P (sym pushed) (record {
      once = λ m h. elim (IsIn-push nodes n m h) [
        | inl before ↦ was.once m before
        | inr here ↦ (let Q : Node → Type 0 = λ x. AreDistinct (sets x.label) in let R : List Env → Type 0 = λ es. AreDistinct (sets es) in subst Q here (subst R (sym empty) tt))
      ];
      within = λ m E h i. elim (IsIn-push nodes n m h) [
        | inl before ↦ was.within m E before i
        | inr here ↦ absurd (let Q : Node → Type 0 = λ x. HasMember x.label E in let R : List Env → Type 0 = λ es. HasMember es E in let none : HasMember [] E = subst R empty (subst Q (sym here) i) in none)
      ];
      counted = counted count was.counted (count_push nodes n) no_more;
    })
  where
    counted : (count : Option ℕ) → IfSome count (λ k. k ≡ count_in nodes) → count_in (nodes ++ n ∷ []) ≡ count_in nodes + length n.label → length n.label ≡ 0 → IfSome count (λ k. k ≡ count_in (nodes ++ n ∷ []))
    counted None is more none = tt
    counted (Some k) is more none = omega (arith, is, more, none)

-- one label changes
count_set : (nodes : List Node) (i : ℕ) (d y : Node) → i < length nodes → count_in (set nodes i y) + length (get_or nodes i d).label ≡ count_in nodes + length y.label
count_set [] i d y low = absurd (omega (arith, low))
count_set (n ∷ nodes) zero d y low = omega arith
count_set (n ∷ nodes) (suc i) d y low = let rest : count_in (set nodes i y) + length (get_or nodes i d).label ≡ count_in nodes + length y.label = count_set nodes i d y (omega (arith, low)) in omega (arith, rest)

in_set : (nodes : List Node) (i : ℕ) (y n : Node) → IsIn (set nodes i y) n → IsIn nodes n ⊎ (y ≡ n)
in_set [] i y n h = absurd h
in_set (m ∷ nodes) zero y n (inl here) = inr here
in_set (m ∷ nodes) zero y n (inr h) = inl (inr h)
in_set (m ∷ nodes) (suc i) y n (inl here) = inl (inl here)
in_set (m ∷ nodes) (suc i) y n (inr h) = elim (in_set nodes i y n h) [ inl there ↦ inl (inr there) | inr same ↦ inr same ]

-- an environment comes to the label at a place
pub whole_put :
    (nodes : List Node) (reach : Set ℕ) (count : Option ℕ) (i : ℕ) (d y : Node) (U : Set ℕ) → i < length nodes → IsWhole nodes reach count → Adds (HasMember (get_or nodes i d).label) (HasMember y.label) U → AreDistinct (sets y.label)
    → (new_reach : Set ℕ) → new_reach ≡ reach ∪ U → (new_count : Option ℕ) → IfSome new_count (IsMoved count (length (get_or nodes i d).label) (length y.label)) → IsWhole (set nodes i y) new_reach new_count
whole_put nodes reach count i d y U low was adds distinct new_reach reaches new_count moves = record {
  once = λ n h. elim (in_set nodes i y n h) [
    | inl there ↦ was.once n there
    | inr same ↦ (let Q : Node → Type 0 = λ x. AreDistinct (sets x.label) in subst Q same distinct)
  ];
  within = λ n E h m. let R : Set ℕ → Type 0 = λ reach. E ⊆ reach in subst R (sym reaches) (elim (in_set nodes i y n h) [
    | inl there ↦ λ k e. or_left (reach k) (U k) (was.within n E there m k e)
    | inr same ↦
        (let Q : Node → Type 0 = λ x. HasMember x.label E in
        elim ((adds E).0 (subst Q (sym same) m)) [
          | inl is ↦ λ k e. or_right (reach k) (U k) (ap (λ (S : Set ℕ). S k) is ∙ e)
          | inr before ↦ λ k e. or_left (reach k) (U k) (was.within (get_or nodes i d) E (IsIn-get_or nodes i d low) before.0 k e)
        ])
  ]);
  counted = counted new_count moves;
} where
  counted : (new_count : Option ℕ) → IfSome new_count (IsMoved count (length (get_or nodes i d).label) (length y.label)) → IfSome new_count (λ k. k ≡ count_in (set nodes i y))
  counted None moves = tt
  counted (Some n) moves =
      let is : moves.0 ≡ count_in nodes = (let P : Option ℕ → Type 0 = λ o. IfSome o (λ k. k ≡ count_in nodes) in subst P moves.1 was.counted) in
      omega (arith, is, moves.2, count_set nodes i d y low)

-- environments are dropped from each label
module _ (P : Set ℕ → Type 0) where
  was_there : (old new : List Node) → EachDrops P old new → (n : Node) (E : Set ℕ) → IsIn new n → HasMember n.label E → (o : Node) × IsIn old o × HasMember o.label E × (P E → ⊥)
  was_there [] [] e n E h m = absurd h
  was_there [] (x ∷ new) e n E h m = absurd e
  was_there (o ∷ old) [] e n E h m = absurd h
  was_there (o ∷ old) (x ∷ new) e n E (inl here) m =
      let Q : Node → Type 0 = λ x. HasMember x.label E in
      let there : HasMember o.label E × (P E → ⊥) = (e.1 E).0 (subst Q (sym here) m) in
      (o, inl refl, there.0, there.1)
  was_there (o ∷ old) (x ∷ new) e n E (inr h) m = let r : (o : Node) × IsIn old o × HasMember o.label E × (P E → ⊥) = was_there old new e.2 n E h m in (r.0, inr r.1, r.2, r.3)

  pub whole_dropped :
      (old new : List Node) (reach : Set ℕ) (count : Option ℕ) → EachDrops P old new → IsWhole old reach count → (new_reach : Set ℕ) → ((E : Set ℕ) → E ⊆ reach → (P E → ⊥) → E ⊆ new_reach)
      → (new_count : Option ℕ) → IfSome new_count (λ k. k ≡ count_in new) → ((n : Node) → IsIn new n → AreDistinct (sets n.label)) → IsWhole new new_reach new_count
  whole_dropped old new reach count drops was new_reach moves new_count counted once = record {
    once = once;
    within = λ n E h m. let r : (o : Node) × IsIn old o × HasMember o.label E × (P E → ⊥) = was_there old new drops n E h m in moves E (was.within r.0 E r.1 r.2) r.3;
    counted = counted;
  }

-- nodes with no environment are left out
pub whole_left : (nodes new : List Node) (reach : Set ℕ) (count : Option ℕ) → new ≡ filter is_supported nodes → IsWhole nodes reach count → IsWhole new reach count
whole_left nodes new reach count left was =
    let P : List Node → Type 0 = λ ns. IsWhole ns reach count in
    let Q : ℕ → Type 0 = λ m. IfSome count (λ k. k ≡ m) in
    subst P (sym left) (record {
      once = λ n h. was.once n (IsIn-filter is_supported nodes n h).0;
      within = λ n E h m. was.within n E (IsIn-filter is_supported nodes n h).0 m;
      counted = subst Q (sym (count_left nodes)) was.counted;
    })

-- where all lie inside the mask, as many pairs are inside it as there are environments
module _ (nodes : List Node) (reach mask : Set ℕ) (count : Option ℕ) (was : IsWhole nodes reach count) (inside : reach ⊆ mask) (once : AreDistinct (facts_of nodes)) where
  all_inside : (n : Node) → IsIn nodes n → AreInside (HasMember n.label) mask (length n.label)
  all_inside n h = record {
    inside = sets n.label;
    exact = record { distinct = was.once n h; exact = λ E. ((λ m. (m, λ k e. inside k (was.within n E h m k e))), (λ m. m.0)) };
    count = sym (length-map n.label members);
  }

  none_yet : ArePairs [] mask 0
  none_yet = record { pairs = []; exact = record { distinct = tt; exact = λ p. ((λ h. absurd h), (λ h. absurd h.0)) }; count = refl }

  pairs_of : (i : ℕ) → i < length nodes + 1 → ArePairs (take i nodes) mask (count_in (take i nodes))
  pairs_of zero low = none_yet
  pairs_of (suc i) low = let P : ℕ → Type 0 = λ k. ArePairs (take k nodes) mask (count_in (take k nodes)) in let next : i + 1 ≡ suc i = omega arith in subst P next (one_more i (omega (arith, low)) (pairs_of i (omega (arith, low))))
    where
      one_more : (i : ℕ) → i < length nodes → ArePairs (take i nodes) mask (count_in (take i nodes)) → ArePairs (take (i + 1) nodes) mask (count_in (take (i + 1) nodes))
      one_more i low before = elim nodes as (λ ns. ns ≡ nodes → ArePairs (take (i + 1) nodes) mask (count_in (take (i + 1) nodes))) [
        | [] ↦ λ none. absurd (let no_nodes : length nodes ≡ 0 = ap (λ (l : List Node). length l) (sym none) in omega (arith, low, no_nodes))
        | d ∷ _ ↦ λ _.
            let n : Node = get_or nodes i d in
            let more : take (i + 1) nodes ≡ take i nodes ++ n ∷ [] = take_more nodes i d low in
            let Once : List Node → Type 0 = λ ns. AreDistinct (facts_of ns) in
            let first = none_before (take i nodes) n (subst Once more (once_front (i + 1) nodes once)) in
            let P : List Node → Type 0 = λ ns. ArePairs ns mask (count_in ns) in
            let Q : ℕ → Type 0 = λ k. ArePairs (take i nodes ++ n ∷ []) mask k in
            subst P (sym more) (subst Q (sym (count_push (take i nodes) n)) (pairs_more (take i nodes) n mask (count_in (take i nodes)) before first (length n.label) (all_inside n (IsIn-get_or nodes i d low))))
      ] refl

  pub whole_pairs : (k : ℕ) → count ≡ Some k → ArePairs nodes mask k
  whole_pairs k told =
      let is : k ≡ count_in nodes = (let P : Option ℕ → Type 0 = λ o. IfSome o (λ m. m ≡ count_in nodes) in subst P told was.counted) in
      let whole : take (length nodes) nodes ≡ nodes = take_all (length nodes) nodes (omega arith) in
      let P : List Node → Type 0 = λ ns. ArePairs ns mask (count_in ns) in
      let Q : ℕ → Type 0 = ArePairs nodes mask in
      subst Q (sym is) (subst P whole (pairs_of (length nodes) (omega arith)))

-- what has not the slot lies in the others
pub within_others : (E reach : Set ℕ) (slot : ℕ) → E ⊆ reach → (IsTrue (E slot) → ⊥) → E ⊆ (reach ∖ only slot)
within_others E reach slot within out k e =
    elim (k == slot) as (λ b. (k == slot) ≡ b → IsTrue (reach k && not b)) [
      | true ↦ λ same. absurd (out (subst (λ (n : ℕ). IsTrue (E n)) (eqb-true k slot same) e))
      | false ↦ λ _. and_from (reach k) true (within k e) refl
    ] refl
