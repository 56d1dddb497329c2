-- Linked lists, and what changes in them.
use Rattle.std.proofs.Common.{◌≡◌, ◌≢◌, ℕ, zero, suc, ◌+◌, ◌<◌, ◌≤◌, ◌⊎◌, inl, inr, true, false, ◌==◌, not, cond, IsTrue, true≢false, refl, sym, ap, subst, ◌∙◌, List, [], ◌∷◌, length, Option, Some, None, arith}
use Rattle.std.proofs.lemmas.Bool.{cases_lt, cases_eq}
use Rattle.std.proofs.lemmas.Bool.Decides.{nat_tests}
use Rattle.std.proofs.lemmas.List.{get_or_past}
use Rattle.environment_sets.specs.Lists.{IsIn, AreDistinct}
use Rattle.environment_sets.proofs.Listings.{IsIn-filter, IsIn-kept, IsRising-filter}
use Rattle.index_lists.specs.declared.lane.Place.{Place}
use Rattle.index_lists.specs.Lists.{first_of, next_in, without, list_at}
use Rattle.index_lists.specs.Links.{place_at, first_at, after_of, before_of, walk, keys_from, keys_at, lists_of, between, IsChain, AreLinked, IsPutInFront, IsCutOut}

pub none_is_no_some : {A : Type 0} (x : A) → None ≡ Some x → ⊥
none_is_no_some x e = cc

pub same_some : {A : Type 0} (x y : A) → Some x ≡ Some y → x ≡ y
same_some x y e = cc

-- taking one number away
pub without_absent : (key : ℕ) (keys : List ℕ) → (IsIn keys key → ⊥) → without key keys ≡ keys
without_absent key [] out = refl
without_absent key (k ∷ keys) out =
    elim (k == key) as (λ b. (k == key) ≡ b → cond (not b) (k ∷ without key keys) (without key keys) ≡ k ∷ keys) [
      | true ↦ λ is. let same : k ≡ key = grind (arith, nat_tests) in absurd (out (inl same))
      | false ↦ λ _. ap (λ (l : List ℕ). k ∷ l) (without_absent key keys (λ h. out (inr h)))
    ] refl

without_here : (key : ℕ) (keys : List ℕ) → without key (key ∷ keys) ≡ without key keys
without_here key keys = let is : (key == key) ≡ true = grind (arith, nat_tests) in ap (λ b. cond (not b) (key ∷ without key keys) (without key keys)) is

without_other : (key k : ℕ) (keys : List ℕ) → k ≢ key → without key (k ∷ keys) ≡ k ∷ without key keys
without_other key k keys ne = let out : (k == key) ≡ false = grind (arith, nat_tests) in ap (λ b. cond (not b) (k ∷ without key keys) (without key keys)) out

length-without : (key : ℕ) (keys : List ℕ) → AreDistinct keys → length keys ≤ length (without key keys) + 1
length-without key [] d = omega arith
length-without key (k ∷ keys) d = elim (cases_eq k key) [
  | inl e ↦
      let out : IsIn keys key → ⊥ = λ h. d.0 key h e in
      let same : without key (k ∷ keys) ≡ keys = ap (λ (j : ℕ). without key (j ∷ keys)) e ∙ (without_here key keys ∙ without_absent key keys out) in
      let long : length (without key (k ∷ keys)) ≡ length keys = ap (λ (l : List ℕ). length l) same in
      omega arith
  | inr ne ↦
      let rest : length keys ≤ length (without key keys) + 1 = length-without key keys d.1 in
      let long : length (without key (k ∷ keys)) ≡ length (k ∷ without key keys) = ap (λ (l : List ℕ). length l) (without_other key k keys ne) in
      omega arith
]

pub left_in : (key k : ℕ) (keys : List ℕ) → IsIn (without key keys) k → IsIn keys k
left_in key k keys h = (IsIn-filter (λ j. not (j == key)) keys k h).0

pub not_itself : (key : ℕ) (keys : List ℕ) → IsIn (without key keys) key → ⊥
not_itself key keys h =
    let is : (key == key) ≡ true = grind (arith, nat_tests) in
    let out : IsTrue (not (key == key)) = (IsIn-filter (λ j. not (j == key)) keys key h).1 in
    true≢false (sym out ∙ ap not is)

-- distinct numbers below n are at most n
few : (n : ℕ) (keys : List ℕ) → AreDistinct keys → ((k : ℕ) → IsIn keys k → k < n) → length keys ≤ n
few zero [] d below = omega arith
few zero (k ∷ keys) d below = let bad : k < 0 = below k (inl refl) in absurd (omega arith)
few (suc n) keys d below =
    let rest : length (without n keys) ≤ n =
    few n (without n keys) (IsRising-filter (λ k. not (k == n)) (λ x y. x ≡ y → ⊥) keys d)
    (λ k h. let low : k < suc n = below k (left_in n k keys h) in let ne : k ≢ n = (λ e. not_itself n keys (subst (λ (j : ℕ). IsIn (without n keys) j) e h)) in omega arith) in
    let more : length keys ≤ length (without n keys) + 1 = length-without n keys d in
    omega arith

module _ (places : List (Option Place)) where
  pub place_within : (k : ℕ) (p : Place) → place_at places k ≡ Some p → k < length places
  place_within k p at =
      elim (cases_lt k (length places)) [
        | inl low ↦ low
        | inr past ↦ absurd (none_is_no_some p (sym (get_or_past places k None past) ∙ at))
      ]

  -- a key of a chain stands in it
  pub stands_in : (h : ℕ) (c : Option ℕ) (keys : List ℕ) → IsChain places h c keys → (k : ℕ) → IsIn keys k → (b : Option ℕ) × (a : Option ℕ) × (place_at places k ≡ Some (between h b a))
  stands_in h c [] chain k i = absurd i
  stands_in h c (x ∷ keys) chain k (inl e) = (c, first_of keys, let P : ℕ → Type 0 = λ j. place_at places j ≡ Some (between h c (first_of keys)) in subst P e chain.0)
  stands_in h c (x ∷ keys) chain k (inr i) = stands_in h (Some x) keys chain.1 k i

  -- behind a key stand keys of its own chain
  before_in : (h x : ℕ) (keys : List ℕ) → IsChain places h (Some x) keys → (k : ℕ) → IsIn keys k → (w : ℕ) × (a : Option ℕ) × IsIn (x ∷ keys) w × (place_at places k ≡ Some (between h (Some w) a))
  before_in h x [] chain k i = absurd i
  before_in h x (y ∷ keys) chain k (inl e) = (x, first_of keys, inl refl, let P : ℕ → Type 0 = λ j. place_at places j ≡ Some (between h (Some x) (first_of keys)) in subst P e chain.0)
  before_in h x (y ∷ keys) chain k (inr i) = let r = before_in h y keys chain.1 k i in (r.0, r.1, inr r.2, r.3)

  distinct_behind : (h : ℕ) (c : Option ℕ) (keys : List ℕ) → IsChain places h c keys → ((z : ℕ) → c ≡ Some z → IsIn keys z → ⊥) → AreDistinct keys
  distinct_behind h c [] chain out = tt
  distinct_behind h c (x ∷ keys) chain out = (here, distinct_behind h (Some x) keys chain.1 (λ z e i. here z i (same_some x z e)))
    where
      here : (y : ℕ) → IsIn keys y → x ≡ y → ⊥
      here y i e =
          let r : (w : ℕ) × (a : Option ℕ) × IsIn (x ∷ keys) w × (place_at places y ≡ Some (between h (Some w) a)) = before_in h x keys chain.1 y i in
          let both : Some (between h c (first_of keys)) ≡ Some (between h (Some r.0) r.1) = sym chain.0 ∙ (ap (λ (j : ℕ). place_at places j) e ∙ r.3) in
          let same : c ≡ Some r.0 = ap (λ (p : Place). p.before) (same_some (between h c (first_of keys)) (between h (Some r.0) r.1) both) in
          out r.0 same r.2

  pub distinct : (h : ℕ) (keys : List ℕ) → IsChain places h None keys → AreDistinct keys
  distinct h keys chain = distinct_behind h None keys chain (λ z e i. none_is_no_some z e)

  walk_is : (h : ℕ) (c : Option ℕ) (keys : List ℕ) (n : ℕ) → IsChain places h c keys → length keys ≤ n → walk places n (first_of keys) ≡ keys
  walk_is h c [] zero chain low = refl
  walk_is h c [] (suc n) chain low = refl
  walk_is h c (x ∷ keys) zero chain low = absurd (omega (arith, low))
  walk_is h c (x ∷ keys) (suc n) chain low =
      ap (λ (l : List ℕ). x ∷ l) (ap (λ (o : Option Place). walk places n (after_of o)) chain.0 ∙ walk_is h (Some x) keys n chain.1 (omega (arith, low)))

  -- what is walked from the first key of a chain is the chain
  pub determined : (h : ℕ) (keys : List ℕ) → IsChain places h None keys → keys_from places (first_of keys) ≡ keys
  unfolding keys_from
  determined h keys chain =
      walk_is h None keys (length places) chain
      (few (length places) keys (distinct h keys chain) (λ k i. let r = stands_in h None keys chain k i in place_within k (between h r.0 r.1) r.2))

  pub none_from : keys_from places None ≡ []
  unfolding keys_from
  none_from = none_walked (length places)
    where
      none_walked : (n : ℕ) → walk places n None ≡ []
      none_walked zero = refl
      none_walked (suc n) = refl

-- what contracts see of a head
pub list_at-lists_of : (firsts : List (Option ℕ)) (places : List (Option Place)) (h : ℕ) → list_at (lists_of firsts places) h ≡ keys_at firsts places h
list_at-lists_of [] places h = sym (none_from places)
list_at-lists_of (f ∷ firsts) places zero = refl
list_at-lists_of (f ∷ firsts) places (suc h) = list_at-lists_of firsts places h

-- keys that stand where they stood are linked as they were
chain_alike : (old new : List (Option Place)) (h : ℕ) (c : Option ℕ) (keys : List ℕ) → ((k : ℕ) → IsIn keys k → place_at new k ≡ place_at old k) → IsChain old h c keys → IsChain new h c keys
chain_alike old new h c [] same chain = tt
chain_alike old new h c (x ∷ keys) same chain = (same x (inl refl) ∙ chain.0, chain_alike old new h (Some x) keys (λ k i. same k (inr i)) chain.1)

-- where each head has these keys, linked, these are what contracts see
pub record AreListed (firsts : List (Option ℕ)) (places : List (Option Place)) (L : ℕ → List ℕ) : Type 0 where
  pub linked : AreLinked firsts places
  pub keys : (h : ℕ) → list_at (lists_of firsts places) h ≡ L h

module _
    (firsts : List (Option ℕ)) (places : List (Option Place)) (L : ℕ → List ℕ) (chains : (h : ℕ) → IsChain places h None (L h)) (begins : (h : ℕ) → first_at firsts h ≡ first_of (L h))
    (stands : (k : ℕ) (p : Place) → place_at places k ≡ Some p → IsIn (L p.head) k)
  where
    is_walked : (h : ℕ) → keys_at firsts places h ≡ L h
    is_walked h = ap (keys_from places) (begins h) ∙ determined places h (L h) (chains h)

    pub relinked : AreListed firsts places L
    relinked = record {
      linked = record {
        chains = λ h. let P : List ℕ → Type 0 = λ l. IsChain places h None l in subst P (sym (is_walked h)) (chains h);
        begins = λ h. begins h ∙ ap first_of (sym (is_walked h));
        stands = λ k p at. let P : List ℕ → Type 0 = λ l. IsIn l k in subst P (sym (is_walked p.head)) (stands k p at);
      };
      keys = λ h. list_at-lists_of firsts places h ∙ is_walked h;
    }

-- where each first key and each place is as it was, each head has the keys that it had
pub alike :
    (firsts firsts' : List (Option ℕ)) (places places' : List (Option Place)) → ((h : ℕ) → first_at firsts' h ≡ first_at firsts h) → ((k : ℕ) → place_at places' k ≡ place_at places k) → AreLinked firsts places
    → AreListed firsts' places' (keys_at firsts places)
alike firsts firsts' places places' same_first same_place linked =
    relinked firsts' places' (keys_at firsts places) (λ h. chain_alike places places' h None (keys_at firsts places h) (λ k i. same_place k) (linked.chains h)) (λ h. same_first h ∙ linked.begins h)
    (λ k p at. linked.stands k p (sym (same_place k) ∙ at))

-- a key is put in front
module _
    (firsts firsts' : List (Option ℕ)) (old new : List (Option Place)) (key head : ℕ) (linked : AreLinked firsts old) (free : place_at old key ≡ None) (put : IsPutInFront old new key head (first_at firsts head))
    (here : first_at firsts' head ≡ Some key) (others : (h : ℕ) → h ≢ head → first_at firsts' h ≡ first_at firsts h)
  where
    abbrev Was : ℕ → List ℕ
    Was h = keys_at firsts old h

    abbrev Now : ℕ → List ℕ
    Now h = cond (h == head) (key ∷ Was h) (Was h)

    pub now_here : Now head ≡ key ∷ Was head
    now_here = let is : (head == head) ≡ true = grind (arith, nat_tests) in ap (λ b. cond b (key ∷ Was head) (Was head)) is

    pub now_other : (h : ℕ) → h ≢ head → Now h ≡ Was h
    now_other h ne = let out : (h == head) ≡ false = grind (arith, nat_tests) in ap (λ b. cond b (key ∷ Was h) (Was h)) out

    was_in : (h : ℕ) (k : ℕ) → IsIn (Was h) k → (b : Option ℕ) × (a : Option ℕ) × (place_at old k ≡ Some (between h b a))
    was_in h k i = stands_in old h None (Was h) (linked.chains h) k i

    not_key : (h : ℕ) (k : ℕ) → IsIn (Was h) k → k ≢ key
    not_key h k i e = let r = was_in h k i in none_is_no_some (between h r.0 r.1) (sym free ∙ (ap (λ (j : ℕ). place_at old j) (sym e) ∙ r.2))

    first_in : (k : ℕ) → first_at firsts head ≡ Some k → IsIn (Was head) k
    first_in k e = of (Was head) (sym (linked.begins head) ∙ e)
      where
        of : (keys : List ℕ) → first_of keys ≡ Some k → IsIn keys k
        of [] f = absurd (none_is_no_some k f)
        of (x ∷ keys) f = inl (same_some x k f)

    chain_here : (keys : List ℕ) → IsChain old head None keys → first_at firsts head ≡ first_of keys → ((k : ℕ) → IsIn keys k → k ≢ key) → IsChain new head None (key ∷ keys)
    chain_here [] chain e apart = (put.here ∙ ap (λ (o : Option ℕ). Some (between head None o)) e, tt)
    chain_here (x ∷ keys) chain e apart = (
      put.here ∙ ap (λ (o : Option ℕ). Some (between head None o)) e,
      (
        put.next x (between head None (first_of keys)) e chain.0,
        chain_alike old new head (Some x) keys
            (λ k i. put.others k (apart k (inr i)) (λ f. (distinct old head (x ∷ keys) chain).0 k i (same_some x k (sym e ∙ f))))
            chain.1,
      ),
    )

    chain_other : (h : ℕ) → h ≢ head → IsChain new h None (Was h)
    chain_other h ne = chain_alike old new h None (Was h) (λ k i. put.others k (not_key h k i) (λ f. apart k i (first_in k f))) (linked.chains h)
      where
        apart : (k : ℕ) → IsIn (Was h) k → IsIn (Was head) k → ⊥
        apart k i j =
            let r = was_in h k i in
            let s = was_in head k j in
            ne (ap (λ (p : Place). p.head) (same_some (between h r.0 r.1) (between head s.0 s.1) (sym r.2 ∙ s.2)))

    chains_now : (h : ℕ) → IsChain new h None (Now h)
    chains_now h = elim (cases_eq h head) [
      | inl e ↦
          let P : ℕ → Type 0 = λ j. IsChain new j None (Now j) in
          let Q : List ℕ → Type 0 = λ l. IsChain new head None l in
          subst P (sym e) (subst Q (sym now_here) (chain_here (Was head) (linked.chains head) (linked.begins head) (not_key head)))
      | inr ne ↦ let Q : List ℕ → Type 0 = λ l. IsChain new h None l in subst Q (sym (now_other h ne)) (chain_other h ne)
    ]

    begins_now : (h : ℕ) → first_at firsts' h ≡ first_of (Now h)
    begins_now h = elim (cases_eq h head) [
      | inl e ↦ let P : ℕ → Type 0 = λ j. first_at firsts' j ≡ first_of (Now j) in subst P (sym e) (here ∙ ap first_of (sym now_here))
      | inr ne ↦ others h ne ∙ (linked.begins h ∙ ap first_of (sym (now_other h ne)))
    ]

    kept_in : (h k : ℕ) → IsIn (Was h) k → IsIn (Now h) k
    kept_in h k i = elim (h == head) as (λ b. IsIn (cond b (key ∷ Was h) (Was h)) k) [ true ↦ inr i | false ↦ i ]

    stands_now : (k : ℕ) (p : Place) → place_at new k ≡ Some p → IsIn (Now p.head) k
    stands_now k p at = elim (cases_eq k key) [
      | inl e ↦
          let same : between head None (first_at firsts head) ≡ p = same_some (between head None (first_at firsts head)) p (sym put.here ∙ (ap (λ (j : ℕ). place_at new j) (sym e) ∙ at)) in
          let P : Place → Type 0 = λ q. IsIn (Now q.head) k in
          let Q : List ℕ → Type 0 = λ l. IsIn l k in
          subst P same (subst Q (sym now_here) (inl (sym e)))
      | inr ne ↦ elim (first_or_not (first_at firsts head) k) [
        | inl f ↦
            let r = was_in head k (first_in k f) in
            let same : between head (Some key) r.1 ≡ p = same_some (between head (Some key) r.1) p (sym (put.next k (between head r.0 r.1) f r.2) ∙ at) in
            let P : Place → Type 0 = λ q. IsIn (Now q.head) k in
            subst P same (kept_in head k (first_in k f))
        | inr nf ↦ kept_in p.head k (linked.stands k p (sym (put.others k ne nf) ∙ at))
      ]
    ]
      where
        first_or_not : (o : Option ℕ) (k : ℕ) → (o ≡ Some k) ⊎ (o ≡ Some k → ⊥)
        first_or_not None k = inr (λ e. none_is_no_some k e)
        first_or_not (Some j) k = elim (cases_eq j k) [ inl e ↦ inl (ap (λ (n : ℕ). Some n) e) | inr ne ↦ inr (λ e. ne (same_some j k e)) ]

    pub put_in_front : AreListed firsts' new Now
    put_in_front = relinked firsts' new Now chains_now begins_now stands_now

pub first_in_it : (keys : List ℕ) (k : ℕ) → first_of keys ≡ Some k → IsIn keys k
first_in_it [] k f = absurd (none_is_no_some k f)
first_in_it (x ∷ keys) k f = inl (same_some x k f)

-- what comes after a key of a chain
pub next_is : (places : List (Option Place)) (h key : ℕ) (b a : Option ℕ) (c : Option ℕ) (keys : List ℕ) → IsChain places h c keys → IsIn keys key → place_at places key ≡ Some (between h b a) → next_in keys key ≡ a
next_is places h key b a c [] chain i at = absurd i
next_is places h key b a c (x ∷ keys) chain i at =
    elim (x == key) as (λ t. (x == key) ≡ t → cond t (first_of keys) (next_in keys key) ≡ a) [
      | true ↦ λ is.
          let e : x ≡ key = grind (arith, nat_tests) in
          ap (λ (p : Place). p.after) (same_some (between h c (first_of keys)) (between h b a) (sym chain.0 ∙ (ap (λ (j : ℕ). place_at places j) e ∙ at)))
      | false ↦ λ out. elim i [
        | inl e ↦ let is : (x == key) ≡ true = grind (arith, nat_tests) in absurd (true≢false (sym is ∙ out))
        | inr j ↦ next_is places h key b a (Some x) keys chain.1 j at
      ]
    ] refl

-- no key stands beside itself
pub record IsApart (key : ℕ) (b a : Option ℕ) : Type 0 where
  pub not_before : b ≡ Some key → ⊥
  pub not_after : a ≡ Some key → ⊥

pub not_beside_itself :
    (places : List (Option Place)) (h key : ℕ) (b a : Option ℕ) (c : Option ℕ) (keys : List ℕ) → IsChain places h c keys → AreDistinct keys → IsIn keys key → ((z : ℕ) → c ≡ Some z → IsIn keys z → ⊥)
    → place_at places key ≡ Some (between h b a) → IsApart key b a
not_beside_itself places h key b a c [] chain d i apart at = absurd i
not_beside_itself places h key b a c (x ∷ keys) chain d (inl e) apart at =
    let same : between h c (first_of keys) ≡ between h b a = same_some (between h c (first_of keys)) (between h b a) (sym chain.0 ∙ (ap (λ (j : ℕ). place_at places j) e ∙ at)) in
    record {
      not_before = λ f. apart key (ap (λ (p : Place). p.before) same ∙ f) (inl e);
      not_after = λ g. d.0 key (first_in_it keys key (ap (λ (p : Place). p.after) same ∙ g)) e;
    }
not_beside_itself places h key b a c (x ∷ keys) chain d (inr i) apart at = not_beside_itself places h key b a (Some x) keys chain.1 d.1 i (λ z e j. d.0 z j (same_some x z e)) at

-- the neighbours of a key stand in its list
module _ (places : List (Option Place)) (h k w : ℕ) where
  -- what stands before a key has it behind
  pub before_has_it :
      (c : Option ℕ) (keys : List ℕ) → IsChain places h c keys → IsIn keys k → (a : Option ℕ) → place_at places k ≡ Some (between h (Some w) a)
      → ((c ≡ Some w) × (first_of keys ≡ Some k)) ⊎ (IsIn keys w × (after_of (place_at places w) ≡ Some k))
  before_has_it c [] chain i a at = absurd i
  before_has_it c (x ∷ keys) chain (inl e) a at =
      inl (ap (λ (p : Place). p.before) (same_some (between h c (first_of keys)) (between h (Some w) a) (sym chain.0 ∙ (ap (λ (j : ℕ). place_at places j) e ∙ at))), ap (λ (j : ℕ). Some j) e)
  before_has_it c (x ∷ keys) chain (inr i) a at = elim (before_has_it (Some x) keys chain.1 i a at) [
    | inl e ↦ inr (inl (same_some x w e.0), ap (λ (j : ℕ). after_of (place_at places j)) (sym (same_some x w e.0)) ∙ (ap after_of chain.0 ∙ e.1))
    | inr f ↦ inr (inr f.0, f.1)
  ]

  -- what stands behind a key has it before
  pub after_has_it : (c : Option ℕ) (keys : List ℕ) → IsChain places h c keys → IsIn keys k → (b : Option ℕ) → place_at places k ≡ Some (between h b (Some w)) → IsIn keys w × (before_of (place_at places w) ≡ Some k)
  after_has_it c [] chain i b at = absurd i
  after_has_it c (x ∷ []) chain (inl e) b at =
      absurd (none_is_no_some w (ap (λ (p : Place). p.after) (same_some (between h c None) (between h b (Some w)) (sym chain.0 ∙ (ap (λ (j : ℕ). place_at places j) e ∙ at)))))
  after_has_it c (x ∷ y ∷ keys) chain (inl e) b at =
      let next : Some y ≡ Some w = ap (λ (p : Place). p.after) (same_some (between h c (Some y)) (between h b (Some w)) (sym chain.0 ∙ (ap (λ (j : ℕ). place_at places j) e ∙ at))) in
      let same : y ≡ w = same_some y w next in
      (inr (inl same), ap (λ (j : ℕ). before_of (place_at places j)) (sym same) ∙ (ap before_of chain.1.0 ∙ ap (λ (j : ℕ). Some j) e))
  after_has_it c (x ∷ keys) chain (inr i) b at = let r = after_has_it (Some x) keys chain.1 i b at in (inr r.0, r.1)

this_or_not : (o : Option ℕ) (k : ℕ) → (o ≡ Some k) ⊎ (o ≡ Some k → ⊥)
this_or_not None k = inr (λ e. none_is_no_some k e)
this_or_not (Some j) k = elim (cases_eq j k) [ inl e ↦ inl (ap (λ (n : ℕ). Some n) e) | inr ne ↦ inr (λ e. ne (same_some j k e)) ]

-- a key is cut out
module _
    (firsts firsts' : List (Option ℕ)) (old new : List (Option Place)) (key head : ℕ) (before after : Option ℕ) (linked : AreLinked firsts old) (stood : place_at old key ≡ Some (between head before after))
    (cut : IsCutOut old new key before after) (top : before ≡ None → first_at firsts' head ≡ after) (kept : (z : ℕ) → before ≡ Some z → first_at firsts' head ≡ first_at firsts head)
    (others : (h : ℕ) → h ≢ head → first_at firsts' h ≡ first_at firsts h)
  where
    abbrev Stood : ℕ → List ℕ
    Stood h = keys_at firsts old h

    abbrev Left : ℕ → List ℕ
    Left h = without key (Stood h)

    stood_in : (h : ℕ) (k : ℕ) → IsIn (Stood h) k → (b : Option ℕ) × (a : Option ℕ) × (place_at old k ≡ Some (between h b a))
    stood_in h k i = stands_in old h None (Stood h) (linked.chains h) k i

    pub key_in : IsIn (Stood head) key
    key_in = linked.stands key (between head before after) stood

    one_head : (h k : ℕ) → IsIn (Stood h) k → IsIn (Stood head) k → h ≡ head
    one_head h k i j =
        let r = stood_in h k i in
        let s = stood_in head k j in
        ap (λ (p : Place). p.head) (same_some (between h r.0 r.1) (between head s.0 s.1) (sym r.2 ∙ s.2))

    back_key : (w : ℕ) → before ≡ Some w → IsIn (Stood head) w × (after_of (place_at old w) ≡ Some key)
    back_key w e =
        let at : place_at old key ≡ Some (between head (Some w) after) = stood ∙ ap (λ (o : Option ℕ). Some (between head o after)) e in
        elim (before_has_it old head key w None (Stood head) (linked.chains head) key_in after at) [ inl bad ↦ absurd (none_is_no_some w bad.0) | inr r ↦ r ]

    front_key : (w : ℕ) → after ≡ Some w → IsIn (Stood head) w × (before_of (place_at old w) ≡ Some key)
    front_key w e = after_has_it old head key w None (Stood head) (linked.chains head) key_in before (stood ∙ ap (λ (o : Option ℕ). Some (between head before o)) e)

    joined :
        (keys : List ℕ) → IsChain old head (Some key) keys → after ≡ first_of keys → AreDistinct keys → (IsIn keys key → ⊥) → ((k : ℕ) → before ≡ Some k → IsIn keys k → ⊥)
        → IsChain new head before keys
    joined [] chain e d out apart = tt
    joined (z ∷ keys) chain e d out apart = (
      cut.back z (between head (Some key) (first_of keys)) e (λ f. apart z f (inl refl)) chain.0,
      chain_alike old new head (Some z) keys
          (λ k i. cut.others k (λ s. out (inr (subst (λ (j : ℕ). IsIn keys j) s i))) (λ f. apart k f (inr i)) (λ f. d.0 k i (same_some z k (sym e ∙ f))))
          chain.1,
    )

    -- the key is the first of these
    module _ (c : Option ℕ) (x : ℕ) (keys : List ℕ) (chain : IsChain old head c (x ∷ keys)) (d : AreDistinct (x ∷ keys)) (e : x ≡ key) where
      here_is : between head c (first_of keys) ≡ between head before after
      here_is = same_some (between head c (first_of keys)) (between head before after) (sym chain.0 ∙ (ap (λ (j : ℕ). place_at old j) e ∙ stood))

      c_is : c ≡ before
      c_is = ap (λ (p : Place). p.before) here_is

      after_is : first_of keys ≡ after
      after_is = ap (λ (p : Place). p.after) here_is

      not_later : IsIn keys key → ⊥
      not_later j = d.0 key j e

      left_is : without key (x ∷ keys) ≡ keys
      left_is = ap (λ (j : ℕ). without key (j ∷ keys)) e ∙ (without_here key keys ∙ without_absent key keys not_later)

    apart_neighbours : (c : Option ℕ) (keys : List ℕ) → IsChain old head c keys → AreDistinct keys → IsIn keys key → ((z : ℕ) → c ≡ Some z → IsIn keys z → ⊥) → (k : ℕ) → before ≡ Some k → after ≡ Some k → ⊥
    apart_neighbours c [] chain d i apart k f g = absurd i
    apart_neighbours c (x ∷ keys) chain d (inl e) apart k f g = apart k (c_is c x keys chain d e ∙ f) (inr (first_in_it keys k (after_is c x keys chain d e ∙ g)))
    apart_neighbours c (x ∷ keys) chain d (inr i) apart k f g = apart_neighbours (Some x) keys chain.1 d.1 i (λ z e j. d.0 z j (same_some x z e)) k f g

    next_place :
        (c : Option ℕ) (x : ℕ) (keys : List ℕ) → IsChain old head c (x ∷ keys) → AreDistinct (x ∷ keys) → x ≢ key → IsIn keys key → (c ≡ Some key → ⊥)
        → place_at new x ≡ Some (between head c (first_of (without key keys)))
    next_place c x [] chain d ne i out = absurd i
    next_place c x (y ∷ keys) chain d ne i out = elim (cases_eq y key) [
      | inl f ↦
          let b : Some x ≡ before = c_is (Some x) y keys chain.1 d.1 f in
          let a : first_of keys ≡ after = after_is (Some x) y keys chain.1 d.1 f in
          let left : without key (y ∷ keys) ≡ keys = left_is (Some x) y keys chain.1 d.1 f in
          cut.front x (between head c (Some y)) (sym b) (λ g. d.0 x (inr (first_in_it keys x (a ∙ g))) refl) chain.0 ∙ ap (λ (o : Option ℕ). Some (between head c o)) (sym a ∙ ap first_of (sym left))
      | inr nf ↦
          let not_back : before ≡ Some x → ⊥ = λ g. nf (same_some y key (sym (ap after_of chain.0) ∙ (back_key x g).1)) in
          let not_front : after ≡ Some x → ⊥ = λ g. out (sym (ap before_of chain.0) ∙ (front_key x g).1) in
          cut.others x ne not_back not_front ∙ (chain.0 ∙ ap (λ (l : List ℕ). Some (between head c (first_of l))) (sym (without_other key y keys nf)))
    ]

    cut_chain : (c : Option ℕ) (keys : List ℕ) → IsChain old head c keys → AreDistinct keys → IsIn keys key → ((z : ℕ) → c ≡ Some z → IsIn keys z → ⊥) → IsChain new head c (without key keys)
    cut_chain c [] chain d i apart = absurd i
    cut_chain c (x ∷ keys) chain d i apart = elim (cases_eq x key) [
      | inl e ↦
          let b : c ≡ before = c_is c x keys chain d e in
          let P : ℕ → Type 0 = λ j. IsChain old head (Some j) keys in
          let r : IsChain new head before keys = joined keys (subst P e chain.1) (sym (after_is c x keys chain d e)) d.1 (not_later c x keys chain d e) (λ k f j. apart k (b ∙ f) (inr j)) in
          let Q : Option ℕ → Type 0 = λ o. IsChain new head o keys in
          let R : List ℕ → Type 0 = λ l. IsChain new head c l in
          subst R (sym (left_is c x keys chain d e)) (subst Q (sym b) r)
      | inr ne ↦
          let later : IsIn keys key = elim i [ inl e ↦ absurd (ne e) | inr j ↦ j ] in
          let R : List ℕ → Type 0 = λ l. IsChain new head c l in
          subst R (sym (without_other key x keys ne))
          (next_place c x keys chain d ne later (λ f. apart key f (inr later)), cut_chain (Some x) keys chain.1 d.1 later (λ z e j. d.0 z j (same_some x z e)))
    ]

    first_left : (keys : List ℕ) → IsChain old head None keys → AreDistinct keys → IsIn keys key → first_at firsts head ≡ first_of keys → first_at firsts' head ≡ first_of (without key keys)
    first_left [] chain d i f = absurd i
    first_left (x ∷ keys) chain d i f = elim (cases_eq x key) [
      | inl e ↦ top (sym (c_is None x keys chain d e)) ∙ (sym (after_is None x keys chain d e) ∙ ap first_of (sym (left_is None x keys chain d e)))
      | inr ne ↦
          let later : IsIn keys key = elim i [ inl e ↦ absurd (ne e) | inr j ↦ j ] in
          let r = before_in old head x keys chain.1 key later in
          let b : Some r.0 ≡ before = ap (λ (p : Place). p.before) (same_some (between head (Some r.0) r.1) (between head before after) (sym r.3 ∙ stood)) in
          kept r.0 (sym b) ∙ (f ∙ ap first_of (sym (without_other key x keys ne)))
    ]

    elsewhere : (h : ℕ) → h ≢ head → IsIn (Stood h) key → ⊥
    elsewhere h ne i = ne (one_head h key i key_in)

    pub left_other : (h : ℕ) → h ≢ head → Left h ≡ Stood h
    left_other h ne = without_absent key (Stood h) (elsewhere h ne)

    chain_elsewhere : (h : ℕ) → h ≢ head → IsChain new h None (Stood h)
    chain_elsewhere h ne = chain_alike old new h None (Stood h)
        (λ k i. cut.others k (λ e. elsewhere h ne (subst (λ (j : ℕ). IsIn (Stood h) j) e i)) (λ f. ne (one_head h k i (back_key k f).0)) (λ f. ne (one_head h k i (front_key k f).0))) (linked.chains h)

    head_distinct : AreDistinct (Stood head)
    head_distinct = distinct old head (Stood head) (linked.chains head)

    chains_left : (h : ℕ) → IsChain new h None (Left h)
    chains_left h = elim (cases_eq h head) [
      | inl e ↦ let P : ℕ → Type 0 = λ j. IsChain new j None (Left j) in subst P (sym e) (cut_chain None (Stood head) (linked.chains head) head_distinct key_in (λ z f i. none_is_no_some z f))
      | inr ne ↦ let Q : List ℕ → Type 0 = λ l. IsChain new h None l in subst Q (sym (left_other h ne)) (chain_elsewhere h ne)
    ]

    begins_left : (h : ℕ) → first_at firsts' h ≡ first_of (Left h)
    begins_left h = elim (cases_eq h head) [
      | inl e ↦ let P : ℕ → Type 0 = λ j. first_at firsts' j ≡ first_of (Left j) in subst P (sym e) (first_left (Stood head) (linked.chains head) head_distinct key_in (linked.begins head))
      | inr ne ↦ others h ne ∙ (linked.begins h ∙ ap first_of (sym (left_other h ne)))
    ]

    stays_in : (h k : ℕ) → k ≢ key → IsIn (Stood h) k → IsIn (Left h) k
    stays_in h k ne i = IsIn-kept (λ j. not (j == key)) (Stood h) k i (let out : (k == key) ≡ false = grind (arith, nat_tests) in ap not out)

    stands_left : (k : ℕ) (p : Place) → place_at new k ≡ Some p → IsIn (Left p.head) k
    stands_left k p at =
        let ne : k ≢ key = λ e. none_is_no_some p (sym cut.gone ∙ (ap (λ (j : ℕ). place_at new j) (sym e) ∙ at)) in
        let apart = apart_neighbours None (Stood head) (linked.chains head) head_distinct key_in (λ z f i. none_is_no_some z f) in
        let P : Place → Type 0 = λ q. IsIn (Left q.head) k in
        elim (this_or_not before k) [
          | inl f ↦
              let r = stood_in head k (back_key k f).0 in
              let same : between head r.0 after ≡ p = same_some (between head r.0 after) p (sym (cut.front k (between head r.0 r.1) f (λ g. apart k f g) r.2) ∙ at) in
              subst P same (stays_in head k ne (back_key k f).0)
          | inr nf ↦ elim (this_or_not after k) [
            | inl g ↦
                let r = stood_in head k (front_key k g).0 in
                let same : between head before r.1 ≡ p = same_some (between head before r.1) p (sym (cut.back k (between head r.0 r.1) g nf r.2) ∙ at) in
                subst P same (stays_in head k ne (front_key k g).0)
            | inr ng ↦ stays_in p.head k ne (linked.stands k p (sym (cut.others k ne nf ng) ∙ at))
          ]
        ]

    pub cut_out : AreListed firsts' new Left
    cut_out = relinked firsts' new Left chains_left begins_left stands_left
