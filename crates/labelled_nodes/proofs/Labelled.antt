-- The labels of lists of nodes.
use Rattle.std.proofs.Common.{◌≡◌, ℕ, zero, suc, ◌+◌, ◌<◌, ◌≤◌, ◌⊎◌, inl, inr, Bool, true, false, ◌==◌, cond, nat_lt, IsTrue, true≢false, refl, sym, ap, ap₂, subst, ◌∙◌, List, [], ◌∷◌, ◌++◌, length, take, drop, get_or, set, position, Option, Some, None, IsSome, MatchOption, arith}
use Rattle.std.proofs.lemmas.Bool.{and_from, and_parts, eqb-true, eq-eqb}
use Rattle.std.specs.Option.{option_map, is_some}
use Rattle.std.specs.List.{find, list_any, position_or_len, slice_get}
use Rattle.std.proofs.lemmas.Bool.Decides.{nat_tests}
use Rattle.std.proofs.lemmas.Option.{slice_get-map, slice_get-get_or}
use Rattle.std.proofs.lemmas.List.{take_more, take_more_set, drop_more, drop-set-lt}
use Rattle.std.proofs.lemmas.List.Sums.{position_or_len_is}
use Rattle.std.proofs.lemmas.List.Folds.{find_at, find-set, find_past}
use Rattle.std.proofs.lemmas.Option.{slice_get_past, slice_get-get_or, slice_get_within, get_or_from_slice_get}
use Rattle.std.proofs.lemmas.List.Quantifiers.{position-Some}
use Rattle.circuit_model.specs.declared.model.Cell.{Cell}
use Rattle.circuit_model.specs.declared.model.Fact.{Fact}
use Rattle.circuit_model.specs.Closure.{fact}
use Rattle.circuit_model.specs.Present.{is_cell}
use Rattle.circuit_model.proofs.SameCells.{same_cell, cell_itself}
use Rattle.environment_sets.specs.declared.environment.Env.{Env}
use Rattle.environment_sets.specs.declared.environment.TheConstants.{SLOTS}
use Rattle.environment_sets.specs.Sets.{Set, ◌⊆◌, is_within}
use Rattle.environment_sets.specs.Members.{members, HasMember}
use Rattle.environment_sets.proofs.Slots.{slots_are_below}
use Rattle.environment_sets.proofs.Within.{within_holds, holds_within}
use Rattle.environment_sets.specs.Lists.{IsIn, AreDistinct}
use Rattle.environment_sets.proofs.Membership.{IsIn-append, IsIn-left, IsIn-right, IsIn-slice_get, list_any-IsIn, IsIn-list_any, map-IsIn}
use Rattle.environment_sets.specs.Families.{Drops}
use Rattle.labelled_nodes.specs.declared.node.Node.{Node}
use Rattle.fact_index.specs.Listed.{HasFactsAt}
use Rattle.labelled_nodes.specs.Nodes.{is_same, facts_of, AreFactsAt, IsMet, envs_of, label_in, EachDrops, AreDropped}

pub same_fact : (f g : Fact) → IsTrue (is_same f g) → f ≡ g
same_fact f g h = let parts : IsTrue (is_cell f.cell g.cell) × IsTrue (f.value == g.value) = and_parts _ (f.value == g.value) h in ap₂ fact (same_cell f.cell g.cell parts.0) (eqb-true f.value g.value parts.1)

pub fact_same : (f : Fact) → IsTrue (is_same f f)
fact_same f = and_from _ _ (cell_itself f.cell) (eq-eqb f.value f.value refl)

pub fact_same_of : (f g : Fact) → f ≡ g → IsTrue (is_same f g)
fact_same_of f g e = let P : Fact → Type 0 = λ x. IsTrue (is_same f x) in subst P e (fact_same f)

pub same_or_not : (f g : Fact) → (f ≡ g) ⊎ (f ≡ g → ⊥)
same_or_not f g =
    elim (is_same f g) as (λ b. is_same f g ≡ b → (f ≡ g) ⊎ (f ≡ g → ⊥)) [
      | true ↦ λ is. inl (same_fact f g is)
      | false ↦ λ out. inr (λ e. true≢false (sym (fact_same_of f g e) ∙ out))
    ] refl

pub inside_or_not : (e : Env) (F : Set ℕ) → (members e ⊆ F) ⊎ (members e ⊆ F → ⊥)
inside_or_not e F =
    elim (is_within SLOTS (members e) F) as (λ b. is_within SLOTS (members e) F ≡ b → (members e ⊆ F) ⊎ (members e ⊆ F → ⊥)) [
      | true ↦ λ is. inl (within_holds SLOTS (members e) F (slots_are_below e) is)
      | false ↦ λ out. inr (λ within. true≢false (sym (holds_within SLOTS (members e) F within) ∙ out))
    ] refl

abbrev pub is_at : Fact → Node → Bool
is_at f n = is_same n.fact f

-- the place of a fact's node
module _ (nodes : List Node) (f : Fact) where
  abbrev place : ℕ
  place = position_or_len (is_at f) nodes

  found_at : (i : ℕ) → position (is_at f) nodes ≡ Some i → (place ≡ i) × (i < length nodes)
  found_at i e =
      elim (nat_lt place (length nodes)) as (λ b. nat_lt place (length nodes) ≡ b → cond b (Some place) None ≡ Some i → (place ≡ i) × (i < length nodes)) [
        | true ↦ λ low h. let same : place ≡ i = cc in (same, (let P : ℕ → Type 0 = λ k. k < length nodes in let less : place < length nodes = grind (arith, nat_tests) in subst P same less))
        | false ↦ λ _ h. absurd (cc)
      ] refl e

  pub label_at : (i : ℕ) (d : Node) → position (is_at f) nodes ≡ Some i → label_in nodes f ≡ (get_or nodes i d).label
  label_at i d e =
      let at : (place ≡ i) × (i < length nodes) = found_at i e in
      ap envs_of (find_at (is_at f) nodes ∙ (ap (λ k. slice_get nodes k) at.0 ∙ slice_get-get_or nodes i d at.1))

  pub label_none : position (is_at f) nodes ≡ None → label_in nodes f ≡ []
  label_none e =
      elim (nat_lt place (length nodes)) as (λ b. nat_lt place (length nodes) ≡ b → cond b (Some place) None ≡ None → label_in nodes f ≡ []) [
        | true ↦ λ _ h. absurd (let bad : Some place ≡ None = h in cc)
        | false ↦ λ high _. let past : length nodes ≤ place = grind (arith, nat_tests) in ap envs_of (find_at (is_at f) nodes ∙ slice_get_past nodes place past)
      ] refl e

  -- another node with the same fact stands in its place
  module _ (i : ℕ) (d y : Node) (at : position (is_at f) nodes ≡ Some i) (same : y.fact ≡ (get_or nodes i d).fact) where
    y_is : IsTrue (is_at f y)
    y_is = let P : Fact → Type 0 = λ g. IsTrue (is_same g f) in subst P (sym same) (position-Some (is_at f) nodes i d at).1

    pub label_there : label_in (set nodes i y) f ≡ y.label
    label_there = let p : (place ≡ i) × (i < length nodes) = found_at i at in ap envs_of (find-set (is_at f) nodes i y (sym p.0) p.1 y_is)

    pub label_elsewhere : (g : Fact) → (f ≡ g → ⊥) → label_in (set nodes i y) g ≡ label_in nodes g
    label_elsewhere g differ =
        let yf : y.fact ≡ f = same_fact y.fact f y_is in
        let out : is_at g y ≡ false = elim (is_same y.fact g) as (λ b. is_same y.fact g ≡ b → b ≡ false) [ true ↦ λ is. absurd (differ (sym yf ∙ same_fact y.fact g is)) | false ↦ λ _. refl ] refl in
        let before : is_at g (get_or nodes i d) ≡ false = (let P : Fact → Type 0 = λ x. is_same x g ≡ false in subst P same out) in
        ap envs_of (find_past (is_at g) nodes i y d before out)

pub met_has_place : (nodes : List Node) (f : Fact) → IsMet nodes f → IsSome (position (is_at f) nodes)
met_has_place nodes f h =
    elim (nat_lt (position_or_len (is_at f) nodes) (length nodes)) as (λ b. nat_lt (position_or_len (is_at f) nodes) (length nodes) ≡ b → IsSome (cond b (Some (position_or_len (is_at f) nodes)) None)) [
      | true ↦ λ _. refl
      | false ↦ λ high. absurd (let past : length nodes ≤ position_or_len (is_at f) nodes = grind (arith, nat_tests) in none_there nodes h (find_at (is_at f) nodes ∙ slice_get_past nodes (position_or_len (is_at f) nodes) past))
    ] refl
  where
    none_there : (ns : List Node) → IsIn (facts_of ns) f → find (is_at f) ns ≡ None → ⊥
    none_there [] a e = a
    none_there (n ∷ ns) a e =
        elim (is_same n.fact f) as (λ b. is_same n.fact f ≡ b → ⊥) [
          | true ↦ λ is. let found : find (is_at f) (n ∷ ns) ≡ Some n = rw is refl in let bad : Some n ≡ None = sym found ∙ e in cc
          | false ↦ λ out. elim a [
            | inl same ↦ true≢false (sym (fact_same_of n.fact f same) ∙ out)
            | inr later ↦ none_there ns later (let g : find (is_at f) (n ∷ ns) ≡ find (is_at f) ns = rw out refl in sym g ∙ e)
          ]
        ] refl

-- no fact has two nodes, by places
abbrev pub AreOnce : List Node → Type 0
AreOnce nodes = (i j : ℕ) (f : Fact) → i < j → slice_get (facts_of nodes) i ≡ Some f → slice_get (facts_of nodes) j ≡ Some f → ⊥

-- facts that differ have no two nodes
pub once_from : (nodes : List Node) → AreDistinct (facts_of nodes) → AreOnce nodes
once_from [] d i j f before one other = absurd (cc)
once_from (x ∷ xs) d i zero f before one other = absurd (omega (arith, before))
once_from (x ∷ xs) d zero (suc j) f before one other = let same : x.fact ≡ f = cc in d.0 f (IsIn-slice_get (facts_of xs) j f other) same
once_from (x ∷ xs) d (suc i) (suc j) f before one other = once_from xs d.1 i j f (omega (arith, before)) one other

module _ (nodes : List Node) (f : Fact) (i : ℕ) (n : Node) (there : slice_get nodes i ≡ Some n) (here : IsTrue (is_same n.fact f)) where
  pub only_place : AreOnce nodes → position (is_at f) nodes ≡ Some i
  only_place once =
      let inside : i < length nodes = slice_get_within nodes i n there in
      let low : nat_lt i (length nodes) ≡ true = grind (arith, nat_tests) in
      let P : Node → Type 0 = λ m. is_at f m ≡ true in
      let first : position_or_len (is_at f) nodes ≡ i =
      position_or_len_is (is_at f) nodes i n (omega (arith, inside))
      (λ k before. elim (is_at f (get_or nodes k n)) as (λ b. is_at f (get_or nodes k n) ≡ b → b ≡ false) [
        | true ↦ λ is. absurd (once k i f before
            (slice_get-map (λ (m : Node). m.fact) nodes k ∙ (ap (option_map (λ (m : Node). m.fact)) (slice_get-get_or nodes k n (omega (arith, before, inside))) ∙ ap (λ g. Some g) (same_fact (get_or nodes k n).fact f is)))
            (slice_get-map (λ (m : Node). m.fact) nodes i ∙ (ap (option_map (λ (m : Node). m.fact)) there ∙ ap (λ g. Some g) (same_fact n.fact f here))))
        | false ↦ λ _. refl
      ] refl)
      (λ _. subst P (sym (get_or_from_slice_get nodes i n n there)) here) in
      ap (λ k. cond (nat_lt k (length nodes)) (Some k) None) first ∙ ap (λ b. cond b (Some i) None) low

  pub some_place : list_any (is_at f) nodes ≡ true
  some_place = list_any-IsIn (is_at f) nodes n (IsIn-slice_get nodes i n there) here

-- the node at the place of a fact
pub node_at : (nodes : List Node) (i : ℕ) (f : Fact) → slice_get (facts_of nodes) i ≡ Some f → (n : Node) × (slice_get nodes i ≡ Some n) × (n.fact ≡ f)
node_at [] i f at = absurd (cc)
node_at (n ∷ nodes) zero f at = (n, refl, cc)
node_at (n ∷ nodes) (suc i) f at = node_at nodes i f at

-- what the index answers is the place of the fact's node
module _ (nodes : List Node) (f : Fact) where
  place_is : AreOnce nodes → (o : Option ℕ) → MatchOption o (IsMet nodes f → ⊥) (λ i. slice_get (facts_of nodes) i ≡ Some f) → o ≡ position (is_at f) nodes
  place_is once (Some i) there = let n : (n : Node) × (slice_get nodes i ≡ Some n) × (n.fact ≡ f) = node_at nodes i f there in sym (only_place nodes f i n.0 n.1 (fact_same_of n.0.fact f n.2) once)
  place_is once None unmet =
      elim (position (is_at f) nodes) as (λ o. position (is_at f) nodes ≡ o → None ≡ o) [
        | None ↦ λ _. refl
        | Some i ↦ λ at. absurd (unmet (met_at i at))
      ] refl
    where
      met_at : (i : ℕ) → position (is_at f) nodes ≡ Some i → IsMet nodes f
      met_at i at =
          let none : Node = record { fact = f; label = [] } in
          let found : (i < length nodes) × (is_at f (get_or nodes i none) ≡ true) × ((k : ℕ) → k < i → is_at f (get_or nodes k none) ≡ false) = position-Some (is_at f) nodes i none at in
          let here : IsIn nodes (get_or nodes i none) = IsIn-slice_get nodes i (get_or nodes i none) (slice_get-get_or nodes i none found.0) in
          subst (IsIn (facts_of nodes)) (same_fact (get_or nodes i none).fact f found.1) (map-IsIn (λ (n : Node). n.fact) nodes (get_or nodes i none) here)

  met_is : (o : Option ℕ) → MatchOption o (IsMet nodes f → ⊥) (λ i. slice_get (facts_of nodes) i ≡ Some f) → is_some o ≡ list_any (is_at f) nodes
  met_is (Some i) there = let n : (n : Node) × (slice_get nodes i ≡ Some n) × (n.fact ≡ f) = node_at nodes i f there in sym (some_place nodes f i n.0 n.1 (fact_same_of n.0.fact f n.2))
  met_is None unmet =
      elim (list_any (is_at f) nodes) as (λ b. list_any (is_at f) nodes ≡ b → false ≡ b) [
        | false ↦ λ _. refl
        | true ↦ λ any.
            let n : (n : Node) × IsIn nodes n × IsTrue (is_at f n) = IsIn-list_any (is_at f) nodes any in
            absurd (unmet (subst (IsIn (facts_of nodes)) (same_fact n.0.fact f n.2) (map-IsIn (λ (n : Node). n.fact) nodes n.0 n.1)))
      ] refl

-- the same of the facts that the index lists, and of the nodes that contracts see
module _ (nodes now : List Node) (facts : List Fact) (same : facts ≡ facts_of nodes) (seen : nodes ≡ now) (f : Fact) (o : Option ℕ) (found : MatchOption o (IsIn facts f → ⊥) (λ i. slice_get facts i ≡ Some f)) where
  of_nodes : MatchOption o (IsMet nodes f → ⊥) (λ i. slice_get (facts_of nodes) i ≡ Some f)
  of_nodes = subst (λ (fs : List Fact). MatchOption o (IsIn fs f → ⊥) (λ i. slice_get fs i ≡ Some f)) same found

  pub found_place : AreDistinct (facts_of nodes) → o ≡ position (is_at f) now
  found_place once = subst (λ (l : List Node). o ≡ position (is_at f) l) seen (place_is nodes f (once_from nodes once) o of_nodes)

  pub found_any : is_some o ≡ list_any (is_at f) now
  found_any = subst (λ (l : List Node). is_some o ≡ list_any (is_at f) l) seen (met_is nodes f o of_nodes)

-- environments are dropped from each label
module _ (P : Set ℕ → Type 0) where
  pub dropped_label : (old new : List Node) (f : Fact) → EachDrops P old new → Drops (HasMember (label_in old f)) (HasMember (label_in new f)) P
  dropped_label [] [] f e = λ F. (λ h. absurd h, λ (h, out). absurd h)
  dropped_label [] (n ∷ new) f e = absurd e
  dropped_label (o ∷ old) [] f e = absurd e
  dropped_label (o ∷ old) (n ∷ new) f e =
      let Q : Fact → Type 0 = λ x. Drops (HasMember (label_in (o ∷ old) f)) (HasMember (envs_of (cond (is_same x f) (Some n) (find (is_at f) new)))) P in
      subst Q (sym e.0) (elim (is_same o.fact f) as (λ b. Drops (HasMember (envs_of (cond b (Some o) (find (is_at f) old)))) (HasMember (envs_of (cond b (Some n) (find (is_at f) new)))) P) [
        | true ↦ e.1
        | false ↦ dropped_label old new f e.2
      ])

  pub dropped_facts : (old new : List Node) → EachDrops P old new → facts_of new ≡ facts_of old
  dropped_facts [] [] e = refl
  dropped_facts [] (n ∷ new) e = absurd e
  dropped_facts (o ∷ old) [] e = absurd e
  dropped_facts (o ∷ old) (n ∷ new) e = ap₂ (λ (f : Fact) (fs : List Fact). f ∷ fs) e.0 (dropped_facts old new e.2)

  dropped_push : (old new : List Node) (o n : Node) → EachDrops P old new → n.fact ≡ o.fact → Drops (HasMember o.label) (HasMember n.label) P → EachDrops P (old ++ o ∷ []) (new ++ n ∷ [])
  dropped_push [] [] o n e same drops = (same, drops, tt)
  dropped_push [] (y ∷ new) o n e same drops = absurd e
  dropped_push (x ∷ old) [] o n e same drops = absurd e
  dropped_push (x ∷ old) (y ∷ new) o n e same drops = (e.0, e.1, dropped_push old new o n e.2 same drops)

  pub one_dropped :
      (old now : List Node) (i : ℕ) (d y : Node) → length now ≡ length old → i < length now → AreDropped P old now i → y.fact ≡ (get_or now i d).fact
      → Drops (HasMember (get_or now i d).label) (HasMember y.label) P → AreDropped P old (set now i y) (i + 1)
  one_dropped old now i d y long low was same drops =
      let low_old : i < length old = omega (arith, long, low) in
      let lists : get_or now i d ∷ drop (i + 1) now ≡ get_or old i d ∷ drop (i + 1) old = sym (drop_more now i d low) ∙ (was.rest ∙ drop_more old i d low_old) in
      let first : get_or now i d ≡ get_or old i d = cc in
      let others : drop (i + 1) now ≡ drop (i + 1) old = cc in
      let Q : Node → Type 0 = λ n. Drops (HasMember n.label) (HasMember y.label) P in
      record {
        done = rw (take_more old i d low_old, take_more_set now i y low) (dropped_push (take i old) (take i now) (get_or old i d) y was.done (same ∙ ap (λ (n : Node). n.fact) first) (subst Q first drops));
        rest = drop-set-lt (i + 1) now i y (omega arith) ∙ others;
      }

-- the facts at one cell more
pub facts_at_more :
    (facts : List Fact) (cells : List Cell) (i : ℕ) (cell : Cell) (old new : List Fact) → take (i + 1) cells ≡ take i cells ++ cell ∷ [] → AreFactsAt facts (take i cells) old → HasFactsAt facts cell old new → AreFactsAt facts (take (i + 1) cells) new
facts_at_more facts cells i cell old new more was adds f = (
  λ h. elim ((adds f).0 h) [
    | inl before ↦ let at : IsIn facts f × IsIn (take i cells) f.cell = (was f).0 before in (at.0, subst (λ (l : List Cell). IsIn l f.cell) (sym more) (IsIn-left (take i cells) (cell ∷ []) f.cell at.1))
    | inr here ↦ (here.0, subst (λ (l : List Cell). IsIn l f.cell) (sym more) (IsIn-right (take i cells) (cell ∷ []) f.cell (inl (sym here.1))))
  ],
  λ h. (adds f).1 (elim (IsIn-append (take i cells) (cell ∷ []) f.cell (subst (λ (l : List Cell). IsIn l f.cell) more h.1)) [
    | inl before ↦ inl ((was f).1 (h.0, before))
    | inr here ↦ elim here [ inl same ↦ inr (h.0, sym same) | inr none ↦ absurd none ]
  ]),
)
