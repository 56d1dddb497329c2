-- An item is carried out.
use Rattle.std.proofs.Common.{◌≡◌, ℕ, ◌<◌, ◌≤◌, length, IfSome, IsSome, ◌⊎◌, inl, inr, true, false, ◌==◌, cond, IsTrue, true≢false, refl, sym, ap, subst, ◌∙◌, List, [], ◌∷◌, ◌++◌, Option, Some, None, arith}
use Rattle.std.proofs.lemmas.Bool.{or_cases, or_left, or_right}
use Rattle.environment_sets.proofs.Membership.{IsIn-append, IsIn-left, IsIn-right}
use Rattle.std.proofs.lemmas.Bool.Decides.{nat_tests}
use Rattle.circuit_model.specs.declared.model.Fact.{Fact}
use Rattle.circuit_model.specs.declared.model.Assumption.{Assumption}
use Rattle.circuit_model.specs.Stock.{Stock, IsEnvironment, Has}
use Rattle.environment_sets.specs.Sets.{Set, ◌⊆◌, ◌∪◌, no_elements, size_below}
use Rattle.environment_sets.specs.Members.{members}
use Rattle.environment_sets.specs.Lists.{IsIn}
use Rattle.propagation.specs.Propagating.{Target, RecordedInference, HasAt, Leads, HasMaker, AreChosen, SomeWaits, IsDue, IsReached, IsReachedUnderLess, IsSourced}
use Rattle.propagation.proofs.Sources.{sourced_by, sourced_on}
use Rattle.environment_sets.proofs.Slots.{slots_are_below}
use Rattle.antichains.proofs.Larger.{as_large}
use Rattle.propagation.proofs.Unions.{leads_on, has_more, maker_some}
use Rattle.propagation.proofs.Whole as whole
use Rattle.label_engine.specs.declared.insertion.Insertion.{Insertion}
use Rattle.inference_search.specs.declared.inferred.Inferred.{Inferred}
use Rattle.label_engine.specs.declared.update.Arrival.{Arrival}
use Rattle.label_engine.specs.declared.update.Pending.{Pending}
use Rattle.labelled_nodes.specs.Nodes.{Labelled, facts_of, KeptIn}
use Rattle.label_engine.specs.Update.{is_same_target, other_fact, made_by, DueIn, DueBy, IsAtHand, HasCome, HasComeBy, Holds, union_of, IsSourceOf, IsUnion, HasUnions}
use Rattle.assumption_slots.specs.Slots.{stock}
use Rattle.assumption_slots.proofs.Remembered.{some_within}
use Rattle.environment_sets.specs.declared.environment.TheConstants.{SLOTS}
use Rattle.inference_search.specs.Inferences.{facts, inference, RecordedIn}
use Rattle.label_engine.proofs.Families.{same_target, target_same}

less_or_not : (a b : ℕ) → (a < b) ⊎ (b ≤ a)
less_or_not a b = grind arith

maker_is : (maker : Option ℕ) (n : ℕ) → IsTrue (made_by maker n) → maker ≡ Some n
maker_is None n h = absurd (true≢false (sym h))
maker_is (Some k) n h = let e : k ≡ n = grind (arith, nat_tests) in ap (λ x. Some x) e

is_maker_of : (maker : Option ℕ) (n : ℕ) → maker ≡ Some n → IsTrue (made_by maker n)
is_maker_of maker n e = let P : Option ℕ → Type 0 = λ m. IsTrue (made_by m n) in subst P (sym e) (let h : IsTrue (n == n) = grind (arith, nat_tests) in h)

-- the other_fact and the fact are all that the inference goes from
from_at_or_other : (a b : Option Fact) (i : Inferred) → i.first ≡ a → i.second ≡ b → (at : Fact) → IsIn (facts a b) at → (f : Fact) → IsIn (facts a b) f → (f ≡ at) ⊎ (cond (is_same_target a (Some at)) b a ≡ Some f)
from_at_or_other None None i ea eb at h f g = absurd h
from_at_or_other (Some a) None i ea eb at (inl h) f (inl g) = inl (sym g ∙ h)
from_at_or_other (Some a) None i ea eb at (inr h) f g = absurd h
from_at_or_other (Some a) None i ea eb at h f (inr g) = absurd g
from_at_or_other None (Some b) i ea eb at (inl h) f (inl g) = inl (sym g ∙ h)
from_at_or_other None (Some b) i ea eb at (inr h) f g = absurd h
from_at_or_other None (Some b) i ea eb at h f (inr g) = absurd g
from_at_or_other (Some a) (Some b) i ea eb at h f g =
    elim (is_same_target (Some a) (Some at)) as (λ t. is_same_target (Some a) (Some at) ≡ t → (f ≡ at) ⊎ (cond t (Some b) (Some a) ≡ Some f)) [
      | true ↦ λ same. elim g [
        | inl ga ↦ let aat : Some a ≡ Some at = same_target (Some a) (Some at) same in inl (let e : a ≡ at = cc in sym ga ∙ e)
        | inr gb ↦ elim gb [ inl e ↦ inr (ap (λ x. Some x) e) | inr bad ↦ absurd bad ]
      ]
      | false ↦ λ differ. elim g [
        | inl ga ↦ inr (ap (λ x. Some x) ga)
        | inr gb ↦ elim gb [
          | inl e ↦ elim h [
            | inl ha ↦ absurd (true≢false (sym (target_same (Some a) (Some at) (ap (λ x. Some x) ha)) ∙ differ))
            | inr hb ↦ elim hb [ inl e2 ↦ inl (sym e ∙ e2) | inr bad ↦ absurd bad ]
          ]
          | inr bad ↦ absurd bad
        ]
      ]
    ] refl

-- what is in a union
module _ (item : Pending) (A F : Set ℕ) (is : F ≡ union_of item A) where
  joined : (n : ℕ) → F n ≡ union_of item A n
  joined n = ap (λ (G : Set ℕ). G n) is

  of_union : (n : ℕ) → IsTrue (F n) → IsTrue (members item.env n) ⊎ (IsTrue (A n) ⊎ (item.inferred.maker ≡ Some n))
  of_union n h =
      elim (or_cases ((members item.env ∪ made_by item.inferred.maker) n) (A n) (sym (joined n) ∙ h)) [
        | inl r ↦ elim (or_cases (members item.env n) (made_by item.inferred.maker n) r) [ inl a ↦ inl a | inr m ↦ inr (inr (maker_is item.inferred.maker n m)) ]
        | inr b ↦ inr (inl b)
      ]

  -- a union lies in each set that has its parts
  union_inside : (E : Set ℕ) → members item.env ⊆ E → A ⊆ E → HasMaker item.inferred.maker E → F ⊆ E
  union_inside E at inside maker n h =
      elim (of_union n h) [
        | inl a ↦ at n a
        | inr r ↦ elim r [ inl b ↦ inside n b | inr m ↦ maker n m ]
      ]

  in_union_maker : HasMaker item.inferred.maker F
  in_union_maker n e = joined n ∙ or_left ((members item.env ∪ made_by item.inferred.maker) n) (A n) (or_right (members item.env n) _ (is_maker_of item.inferred.maker n e))

  in_union_at : members item.env ⊆ F
  in_union_at n h = joined n ∙ or_left ((members item.env ∪ made_by item.inferred.maker) n) (A n) (or_left (members item.env n) _ h)

  in_union_other : A ⊆ F
  in_union_other n h = joined n ∙ or_right ((members item.env ∪ made_by item.inferred.maker) n) (A n) h

module _ (slots : List (Option Assumption)) (slot : ℕ) (labels : Labelled) (recorded : List Inferred) (dues dues' : List Insertion) (work : List Pending) (agenda : List Arrival) (item : Pending)
    (was : Holds slots slot labels recorded dues (item ∷ work) agenda) (u : HasUnions item labels dues dues') where
  abbrev S : Stock ℕ
  S = stock slots

  abbrev It : RecordedInference
  It = inference item.inferred

  it_is : IsAtHand (item ∷ work) It item.at (members item.env)
  it_is = (item, inl refl, refl, refl, refl)

  left : (i : RecordedInference) (g : Fact) (m : Set ℕ) → IsAtHand (item ∷ work) i g m → IsAtHand work i g m ⊎ ((i ≡ It) × (g ≡ item.at) × (m ≡ members item.env))
  left i g m (x, inl e, a, b, c) = inr (sym a ∙ sym (ap (λ (y : Pending). inference y.inferred) e), sym b ∙ sym (ap (λ (y : Pending). y.at) e), sym c ∙ sym (ap (λ (y : Pending). members y.env) e))
  left i g m (x, inr l, a, b, c) = inl (x, l, a, b, c)

  leads : Leads S It.from It.maker It.to
  leads = was.propagating.are.leads It (was.propagating.waiting.inference It item.at (members item.env) it_is)

  at_from : IsIn It.from item.at
  at_from = was.propagating.waiting.antecedent It item.at (members item.env) it_is

  -- a union with what has the other_fact is sound
  union_environment : (A : Set ℕ) (d : Insertion) → IsUnion item A d → IsEnvironment S A → IsEnvironment S (members d.env)
  union_environment A d is env n h =
      elim (of_union item A (members d.env) is.joined n h) [
        | inl a ↦ was.propagating.waiting.environment It item.at (members item.env) it_is n a
        | inr r ↦ elim r [ inl b ↦ env n b | inr m ↦ maker_some S It.from It.maker It.to leads n m ]
      ]

  union_has : (A : Set ℕ) (d : Insertion) → IsUnion item A d → ((f : Fact) → other_fact item.inferred item.at ≡ Some f → Has S f A) → HasAt S d.target (members d.env)
  union_has A d is has =
      let P : Target → Type 0 = λ t. HasAt S t (members d.env) in
      subst P (sym is.target) (leads_on S (members d.env) It.from It.maker It.to leads (in_union_maker item A (members d.env) is.joined) (λ f i. elim (from_at_or_other item.inferred.first item.inferred.second item.inferred refl refl item.at at_from f i) [
        | inl e ↦ let Q : Fact → Type 0 = λ g. Has S g (members d.env) in subst Q (sym e) (has_more S (members d.env) (Some item.at) (members item.env) (in_union_at item A (members d.env) is.joined) (was.propagating.waiting.sound It item.at (members item.env) it_is))
        | inr e ↦ has_more S (members d.env) (Some f) A (in_union_other item A (members d.env) is.joined) (has f e)
      ]))

  due_environments : (t : Target) (E : Set ℕ) → DueIn dues' t E → IsEnvironment S E
  due_environments t E (d, i, same, is) =
      subst (IsEnvironment S) is (elim (u.only d i) [
        | inl o ↦ was.propagating.due.environments d.target (members d.env) (d, o, refl, refl)
        | inr n ↦ elim n [
          | inl alone ↦ union_environment no_elements d alone.1 (λ n h. absurd (true≢false (sym h)))
          | inr two ↦ union_environment two.1 d two.4 (was.propagating.sound.environments (Some two.0) two.1 two.3)
        ]
      ])

  due_has : (t : Target) (E : Set ℕ) → DueIn dues' t E → HasAt S t E
  due_has t E (d, i, same, is) =
      let P : Set ℕ → Type 0 = λ F. HasAt S t F in
      let Q : Target → Type 0 = λ s. HasAt S s (members d.env) in
      subst P is (subst Q same (elim (u.only d i) [
        | inl o ↦ was.propagating.due.sound d.target (members d.env) (d, o, refl, refl)
        | inr n ↦ elim n [
          | inl alone ↦ union_has no_elements d alone.1 (λ f e. absurd (let bad : None ≡ Some f = sym alone.0 ∙ e in cc))
          | inr two ↦ union_has two.1 d two.4 (λ f e. let same : Some two.0 ≡ Some f = sym two.2 ∙ e in let gf : two.0 ≡ f = cc in let R : Fact → Type 0 = λ g. Has S g two.1 in subst R gf (was.propagating.sound.sound (Some two.0) two.1 two.3))
        ]
      ]))

  abbrev IsDueNow : Set ℕ → Type 0
  IsDueNow E = IsDue (KeptIn labels) (DueIn dues') item.inferred.to E

  due_of : (A E : Set ℕ) (d : Insertion) → IsIn dues' d → IsUnion item A d → members item.env ⊆ E → A ⊆ E → HasMaker item.inferred.maker E → IsDueNow E
  due_of A E d i is at inside maker = inr (members d.env, (d, i, is.target, refl), union_inside item A (members d.env) is.joined E at inside maker)

  with_other : (g : Fact) (m E : Set ℕ) → other_fact item.inferred item.at ≡ Some g → KeptIn labels (Some g) m → m ⊆ E → members item.env ⊆ E → HasMaker item.inferred.maker E → IsDueNow E
  with_other g m E e kept inside at maker =
      let within : union_of item m ⊆ E = union_inside item m (union_of item m) refl E at inside maker in
      elim (u.each g m e kept) [
        | inl due ↦ due_of m E due.0 due.1 due.2 at inside maker
        | inr reached ↦ inl (elim reached [ inl c ↦ inl (c.0, c.1, λ k h. within k (c.2 k h)) | inr c ↦ inr (c.0, c.1, λ k h. within k (c.2 k h)) ])
      ]

  same_at : (m E : Set ℕ) → m ≡ members item.env → m ⊆ E → members item.env ⊆ E
  same_at m E e inside = let P : Set ℕ → Type 0 = λ F. F ⊆ E in subst P e inside

  abbrev Now : Fact → Set ℕ → Type 0
  Now g m = (g ≡ item.at) × (m ≡ members item.env)

  unions : (a b : Option Fact) → item.inferred.first ≡ a → item.inferred.second ≡ b → (ms : List (Set ℕ)) (E : Set ℕ) → AreChosen (KeptIn labels) E (facts a b) ms → HasMaker item.inferred.maker E → SomeWaits Now (facts a b) ms → IsDueNow E
  unions None None ea eb [] E c maker w = absurd w
  unions None None ea eb (m ∷ ms) E c maker w = absurd w
  unions (Some a) None ea eb [] E c maker w = absurd w
  unions (Some a) None ea eb (m ∷ ms) E c maker (inr w) = absurd (elim ms as (λ (l : List (Set ℕ)). SomeWaits Now [] l → ⊥) [ [] ↦ λ h. h | x ∷ xs ↦ λ h. h ] w)
  unions (Some a) None ea eb (m ∷ ms) E c maker (inl w) =
      let k : (k : Insertion) × IsIn dues' k × IsUnion item no_elements k = u.alone (alone_first w.0) in
      due_of no_elements E k.0 k.1 k.2 (same_at m E w.1 c.1) (λ n h. absurd (true≢false (sym h))) maker
    where
      alone_first : a ≡ item.at → other_fact item.inferred item.at ≡ None
      alone_first e = let same : IsTrue (is_same_target item.inferred.first (Some item.at)) = target_same item.inferred.first (Some item.at) (ea ∙ ap (λ x. Some x) e) in rw same eb
  unions None (Some b) ea eb [] E c maker w = absurd w
  unions None (Some b) ea eb (m ∷ ms) E c maker (inr w) = absurd (elim ms as (λ (l : List (Set ℕ)). SomeWaits Now [] l → ⊥) [ [] ↦ λ h. h | x ∷ xs ↦ λ h. h ] w)
  unions None (Some b) ea eb (m ∷ ms) E c maker (inl w) =
      let k : (k : Insertion) × IsIn dues' k × IsUnion item no_elements k = u.alone (rw ea refl) in
      due_of no_elements E k.0 k.1 k.2 (same_at m E w.1 c.1) (λ n h. absurd (true≢false (sym h))) maker
  unions (Some a) (Some b) ea eb [] E c maker w = absurd w
  unions (Some a) (Some b) ea eb (m ∷ []) E c maker w = absurd c.2
  unions (Some a) (Some b) ea eb (m ∷ n ∷ ms) E c maker w =
      elim (is_same_target item.inferred.first (Some item.at)) as (λ t. is_same_target item.inferred.first (Some item.at) ≡ t → IsDueNow E) [
        | true ↦ λ same.
            let p : other_fact item.inferred item.at ≡ Some b = rw same eb in
            elim w [
              | inl here ↦ with_other b n E p c.2.0 c.2.1 (same_at m E here.1 c.1) maker
              | inr later ↦ elim later [
                | inl there ↦
                    let a_at : Some a ≡ Some item.at = sym ea ∙ same_target item.inferred.first (Some item.at) same in
                    let ab : a ≡ b = (let x : a ≡ item.at = cc in x ∙ sym there.0) in
                    let P : Fact → Type 0 = λ g. KeptIn labels (Some g) m in
                    with_other b m E p (subst P ab c.0) c.1 (same_at n E there.1 c.2.1) maker
                | inr bad ↦ absurd (elim ms as (λ (l : List (Set ℕ)). SomeWaits Now [] l → ⊥) [ [] ↦ λ h. h | x ∷ xs ↦ λ h. h ] bad)
              ]
            ]
        | false ↦ λ differ.
            let p : other_fact item.inferred item.at ≡ Some a = rw differ ea in
            elim w [
              | inl here ↦ absurd (true≢false (sym (target_same item.inferred.first (Some item.at) (ea ∙ ap (λ x. Some x) here.0)) ∙ differ))
              | inr later ↦ elim later [
                | inl there ↦ with_other a m E p c.0 c.1 (same_at n E there.1 c.2.1) maker
                | inr bad ↦ absurd (elim ms as (λ (l : List (Set ℕ)). SomeWaits Now [] l → ⊥) [ [] ↦ λ h. h | x ∷ xs ↦ λ h. h ] bad)
              ]
            ]
      ] refl

  -- a union that is more than a part of it has more slots
  larger : (d : Insertion) (F : Set ℕ) → F ⊆ members d.env → (members d.env ⊆ F → ⊥) → size_below SLOTS F < size_below SLOTS (members d.env)
  larger d F inside more =
      elim (less_or_not (size_below SLOTS F) (size_below SLOTS (members d.env))) [
        | inl less ↦ less
        | inr few ↦ absurd (more (as_large F (members d.env) inside SLOTS (slots_are_below d.env) few))
      ]

  union_sourced :
      (A : Set ℕ) (d : Insertion) (k : ℕ) (f : Fact) → IsUnion item A d → d.target ≡ Some f → d.source ≡ Some k → ((g : Fact) → other_fact item.inferred item.at ≡ Some g → IsReached (KeptIn labels) (Some g) A)
      → IsSourced S (KeptIn labels) k f (members d.env)
  union_sourced A d k f is at by reached =
      let source : IsSourceOf item A (members d.env) k = is.source k by in
      let to : It.to ≡ Some f = sym is.target ∙ at in
      let P : Option ℕ → Type 0 = λ m. Leads S It.from m (Some f) in
      let Q : Target → Type 0 = λ t. Leads S It.from It.maker t in
      sourced_by S (KeptIn labels) (members d.env) k It.from f (subst P source.maker (subst Q to leads)) (λ g i. elim (from_at_or_other item.inferred.first item.inferred.second item.inferred refl refl item.at at_from g i) [
        | inl e ↦
            let R : Fact → Type 0 = λ h. IsReachedUnderLess (KeptIn labels) (members d.env) h in
            let inside : members item.env ⊆ members d.env = in_union_at item A (members d.env) is.joined in
            subst R (sym e) (members item.env, inside, larger d (members item.env) inside source.more, was.sourced.at_hand_reached It item.at (members item.env) it_is)
        | inr e ↦
            let inside : A ⊆ members d.env = in_union_other item A (members d.env) is.joined in
            (A, inside, larger d A inside source.more_than_other, reached g e)
      ])

  due_sourced : (k : ℕ) (f : Fact) (E : Set ℕ) → DueBy dues' k f E → DueBy dues k f E ⊎ IsSourced S (KeptIn labels) k f E
  due_sourced k f E d =
      elim (u.only d.0 d.1) [
        | inl o ↦ inl (d.0, o, d.2, d.3, d.4)
        | inr n ↦
            let P : Set ℕ → Type 0 = λ F. IsSourced S (KeptIn labels) k f F in
            inr (subst P d.4 (elim n [
              | inl alone ↦ union_sourced no_elements d.0 k f alone.1 d.2 d.3 (λ g e. absurd (let bad : None ≡ Some g = sym alone.0 ∙ e in cc))
              | inr two ↦ union_sourced two.1 d.0 k f two.4 d.2 d.3 (λ g e.
                  let same : Some two.0 ≡ Some g = sym two.2 ∙ e in
                  let gf : two.0 ≡ g = cc in
                  let R : Fact → Type 0 = λ h. KeptIn labels (Some h) two.1 in
                  inl (two.1, subst R gf two.3, λ i h. h))
            ]))
      ]

  pub holds_picked : Holds slots slot labels recorded dues' work agenda
  holds_picked = record {
    propagating =
        whole.picked S slot (IsIn (facts_of labels.list)) (KeptIn labels) (RecordedIn recorded) (DueIn dues) (IsAtHand (item ∷ work)) (HasCome agenda) was.propagating (DueIn dues') (IsAtHand work) It item.at (members item.env)
        left (λ i g m w. (w.0, inr w.1, w.2, w.3, w.4)) (λ t E k. (k.0, u.stays k.0 k.1, k.2, k.3)) (record { environments = due_environments; sound = due_has })
        (unions item.inferred.first item.inferred.second refl refl);
    sourced =
        sourced_on S (KeptIn labels) (KeptIn labels) (DueBy dues) (DueBy dues') (HasComeBy agenda) (HasComeBy agenda) (IsAtHand (item ∷ work)) (IsAtHand work) (HasCome agenda) (HasCome agenda) was.sourced
        (λ t E r. r) due_sourced (λ j f E w. inl (w.0, inr w.1, w.2, w.3, w.4)) (λ f E c. inl c) (λ k f E c. inl c);
  }

-- the item's only fact is the one at which it is at hand
pub alone : (item : Pending) (labels : Labelled) (old : List Insertion) (d : Insertion) → other_fact item.inferred item.at ≡ None → IsUnion item no_elements d → HasUnions item labels old (old ++ d ∷ [])
alone item labels old d p is = record {
  stays = λ x i. IsIn-left old (d ∷ []) x i;
  alone = λ _. (d, IsIn-right old (d ∷ []) d (inl refl), is);
  each = λ g E e k. absurd (let bad : None ≡ Some g = sym p ∙ e in cc);
  only = λ x i. elim (IsIn-append old (d ∷ []) x i) [
    | inl o ↦ inl o
    | inr l ↦ elim l [
      | inl e ↦ inr (inl (p, (let P : Insertion → Type 0 = λ y. IsUnion item no_elements y in subst P e is)))
      | inr bad ↦ absurd bad
    ]
  ];
}

-- the source of what came is below the bound
pub source_fits :
    (slots : List (Option Assumption)) (slot : ℕ) (nodes : Labelled) (recorded : List Inferred) (dues : List Insertion) (work : List Pending) (agenda : List Arrival) (arrival : Arrival)
    → Holds slots slot nodes recorded dues work (arrival ∷ agenda) → length slots ≡ SLOTS → IfSome arrival.source (λ k. k < SLOTS)
source_fits slots slot nodes recorded dues work agenda arrival was wide =
    elim arrival.source as (λ m. arrival.source ≡ m → IfSome m (λ k. k < SLOTS)) [
      | None ↦ λ _. tt
      | Some k ↦ λ is.
          let s : IsSourced (stock slots) (KeptIn nodes) k arrival.fact (members arrival.env) = was.sourced.came_sourced k arrival.fact (members arrival.env) (arrival, inl refl, refl, is, refl) in
          let same : s.assumed.0 ≡ k = (let e : Some k ≡ Some s.assumed.0 = s.assumed.1 in cc) in
          let P : ℕ → Type 0 = λ i. IsSome (stock slots i) in
          subst (λ (n : ℕ). k < n) wide (some_within slots k (subst P same (rw s.assumed.2 refl)))
    ] refl

-- the maker of what is at hand is below the bound
pub maker_fits :
    (slots : List (Option Assumption)) (slot : ℕ) (nodes : Labelled) (recorded : List Inferred) (dues : List Insertion) (work : List Pending) (agenda : List Arrival) (item : Pending)
    → Holds slots slot nodes recorded dues (item ∷ work) agenda → length slots ≡ SLOTS → IfSome item.inferred.maker (λ k. k < SLOTS)
maker_fits slots slot nodes recorded dues work agenda item was wide =
    let It : RecordedInference = inference item.inferred in
    let leads : Leads (stock slots) It.from It.maker It.to = was.propagating.are.leads It (was.propagating.waiting.inference It item.at (members item.env) (item, inl refl, refl, refl, refl)) in
    elim item.inferred.maker as (λ m. item.inferred.maker ≡ m → IfSome m (λ k. k < SLOTS)) [
      | None ↦ λ _. tt
      | Some k ↦ λ is. subst (λ (n : ℕ). k < n) wide (some_within slots k (maker_some (stock slots) It.from It.maker It.to leads k is))
    ] refl
