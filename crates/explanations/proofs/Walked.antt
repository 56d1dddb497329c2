-- The walk back from some facts along their supports.
use Rattle.std.proofs.Common.{◌≡◌, ℕ, zero, suc, ◌+◌, ◌-◌, ◌<◌, ◌≤◌, ◌⊎◌, inl, inr, Bool, IsTrue, List, [], ◌∷◌, ◌++◌, length, map, reverse, drop, get_or, drop-cons, slice_get, Some, refl, sym, ap, ap₂, subst, ◌∙◌, arith}
use Rattle.std.proofs.lemmas.Bool.{cases_eq, cases_order}
use Rattle.std.proofs.lemmas.List.{reverse-append}
use Rattle.std.proofs.lemmas.Option.{slice_get_within}
use Rattle.environment_sets.specs.Sets.{Set}
use Rattle.environment_sets.specs.Lists.{IsIn, IsRising}
use Rattle.environment_sets.proofs.Membership.{IsIn-slice_get, slice_get-IsIn, IsIn-map}
use Rattle.circuit_model.specs.declared.model.Fact.{Fact}
use Rattle.circuit_model.specs.declared.model.Instance.{Instance}
use Rattle.circuit_model.specs.Diagnoses.{Place}
use Rattle.circuit_model.specs.Derivation.{Justification, by_instance, Step, Measured, Inferred, fact_of, facts_behind, is_fact_before, HoldsAt, IsRoundOf, IsOfInstance, Justifies, IsFirst, IsJustificationBefore, IsSupport, IsReached, AtStart, Behind, IsSooner, AreStepsTo}
use Rattle.circuit_model.specs.Present.{PresentView, IsLawful, circuit_of}
use Rattle.proof_check.specs.Closing.{Timed, ClosedView, IsEarlier, Closes}
use Rattle.proof_check.proofs.Told.{held_facts}
use Rattle.explanations.specs.Marks.{IsMarked, HasMarked, Marks}
use Rattle.explanations.proofs.Closings.{HasTimed, holds_listed, timed_round, timed_low, tells_round}
use Rattle.explanations.proofs.Joined.{from_words, from_are}

module _ {X : Type 0} where
  -- of a rising list, an earlier element comes before a later one
  pub rising_at : (before : X → X → Type 0) (xs : List X) → IsRising before xs → (i j : ℕ) (x y : X) → slice_get xs i ≡ Some x → slice_get xs j ≡ Some y → i < j → before x y
  rising_at before [] rising i j x y at_x at_y less = absurd (cc)
  rising_at before (z ∷ xs) rising zero zero x y at_x at_y less = absurd (omega arith)
  rising_at before (z ∷ xs) rising zero (suc j) x y at_x at_y less = let same : z ≡ x = cc in subst (λ (x : X). before x y) same (rising.0 y (IsIn-slice_get xs j y at_y))
  rising_at before (z ∷ xs) rising (suc i) zero x y at_x at_y less = absurd (omega arith)
  rising_at before (z ∷ xs) rising (suc i) (suc j) x y at_x at_y less = rising_at before xs rising.1 i j x y at_x at_y (omega arith)

-- none of two justifications comes before the other
pub record AreAtOnePlace (i j : Justification) : Type 0 where
  pub part : i.part ≡ j.part
  pub instance : i.instance ≡ j.instance
  pub ports : i.ports ≡ j.ports

one_place : (i j : Justification) → (IsJustificationBefore i j → ⊥) → (IsJustificationBefore j i → ⊥) → AreAtOnePlace i j
one_place i j not_before not_after = elim (cases_order i.part j.part) [
  | inr differ ↦ elim differ [ inl less ↦ absurd (not_before (inl less)) | inr less ↦ absurd (not_after (inl less)) ]
  | inl part ↦ elim (cases_order i.instance j.instance) [
    | inr differ ↦ elim differ [ inl less ↦ absurd (not_before (inr (part, inl less))) | inr less ↦ absurd (not_after (inr (sym part, inl less))) ]
    | inl instance ↦ elim (cases_order i.ports j.ports) [
      | inr differ ↦ elim differ [ inl less ↦ absurd (not_before (inr (part, inr (instance, less)))) | inr less ↦ absurd (not_after (inr (sym part, inr (sym instance, less)))) ]
      | inl ports ↦ record { part = part; instance = instance; ports = ports }
    ]
  ]
]

module _ (s : PresentView) (E : Set Place) where
  -- a fact behind a support, and the round at which it holds
  pub record IsBehind (st : Step) (g : Fact) : Type 0 where
    pub round : ℕ
    pub later : IsRoundOf (circuit_of s) E (fact_of st) (suc round)
    pub holds : HoldsAt (circuit_of s) E round g

  pub behind_support : (st : Step) → IsSupport (circuit_of s) E st → (g : Fact) → IsIn (facts_behind st) g → IsBehind st g
  behind_support (Measured f) h g at = absurd at
  behind_support (Inferred f part instance ports from) (n, round, first) g at =
      let j : Justifies (circuit_of s) E (HoldsAt (circuit_of s) E n) f (by_instance part instance ports from) = first.holds in record {
        round = n;
        later = round;
        holds = held_facts (HoldsAt (circuit_of s) E n) j.instance.cells j.known j.held g (let Q : List Fact → Type 0 = λ fs. IsIn fs g in subst Q j.of_instance.from at);
      }

  -- a step that shows a marked fact from place n on
  record IsStepFrom (c : ClosedView) (n : ℕ) (marks : List Bool) (st : Step) : Type 0 where
    place : ℕ
    timed : Timed
    past : n ≤ place
    at : slice_get c.facts place ≡ Some timed
    marked : IsMarked marks place
    is : fact_of st ≡ timed.fact

  -- The wanted facts are marked, and so is what is behind a marked fact from place n on; what is marked is reached; and
  -- the steps are the supports of the marked facts from there on, in order.
  pub record IsWalked (c : ClosedView) (wanted : List Fact) (n : ℕ) (marks : List Bool) (steps : List Step) : Type 0 where
    pub as_many : length marks ≡ length c.facts
    goals : HasMarked wanted c.facts marks
    closed : (i : ℕ) (t : Timed) → n ≤ i → slice_get c.facts i ≡ Some t → IsMarked marks i → (st : Step) → IsSupport (circuit_of s) E st → fact_of st ≡ t.fact → HasMarked (facts_behind st) c.facts marks
    reached : (i : ℕ) (t : Timed) → slice_get c.facts i ≡ Some t → IsMarked marks i → IsReached (circuit_of s) E wanted t.fact
    rising : IsRising (IsSooner (circuit_of s) E) steps
    supports : (st : Step) → IsIn steps st → IsSupport (circuit_of s) E st
    from : (st : Step) → IsIn steps st → IsStepFrom c n marks st
    complete : (i : ℕ) (t : Timed) → n ≤ i → slice_get c.facts i ≡ Some t → IsMarked marks i → (st : Step) × IsIn steps st × (fact_of st ≡ t.fact)

  module _ (lawful : IsLawful s) (c : ClosedView) (closes : Closes s E c) where
    -- two justifications at one place have the same facts
    same_from : (n : ℕ) → n < closes.last → (f : Fact) (i j : Justification) → Justifies (circuit_of s) E (HoldsAt (circuit_of s) E n) f i → Justifies (circuit_of s) E (HoldsAt (circuit_of s) E n) f j → AreAtOnePlace i j → i.from ≡ j.from
    same_from n low f i j a b same =
        let told = tells_round s E c closes n low in
        let first : i.from ≡ from_words s lawful E c.facts n told f a.instance i.ports = from_are s lawful E c.facts n told f i a in
        let second : j.from ≡ from_words s lawful E c.facts n told f b.instance j.ports = from_are s lawful E c.facts n told f j b in
        let x : IsOfInstance (circuit_of s) E i a.instance a.known = a.of_instance in
        let y : IsOfInstance (circuit_of s) E j b.instance b.known = b.of_instance in
        let at_x = x.at_position in
        let at_y : slice_get (circuit_of s).parts i.part ≡ Some y.part = (let Q : ℕ → Type 0 = λ p. slice_get (circuit_of s).parts p ≡ Some y.part in subst Q (sym same.part) y.at_position) in
        let part : x.part ≡ y.part = cc in
        let there = x.at_place in
        let here : slice_get x.part i.instance ≡ Some b.instance = (let Q : ℕ → Type 0 = λ p. slice_get x.part p ≡ Some b.instance in let R : List Instance → Type 0 = λ p. slice_get p j.instance ≡ Some b.instance in subst Q (sym same.instance) (subst R (sym part) y.at_place)) in
        let instance : a.instance ≡ b.instance = cc in
        first ∙ (ap₂ (λ (i : Instance) (ports : ℕ). from_words s lawful E c.facts n told f i ports) instance same.ports ∙ sym second)

    -- a fact has one support
    same_support : (st t : Step) → ((n : ℕ) → IsRoundOf (circuit_of s) E (fact_of st) (suc n) → n < closes.last) → IsSupport (circuit_of s) E st → IsSupport (circuit_of s) E t → fact_of st ≡ fact_of t → facts_behind st ≡ facts_behind t
    same_support (Measured f) (Measured g) low a b e = refl
    same_support (Measured f) (Inferred g part instance ports from) low a (n, round, first) e =
        let Q : Fact → Type 0 = λ h. HoldsAt (circuit_of s) E 0 h in
        absurd (let bad : suc n ≤ 0 = round.first 0 (subst Q e a) in omega arith)
    same_support (Inferred f part instance ports from) (Measured g) low (n, round, first) b e =
        let Q : Fact → Type 0 = λ h. HoldsAt (circuit_of s) E 0 h in
        absurd (let bad : suc n ≤ 0 = round.first 0 (subst Q (sym e) b) in omega arith)
    same_support (Inferred f p i k from) (Inferred g q l m others) low (n, round, first) (o, late, other) e =
        let A : Fact → Type 0 = λ h. IsRoundOf (circuit_of s) E h (suc o) in
        let B : Fact → Type 0 = λ h. IsFirst (Justifies (circuit_of s) E (HoldsAt (circuit_of s) E o) h) (by_instance q l m others) in
        let late_f : IsRoundOf (circuit_of s) E f (suc o) = subst A (sym e) late in
        let other_f : IsFirst (Justifies (circuit_of s) E (HoldsAt (circuit_of s) E o) f) (by_instance q l m others) = subst B (sym e) other in
        let up : suc n ≤ suc o = round.first (suc o) late_f.holds in
        let down : suc o ≤ suc n = late_f.first (suc n) round.holds in
        let same : o ≡ n = omega (arith, up, down) in
        let D : ℕ → Type 0 = λ o. IsFirst (Justifies (circuit_of s) E (HoldsAt (circuit_of s) E o) f) (by_instance q l m others) in
        let second : IsFirst (Justifies (circuit_of s) E (HoldsAt (circuit_of s) E n) f) (by_instance q l m others) = subst D same other_f in
        same_from n (low n round) f (by_instance p i k from) (by_instance q l m others) first.holds second.holds
        (one_place (by_instance p i k from) (by_instance q l m others) (second.first (by_instance p i k from) first.holds) (first.first (by_instance q l m others) second.holds))

    -- the first round of a listed fact
    module _ (i : ℕ) (t : Timed) (at : slice_get c.facts i ≡ Some t) where
      pub listed_round : IsRoundOf (circuit_of s) E t.fact t.round
      listed_round = timed_round s E c closes t (IsIn-slice_get c.facts i t at)

      listed_low : t.round ≤ closes.last
      listed_low = timed_low s E c closes t (IsIn-slice_get c.facts i t at)

    -- a fact that is inferred is so from words of a round before the last
    module _ (i : ℕ) (t : Timed) (at : slice_get c.facts i ≡ Some t) (st : Step) (is : fact_of st ≡ t.fact) where
      round_of_step : IsRoundOf (circuit_of s) E (fact_of st) t.round
      round_of_step = subst (λ (f : Fact). IsRoundOf (circuit_of s) E f t.round) (sym is) (listed_round i t at)

      before_last : (n : ℕ) → IsRoundOf (circuit_of s) E (fact_of st) (suc n) → n < closes.last
      before_last n round =
          let low : t.round ≤ closes.last = listed_low i t at in
          let first : suc n ≤ t.round = round.first t.round round_of_step.holds in
          omega arith

      -- what is behind it stands before it
      behind_earlier : IsSupport (circuit_of s) E st → (j : ℕ) (u : Timed) → slice_get c.facts j ≡ Some u → IsIn (facts_behind st) u.fact → j < i
      behind_earlier support j u at_j h =
          let b : IsBehind st u.fact = behind_support st support u.fact h in
          let late : suc b.round ≤ t.round = b.later.first t.round round_of_step.holds in
          let early : u.round ≤ b.round = (listed_round j u at_j).first b.round b.holds in
          elim (cases_order i j) [
            | inl e ↦
                let Q : ℕ → Type 0 = λ i. slice_get c.facts i ≡ Some t in
                let there = subst Q e at in
                let same : t ≡ u = cc in
                let rounds : t.round ≡ u.round = ap (λ (t : Timed). t.round) same in
                absurd (omega (arith, late, early, rounds))
            | inr differ ↦ elim differ [
              | inr less ↦ less
              | inl less ↦ elim (rising_at IsEarlier c.facts closes.rising i j t u at at_j less) [
                | inl sooner ↦ absurd (omega (arith, late, early, sooner))
                | inr same ↦ absurd (omega (arith, late, early, same.0))
              ]
            ]
          ]

      -- another support has the same facts behind it
      same_behind : IsSupport (circuit_of s) E st → (other : Step) → IsSupport (circuit_of s) E other → fact_of other ≡ t.fact → facts_behind st ≡ facts_behind other
      same_behind support other also same = same_support st other before_last support also (is ∙ sym same)

    -- steps of two facts in order
    sooner : (i j : ℕ) (t u : Timed) → slice_get c.facts i ≡ Some t → slice_get c.facts j ≡ Some u → i < j → (st other : Step) → fact_of st ≡ t.fact → fact_of other ≡ u.fact → IsSooner (circuit_of s) E st other
    sooner i j t u at_i at_j less st other is also = record {
      round = t.round;
      other = u.round;
      is_round = round_of_step i t at_i st is;
      is_other = round_of_step j u at_j other also;
      sooner = let Q : Fact → Fact → Type 0 = λ f g. (t.round < u.round) ⊎ ((t.round ≡ u.round) × IsTrue (is_fact_before f g)) in
          subst (λ (f : Fact). Q f (fact_of other)) (sym is) (subst (λ (g : Fact). Q t.fact g) (sym also) (rising_at IsEarlier c.facts closes.rising i j t u at_i at_j less));
    }

    -- where a fact stands
    record IsAt (f : Fact) : Type 0 where
      place : ℕ
      timed : Timed
      at : slice_get c.facts place ≡ Some timed
      is : timed.fact ≡ f

    at_place : (f : Fact) (t : Timed) → IsIn c.facts t → t.fact ≡ f → IsAt f
    at_place f t h is = let there : (k : ℕ) × (slice_get c.facts k ≡ Some t) = slice_get-IsIn c.facts t h in record { place = there.0; timed = t; at = there.1; is = is }

    listed_at : (f : Fact) → IsIn (map (λ (t : Timed). t.fact) c.facts) f → IsAt f
    listed_at f h = let t : (t : Timed) × IsIn c.facts t × (t.fact ≡ f) = IsIn-map (λ (t : Timed). t.fact) c.facts f h in at_place f t.0 t.1 t.2

    holds_at : (n : ℕ) (f : Fact) → n ≤ closes.last → HoldsAt (circuit_of s) E n f → IsAt f
    holds_at n f low h = let t : HasTimed c.facts f = holds_listed s E c closes n f low h in at_place f t.timed t.there t.is

    module _ (wanted : List Fact) where
      -- at the end of the list there is nothing but the goals
      pub walk_begins : (old new : List Bool) → length old ≡ length c.facts → ((i : ℕ) → IsMarked old i → ⊥) → Marks wanted c.facts old new → IsWalked c wanted (length c.facts) new []
      walk_begins old new as_many fresh m = record {
        as_many = m.as_many ∙ as_many;
        goals = m.marked;
        closed = λ i t past at. absurd (let inside : i < length c.facts = slice_get_within c.facts i t at in omega (arith, inside, past));
        reached = λ i t at h. elim (m.others i t at h) [ inl bad ↦ absurd (fresh i bad) | inr is ↦ AtStart t.fact is ];
        rising = tt;
        supports = λ st bad. absurd bad;
        from = λ st bad. absurd bad;
        complete = λ i t past at. absurd (let inside : i < length c.facts = slice_get_within c.facts i t at in omega (arith, inside, past));
      }

      module _ (n : ℕ) (marks : List Bool) (steps : List Step) (w : IsWalked c wanted (n + 1) marks steps) where
        -- a fact that is not marked is passed by
        pub walk_past : (IsMarked marks n → ⊥) → IsWalked c wanted n marks steps
        walk_past hidden = record {
          as_many = w.as_many;
          goals = w.goals;
          closed = λ i t low at h. w.closed i t (later i low h) at h;
          reached = w.reached;
          rising = w.rising;
          supports = w.supports;
          from = λ st h. let f : IsStepFrom c (n + 1) marks st = w.from st h in let past = f.past in record { place = f.place; timed = f.timed; past = omega arith; at = f.at; marked = f.marked; is = f.is };
          complete = λ i t low at h. w.complete i t (later i low h) at h;
        }
          where
            later : (i : ℕ) → n ≤ i → IsMarked marks i → n + 1 ≤ i
            later i low h = elim (cases_eq n i) [ inl e ↦ absurd (let P : ℕ → Type 0 = λ i. IsMarked marks i in hidden (subst P (sym e) h)) | inr differ ↦ omega (arith, low, differ) ]

        module _ (t : Timed) (at : slice_get c.facts n ≡ Some t) (st : Step) (is : fact_of st ≡ t.fact) (support : IsSupport (circuit_of s) E st) where
          same_there : (i : ℕ) (u : Timed) → n ≡ i → slice_get c.facts i ≡ Some u → t ≡ u
          same_there i u e there = let P : ℕ → Type 0 = λ i. slice_get c.facts i ≡ Some t in let also = subst P e at in cc

          -- the support of a marked fact is a step, and what is behind it is marked
          pub walk_on : (new : List Bool) → IsMarked marks n → Marks (facts_behind st) c.facts marks new → IsWalked c wanted n new (st ∷ steps)
          walk_on new is_marked more = record {
            as_many = more.as_many ∙ w.as_many;
            goals = λ i u there h. more.kept i (w.goals i u there h);
            closed = closed;
            reached = reached;
            rising = (λ other h. let f : IsStepFrom c (n + 1) marks other = w.from other h in let past = f.past in sooner n f.place t f.timed at f.at (omega arith) st other is f.is, w.rising);
            supports = λ other h. elim h [ inl e ↦ subst (λ (st : Step). IsSupport (circuit_of s) E st) e support | inr h ↦ w.supports other h ];
            from = from;
            complete = complete;
          }
            where
              old_mark : (i : ℕ) (u : Timed) → n ≤ i → slice_get c.facts i ≡ Some u → IsMarked new i → IsMarked marks i
              old_mark i u low there h = elim (more.others i u there h) [ inl old ↦ old | inr behind ↦ absurd (let before : i < n = behind_earlier n t at st is support i u there behind in omega (arith, before, low)) ]

              closed : (i : ℕ) (u : Timed) → n ≤ i → slice_get c.facts i ≡ Some u → IsMarked new i → (other : Step) → IsSupport (circuit_of s) E other → fact_of other ≡ u.fact → HasMarked (facts_behind other) c.facts new
              closed i u low there h other also same = elim (cases_eq n i) [
                | inl e ↦
                    let fact : fact_of other ≡ t.fact = same ∙ ap (λ (t : Timed). t.fact) (sym (same_there i u e there)) in
                    let facts : facts_behind st ≡ facts_behind other = same_behind n t at st is support other also fact in
                    subst (λ (fs : List Fact). HasMarked fs c.facts new) facts more.marked
                | inr differ ↦ λ j x at_j is_behind. more.kept j (w.closed i u (omega (arith, low, differ)) there (old_mark i u low there h) other also same j x at_j is_behind)
              ]

              reached : (i : ℕ) (u : Timed) → slice_get c.facts i ≡ Some u → IsMarked new i → IsReached (circuit_of s) E wanted u.fact
              reached i u there h = elim (more.others i u there h) [
                | inl old ↦ w.reached i u there old
                | inr behind ↦ Behind st u.fact (subst (λ (f : Fact). IsReached (circuit_of s) E wanted f) (sym is) (w.reached n t at is_marked)) support behind
              ]

              from : (other : Step) → IsIn (st ∷ steps) other → IsStepFrom c n new other
              from other (inl e) = record { place = n; timed = t; past = omega arith; at = at; marked = more.kept n is_marked; is = sym (ap fact_of e) ∙ is }
              from other (inr h) = let f : IsStepFrom c (n + 1) marks other = w.from other h in let past = f.past in record { place = f.place; timed = f.timed; past = omega arith; at = f.at; marked = more.kept f.place f.marked; is = f.is }

              complete : (i : ℕ) (u : Timed) → n ≤ i → slice_get c.facts i ≡ Some u → IsMarked new i → (other : Step) × IsIn (st ∷ steps) other × (fact_of other ≡ u.fact)
              complete i u low there h = elim (cases_eq n i) [
                | inl e ↦ (st, inl refl, is ∙ ap (λ (t : Timed). t.fact) (same_there i u e there))
                | inr differ ↦ let r : (other : Step) × IsIn steps other × (fact_of other ≡ u.fact) = w.complete i u (omega (arith, low, differ)) there (old_mark i u low there h) in (r.0, inr r.1, r.2)
              ]

      module _ (listed : (f : Fact) → IsIn wanted f → IsIn (map (λ (t : Timed). t.fact) c.facts) f) (marks : List Bool) (steps : List Step) (w : IsWalked c wanted 0 marks steps) where
        -- what is reached is marked
        record IsMarkedAt (f : Fact) : Type 0 where
          where_it_is : IsAt f
          marked : IsMarked marks where_it_is.place

        reached_marked : (f : Fact) → IsReached (circuit_of s) E wanted f → IsMarkedAt f
        reached_marked _ (AtStart f h) =
            let x : IsAt f = listed_at f (listed f h) in
            record { where_it_is = x; marked = w.goals x.place x.timed x.at (subst (λ (f : Fact). IsIn wanted f) (sym x.is) h) }
        reached_marked _ (Behind st f r support h) =
            let m : IsMarkedAt (fact_of st) = reached_marked (fact_of st) r in
            let t : IsAt (fact_of st) = m.where_it_is in
            let b : IsBehind st f = behind_support st support f h in
            let low : b.round < closes.last = before_last t.place t.timed t.at st (sym t.is) b.round b.later in
            let x : IsAt f = holds_at b.round f (omega arith) b.holds in
            record { where_it_is = x; marked = w.closed t.place t.timed (omega arith) t.at m.marked st support (sym t.is) x.place x.timed x.at (subst (λ (g : Fact). IsIn (facts_behind st) g) (sym x.is) h) }

        -- at the head of the list the steps are all that lead to the goals
        pub walk_ends : AreStepsTo (circuit_of s) E wanted steps
        walk_ends = record {
          rising = w.rising;
          supports = w.supports;
          reached = λ st h. let f : IsStepFrom c 0 marks st = w.from st h in subst (λ (g : Fact). IsReached (circuit_of s) E wanted g) (sym f.is) (w.reached f.place f.timed f.at f.marked);
          complete = λ f r.
              let m : IsMarkedAt f = reached_marked f r in
              let x : IsAt f = m.where_it_is in
              let st : (st : Step) × IsIn steps st × (fact_of st ≡ x.timed.fact) = w.complete x.place x.timed (omega arith) x.at m.marked in
              (st.0, st.1, st.2 ∙ x.is);
        }

-- the list from an earlier place on, the other way round, has one element more at its end
pub reverse_more : {X : Type 0} (xs : List X) (i : ℕ) (d : X) → 0 < i → i ≤ length xs → reverse (drop (i - 1) xs) ≡ reverse (drop i xs) ++ get_or xs (i - 1) d ∷ []
reverse_more {X} xs i d some most =
    let inside : i - 1 < length xs = omega arith in
    let e : suc (i - 1) ≡ i = omega arith in
    ap (λ (ys : List X). reverse ys) (drop-cons xs (i - 1) d inside ∙ ap (λ (k : ℕ). get_or xs (i - 1) d ∷ drop k xs) e) ∙ reverse-append (get_or xs (i - 1) d ∷ []) (drop i xs)

-- with one element more at its end it has one more at its head
pub map_reverse_push : {X Y : Type 0} (f : X → Y) (xs : List X) (x : X) → map f (reverse (xs ++ x ∷ [])) ≡ f x ∷ map f (reverse xs)
map_reverse_push {X} f xs x = ap (λ (ys : List X). map f ys) (reverse-append xs (x ∷ []))
