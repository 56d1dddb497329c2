-- What holds between picks, kept by each step.
use Rattle.std.proofs.Common.{◌≡◌, ℕ, ◌⊎◌, inl, inr, IsTrue, sym, subst, ◌↔◌, List, [], ◌∷◌, Some, None}
use Rattle.circuit_model.specs.declared.model.Fact.{Fact}
use Rattle.environment_sets.specs.Lists.{IsIn}
use Rattle.environment_sets.specs.Sets.{Set, ◌⊆◌}
use Rattle.circuit_model.specs.Stock.{Stock, IsEnvironment, Has}
use Rattle.circuit_model.specs.Settled.{IsSettled}
use Rattle.propagation.specs.Propagating.{Target, Family, RecordedInference, HasAt, HasMaker, AreChosen, SomeWaits, IsReached, IsDue, All, AreRecorded, IsPendingSound, Waits, IsPassedOver, AgreeWithout, IsPut, IsPropagating}
use Rattle.propagation.proofs.Steps.{reached_stays, reached_there, put_sound, put_agrees, SomeWaits-map, carried_on, carried_past, carried_pick}
use Rattle.propagation.proofs.Entry.{has_slot}
use Rattle.propagation.proofs.Ends as ends

module _
    (S : Stock ℕ) (slot : ℕ) (met : Fact → Type 0) (kept : Family) (recorded : RecordedInference → Type 0) (pending : Family) (at_hand : RecordedInference → Fact → Set ℕ → Type 0)
    (came : Fact → Set ℕ → Type 0) (was : IsPropagating S slot met kept recorded pending at_hand came)
  where
    abbrev Now : RecordedInference → Fact → Set ℕ → Type 0
    Now = Waits recorded at_hand came

    -- one that was to be put in and is reached already goes
    module _ (pending' : Family) (t : Target) (U : Set ℕ) (rest : (s : Target) (E : Set ℕ) → pending s E → pending' s E ⊎ ((s ≡ t) × (E ≡ U))) (fewer : (s : Target) (E : Set ℕ) → pending' s E → pending s E) where
      still_due : (kept' : Family) → ((s : Target) (E : Set ℕ) → IsReached kept s E → IsReached kept' s E) → ((E : Set ℕ) → U ⊆ E → IsReached kept' t E) → (s : Target) (E : Set ℕ) → IsDue kept pending s E → IsDue kept' pending' s E
      still_due kept' stays there s E (inl r) = inl (stays s E r)
      still_due kept' stays there s E (inr d) =
          elim (rest s d.0 d.1) [
            | inl p ↦ inr (d.0, p, d.2)
            | inr e ↦ inl (let P : Target → Type 0 = λ q. IsReached kept' q E in subst P (sym e.0) (there E (let Q : Set ℕ → Type 0 = λ F. F ⊆ E in subst Q e.1 d.2)))
          ]

      due_fewer : IsPendingSound S pending'
      due_fewer = record { environments = λ s E p. was.due.environments s E (fewer s E p); sound = λ s E p. was.due.sound s E (fewer s E p) }

      larger : (E : Set ℕ) → U ⊆ E → IsReached kept t U → IsReached kept t E
      larger E within (inl c) = inl (c.0, c.1, λ k h. within k (c.2 k h))
      larger E within (inr c) = inr (c.0, c.1, λ k h. within k (c.2 k h))

      pub reached_goes : IsReached kept t U → IsPropagating S slot met kept recorded pending' at_hand came
      reached_goes r = record {
        sound = was.sound;
        before = was.before;
        are = was.are;
        were_met = was.were_met;
        carried = carried_on S kept kept recorded pending pending' Now Now was.carried (λ s E x. x) (still_due kept (λ s E x. x) (λ E within. larger E within r)) (λ j f m w. w) (λ j f m r i k. inl k);
        due = due_fewer;
        waiting = was.waiting;
        arrivals = was.arrivals;
      }

      -- one that is not reached is put in; to a fact it came
      module _
          (kept' : Family) (put : IsPut t U kept kept') (out : IsReached kept t U → ⊥) (environment : IsEnvironment S U) (has : HasAt S t U)
          (target_met : (f : Fact) → t ≡ Some f → met f)
          (came' : Fact → Set ℕ → Type 0)
          (more : (f : Fact) (m : Set ℕ) → came f m → came' f m)
          (comes : (f : Fact) → t ≡ Some f → came' f U)
          (arrival : (f : Fact) (m : Set ℕ) → came' f m → came f m ⊎ ((t ≡ Some f) × (m ≡ U)))
        where
          pub slot_inside : IsTrue (U slot)
          slot_inside = has_slot S slot kept was.before t U has out

          pub agrees : AgreeWithout slot kept kept'
          agrees = put_agrees t U kept kept' put slot slot_inside

          on : (s : Target) (E : Set ℕ) → IsDue kept pending s E → IsDue kept' pending' s E
          on = still_due kept' (reached_stays t U kept kept' put) (reached_there t U kept kept' put)

          widen : (j : RecordedInference) (f : Fact) (m : Set ℕ) → Now j f m → Waits recorded at_hand came' j f m
          widen j f m (inl w) = inl w
          widen j f m (inr w) = inr (w.0, w.1, more f m w.2)

          -- what is kept anew at a fact waits at each inference from there
          anew : (j : RecordedInference) (f : Fact) (m : Set ℕ) → recorded j → IsIn j.from f → kept' (Some f) m → kept (Some f) m ⊎ Waits recorded at_hand came' j f m
          anew j f m r i k =
              elim (put.only (Some f) m k) [
                | inl e ↦ inr (inr (r, i, subst (came' f) e.1 (comes f e.0)))
                | inr o ↦ inl o.0
              ]

          pub added : IsPropagating S slot met kept' recorded pending' at_hand came'
          added = record {
            sound = put_sound t U kept kept' put S was.sound environment has out;
            before = λ s E without h. reached_stays t U kept kept' put s E (was.before s E without h);
            are = was.are;
            were_met = λ f E k. elim (put.only (Some f) E k) [ inl e ↦ target_met f e.0 | inr o ↦ was.were_met f E o.0 ];
            carried = carried_on S kept kept' recorded pending pending' Now (Waits recorded at_hand came') was.carried (reached_stays t U kept kept' put) on widen anew;
            due = due_fewer;
            waiting = was.waiting;
            arrivals = record {
              environment = λ f m c. elim (arrival f m c) [ inl o ↦ was.arrivals.environment f m o | inr n ↦ subst (IsEnvironment S) (sym n.1) environment ];
              sound = λ f m c. elim (arrival f m c) [ inl o ↦ was.arrivals.sound f m o | inr n ↦ let P : Set ℕ → Type 0 = λ F. Has S f F in subst P (sym n.1) (let Q : Target → Type 0 = λ q. HasAt S q U in subst Q n.0 has) ];
            };
          }

    -- what is at hand is carried out: the unions for it are to be put in
    module _
        (pending' : Family) (at_hand' : RecordedInference → Fact → Set ℕ → Type 0) (j : RecordedInference) (f : Fact) (U : Set ℕ)
        (left : (i : RecordedInference) (g : Fact) (m : Set ℕ) → at_hand i g m → at_hand' i g m ⊎ ((i ≡ j) × (g ≡ f) × (m ≡ U)))
        (fewer : (i : RecordedInference) (g : Fact) (m : Set ℕ) → at_hand' i g m → at_hand i g m)
        (more : (s : Target) (E : Set ℕ) → pending s E → pending' s E)
        (due' : IsPendingSound S pending')
        (unions : (ms : List (Set ℕ)) (E : Set ℕ) → AreChosen kept E j.from ms → HasMaker j.maker E → SomeWaits (λ g m. (g ≡ f) × (m ≡ U)) j.from ms → IsDue kept pending' j.to E)
      where
        left_waits : (i : RecordedInference) (g : Fact) (m : Set ℕ) → Now i g m → Waits recorded at_hand' came i g m ⊎ ((i ≡ j) × (g ≡ f) × (m ≡ U))
        left_waits i g m (inl w) = elim (left i g m w) [ inl still ↦ inl (inl still) | inr e ↦ inr e ]
        left_waits i g m (inr w) = inl (inr w)

        pub picked : IsPropagating S slot met kept recorded pending' at_hand' came
        picked = record {
          sound = was.sound;
          before = was.before;
          are = was.are;
          were_met = was.were_met;
          carried = carried_pick S kept kept recorded pending pending' Now (Waits recorded at_hand' came) j f U was.carried (λ t E d. elim d [ inl r ↦ inl r | inr p ↦ inr (p.0, more t p.0 p.1, p.2) ]) left_waits unions;
          due = due';
          waiting = record {
            inference = λ i g m w. was.waiting.inference i g m (fewer i g m w);
            antecedent = λ i g m w. was.waiting.antecedent i g m (fewer i g m w);
            environment = λ i g m w. was.waiting.environment i g m (fewer i g m w);
            sound = λ i g m w. was.waiting.sound i g m (fewer i g m w);
          };
          arrivals = was.arrivals;
        }

    -- a set that came is taken: each recorded inference from its fact is at hand with it, or is passed over
    module _
        (at_hand' : RecordedInference → Fact → Set ℕ → Type 0) (came' : Fact → Set ℕ → Type 0) (f : Fact) (U : Set ℕ) (there : came f U)
        (left : (g : Fact) (m : Set ℕ) → came g m → came' g m ⊎ ((g ≡ f) × (m ≡ U)))
        (fewer : (g : Fact) (m : Set ℕ) → came' g m → came g m)
        (more : (j : RecordedInference) (g : Fact) (m : Set ℕ) → at_hand j g m → at_hand' j g m)
        (item : (j : RecordedInference) → recorded j → IsIn j.from f → at_hand' j f U ⊎ IsPassedOver S kept j.maker f U)
        (items : (j : RecordedInference) (g : Fact) (m : Set ℕ) → at_hand' j g m → at_hand j g m ⊎ (recorded j × IsIn j.from f × (g ≡ f) × (m ≡ U)))
      where
        at_either : (j : RecordedInference) (g : Fact) (m : Set ℕ) → Now j g m → Waits recorded at_hand' came' j g m ⊎ IsPassedOver S kept j.maker g m
        at_either j g m (inl w) = inl (inl (more j g m w))
        at_either j g m (inr w) =
            elim (left g m w.2) [
              | inl still ↦ inl (inr (w.0, w.1, still))
              | inr e ↦
                  let P : Fact → Type 0 = λ h. Waits recorded at_hand' came' j h m ⊎ IsPassedOver S kept j.maker h m in
                  let Q : Set ℕ → Type 0 = λ n. Waits recorded at_hand' came' j f n ⊎ IsPassedOver S kept j.maker f n in
                  subst P (sym e.0) (subst Q (sym e.1) (elim (item j w.0 (subst (IsIn j.from) e.0 w.1)) [ inl now ↦ inl (inl now) | inr past ↦ inr past ]))
            ]

        pub brought : IsPropagating S slot met kept recorded pending at_hand' came'
        brought = record {
          sound = was.sound;
          before = was.before;
          are = was.are;
          were_met = was.were_met;
          carried = carried_past S kept kept recorded pending pending Now (Waits recorded at_hand' came') was.carried at_either;
          due = was.due;
          waiting = record {
            inference = λ j g m w. elim (items j g m w) [ inl o ↦ was.waiting.inference j g m o | inr n ↦ n.0 ];
            antecedent = λ j g m w. elim (items j g m w) [ inl o ↦ was.waiting.antecedent j g m o | inr n ↦ subst (IsIn j.from) (sym n.2) n.1 ];
            environment = λ j g m w. elim (items j g m w) [ inl o ↦ was.waiting.environment j g m o | inr n ↦ subst (IsEnvironment S) (sym n.3) (was.arrivals.environment f U there) ];
            sound = λ j g m w. elim (items j g m w) [
              | inl o ↦ was.waiting.sound j g m o
              | inr n ↦ let P : Fact → Type 0 = λ h. Has S h m in subst P (sym n.2) (let Q : Set ℕ → Type 0 = λ F. Has S f F in subst Q (sym n.3) (was.arrivals.sound f U there))
            ];
          };
          arrivals = record { environment = λ g m c. was.arrivals.environment g m (fewer g m c); sound = λ g m c. was.arrivals.sound g m (fewer g m c) };
        }

    -- a fact is met at which nothing is kept: what is found from there is recorded
    module _
        (f : Fact) (unmet : met f → ⊥) (met' : Fact → Type 0) (still_met : (g : Fact) → met g → met' g) (recorded' : RecordedInference → Type 0) (more : (j : RecordedInference) → recorded j → recorded' j)
        (new : (j : RecordedInference) → recorded' j → recorded j ⊎ IsIn j.from f)
        (are' : AreRecorded S met' All recorded')
      where
        none_chosen : (E : Set ℕ) (fs : List Fact) (ms : List (Set ℕ)) → IsIn fs f → AreChosen kept E fs ms → ⊥
        none_chosen E [] ms i c = i
        none_chosen E (g ∷ fs) [] i c = c
        none_chosen E (g ∷ fs) (m ∷ ms) (inl e) c = unmet (subst met e (was.were_met g m c.0))
        none_chosen E (g ∷ fs) (m ∷ ms) (inr i) c = none_chosen E fs ms i c.2

        still_waits : (j : RecordedInference) (g : Fact) (m : Set ℕ) → Now j g m → Waits recorded' at_hand came j g m
        still_waits j g m (inl w) = inl w
        still_waits j g m (inr w) = inr (more j w.0, w.1, w.2)

        pub fact_met : IsPropagating S slot met' kept recorded' pending at_hand came
        fact_met = record {
          sound = was.sound;
          before = was.before;
          are = are';
          were_met = λ g E k. still_met g (was.were_met g E k);
          carried = record {
            readings = was.carried.readings;
            inferences = λ j ms E r chosen maker. elim (new j r) [
              | inl r0 ↦ elim (was.carried.inferences j ms E r0 chosen maker) [
                | inl at_once ↦ inl at_once
                | inr (inl w) ↦ inr (inl (SomeWaits-map (Now j) (Waits recorded' at_hand came j) j.from ms (still_waits j) w))
                | inr (inr back) ↦ inr (inr back)
              ]
              | inr i ↦ absurd (none_chosen E j.from ms i chosen)
            ];
          };
          due = was.due;
          waiting = record {
            inference = λ j g m w. more j (was.waiting.inference j g m w);
            antecedent = was.waiting.antecedent;
            environment = was.waiting.environment;
            sound = was.waiting.sound;
          };
          arrivals = was.arrivals;
        }

    -- the same sets are due and the same items are at hand, in another order
    pub reordered :
        (pending' : Family) (at_hand' : RecordedInference → Fact → Set ℕ → Type 0) (came' : Fact → Set ℕ → Type 0) → ((t : Target) (E : Set ℕ) → pending t E ↔ pending' t E)
        → ((j : RecordedInference) (f : Fact) (m : Set ℕ) → at_hand j f m ↔ at_hand' j f m) → ((f : Fact) (m : Set ℕ) → came f m ↔ came' f m)
        → IsPropagating S slot met kept recorded pending' at_hand' came'
    reordered pending' at_hand' came' dues items arrived = record {
      sound = was.sound;
      before = was.before;
      are = was.are;
      were_met = was.were_met;
      carried = carried_on S kept kept recorded pending pending' Now (Waits recorded at_hand' came') was.carried (λ t E x. x) (λ t E d. elim d [ inl r ↦ inl r | inr p ↦ inr (p.0, (dues t p.0).0 p.1, p.2) ]) alike (λ j f m r i k. inl k);
      due = record { environments = λ t E p. was.due.environments t E ((dues t E).1 p); sound = λ t E p. was.due.sound t E ((dues t E).1 p) };
      waiting = record {
        inference = λ j f m w. was.waiting.inference j f m ((items j f m).1 w);
        antecedent = λ j f m w. was.waiting.antecedent j f m ((items j f m).1 w);
        environment = λ j f m w. was.waiting.environment j f m ((items j f m).1 w);
        sound = λ j f m w. was.waiting.sound j f m ((items j f m).1 w);
      };
      arrivals = record { environment = λ f m c. was.arrivals.environment f m ((arrived f m).1 c); sound = λ f m c. was.arrivals.sound f m ((arrived f m).1 c) };
    }
      where
        alike : (j : RecordedInference) (f : Fact) (m : Set ℕ) → Now j f m → Waits recorded at_hand' came' j f m
        alike j f m (inl w) = inl ((items j f m).0 w)
        alike j f m (inr w) = inr (w.0, w.1, (arrived f m).0 w.2)

    -- at the end
    pub ended :
        ((t : Target) (E : Set ℕ) → pending t E → ⊥) → ((i : RecordedInference) (g : Fact) (m : Set ℕ) → at_hand i g m → ⊥) → ((g : Fact) (m : Set ℕ) → came g m → ⊥)
        → IsSettled S (λ g. kept (Some g)) (kept None)
    ended none_due none_at_hand none_came = ends.settled S met kept recorded pending Now was.sound was.are was.carried was.were_met none_due nothing_waits
      where
        nothing_waits : (j : RecordedInference) (g : Fact) (m : Set ℕ) → Now j g m → ⊥
        nothing_waits j g m (inl w) = none_at_hand j g m w
        nothing_waits j g m (inr w) = none_came g m w.2
