-- How bringing labels up to date begins, and how it begins again after it was given up.
use Rattle.std.proofs.Common.{◌≡◌, ◌≢◌, ℕ, ◌⊎◌, inl, inr, IsTrue, sym, subst, ◌∙◌, List, [], ◌∷◌, Some, None}
use Rattle.circuit_model.specs.declared.model.Fact.{Fact}
use Rattle.circuit_model.specs.declared.model.Instance.{Instance}
use Rattle.circuit_model.specs.declared.model.Assumption.TheVariants.{Part, Reading}
use Rattle.environment_sets.specs.Lists.{IsIn}
use Rattle.environment_sets.specs.Sets.{Set}
use Rattle.circuit_model.specs.Stock.{Stock, IsEnvironment, Has}
use Rattle.environment_sets.specs.Families.{IsCovered, IsAntichain}
use Rattle.circuit_model.specs.Settled.{IsSettled}
use Rattle.circuit_model.specs.Laws.{HasOneMore}
use Rattle.circuit_model.proofs.Settled as settled_is
use Rattle.propagation.specs.Propagating.{Target, Family, RecordedInference, HasAt, Leads, HasMaker, AreChosen, SomeWaits, IsReached, IsDue, IsSound, All, AreRecorded, AreCarriedOut, IsPendingSound, IsWaitingSound, IsPropagating, Waits}
use Rattle.propagation.proofs.Unions.{leads_on, has_more}
use Rattle.propagation.proofs.Steps.{SomeWaits-map}
use Rattle.propagation.proofs.Entry.{leads_more, sound_more, entry_reaches}

chosen_has : (S : Stock ℕ) (kept : Family) (sound : (f : Fact) (E : Set ℕ) → kept (Some f) E → Has S f E) (E : Set ℕ) (fs : List Fact) (ms : List (Set ℕ)) → AreChosen kept E fs ms → (f : Fact) → IsIn fs f → Has S f E
chosen_has S kept sound E [] ms c f i = absurd i
chosen_has S kept sound E (g ∷ fs) [] c f i = absurd c
chosen_has S kept sound E (g ∷ fs) (m ∷ ms) c f (inl e) = let P : Fact → Type 0 = λ x. Has S x E in subst P e (has_more S E (Some g) m c.1 (sound g m c.0))
chosen_has S kept sound E (g ∷ fs) (m ∷ ms) c f (inr i) = chosen_has S kept sound E fs ms c.2 f i

-- nothing is to be put in
abbrev pub Nothing : Family
Nothing t E = ⊥

-- nothing is at hand
abbrev pub NoItem : RecordedInference → Fact → Set ℕ → Type 0
NoItem j f E = ⊥

-- nothing came
abbrev pub NoArrival : Fact → Set ℕ → Type 0
NoArrival f E = ⊥

module _ (S : Stock ℕ) (kept : Family) (settled : IsSettled S (λ f. kept (Some f)) (kept None)) where
  reached : (t : Target) (E : Set ℕ) → HasAt S t E → IsReached kept t E
  reached (Some f) E h = settled_is.covered S (λ f. kept (Some f)) (kept None) settled E h.0 f h.1
  reached None E h = inl (settled_is.clash_covered S (λ f. kept (Some f)) (kept None) settled E h)

  -- each choice for an inference is reached already
  pub choice_reached : (j : RecordedInference) (ms : List (Set ℕ)) (E : Set ℕ) → Leads S j.from j.maker j.to → AreChosen kept E j.from ms → HasMaker j.maker E → IsReached kept j.to E
  choice_reached j ms E leads chosen maker = reached j.to E (leads_on S E j.from j.maker j.to leads maker (chosen_has S kept settled.sound E j.from ms chosen))

  pub sound_of_settled : IsSound S kept
  sound_of_settled = record {
    environments = λ t. elim t as (λ t. (E : Set ℕ) → kept t E → IsEnvironment S E) [ Some f ↦ settled.environments f | None ↦ settled.nogood_environments ];
    sound = λ t. elim t as (λ t. (E : Set ℕ) → kept t E → HasAt S t E) [ Some f ↦ settled.sound f | None ↦ settled.nogood_sound ];
    antichain = λ t. elim t as (λ t. IsAntichain (kept t)) [ Some f ↦ settled.antichain f | None ↦ settled.nogood_antichain ];
    clean = settled.clean;
  }

  module _ (R : Stock ℕ) (slot : ℕ) (more : HasOneMore ℕ S R slot) where
    -- one reading more: it alone is to be put in
    pub carried_reading :
        (recorded : RecordedInference → Type 0) → ((j : RecordedInference) → recorded j → Leads S j.from j.maker j.to) → (f : Fact) → R slot ≡ Some (Reading f) → (pending : Family)
        → ((E : Set ℕ) → IsTrue (E slot) → IsCovered (pending (Some f)) E) → ((k : ℕ) → (k ≡ slot) ⊎ (k ≢ slot)) → (waits : RecordedInference → Fact → Set ℕ → Type 0) → AreCarriedOut R kept recorded pending waits
    carried_reading recorded leads f reads pending alone decide waits = record {
      readings = λ k g E named inside. elim (decide k) [
        | inl e ↦
            let same : Some (Reading g) ≡ Some (Reading f) = (let P : ℕ → Type 0 = λ i. R i ≡ Some (Reading g) in sym (subst P e named) ∙ reads) in
            let fg : g ≡ f = cc in
            let P : Fact → Type 0 = λ x. IsDue kept pending (Some x) E in
            subst P (sym fg) (inr (alone E (let Q : ℕ → Type 0 = λ i. IsTrue (E i) in subst Q e inside)))
        | inr ne ↦ inl (settled.readings k g E (more.1 k (Reading g) ne named) inside)
      ];
      inferences = λ j ms E r chosen maker. inl (inl (choice_reached j ms E (leads j r) chosen maker));
    }

    -- and what was recorded is recorded
    pub recorded_reading :
        (met : Fact → Type 0) (recorded : RecordedInference → Type 0) → AreRecorded S met All recorded → (f : Fact) → R slot ≡ Some (Reading f) → ((k : ℕ) → (k ≡ slot) ⊎ (k ≢ slot)) → AreRecorded R met All recorded
    recorded_reading met recorded are f reads decide = record {
      leads = λ j r. leads_more S R slot more j.from j.maker j.to (are.leads j r);
      forced = λ k part instance known p v c named of_part scope held at forces. elim (decide k) [
        | inl e ↦ absurd (let no : Some (Reading f) ≡ Some (Part part) = (let P : ℕ → Type 0 = λ i. R i ≡ Some (Part part) in sym reads ∙ subst P e named) in cc)
        | inr ne ↦ are.forced k part instance known p v c (more.1 k (Part part) ne named) of_part scope held at forces
      ];
      refuted = λ k part instance known named of_part scope held refutes. elim (decide k) [
        | inl e ↦ absurd (let no : Some (Reading f) ≡ Some (Part part) = (let P : ℕ → Type 0 = λ i. R i ≡ Some (Part part) in sym reads ∙ subst P e named) in cc)
        | inr ne ↦ are.refuted k part instance known (more.1 k (Part part) ne named) of_part scope held refutes
      ];
      two_words = are.two_words;
    }

module _
    (S R : Stock ℕ) (slot : ℕ) (more : HasOneMore ℕ S R slot) (decide : (k : ℕ) → (k ≡ slot) ⊎ (k ≢ slot))
    (met : Fact → Type 0) (kept : Family) (recorded : RecordedInference → Type 0) (settled : IsSettled S (λ f. kept (Some f)) (kept None)) (are : AreRecorded S met All recorded)
    (were_met : (f : Fact) (E : Set ℕ) → kept (Some f) E → met f) (pending : Family) (due : IsPendingSound R pending)
  where
    sound_now : IsSound R kept
    sound_now = sound_more S R slot more kept (sound_of_settled S kept settled)

    -- one reading more: it alone is to be put in, and nothing waits
    pub start_reading : (f : Fact) → R slot ≡ Some (Reading f) → ((E : Set ℕ) → IsTrue (E slot) → IsCovered (pending (Some f)) E) → IsPropagating R slot met kept recorded pending NoItem NoArrival
    start_reading f reads alone = record {
      sound = sound_now;
      before = entry_reaches S R slot more kept settled;
      are = recorded_reading S kept settled R slot more met recorded are f reads decide;
      were_met = were_met;
      carried = carried_reading S kept settled R slot more recorded are.leads f reads pending alone decide (Waits recorded NoItem NoArrival);
      due = due;
      waiting = record { inference = λ j f m w. absurd w; antecedent = λ j f m w. absurd w; environment = λ j f m w. absurd w; sound = λ j f m w. absurd w };
      arrivals = record { environment = λ f m c. absurd c; sound = λ f m c. absurd c };
    }

    -- one component more: its inferences are recorded, and each choice for them is at hand or is to be put in
    pub start_part :
        (part : List Instance) → R slot ≡ Some (Part part) → (recorded' : RecordedInference → Type 0) (at_hand : RecordedInference → Fact → Set ℕ → Type 0) → AreRecorded R met All recorded'
        → ((j : RecordedInference) → recorded' j → recorded j ⊎ (j.maker ≡ Some slot)) → IsWaitingSound R recorded' at_hand
        → ((j : RecordedInference) (ms : List (Set ℕ)) (E : Set ℕ) → recorded' j → j.maker ≡ Some slot → AreChosen kept E j.from ms → HasMaker j.maker E → IsDue kept pending j.to E ⊎ SomeWaits (at_hand j) j.from ms)
        → IsPropagating R slot met kept recorded' pending at_hand NoArrival
    start_part part named recorded' at_hand are' new waiting choices = record {
      sound = sound_now;
      before = entry_reaches S R slot more kept settled;
      are = are';
      were_met = were_met;
      carried = record {
        readings = λ k f E reads inside. elim (decide k) [
          | inl e ↦ absurd (let bad : Some (Part part) ≡ Some (Reading f) = (let P : ℕ → Type 0 = λ i. R i ≡ Some (Reading f) in sym named ∙ subst P e reads) in cc)
          | inr ne ↦ inl (settled.readings k f E (more.1 k (Reading f) ne reads) inside)
        ];
        inferences = λ j ms E r chosen maker. elim (new j r) [
          | inl old ↦ inl (inl (choice_reached S kept settled j ms E (are.leads j old) chosen maker))
          | inr made ↦ elim (choices j ms E r made chosen maker) [
            | inl at_once ↦ inl at_once
            | inr w ↦ inr (inl (SomeWaits-map (at_hand j) (Waits recorded' at_hand NoArrival j) j.from ms (λ f m h. inl h) w))
          ]
        ];
      };
      due = due;
      waiting = waiting;
      arrivals = record { environment = λ f m c. absurd c; sound = λ f m c. absurd c };
    }
