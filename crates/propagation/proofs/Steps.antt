-- What each step of bringing labels up to date keeps.
use Rattle.std.proofs.Common.{◌≡◌, ℕ, ◌⊎◌, inl, inr, IsTrue, true≢false, refl, sym, ap, subst, ◌∙◌, List, [], ◌∷◌, Option, Some, None}
use Rattle.circuit_model.specs.declared.model.Fact.{Fact}
use Rattle.environment_sets.specs.Lists.{IsIn}
use Rattle.environment_sets.specs.Sets.{Set, ◌⊆◌}
use Rattle.circuit_model.specs.Stock.{Stock, IsEnvironment}
use Rattle.environment_sets.specs.Families.{IsAntichain}
use Rattle.circuit_model.proofs.Monotony.{IsForced-map}
use Rattle.propagation.specs.Propagating.{Target, Family, RecordedInference, HasAt, HasMaker, AreChosen, SomeWaits, IsReached, IsDue, IsSourced, LeadsBack, IsPassedOver, IsSound, AreCarriedOut, AgreeWithout, IsPut}

-- a set is put in
module _ (t : Target) (U : Set ℕ) (old new : Family) (put : IsPut t U old new) where
  pub reached_stays : (s : Target) (E : Set ℕ) → IsReached old s E → IsReached new s E
  reached_stays s E (inl c) =
      elim (put.keeps s c.0 c.1) [
        | inl k ↦ inl (c.0, k, c.2)
        | inr gone ↦ elim gone.0 [
          | inl here ↦ inl (U, (let P : Target → Type 0 = λ r. new r U in subst P here put.there), λ k h. c.2 k (gone.1 k h))
          | inr clash ↦ inr (U, (let P : Target → Type 0 = λ r. new r U in subst P clash put.there), λ k h. c.2 k (gone.1 k h))
        ]
      ]
  reached_stays s E (inr c) =
      elim (put.keeps None c.0 c.1) [
        | inl k ↦ inr (c.0, k, c.2)
        | inr gone ↦ elim gone.0 [
          | inl here ↦ inr (U, (let P : Target → Type 0 = λ r. new r U in subst P here put.there), λ k h. c.2 k (gone.1 k h))
          | inr clash ↦ inr (U, (let P : Target → Type 0 = λ r. new r U in subst P clash put.there), λ k h. c.2 k (gone.1 k h))
        ]
      ]

  pub reached_there : (E : Set ℕ) → U ⊆ E → IsReached new t E
  reached_there E within = inl (U, put.there, within)

  module _ (S : Stock ℕ) (s : IsSound S old) (environment : IsEnvironment S U) (has : HasAt S t U) (out : IsReached old t U → ⊥) where
    put_environments : (r : Target) (E : Set ℕ) → new r E → IsEnvironment S E
    put_environments r E k =
        elim (put.only r E k) [
          | inl e ↦ subst (IsEnvironment S) e.1 environment
          | inr o ↦ s.environments r E o.0
        ]

    put_has : (r : Target) (E : Set ℕ) → new r E → HasAt S r E
    put_has r E k =
        elim (put.only r E k) [
          | inl e ↦ let P : Set ℕ → Type 0 = λ F. HasAt S r F in subst P e.1 (let Q : Target → Type 0 = λ q. HasAt S q U in subst Q e.0 has)
          | inr o ↦ s.sound r E o.0
        ]

    put_antichain : (r : Target) → IsAntichain (new r)
    put_antichain r E F e f within =
        elim (put.only r E e) [
          | inl x ↦ elim (put.only r F f) [
            | inl y ↦ let P : Set ℕ → Type 0 = λ G. F ⊆ G in subst P (sym y.1 ∙ x.1) (λ k h. h)
            | inr y ↦ absurd (y.1 (inl x.0) (let P : Set ℕ → Type 0 = λ G. G ⊆ F in subst P (sym x.1) within))
          ]
          | inr x ↦ elim (put.only r F f) [
            | inl y ↦ absurd (out (inl (E, (let P : Target → Type 0 = λ q. old q E in subst P (sym y.0) x.0), (let P : Set ℕ → Type 0 = λ G. E ⊆ G in subst P (sym y.1) within))))
            | inr y ↦ s.antichain r E F x.0 y.0 within
          ]
        ]

    put_clean : (f : Fact) (E g : Set ℕ) → new (Some f) E → new None g → g ⊆ E → ⊥
    put_clean f E g e n within =
        elim (put.only (Some f) E e) [
          | inl x ↦ elim (put.only None g n) [
            | inl y ↦ let no : Some f ≡ None = sym x.0 ∙ y.0 in cc
            | inr y ↦ out (inr (g, y.0, (let P : Set ℕ → Type 0 = λ G. g ⊆ G in subst P (sym x.1) within)))
          ]
          | inr x ↦ elim (put.only None g n) [
            | inl y ↦ x.1 (inr y.0) (let P : Set ℕ → Type 0 = λ G. G ⊆ E in subst P (sym y.1) within)
            | inr y ↦ s.clean f E g x.0 y.0 within
          ]
        ]

    pub put_sound : IsSound S new
    put_sound = record { environments = put_environments; sound = put_has; antichain = put_antichain; clean = put_clean }

  -- a set that has the slot leaves those that lack it
  pub put_agrees : (slot : ℕ) → IsTrue (U slot) → AgreeWithout slot old new
  put_agrees slot inside r E without = (
    (λ (k : old r E). elim (put.keeps r E k) [ inl n ↦ n | inr gone ↦ absurd (true≢false (sym (gone.1 slot inside) ∙ without)) ]),
    (λ (k : new r E). elim (put.only r E k) [ inl e ↦ absurd (true≢false (sym inside ∙ (ap (λ (F : Set ℕ). F slot) e.1 ∙ without))) | inr o ↦ o.0 ]),
  )

module _ (kept kept' : Family) where
  -- a choice of what is kept now, of which no part that is new fails to wait
  pub choice_before :
      (waits : Fact → Set ℕ → Type 0) (E : Set ℕ) (fs : List Fact) (ms : List (Set ℕ))
      → ((f : Fact) (m : Set ℕ) → IsIn fs f → kept' (Some f) m → kept (Some f) m ⊎ waits f m)
      → AreChosen kept' E fs ms → AreChosen kept E fs ms ⊎ SomeWaits waits fs ms
  choice_before waits E [] [] new c = inl tt
  choice_before waits E [] (m ∷ ms) new c = absurd c
  choice_before waits E (f ∷ fs) [] new c = absurd c
  choice_before waits E (f ∷ fs) (m ∷ ms) new c =
      elim (new f m (inl refl) c.0) [
        | inr w ↦ inr (inl w)
        | inl k ↦ elim (choice_before waits E fs ms (λ g n i. new g n (inr i)) c.2) [
          | inl all ↦ inl (k, c.1, all)
          | inr w ↦ inr (inr w)
        ]
      ]

pub SomeWaits-map : (v w : Fact → Set ℕ → Type 0) (fs : List Fact) (ms : List (Set ℕ)) → ((f : Fact) (m : Set ℕ) → v f m → w f m) → SomeWaits v fs ms → SomeWaits w fs ms
SomeWaits-map v w [] ms g h = absurd h
SomeWaits-map v w (f ∷ fs) [] g h = absurd h
SomeWaits-map v w (f ∷ fs) (m ∷ ms) g (inl h) = inl (g f m h)
SomeWaits-map v w (f ∷ fs) (m ∷ ms) g (inr h) = inr (SomeWaits-map v w fs ms g h)

-- what waits is one thing or the other
parted : (v w x : Fact → Set ℕ → Type 0) (fs : List Fact) (ms : List (Set ℕ)) → ((f : Fact) (m : Set ℕ) → v f m → w f m ⊎ x f m) → SomeWaits v fs ms → SomeWaits w fs ms ⊎ SomeWaits x fs ms
parted v w x [] ms g h = absurd h
parted v w x (f ∷ fs) [] g h = absurd h
parted v w x (f ∷ fs) (m ∷ ms) g (inl h) = elim (g f m h) [ inl a ↦ inl (inl a) | inr b ↦ inr (inl b) ]
parted v w x (f ∷ fs) (m ∷ ms) g (inr h) = elim (parted v w x fs ms g h) [ inl a ↦ inl (inr a) | inr b ↦ inr (inr b) ]

-- what has its source still has it where more is reached
module _ (S : Stock ℕ) (kept kept' : Family) (stays : (t : Target) (E : Set ℕ) → IsReached kept t E → IsReached kept' t E) where
  pub IsSourced-map : (slot : ℕ) (f : Fact) (m : Set ℕ) → IsSourced S kept slot f m → IsSourced S kept' slot f m
  IsSourced-map slot f m s = IsForced-map (λ a x. x) (λ g r. (r.0, r.1, r.2, stays (Some g) r.0 r.3)) s

  pub LeadsBack-map : (maker : Option ℕ) (fs : List Fact) (ms : List (Set ℕ)) → LeadsBack S kept maker fs ms → LeadsBack S kept' maker fs ms
  LeadsBack-map maker fs ms b = record { slot = b.slot; made = b.made; lone = b.lone; some_sourced = SomeWaits-map (IsSourced S kept b.slot) (IsSourced S kept' b.slot) fs ms (IsSourced-map b.slot) b.some_sourced }

-- a set was put in: what is kept anew waits at each inference that goes from it
module _ (S : Stock ℕ) (kept kept' : Family) (recorded : RecordedInference → Type 0) (pending pending' : Family) (waits waits' : RecordedInference → Fact → Set ℕ → Type 0) where
  pub carried_on :
      AreCarriedOut S kept recorded pending waits
      → ((t : Target) (E : Set ℕ) → IsReached kept t E → IsReached kept' t E)
      → ((t : Target) (E : Set ℕ) → IsDue kept pending t E → IsDue kept' pending' t E)
      → ((j : RecordedInference) (f : Fact) (m : Set ℕ) → waits j f m → waits' j f m)
      → ((j : RecordedInference) (f : Fact) (m : Set ℕ) → recorded j → IsIn j.from f → kept' (Some f) m → kept (Some f) m ⊎ waits' j f m)
      → AreCarriedOut S kept' recorded pending' waits'
  carried_on c stays on more new = record {
    readings = λ k f E named inside. on (Some f) E (c.readings k f E named inside);
    inferences = λ j ms E r chosen maker. elim (choice_before kept kept' (waits' j) E j.from ms (λ f m i. new j f m r i) chosen) [
      | inl before ↦ elim (c.inferences j ms E r before maker) [
        | inl due ↦ inl (on j.to E due)
        | inr (inl w) ↦ inr (inl (SomeWaits-map (waits j) (waits' j) j.from ms (more j) w))
        | inr (inr back) ↦ inr (inr (LeadsBack-map S kept kept' stays j.maker j.from ms back))
      ]
      | inr w ↦ inr (inl w)
    ];
  }

  -- what is passed over
  back_of : (maker : Option ℕ) (fs : List Fact) (ms : List (Set ℕ)) → SomeWaits (IsPassedOver S kept maker) fs ms → LeadsBack S kept maker fs ms
  back_of maker [] ms h = absurd h
  back_of maker (f ∷ fs) [] h = absurd h
  back_of maker (f ∷ fs) (m ∷ ms) (inl h) = record { slot = h.slot; made = h.made; lone = h.lone; some_sourced = inl h.sourced }
  back_of maker (f ∷ fs) (m ∷ ms) (inr h) = let r : LeadsBack S kept maker fs ms = back_of maker fs ms h in record { slot = r.slot; made = r.made; lone = r.lone; some_sourced = inr r.some_sourced }

  -- what waited waits, or it is passed over
  pub carried_past :
      AreCarriedOut S kept recorded pending waits → ((j : RecordedInference) (f : Fact) (m : Set ℕ) → waits j f m → waits' j f m ⊎ IsPassedOver S kept j.maker f m)
      → AreCarriedOut S kept recorded pending waits'
  carried_past c past = record {
    readings = c.readings;
    inferences = λ j ms E r chosen maker. elim (c.inferences j ms E r chosen maker) [
      | inl due ↦ inl due
      | inr (inr back) ↦ inr (inr back)
      | inr (inl w) ↦ elim (parted (waits j) (waits' j) (IsPassedOver S kept j.maker) j.from ms (past j) w) [
        | inl still ↦ inr (inl still)
        | inr passed ↦ inr (inr (back_of j.maker j.from ms passed))
      ]
    ];
  }

  -- the item that was picked: each choice that has it is to be put in
  pub carried_pick :
      (picked : RecordedInference) (at : Fact) (chosen : Set ℕ) → AreCarriedOut S kept recorded pending waits
      → ((t : Target) (E : Set ℕ) → IsDue kept pending t E → IsDue kept pending' t E)
      → ((j : RecordedInference) (f : Fact) (m : Set ℕ) → waits j f m → waits' j f m ⊎ ((j ≡ picked) × (f ≡ at) × (m ≡ chosen)))
      → ((ms : List (Set ℕ)) (E : Set ℕ) → AreChosen kept E picked.from ms → HasMaker picked.maker E → SomeWaits (λ f m. (f ≡ at) × (m ≡ chosen)) picked.from ms → IsDue kept pending' picked.to E)
      → AreCarriedOut S kept recorded pending' waits'
  carried_pick picked at chosen c on less unions = record {
    readings = λ k f E named inside. on (Some f) E (c.readings k f E named inside);
    inferences = λ j ms E r are maker. elim (c.inferences j ms E r are maker) [
      | inl due ↦ inl (on j.to E due)
      | inr (inr back) ↦ inr (inr back)
      | inr (inl w) ↦ elim (split j j.from ms w) [
        | inl still ↦ inr (inl still)
        | inr now ↦ inl (let P : RecordedInference → Type 0 = λ i. AreChosen kept E i.from ms → HasMaker i.maker E → SomeWaits (λ f m. (f ≡ at) × (m ≡ chosen)) i.from ms → IsDue kept pending' i.to E in subst P (sym now.0) (unions ms E) are maker now.1)
      ]
    ];
  }
    where
      split : (j : RecordedInference) (fs : List Fact) (ms : List (Set ℕ)) → SomeWaits (waits j) fs ms → SomeWaits (waits' j) fs ms ⊎ ((j ≡ picked) × SomeWaits (λ f m. (f ≡ at) × (m ≡ chosen)) fs ms)
      split j [] ms h = absurd h
      split j (f ∷ fs) [] h = absurd h
      split j (f ∷ fs) (m ∷ ms) (inl h) = elim (less j f m h) [ inl w ↦ inl (inl w) | inr e ↦ inr (e.0, inl (e.1, e.2)) ]
      split j (f ∷ fs) (m ∷ ms) (inr h) = elim (split j fs ms h) [ inl w ↦ inl (inr w) | inr e ↦ inr (e.0, inr e.1) ]

-- a further inference is recorded: each choice for it waits or is due
module _ (S : Stock ℕ) (kept : Family) (recorded recorded' : RecordedInference → Type 0) (pending pending' : Family) (waits waits' : RecordedInference → Fact → Set ℕ → Type 0) where
  pub carried_note :
      (further : RecordedInference) → AreCarriedOut S kept recorded pending waits
      → ((j : RecordedInference) → recorded' j → recorded j ⊎ (j ≡ further))
      → ((t : Target) (E : Set ℕ) → IsDue kept pending t E → IsDue kept pending' t E)
      → ((j : RecordedInference) (f : Fact) (m : Set ℕ) → waits j f m → waits' j f m)
      → ((ms : List (Set ℕ)) (E : Set ℕ) → AreChosen kept E further.from ms → HasMaker further.maker E → IsDue kept pending' further.to E ⊎ (SomeWaits (waits' further) further.from ms ⊎ LeadsBack S kept further.maker further.from ms))
      → AreCarriedOut S kept recorded' pending' waits'
  carried_note further c one on more new = record {
    readings = λ k f E named inside. on (Some f) E (c.readings k f E named inside);
    inferences = λ j ms E r are maker. elim (one j r) [
      | inl before ↦ elim (c.inferences j ms E before are maker) [
        | inl due ↦ inl (on j.to E due)
        | inr (inl w) ↦ inr (inl (SomeWaits-map (waits j) (waits' j) j.from ms (more j) w))
        | inr (inr back) ↦ inr (inr back)
      ]
      | inr e ↦ let P : RecordedInference → Type 0 = λ i. AreChosen kept E i.from ms → HasMaker i.maker E → IsDue kept pending' i.to E ⊎ (SomeWaits (waits' i) i.from ms ⊎ LeadsBack S kept i.maker i.from ms) in subst P (sym e) (new ms E) are maker
    ];
  }
