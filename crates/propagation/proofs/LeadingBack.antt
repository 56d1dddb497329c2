-- What leads back to where it came from is reached without it: from words that stand under less.
use Rattle.std.proofs.Common.{◌≡◌, ℕ, zero, suc, ◌<◌, ◌⊎◌, inl, inr, true, false, IsTrue, refl, sym, subst, ◌∙◌, List, [], ◌∷◌, length, Option, Some, None, slice_get, arith}
use Rattle.std.proofs.lemmas.Option.{slice_get_within}
use Rattle.circuit_model.specs.declared.model.Cell.{Cell}
use Rattle.circuit_model.specs.declared.model.Fact.{Fact}
use Rattle.circuit_model.specs.declared.model.Instance.{Instance}
use Rattle.circuit_model.specs.declared.model.Assumption.TheVariants.{Part}
use Rattle.circuit_model.specs.Inference.{IsOfPorts, Forces, Refutes}
use Rattle.circuit_model.specs.Closure.{fact, AreHeld}
use Rattle.circuit_model.specs.Stock.{Stock}
use Rattle.circuit_model.proofs.Inferences.{Forces-port, Forces-of_ports}
use Rattle.circuit_model.proofs.Monotony.{AreHeld-map}
use Rattle.environment_sets.specs.declared.environment.TheConstants.{SLOTS}
use Rattle.environment_sets.specs.Lists.{IsIn}
use Rattle.environment_sets.specs.Sets.{Set, ◌⊆◌, no_elements}
use Rattle.environment_sets.specs.Families.{IsCovered}
use Rattle.propagation.specs.Propagating.{Target, Family, RecordedInference, HasMaker, AreChosen, SomeWaits, IsKnownAt, IsReached, IsDue, IsReachedUnderLess, IsSourced, IsLone, LeadsBack, HasInference, IsEither, All, AreRecorded, AreCarriedOut}
use Rattle.propagation.proofs.Matching.{size_grows}
use Rattle.propagation.proofs.Replaced.{same_or_not, some_there, word_or_not, unknown_there, weight, IsHeldBy, HasSource, AreReplaced, New, now, beside, replaced, at_gone, at_known, at_comes, at_none, refuted_now, against_now, forced_now}

none_wait : (waits : Fact → Set ℕ → Type 0) (fs : List Fact) (ms : List (Set ℕ)) → ((f : Fact) (m : Set ℕ) → waits f m → ⊥) → SomeWaits waits fs ms → ⊥
none_wait waits [] ms none h = h
none_wait waits (f ∷ fs) [] none h = h
none_wait waits (f ∷ fs) (m ∷ ms) none (inl h) = none f m h
none_wait waits (f ∷ fs) (m ∷ ms) none (inr h) = none_wait waits fs ms none h

-- a choice of what is kept beside each of the facts
pub choose : (kept : Family) (E : Set ℕ) (fs : List Fact) → ((f : Fact) → IsIn fs f → IsCovered (kept (Some f)) E) → (ms : List (Set ℕ)) × AreChosen kept E fs ms
choose kept E [] each = ([], tt)
choose kept E (f ∷ fs) each =
    let c : IsCovered (kept (Some f)) E = each f (inl refl) in
    let rest : (ms : List (Set ℕ)) × AreChosen kept E fs ms = choose kept E fs (λ g i. each g (inr i)) in
    (c.0 ∷ rest.0, (c.1, c.2, rest.1))

-- a set that is kept beside each known word
pub beside_each : (kept : Family) (E : Set ℕ) (cells : List Cell) (known : List (Option ℕ)) → AreHeld (λ f. IsCovered (kept (Some f)) E) cells known → (M : ℕ → Set ℕ) × IsHeldBy kept E cells known M
beside_each kept E cells known held = ((λ p. (at p).0), record { wide = held.wide; held = λ p. (at p).1; within = λ p. (at p).2 })
  where
    nothing_in : no_elements ⊆ E
    nothing_in k h = absurd (let no : false ≡ true = h in cc)

    at : (p : ℕ) → (m : Set ℕ) × ((v : ℕ) (c : Cell) → slice_get known p ≡ Some (Some v) → slice_get cells p ≡ Some c → kept (Some (fact c v)) m) × (m ⊆ E)
    at p =
        elim (word_or_not known p) [
          | inr none ↦ (no_elements, (λ v c e _. absurd (none v e)), nothing_in)
          | inl word ↦ elim (slice_get cells p) as (λ x. slice_get cells p ≡ x → (m : Set ℕ) × ((v : ℕ) (c : Cell) → slice_get known p ≡ Some (Some v) → slice_get cells p ≡ Some c → kept (Some (fact c v)) m) × (m ⊆ E)) [
            | None ↦ λ none. (no_elements, (λ v c _ e. absurd (let no : Some c ≡ None = sym e ∙ none in cc)), nothing_in)
            | Some d ↦ λ cell.
                let k : IsCovered (kept (Some (fact d word.0))) E = held.held p word.0 d word.1 cell in (
                  k.0,
                  (λ v c e f. let same_word : word.0 ≡ v = cc in let same_cell : d ≡ c = cc in
                      let P : ℕ → Type 0 = λ x. kept (Some (fact c x)) k.0 in
                      let Q : Cell → Type 0 = λ x. kept (Some (fact x word.0)) k.0 in
                      subst P same_word (subst Q same_cell k.1)),
                  k.2,
                )
          ] refl
        ]

module _
    (S : Stock ℕ) (met : Fact → Type 0) (kept : Family) (recorded : RecordedInference → Type 0) (pending : Family) (waits : RecordedInference → Fact → Set ℕ → Type 0)
    (are : AreRecorded S met All recorded) (carried : AreCarriedOut S kept recorded pending waits)
    (were_met : (f : Fact) (E : Set ℕ) → kept (Some f) E → met f)
    (none_due : (t : Target) (E : Set ℕ) → pending t E → ⊥)
    (nothing_waits : (j : RecordedInference) (f : Fact) (E : Set ℕ) → waits j f E → ⊥)
    (E : Set ℕ)
  where
    pub reached : (t : Target) → IsDue kept pending t E → IsReached kept t E
    reached t (inl r) = r
    reached t (inr d) = absurd (none_due t d.0 d.1)

    pub clash : IsReached kept None E → IsCovered (kept None) E
    clash (inl c) = c
    clash (inr c) = c

    pub met_of : (f : Fact) → IsCovered (kept (Some f)) E → met f
    met_of f c = were_met f c.0 c.1

    -- what a choice leads to is reached, or it leads back
    pub follow : (j : RecordedInference) (ms : List (Set ℕ)) → recorded j → AreChosen kept E j.from ms → HasMaker j.maker E → IsReached kept j.to E ⊎ LeadsBack S kept j.maker j.from ms
    follow j ms r chosen maker =
        elim (carried.inferences j ms E r chosen maker) [
          | inl due ↦ inl (reached j.to due)
          | inr (inl w) ↦ absurd (none_wait (waits j) j.from ms (nothing_waits j) w)
          | inr (inr back) ↦ inr back
        ]

    pub made : (maker : Option ℕ) (k : ℕ) → maker ≡ Some k → IsTrue (E k) → HasMaker maker E
    made maker k e inside i is = let P : ℕ → Type 0 = λ x. IsTrue (E x) in let same : k ≡ i = cc in subst P same inside

    pub clash_of_two : (c : Cell) (v w : ℕ) → (v ≡ w → ⊥) → IsCovered (kept (Some (fact c v))) E → IsCovered (kept (Some (fact c w))) E → IsCovered (kept None) E
    clash_of_two c v w differ low high =
        let j : HasInference recorded None None (IsEither (fact c v) (fact c w)) = are.two_words c v w differ tt (met_of _ low) (met_of _ high) in
        let P : Target → Type 0 = λ t. IsReached kept t E in
        let Q : Fact → Type 0 = λ f. IsCovered (kept (Some f)) E in
        let chosen : (ms : List (Set ℕ)) × AreChosen kept E j.0.from ms = choose kept E j.0.from (λ f i. elim (j.4 f i) [ inl e ↦ subst Q (sym e) low | inr e ↦ subst Q (sym e) high ]) in
        elim (follow j.0 chosen.0 j.1 chosen.1 (λ i is. absurd (let no : None ≡ Some i = sym j.3 ∙ is in cc))) [
          | inl r ↦ clash (subst P j.2 r)
          | inr back ↦ absurd (let no : None ≡ Some back.slot = sym j.3 ∙ back.made in cc)
        ]

    module _ (slot : ℕ) (lone : IsLone S slot) (inside : IsTrue (E slot)) where
      -- a source by the component is one by its instance
      source_of : (f : Fact) (m : Set ℕ) → IsSourced S kept slot f m → HasSource lone.instance kept m f
      source_of f m s =
          let same_slot : s.assumed.0 ≡ slot = (let e : Some slot ≡ Some s.assumed.0 = s.assumed.1 in cc) in
          let there : S slot ≡ Some (Part s.part) = subst (λ (k : ℕ). S k ≡ Some (Part s.part)) same_slot s.assumed.2 in
          let same_part : s.part ≡ lone.instance ∷ [] = (let named : S slot ≡ Some (Part (lone.instance ∷ [])) = lone.named in cc) in
          let among : IsIn (lone.instance ∷ []) s.instance = subst (λ (xs : List Instance). IsIn xs s.instance) same_part s.of_part in
          elim among [
            | inl same ↦ subst (λ (i : Instance). HasSource i kept m f) (sym same) (record { known = s.known; from = s.from; port = s.port; at = s.at; forces = s.forces })
            | inr nowhere ↦ absurd nowhere
          ]

      -- a choice from the sets beside the ports, and where one of them has its source
      abbrev SourceAmong : List (Option ℕ) → (ℕ → Set ℕ) → Type 0
      SourceAmong known M = (f : Fact) × (at : IsKnownAt lone.instance.cells known f) × IsSourced S kept slot f (M at.port)

      choose_beside :
          (known : List (Option ℕ)) (M : ℕ → Set ℕ) → IsHeldBy kept E lone.instance.cells known M → (fs : List Fact) → ((f : Fact) → IsIn fs f → IsKnownAt lone.instance.cells known f)
          → (ms : List (Set ℕ)) × AreChosen kept E fs ms × (SomeWaits (IsSourced S kept slot) fs ms → SourceAmong known M)
      choose_beside known M h [] each = ([], tt, λ no. absurd no)
      choose_beside known M h (f ∷ fs) each =
          let at : IsKnownAt lone.instance.cells known f = each f (inl refl) in
          let rest = choose_beside known M h fs (λ g i. each g (inr i)) in
          (M at.port ∷ rest.0, (h.held at.port f.value f.cell at.word at.cell, h.within at.port, rest.1), λ some. elim some [ inl here ↦ (f, at, here) | inr later ↦ rest.2 later ])

      -- what an inference of the component leads to is reached, or one of the words has its source
      infer :
          (known : List (Option ℕ)) (M : ℕ → Set ℕ) → IsHeldBy kept E lone.instance.cells known M → (t : Target) → HasInference recorded t (Some slot) (IsKnownAt lone.instance.cells known)
          → IsReached kept t E ⊎ SourceAmong known M
      infer known M h t j =
          let c = choose_beside known M h j.0.from j.4 in
          let P : Target → Type 0 = λ x. IsReached kept x E in
          elim (follow j.0 c.0 j.1 c.1 (made j.0.maker slot j.3 inside)) [
            | inl r ↦ inl (subst P j.2 r)
            | inr back ↦
                let same : back.slot ≡ slot = (let e : Some back.slot ≡ Some slot = sym back.made ∙ j.3 in cc) in
                inr (c.2 (subst (λ (k : ℕ). SomeWaits (IsSourced S kept k) j.0.from c.0) same back.some_sourced))
          ]

      held_of : (known : List (Option ℕ)) (M : ℕ → Set ℕ) → IsHeldBy kept E lone.instance.cells known M → IsOfPorts lone.instance.prim known → AreHeld (λ f. IsCovered (kept (Some f)) E) lone.instance.cells known
      held_of known M h ports = record {
        wide = h.wide;
        held = λ p v c w at. (M p, h.held p v c w at, h.within p);
        alike = λ p q v w c kp cp kq cq.
            let same : p ≡ q = lone.apart p q c (ports p v kp) (ports q w kq) cp cq in
            let here : slice_get known q ≡ Some (Some v) = subst (λ (k : ℕ). slice_get known k ≡ Some (Some v)) same kp in
            cc;
      }

      -- the word at q is replaced by those that it was forced from, or there is a clash
      module _
          (known : List (Option ℕ)) (M : ℕ → Set ℕ) (h : IsHeldBy kept E lone.instance.cells known M) (ports : IsOfPorts lone.instance.prim known) (q u : ℕ) (there : slice_get known q ≡ Some (Some u))
          (others : List (Option ℕ)) (from : AreHeld (IsReachedUnderLess kept (M q)) lone.instance.cells others) (forced : Forces lone.instance.prim lone.instance.widths others q u)
        where
          cell_at : (p w : ℕ) → slice_get others p ≡ Some (Some w) → (c : Cell) × (slice_get lone.instance.cells p ≡ Some c)
          cell_at p w e = some_there (slice_get lone.instance.cells p) (lone.celled p (Forces-of_ports lone.instance.prim lone.instance.widths others q u forced p w e))

          abbrev New-here : ℕ → Type 0
          New-here p = New kept E lone.instance.cells known others M q u h.wide from.wide there p

          -- the word that was there, and one that comes to the same port
          both : (p v w : ℕ) → (p ≡ q → ⊥) → slice_get known p ≡ Some (Some v) → slice_get others p ≡ Some (Some w) → New-here p ⊎ IsCovered (kept None) E
          both p v w ne is comes =
              elim (same_or_not v w) [
                | inl same ↦ inl (Some v, M p, at_known kept E lone.instance.cells known others M q u h.wide from.wide there p v ne is (λ x e. cc) h)
                | inr differ ↦
                    let c = cell_at p w comes in
                    let r : IsReachedUnderLess kept (M q) (fact c.0 w) = from.held p w c.0 comes c.1 in
                    elim r.3 [
                      | inl cover ↦ inr (clash_of_two c.0 v w differ (M p, h.held p v c.0 is c.1, h.within p) (cover.0, cover.1, λ k i. h.within q k (r.1 k (cover.2 k i))))
                      | inr nogood ↦ inr (nogood.0, nogood.1, λ k i. h.within q k (r.1 k (nogood.2 k i)))
                    ]
              ]

          -- a word that comes to a port where none was
          one_comes : (p w : ℕ) → (p ≡ q → ⊥) → ((v : ℕ) → slice_get known p ≡ Some (Some v) → ⊥) → slice_get others p ≡ Some (Some w) → New-here p ⊎ IsCovered (kept None) E
          one_comes p w ne unknown comes =
              let c = cell_at p w comes in
              let r : IsReachedUnderLess kept (M q) (fact c.0 w) = from.held p w c.0 comes c.1 in
              elim r.3 [
                | inl cover ↦ inl (
                  Some w,
                  cover.0,
                  at_comes kept E lone.instance.cells known others M q u h.wide from.wide there p w cover.0 ne unknown comes
                      (λ d at. let same : c.0 ≡ d = (let one : slice_get lone.instance.cells p ≡ Some c.0 = c.1 in cc) in let P : Cell → Type 0 = λ x. kept (Some (fact x w)) cover.0 in subst P same cover.1)
                      (λ k i. h.within q k (r.1 k (cover.2 k i)))
                      (let fewer = size_grows SLOTS cover.0 r.0 cover.2 in omega (arith, fewer, r.2)),
                )
                | inr nogood ↦ inr (nogood.0, nogood.1, λ k i. h.within q k (r.1 k (nogood.2 k i)))
              ]

          new_at : (p : ℕ) → New-here p ⊎ IsCovered (kept None) E
          new_at p =
              elim (same_or_not p q) [
                | inl same ↦ inl (None, no_elements, at_gone kept E lone.instance.cells known others M q u h.wide from.wide there p forced.unknown same)
                | inr ne ↦ elim (word_or_not known p) [
                  | inl is ↦ elim (word_or_not others p) [
                    | inl comes ↦ both p is.0 comes.0 ne is.1 comes.1
                    | inr none ↦ inl (Some is.0, M p, at_known kept E lone.instance.cells known others M q u h.wide from.wide there p is.0 ne is.1 (λ w e. absurd (none w e)) h)
                  ]
                  | inr unknown ↦ elim (word_or_not others p) [
                    | inl comes ↦ one_comes p comes.0 ne unknown comes.1
                    | inr none ↦ inl (None, no_elements, at_none kept E lone.instance.cells known others M q u h.wide from.wide there p unknown none)
                  ]
                ]
              ]

          all_replaced : ((now : List (Option ℕ)) × (M' : ℕ → Set ℕ) × AreReplaced kept E lone.instance.cells known others M q now M') ⊎ IsCovered (kept None) E
          all_replaced =
              elim (new_at 0) [
                | inr out ↦ inr out
                | inl n0 ↦ elim (new_at 1) [
                  | inr out ↦ inr out
                  | inl n1 ↦ elim (new_at 2) [
                    | inr out ↦ inr out
                    | inl n2 ↦ inl (
                      now kept E lone.instance.cells known others M q u h.wide from.wide there n0 n1 n2,
                      beside kept E lone.instance.cells known others M q u h.wide from.wide there n0 n1 n2,
                      replaced kept E lone.instance.cells known others M q u h.wide from.wide there n0 n1 n2,
                    )
                  ]
                ]
              ]

      -- what known words that weigh less than n say of E is reached
      record AreReachedBelow (n : ℕ) : Type 0 where
        refuted : (known : List (Option ℕ)) (M : ℕ → Set ℕ) → IsHeldBy kept E lone.instance.cells known M → weight known M < n → Refutes lone.instance.prim lone.instance.widths known → IsCovered (kept None) E
        forced :
            (known : List (Option ℕ)) (M : ℕ → Set ℕ) → IsHeldBy kept E lone.instance.cells known M → weight known M < n → (p v : ℕ) (c : Cell) → slice_get lone.instance.cells p ≡ Some c
            → Forces lone.instance.prim lone.instance.widths known p v → IsReached kept (Some (fact c v)) E

      module _ (n : ℕ) (less : AreReachedBelow n) (known : List (Option ℕ)) (M : ℕ → Set ℕ) (h : IsHeldBy kept E lone.instance.cells known M) (low : weight known M < suc n) (ports : IsOfPorts lone.instance.prim known) where
        -- the word that has its source, at its port, and the words that it was forced from
        record Turn : Type 0 where
          port : ℕ
          word : ℕ
          there : slice_get known port ≡ Some (Some word)
          others : List (Option ℕ)
          from : AreHeld (IsReachedUnderLess kept (M port)) lone.instance.cells others
          forces : Forces lone.instance.prim lone.instance.widths others port word

        turn_of : SourceAmong known M → Turn
        turn_of s =
            let f : Fact = s.0 in
            let source : HasSource lone.instance kept (M s.1.port) f = source_of f (M s.1.port) s.2 in
            let same : source.port ≡ s.1.port = lone.apart source.port s.1.port f.cell (Forces-port lone.instance.prim lone.instance.widths source.known source.port f.value source.forces) (ports s.1.port f.value s.1.word) source.at s.1.cell in
            record {
              port = s.1.port;
              word = f.value;
              there = s.1.word;
              others = source.known;
              from = source.from;
              forces = subst (λ (k : ℕ). Forces lone.instance.prim lone.instance.widths source.known k f.value) same source.forces;
            }

        module _ (t : Turn) where
          abbrev Replacing : Type 0
          Replacing = (now : List (Option ℕ)) × (M' : ℕ → Set ℕ) × AreReplaced kept E lone.instance.cells known t.others M t.port now M'

          refuted_turned : Refutes lone.instance.prim lone.instance.widths known → IsCovered (kept None) E
          refuted_turned refutes =
              elim (all_replaced known M h ports t.port t.word t.there t.others t.from t.forces) [
                | inr out ↦ out
                | inl r ↦ less.refuted r.0 r.1 r.2.held_by (omega (arith, low, r.2.lighter))
                    (refuted_now lone.instance lone.wide kept E known t.others M t.port t.word t.there h.wide t.from.wide ports t.forces r.0 r.1 r.2 refutes)
              ]

          module _ (p v : ℕ) (c : Cell) (at : slice_get lone.instance.cells p ≡ Some c) (forces : Forces lone.instance.prim lone.instance.widths known p v) (r : Replacing) where
            low_p : p < length r.0
            low_p = rw r.2.held_by.wide (rw (← h.wide) (slice_get_within known p None forces.unknown))

            word_now : (w : ℕ) → slice_get r.0 p ≡ Some (Some w) → IsReached kept (Some (fact c v)) E
            word_now w is =
                elim (same_or_not w v) [
                  | inl same ↦ let P : ℕ → Type 0 = λ x. IsReached kept (Some (fact c x)) E in subst P same (inl (r.1 p, r.2.held_by.held p w c is at, r.2.held_by.within p))
                  | inr differ ↦ inr (less.refuted r.0 r.1 r.2.held_by (omega (arith, low, r.2.lighter))
                      (against_now lone.instance lone.wide kept E known t.others M t.port t.word t.there h.wide t.from.wide ports t.forces r.0 r.1 r.2 p v w forces is differ))
                ]

            forced_turned : IsReached kept (Some (fact c v)) E
            forced_turned =
                elim (word_or_not r.0 p) [
                  | inl is ↦ word_now is.0 is.1
                  | inr none ↦ less.forced r.0 r.1 r.2.held_by (omega (arith, low, r.2.lighter)) p v c at
                      (forced_now lone.instance lone.wide kept E known t.others M t.port t.word t.there h.wide t.from.wide ports t.forces r.0 r.1 r.2 p v forces (unknown_there r.0 p low_p none))
                ]

          forced_or_clash : (p v : ℕ) (c : Cell) → slice_get lone.instance.cells p ≡ Some c → Forces lone.instance.prim lone.instance.widths known p v → IsReached kept (Some (fact c v)) E
          forced_or_clash p v c at forces =
              elim (all_replaced known M h ports t.port t.word t.there t.others t.from t.forces) [
                | inr out ↦ inr out
                | inl r ↦ forced_turned p v c at forces r
              ]

      reached_below : (part : IsIn (lone.instance ∷ []) lone.instance) (n : ℕ) → AreReachedBelow n
      reached_below part zero = record { refuted = λ known M h low refutes. absurd (omega (arith, low)); forced = λ known M h low p v c at forces. absurd (omega (arith, low)) }
      reached_below part (suc n) =
          let less : AreReachedBelow n = reached_below part n in
          record {
            refuted = λ known M h low refutes.
                let held : AreHeld (λ f. IsCovered (kept (Some f)) E) lone.instance.cells known = held_of known M h refutes.within in
                elim (infer known M h None (are.refuted slot (lone.instance ∷ []) lone.instance known lone.named part tt (AreHeld-map met_of held) refutes)) [
                  | inl r ↦ clash r
                  | inr s ↦ refuted_turned n less known M h low refutes.within (turn_of n less known M h low refutes.within s) refutes
                ];
            forced = λ known M h low p v c at forces.
                let ports : IsOfPorts lone.instance.prim known = Forces-of_ports lone.instance.prim lone.instance.widths known p v forces in
                let held : AreHeld (λ f. IsCovered (kept (Some f)) E) lone.instance.cells known = held_of known M h ports in
                elim (infer known M h (Some (fact c v)) (are.forced slot (lone.instance ∷ []) lone.instance known p v c lone.named part tt (AreHeld-map met_of held) at forces)) [
                  | inl r ↦ r
                  | inr s ↦ forced_or_clash n less known M h low ports (turn_of n less known M h low ports s) p v c at forces
                ];
          }

      pub lone_refuted : (known : List (Option ℕ)) → AreHeld (λ f. IsCovered (kept (Some f)) E) lone.instance.cells known → Refutes lone.instance.prim lone.instance.widths known → IsCovered (kept None) E
      lone_refuted known held refutes =
          let M = beside_each kept E lone.instance.cells known held in
          (reached_below (inl refl) (suc (weight known M.0))).refuted known M.0 M.1 (omega arith) refutes

      pub lone_forced :
          (known : List (Option ℕ)) (p v : ℕ) (c : Cell) → AreHeld (λ f. IsCovered (kept (Some f)) E) lone.instance.cells known → slice_get lone.instance.cells p ≡ Some c
          → Forces lone.instance.prim lone.instance.widths known p v → IsReached kept (Some (fact c v)) E
      lone_forced known p v c held at forces =
          let M = beside_each kept E lone.instance.cells known held in
          (reached_below (inl refl) (suc (weight known M.0))).forced known M.0 M.1 (omega arith) p v c at forces

    -- an instance of a component that is one instance is that one
    only_instance : (slot : ℕ) (part : List Instance) (instance : Instance) (lone : IsLone S slot) → S slot ≡ Some (Part part) → IsIn part instance → instance ≡ lone.instance
    only_instance slot part instance lone named of_part =
        let same : part ≡ lone.instance ∷ [] = (let here : S slot ≡ Some (Part (lone.instance ∷ [])) = lone.named in cc) in
        let among : IsIn (lone.instance ∷ []) instance = subst (λ (xs : List Instance). IsIn xs instance) same of_part in
        elim among [ inl e ↦ sym e | inr nowhere ↦ absurd nowhere ]

    pub refuted_reached :
        (k : ℕ) (part : List Instance) (instance : Instance) (known : List (Option ℕ)) → S k ≡ Some (Part part) → IsTrue (E k) → IsIn part instance
        → AreHeld (λ f. IsCovered (kept (Some f)) E) instance.cells known → Refutes instance.prim instance.widths known → IsCovered (kept None) E
    refuted_reached k part instance known named inside of_part held refutes =
        let j : HasInference recorded None (Some k) (IsKnownAt instance.cells known) = are.refuted k part instance known named of_part tt (AreHeld-map met_of held) refutes in
        let P : Target → Type 0 = λ t. IsReached kept t E in
        let c = choose kept E j.0.from (λ f i. let at : IsKnownAt instance.cells known f = j.4 f i in held.held at.port f.value f.cell at.word at.cell) in
        elim (follow j.0 c.0 j.1 c.1 (made j.0.maker k j.3 inside)) [
          | inl r ↦ clash (subst P j.2 r)
          | inr back ↦
              let same : back.slot ≡ k = (let e : Some back.slot ≡ Some k = sym back.made ∙ j.3 in cc) in
              let lone : IsLone S k = subst (IsLone S) same back.lone in
              let one : instance ≡ lone.instance = only_instance k part instance lone named of_part in
              lone_refuted k lone inside known
              (subst (λ (i : Instance). AreHeld (λ f. IsCovered (kept (Some f)) E) i.cells known) one held)
              (subst (λ (i : Instance). Refutes i.prim i.widths known) one refutes)
        ]

    pub forced_reached :
        (k : ℕ) (part : List Instance) (instance : Instance) (known : List (Option ℕ)) (p v : ℕ) (c : Cell) → S k ≡ Some (Part part) → IsTrue (E k) → IsIn part instance
        → AreHeld (λ f. IsCovered (kept (Some f)) E) instance.cells known → slice_get instance.cells p ≡ Some c → Forces instance.prim instance.widths known p v → IsReached kept (Some (fact c v)) E
    forced_reached k part instance known p v c named inside of_part held at forces =
        let j : HasInference recorded (Some (fact c v)) (Some k) (IsKnownAt instance.cells known) = are.forced k part instance known p v c named of_part tt (AreHeld-map met_of held) at forces in
        let P : Target → Type 0 = λ t. IsReached kept t E in
        let d = choose kept E j.0.from (λ f i. let there : IsKnownAt instance.cells known f = j.4 f i in held.held there.port f.value f.cell there.word there.cell) in
        elim (follow j.0 d.0 j.1 d.1 (made j.0.maker k j.3 inside)) [
          | inl r ↦ subst P j.2 r
          | inr back ↦
              let same : back.slot ≡ k = (let e : Some back.slot ≡ Some k = sym back.made ∙ j.3 in cc) in
              let lone : IsLone S k = subst (IsLone S) same back.lone in
              let one : instance ≡ lone.instance = only_instance k part instance lone named of_part in
              lone_forced k lone inside known p v c
              (subst (λ (i : Instance). AreHeld (λ f. IsCovered (kept (Some f)) E) i.cells known) one held)
              (subst (λ (i : Instance). slice_get i.cells p ≡ Some c) one at)
              (subst (λ (i : Instance). Forces i.prim i.widths known p v) one forces)
        ]
