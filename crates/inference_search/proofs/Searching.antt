-- What is found is all that is to be found, and no more.
use Rattle.std.proofs.Common.{◌≡◌, ◌⊎◌, inl, inr, ℕ, ◌<◌, List, [], length, Option, Some, None, slice_get, refl, sym, ap, subst, ◌∙◌}
use Rattle.circuit_model.specs.declared.model.Cell.{Cell}
use Rattle.circuit_model.specs.declared.model.Fact.{Fact}
use Rattle.circuit_model.specs.declared.model.Instance.{Instance}
use Rattle.circuit_model.specs.declared.model.Assumption.{Assumption}
use Rattle.circuit_model.specs.declared.model.Assumption.TheVariants.{Part}
use Rattle.circuit_model.specs.Closure.{fact, AreHeld}
use Rattle.environment_sets.specs.Lists.{IsIn}
use Rattle.propagation.specs.Propagating.{RecordedInference, Leads, IsKnownAt, HasInference, IsEither}
use Rattle.inference_search.specs.declared.inferred.Inferred.{Inferred}
use Rattle.assumption_slots.specs.Slots.{stock}
use Rattle.inference_search.specs.Inferences.{facts, inference, RecordedIn, IsOnce}
use Rattle.inference_search.specs.Choices.{Finds, IsTold, IsMadeAt, IsMadeAtSome, IsDoneAt, clash_of, IsClashOf, HasClashOf}
use Rattle.inference_search.specs.Found.{AreFound, AreMadeBy}
use Rattle.assumption_slots.proofs.Remembered.{stock_within}
use Rattle.circuit_model.proofs.SameCells.{fact_by}

-- known words that use the fact are from the fact and what is met at other cells
held_from : (met from : List Fact) (f : Fact) → IsIn from f → ((g : Fact) → IsIn met g → (g.cell ≡ f.cell) ⊎ IsIn from g)
    → (cells : List Cell) (known : List (Option ℕ)) → AreHeld (λ g. IsIn met g ⊎ (g ≡ f)) cells known → IsKnownAt cells known f → AreHeld (IsIn from) cells known
held_from met from f has others cells known held used = record {
  wide = held.wide;
  held = λ p v c e d. elim (held.held p v c e d) [
    | inl h ↦ elim (others (fact c v) h) [ inl one ↦ at_cell p v c e d one | inr h ↦ h ]
    | inr is ↦ subst (λ (g : Fact). IsIn from g) (sym is) has
  ];
  alike = held.alike;
} where
  at_cell : (p v : ℕ) (c : Cell) → slice_get known p ≡ Some (Some v) → slice_get cells p ≡ Some c → c ≡ f.cell → IsIn from (fact c v)
  at_cell p v c e d one =
      let same : v ≡ f.value = held.alike p used.port v f.value c e d used.word (used.cell ∙ ap Some (sym one)) in
      subst (λ (g : Fact). IsIn from g) (sym (fact_by (fact c v) f one same)) has

-- the clash of two words at one cell
clash_leads : (slots : List (Option Assumption)) (f : Fact) (i : Inferred) → IsClashOf f i → IsIn (facts i.first i.second) f × Leads (stock slots) (facts i.first i.second) i.maker i.to
clash_leads slots f i (g, one, differ, is) = subst P (sym is) (
  inl refl,
  inr (
    refl,
    record {
      cell = f.cell;
      low = f.value;
      high = g.value;
      low_holds = inl refl;
      high_holds = inr (inl (fact_by g (fact f.cell g.value) one refl));
      differ = λ e. differ (sym e);
    },
  ),
) where
  P : Inferred → Type 0
  P i = IsIn (facts i.first i.second) f × Leads (stock slots) (facts i.first i.second) i.maker i.to

-- two words at one cell differ
clash_once : (f : Fact) (i : Inferred) → IsClashOf f i → IsOnce i
clash_once f i (g, one, differ, is) = subst IsOnce (sym is) (λ h e k. let same : g ≡ f = cc in differ (ap (λ (f : Fact). f.value) same))

module _ (slots : List (Option Assumption)) (met from : List Fact) (f : Fact) (has : IsIn from f) (others : (g : Fact) → IsIn met g → (g.cell ≡ f.cell) ⊎ IsIn from g)
    (mid new : List Inferred) (clashes : Finds (IsClashOf f) (λ found. (g : Fact) → IsIn met g → HasClashOf f g found) [] mid)
    (made : Finds (IsMadeAtSome slots (Some f)) (λ found. (slot : ℕ) → slot < length slots → IsDoneAt slots from (Some f) slot found) mid new)
  where
    both : (i : Inferred) → IsIn new i → IsIn (facts i.first i.second) f × Leads (stock slots) (facts i.first i.second) i.maker i.to
    both i h = elim (made.only i h) [
      | inl h ↦ elim (clashes.only i h) [ inl h ↦ absurd h | inr q ↦ clash_leads slots f i q ]
      | inr q ↦ (q.1.uses, q.1.leads)
    ]

    pub all_once : (i : Inferred) → IsIn new i → IsOnce i
    all_once i h = elim (made.only i h) [
      | inl h ↦ elim (clashes.only i h) [ inl h ↦ absurd h | inr q ↦ clash_once f i q ]
      | inr q ↦ q.1.once
    ]

    told : (k : ℕ) (part : List Instance) (instance : Instance) (known : List (Option ℕ)) → stock slots k ≡ Some (Part part) → IsIn part instance
        → AreHeld (λ g. IsIn met g ⊎ (g ≡ f)) instance.cells known → IsKnownAt instance.cells known f → IsTold k instance known new
    told k part instance known s of_part held used =
        made.done k (stock_within slots k (Part part) s) part s instance of_part known (held_from met from f has others instance.cells known held used) used

    -- the clash of the fact with another word that was met at its cell
    clash_found : (c : Cell) (v w : ℕ) → (v ≡ w → ⊥) → f ≡ fact c v → IsIn met (fact c w) → IsIn new (clash_of f (fact c w))
    clash_found c v w differ same there =
        made.stays _ (clashes.done (fact c w) there (sym (ap (λ (g : Fact). g.cell) same)) (λ e. differ (sym (e ∙ ap (λ (g : Fact). g.value) same))))

    -- two words at a cell, one of which is the fact
    two : (c : Cell) (v w : ℕ) → (v ≡ w → ⊥) → f ≡ fact c v → IsIn met (fact c w) ⊎ (fact c w ≡ f) → HasInference (RecordedIn new) None None (IsEither (fact c v) (fact c w))
    two c v w differ same (inl there) = (
      inference (clash_of f (fact c w)),
      (clash_of f (fact c w), clash_found c v w differ same there, refl),
      refl,
      refl,
      λ g h. elim h [ inl e ↦ inl (sym e ∙ same) | inr h ↦ elim h [ inl e ↦ inr (sym e) | inr h ↦ absurd h ] ],
    )
    two c v w differ same (inr e) = absurd (differ (sym (ap (λ (g : Fact). g.value) (e ∙ same))))

    turned : (c : Cell) (v w : ℕ) → HasInference (RecordedIn new) None None (IsEither (fact c w) (fact c v)) → HasInference (RecordedIn new) None None (IsEither (fact c v) (fact c w))
    turned c v w j = (j.0, j.1, j.2, j.3, λ g h. elim (j.4 g h) [ inl e ↦ inr e | inr e ↦ inl e ])

    pub all_found : AreFound slots met f new
    all_found = record {
      uses = λ i h. (both i h).0;
      are = record {
        leads = λ j r. let P : RecordedInference → Type 0 = λ i. Leads (stock slots) i.from i.maker i.to in subst P r.2 (both r.0 r.1).1;
        forced = λ k part instance known p v c s of_part used held e forces. (told k part instance known s of_part held used).forced p v c e forces;
        refuted = λ k part instance known s of_part used held r. (told k part instance known s of_part held used).refuted r;
        two_words = λ c v w differ used low high. elim used [
          | inl same ↦ two c v w differ same high
          | inr same ↦ turned c v w (two c w v (λ e. differ (sym e)) same low)
        ];
      };
    }

pub all_made_by : (slots : List (Option Assumption)) (met : List Fact) (slot : ℕ) (new : List Inferred) → Finds (IsMadeAt slots None slot) (IsDoneAt slots met None slot) [] new → AreMadeBy slots met slot new
all_made_by slots met slot new made = record {
  maker = λ i h. (each i h).maker;
  are = record {
    leads = λ j r. let P : RecordedInference → Type 0 = λ i. Leads (stock slots) i.from i.maker i.to in subst P r.2 (each r.0 r.1).leads;
    forced = λ k part instance known p v c s of_part by held e forces. rw by ((made.done part (here k part by s) instance of_part known held tt).forced p v c e forces);
    refuted = λ k part instance known s of_part by held r. rw by ((made.done part (here k part by s) instance of_part known held tt).refuted r);
    two_words = λ c v w differ by low high. absurd (cc);
  };
} where
  each : (i : Inferred) → IsIn new i → IsMadeAt slots None slot i
  each i h = elim (made.only i h) [ inl h ↦ absurd h | inr q ↦ q ]

  here : (k : ℕ) (part : List Instance) → Some k ≡ Some slot → stock slots k ≡ Some (Part part) → stock slots slot ≡ Some (Part part)
  here k part by s = let same : k ≡ slot = cc in let P : ℕ → Type 0 = λ n. stock slots n ≡ Some (Part part) in subst P same s

pub each_once : (slots : List (Option Assumption)) (met : List Fact) (slot : ℕ) (new : List Inferred) → Finds (IsMadeAt slots None slot) (IsDoneAt slots met None slot) [] new → (i : Inferred) → IsIn new i → IsOnce i
each_once slots met slot new made i h = elim (made.only i h) [ inl h ↦ absurd h | inr q ↦ q.once ]
