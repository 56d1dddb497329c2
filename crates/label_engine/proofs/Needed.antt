-- Of the inferences that were found, those that are needed.
use Rattle.std.proofs.Common.{◌≡◌, ℕ, ◌⊎◌, inl, inr, ◌&&◌, IsTrue, true≢false, refl, sym, ap, subst, ◌∙◌, List, [], ◌∷◌, ◌++◌, Option, Some, None, arith}
use Rattle.std.proofs.lemmas.Bool.{and_parts, or_cases}
use Rattle.std.proofs.lemmas.Bool.Decides.{nat_tests}
use Rattle.std.specs.List.{list_any}
use Rattle.circuit_model.specs.declared.model.Fact.{Fact}
use Rattle.circuit_model.specs.Stock.{Stock}
use Rattle.environment_sets.specs.Lists.{IsIn}
use Rattle.environment_sets.proofs.Membership.{IsIn-append, IsIn-left, IsIn-right, IsIn-list_any}
use Rattle.propagation.specs.Propagating.{Target, RecordedInference, Leads, HasInference, Scope, AreRecorded}
use Rattle.inference_search.specs.declared.inferred.Inferred.{Inferred}
use Rattle.inference_search.specs.Inferences.{facts, inference, RecordedIn}
use Rattle.label_engine.specs.Update.{AreAlso, is_same_target, is_same_maker, goes_from_any, says_as_much, SaysAsMuch, IsSaid, AreNeeded, IsNeededOrSaid}
use Rattle.label_engine.proofs.Families.{same_target}

same_maker : (a b : Option ℕ) → IsTrue (is_same_maker a b) → a ≡ b
same_maker None None h = refl
same_maker None (Some l) h = absurd (true≢false (sym h))
same_maker (Some k) None h = absurd (true≢false (sym h))
same_maker (Some k) (Some l) h = let e : k ≡ l = grind (arith, nat_tests) in ap (λ x. Some x) e

-- the fact is one of the two
either_of : (a b : Option Fact) (f : Fact) → (a ≡ Some f) ⊎ (b ≡ Some f) → IsIn (facts a b) f
either_of None None f (inl e) = absurd (cc)
either_of None None f (inr e) = absurd (cc)
either_of None (Some b) f (inl e) = absurd (cc)
either_of None (Some b) f (inr e) = inl (cc)
either_of (Some a) None f (inl e) = inl (cc)
either_of (Some a) None f (inr e) = absurd (cc)
either_of (Some a) (Some b) f (inl e) = inl (cc)
either_of (Some a) (Some b) f (inr e) = inr (inl (cc))

goes_from_it : (a : Option Fact) (i : Inferred) → IsTrue (goes_from_any a i) → (f : Fact) → a ≡ Some f → IsIn (facts i.first i.second) f
goes_from_it None i h f e = absurd (cc)
goes_from_it (Some g) i h f e =
    let at : g ≡ f = cc in
    subst (IsIn (facts i.first i.second)) at (either_of i.first i.second g (elim (or_cases _ _ h) [ inl a ↦ inl (same_target i.first (Some g) a) | inr b ↦ inr (same_target i.second (Some g) b) ]))

of_facts : (a b : Option Fact) (f : Fact) → IsIn (facts a b) f → (a ≡ Some f) ⊎ (b ≡ Some f)
of_facts None None f h = absurd h
of_facts None (Some b) f (inl e) = inr (ap (λ x. Some x) e)
of_facts None (Some b) f (inr h) = absurd h
of_facts (Some a) None f (inl e) = inl (ap (λ x. Some x) e)
of_facts (Some a) None f (inr h) = absurd h
of_facts (Some a) (Some b) f (inl e) = inl (ap (λ x. Some x) e)
of_facts (Some a) (Some b) f (inr (inl e)) = inr (ap (λ x. Some x) e)
of_facts (Some a) (Some b) f (inr (inr h)) = absurd h

-- the test says so
pub says : (j i : Inferred) → IsTrue (says_as_much j i) → SaysAsMuch j i
unfolding says_as_much
says j i h =
    let to : IsTrue (is_same_target j.to i.to) × IsTrue (is_same_maker j.maker i.maker && (goes_from_any j.first i && goes_from_any j.second i)) = and_parts (is_same_target j.to i.to) _ h in
    let maker : IsTrue (is_same_maker j.maker i.maker) × IsTrue (goes_from_any j.first i && goes_from_any j.second i) = and_parts (is_same_maker j.maker i.maker) _ to.1 in
    let from : IsTrue (goes_from_any j.first i) × IsTrue (goes_from_any j.second i) = and_parts (goes_from_any j.first i) _ maker.1 in
    record {
      to = same_target j.to i.to to.0;
      maker = same_maker j.maker i.maker maker.0;
      from = λ f at. elim (of_facts j.first j.second f at) [ inl e ↦ goes_from_it j.first i from.0 f e | inr e ↦ goes_from_it j.second i from.1 f e ];
    }

-- one of the list says as much
pub some_says : (is : List Inferred) (i : Inferred) → IsTrue (list_any (λ j. says_as_much j i) is) → (j : Inferred) × IsIn is j × SaysAsMuch j i
some_says is i h = let found : (j : Inferred) × IsIn is j × IsTrue (says_as_much j i) = IsIn-list_any (λ j. says_as_much j i) is h in (found.0, found.1, says found.0 i found.2)

says_itself : (i : Inferred) → SaysAsMuch i i
says_itself i = record { to = refl; maker = refl; from = λ f at. at }

still_said : (recorded old new : List Inferred) (i : Inferred) → ((j : Inferred) → IsIn old j → IsIn new j) → IsSaid recorded old i → IsSaid recorded new i
still_said recorded old new i more said = (said.0, (elim said.1 [ inl r ↦ inl r | inr n ↦ inr (more said.0 n) ]), said.2)

pub none_needed : (recorded : List Inferred) → AreNeeded recorded [] []
none_needed recorded = record { of_found = λ i h. h; said = λ i h. absurd h }

-- one more of what was found
pub needs_one_more : (recorded found needed needed' : List Inferred) (i : Inferred) → AreNeeded recorded found needed → IsNeededOrSaid recorded i needed needed' → AreNeeded recorded (found ++ i ∷ []) needed'
needs_one_more recorded found needed needed' i was (inl added) =
    let P : List Inferred → Type 0 = λ l. AreNeeded recorded (found ++ i ∷ []) l in
    subst P (sym added) (record {
      of_found = λ j h. elim (IsIn-append needed (i ∷ []) j h) [ inl o ↦ IsIn-left found (i ∷ []) j (was.of_found j o) | inr l ↦ IsIn-right found (i ∷ []) j l ];
      said = λ j h. elim (IsIn-append found (i ∷ []) j h) [
        | inl o ↦ still_said recorded needed (needed ++ i ∷ []) j (IsIn-left needed (i ∷ [])) (was.said j o)
        | inr l ↦ elim l [
          | inl e ↦ (i, inr (IsIn-right needed (i ∷ []) i (inl refl)), subst (SaysAsMuch i) e (says_itself i))
          | inr bad ↦ absurd bad
        ]
      ];
    })
needs_one_more recorded found needed needed' i was (inr (same, said)) =
    let P : List Inferred → Type 0 = λ l. AreNeeded recorded (found ++ i ∷ []) l in
    subst P (sym same) (record {
      of_found = λ j h. IsIn-left found (i ∷ []) j (was.of_found j h);
      said = λ j h. elim (IsIn-append found (i ∷ []) j h) [
        | inl o ↦ was.said j o
        | inr l ↦ elim l [ inl e ↦ subst (IsSaid recorded needed) e said | inr bad ↦ absurd bad ]
      ];
    })

module _ (recorded found needed all : List Inferred) (are : AreNeeded recorded found needed) (also : AreAlso needed recorded all) where
  -- what is needed was found
  pub was_found : (j : RecordedInference) → RecordedIn needed j → RecordedIn found j
  was_found j r = (r.0, are.of_found r.0 r.1, r.2)

  -- what was found is said by what is recorded now
  pub said_now : (to : Target) (maker : Option ℕ) (known : Fact → Type 0) → HasInference (RecordedIn found) to maker known → HasInference (RecordedIn all) to maker known
  said_now to maker known has =
      let i : Inferred = has.1.0 in
      let same : inference i ≡ has.0 = has.1.2 in
      let said : IsSaid recorded needed i = are.said i has.1.1 in
      let j : Inferred = said.0 in
      let there : IsIn all j = (also j).1 said.1 in (
        inference j,
        (j, there, refl),
        said.2.to ∙ (ap (λ (r : RecordedInference). r.to) same ∙ has.2),
        said.2.maker ∙ (ap (λ (r : RecordedInference). r.maker) same ∙ has.3),
        λ f at. has.4 f (let P : RecordedInference → Type 0 = λ r. IsIn r.from f in subst P same (said.2.from f at)),
      )

  pub needed_are : (S : Stock ℕ) (met : Fact → Type 0) (scope : Scope) → ((j : RecordedInference) → RecordedIn recorded j → Leads S j.from j.maker j.to) → AreRecorded S met scope (RecordedIn found) → AreRecorded S met scope (RecordedIn all)
  needed_are S met scope before new = record {
    leads = λ j r. elim ((also r.0).0 r.1) [ inl o ↦ before j (r.0, o, r.2) | inr n ↦ new.leads j (was_found j (r.0, n, r.2)) ];
    forced = λ k part instance known p v c named of_part meant held at forces. said_now _ _ _ (new.forced k part instance known p v c named of_part meant held at forces);
    refuted = λ k part instance known named of_part meant held refutes. said_now _ _ _ (new.refuted k part instance known named of_part meant held refutes);
    two_words = λ c v w differ meant low high. said_now _ _ _ (new.two_words c v w differ meant low high);
  }

-- one that is recorded says as much, whatever is to be recorded
pub said_still : (recorded needed : List Inferred) (i : Inferred) → IsSaid recorded [] i → IsSaid recorded needed i
said_still recorded needed i (j, there, says) = (j, elim there [ inl r ↦ inl r | inr bad ↦ absurd bad ], says)
