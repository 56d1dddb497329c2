-- Links and their heads, and their changes.
use Rattle.std.proofs.Common.{◌≡◌, ◌≢◌, ◌⊎◌, inl, inr, ℕ, zero, suc, ◌+◌, ◌<◌, ◌≤◌, List, [], ◌∷◌, ◌++◌, Option, Some, None, length, get_or, set, take, replicate, slice_get, refl, sym, ap, subst, ◌∙◌, arith}
use Rattle.std.proofs.lemmas.Bool.{cases_eq}
use Rattle.std.proofs.lemmas.List.{length-replicate, length-set, length-take-le, length_push, take_more_set}
use Rattle.std.proofs.lemmas.Option.{slice_get-get_or, slice_get_read, slice_get_within, same_Some}
use Rattle.circuit_model.specs.declared.model.Fact.{Fact}
use Rattle.circuit_model.proofs.Presents.{slice_get-append_left, slice_get_push}
use Rattle.fact_index.specs.declared.links.Link.{Link}
use Rattle.fact_index.specs.Links.{IsNumbered, IsLastNumbered, GivesLastNumbered, AreLinked}

module _ {X : Type 0} where
  -- an element that is written
  pub set_here : (xs : List X) (i : ℕ) (x : X) → i < length xs → slice_get (set xs i x) i ≡ Some x
  set_here [] i x inside = absurd (omega arith)
  set_here (y ∷ xs) zero x inside = refl
  set_here (y ∷ xs) (suc i) x inside = set_here xs i x (omega arith)

  pub set_elsewhere : (xs : List X) (i j : ℕ) (x : X) → (i ≡ j → ⊥) → slice_get (set xs i x) j ≡ slice_get xs j
  set_elsewhere [] i j x differ = refl
  set_elsewhere (y ∷ xs) zero zero x differ = absurd (differ refl)
  set_elsewhere (y ∷ xs) zero (suc j) x differ = refl
  set_elsewhere (y ∷ xs) (suc i) zero x differ = refl
  set_elsewhere (y ∷ xs) (suc i) (suc j) x differ = set_elsewhere xs i j x (λ e. differ (ap suc e))

  -- one element more stands at the end, and the others where they stood
  push_cases : (xs : List X) (y : X) (k : ℕ) (x : X) → slice_get (xs ++ y ∷ []) k ≡ Some x → ((k < length xs) × (slice_get xs k ≡ Some x)) ⊎ ((length xs ≡ k) × (y ≡ x))
  push_cases [] y zero x e = inr (refl, same_Some y x e)
  push_cases [] y (suc k) x e = absurd (cc)
  push_cases (z ∷ xs) y zero x e = inl (omega arith, e)
  push_cases (z ∷ xs) y (suc k) x e = elim (push_cases xs y k x e) [ inl h ↦ inl (omega arith, h.1) | inr h ↦ inr (ap suc h.0, h.1) ]

  -- all of them are the same one
  pub replicate_is : (n : ℕ) (x : X) (k : ℕ) (y : X) → slice_get (replicate n x) k ≡ Some y → x ≡ y
  replicate_is zero x k y e = cc
  replicate_is (suc n) x zero y e = same_Some x y e
  replicate_is (suc n) x (suc k) y e = replicate_is n x k y e

module _ (number : Fact → ℕ) where
  -- one link more, of another number or past the bound
  numbered_before : (links : List Link) (y : Link) (n k : ℕ) → k < length links → IsNumbered number (links ++ y ∷ []) n k → IsNumbered number links n k
  numbered_before links y n k below h = elim (push_cases links y k h.0 h.1) [
    | inl there ↦ (h.0, there.1, h.2)
    | inr there ↦ absurd (let is : length links ≡ k = there.0 in omega arith)
  ]

  numbered_still : (links : List Link) (y : Link) (n k : ℕ) → IsNumbered number links n k → IsNumbered number (links ++ y ∷ []) n k
  numbered_still links y n k h = (h.0, slice_get-append_left links (y ∷ []) k h.0 h.1, h.2)

  numbered_or_last : (links : List Link) (y : Link) (n k : ℕ) → (number y.fact ≡ n → ⊥) → IsNumbered number (links ++ y ∷ []) n k → (k < length links) × IsNumbered number links n k
  numbered_or_last links y n k differ h = elim (push_cases links y k h.0 h.1) [
    | inl there ↦ (there.0, (h.0, there.1, h.2))
    | inr there ↦ absurd (differ (ap (λ (link : Link). number link.fact) there.1 ∙ h.2))
  ]

  gives_still : (links : List Link) (y : Link) (n bound : ℕ) (answer : Option ℕ) → bound ≤ length links → GivesLastNumbered number links n bound answer → GivesLastNumbered number (links ++ y ∷ []) n bound answer
  gives_still links y n bound None within gives = λ k below h. gives k below (numbered_before links y n k (omega arith) h)
  gives_still links y n bound (Some place) within gives = record {
    before = gives.before;
    at = numbered_still links y n place gives.at;
    last = λ k above below h. gives.last k above below (numbered_before links y n k (omega arith) h);
  }

  gives_past_other : (links : List Link) (y : Link) (n : ℕ) (answer : Option ℕ) → (number y.fact ≡ n → ⊥) → GivesLastNumbered number links n (length links) answer → GivesLastNumbered number (links ++ y ∷ []) n (length links + 1) answer
  gives_past_other links y n None differ gives = λ k below h. let there : (k < length links) × IsNumbered number links n k = numbered_or_last links y n k differ h in gives k there.0 there.1
  gives_past_other links y n (Some place) differ gives = record {
    before = let before : place < length links = gives.before in omega arith;
    at = numbered_still links y n place gives.at;
    last = λ k above below h. let there : (k < length links) × IsNumbered number links n k = numbered_or_last links y n k differ h in gives.last k above there.0 there.1;
  }

  gives_past_same : (links : List Link) (y : Link) (n : ℕ) → number y.fact ≡ n → GivesLastNumbered number (links ++ y ∷ []) n (length links + 1) (Some (length links))
  gives_past_same links y n same = record {
    before = omega arith;
    at = (y, slice_get_push links y, same);
    last = λ k above below h. omega arith;
  }

module _ (number : Fact → ℕ) (back : Link → Option ℕ) (most : ℕ) where
  -- one link more, whose number's head led where it leads
  linked_more : (links : List Link) (y : Link) (heads : List (Option ℕ)) → AreLinked number back most links heads → number y.fact < most → slice_get heads (number y.fact) ≡ Some (back y)
      → AreLinked number back most (links ++ y ∷ []) (set heads (number y.fact) (Some (length links)))
  linked_more links y heads linked low before = record {
    wide = length-set heads (number y.fact) (Some (length links)) ∙ linked.wide;
    last = λ n head e. subst (λ (bound : ℕ). GivesLastNumbered number (links ++ y ∷ []) n bound head) (sym (length_push links y)) (elim (cases_eq (number y.fact) n) [ inl same ↦ at_last n head same e | inr differ ↦ elsewhere n head differ e ]);
    lead_back = λ place link e. elim (push_cases links y place link e) [
      | inl there ↦ gives_still number links y (number link.fact) place (back link) (let below : place < length links = there.0 in omega arith) (linked.lead_back place link there.1)
      | inr there ↦ subst (λ (link : Link). GivesLastNumbered number (links ++ y ∷ []) (number link.fact) place (back link)) there.1 (subst (λ (place : ℕ). GivesLastNumbered number (links ++ y ∷ []) (number y.fact) place (back y)) there.0 from_last)
    ];
  } where
    at_last : (n : ℕ) (head : Option ℕ) → number y.fact ≡ n → slice_get (set heads (number y.fact) (Some (length links))) n ≡ Some head → GivesLastNumbered number (links ++ y ∷ []) n (length links + 1) head
    at_last n head same e =
        let there : slice_get (set heads (number y.fact) (Some (length links))) (number y.fact) ≡ Some (Some (length links)) = set_here heads (number y.fact) (Some (length links)) (let wide : length heads ≡ most = linked.wide in omega arith) in
        let here : slice_get (set heads (number y.fact) (Some (length links))) (number y.fact) ≡ Some head = subst (λ (n : ℕ). slice_get (set heads (number y.fact) (Some (length links))) n ≡ Some head) (sym same) e in
        subst (λ (head : Option ℕ). GivesLastNumbered number (links ++ y ∷ []) n (length links + 1) head) (same_Some (Some (length links)) head (sym there ∙ here)) (gives_past_same number links y n same)

    elsewhere : (n : ℕ) (head : Option ℕ) → (number y.fact ≡ n → ⊥) → slice_get (set heads (number y.fact) (Some (length links))) n ≡ Some head → GivesLastNumbered number (links ++ y ∷ []) n (length links + 1) head
    elsewhere n head differ e = gives_past_other number links y n head differ (linked.last n head (sym (set_elsewhere heads (number y.fact) n (Some (length links)) differ) ∙ e))

    from_last : GivesLastNumbered number (links ++ y ∷ []) (number y.fact) (length links) (back y)
    from_last = gives_still number links y (number y.fact) (length links) (back y) (omega arith) (linked.last (number y.fact) (back y) before)

  -- a link that is written past those in use
  pub linked_put : (links : List Link) (place : ℕ) (y : Link) (heads : List (Option ℕ)) → place < length links → AreLinked number back most (take place links) heads → number y.fact < most → slice_get heads (number y.fact) ≡ Some (back y)
      → AreLinked number back most (take (place + 1) (set links place y)) (set heads (number y.fact) (Some place))
  linked_put links place y heads inside linked low before =
      let count : length (take place links) ≡ place = length-take-le place links (omega arith) in
      subst (λ (links : List Link). AreLinked number back most links (set heads (number y.fact) (Some place))) (sym (take_more_set links place y inside))
      (subst (λ (count : ℕ). AreLinked number back most (take place links ++ y ∷ []) (set heads (number y.fact) (Some count))) count (linked_more (take place links) y heads linked low before))

  pub linked_by : (links : List Link) (place : ℕ) (y : Link) (heads new : List (Option ℕ)) (n : ℕ) → place < length links → AreLinked number back most (take place links) heads → n ≡ number y.fact → n < most → slice_get heads n ≡ Some (back y) → new ≡ set heads n (Some place)
      → AreLinked number back most (take (place + 1) (set links place y)) new
  linked_by links place y heads new n inside linked is low before made =
      let Linked : List (Option ℕ) → Type 0 = AreLinked number back most (take (place + 1) (set links place y)) in
      subst Linked (sym (made ∙ ap (λ (n : ℕ). set heads n (Some place)) is))
      (linked_put links place y heads inside linked (subst (λ (n : ℕ). n < most) is low) (subst (λ (n : ℕ). slice_get heads n ≡ Some (back y)) is before))

  -- the head of a number
  pub head_gives : (links : List Link) (heads : List (Option ℕ)) (n m : ℕ) (head : Option ℕ) → AreLinked number back most links heads → m ≡ n → m < most → head ≡ get_or heads m head → GivesLastNumbered number links n (length links) head
  head_gives links heads n m head linked is low at =
      linked.last n head (subst (λ (n : ℕ). slice_get heads n ≡ Some head) is (slice_get_read heads (length heads) m head refl (let wide : length heads ≡ most = linked.wide in omega arith) at))

  -- heads that lead nowhere
  pub linked_none : (heads : List (Option ℕ)) → length heads ≡ most → ((n : ℕ) (head : Option ℕ) → slice_get heads n ≡ Some head → None ≡ head) → AreLinked number back most [] heads
  linked_none heads wide none = record {
    wide = wide;
    last = λ n head e. subst (λ (head : Option ℕ). GivesLastNumbered number [] n 0 head) (none n head e) (λ k below h. absurd (omega arith));
    lead_back = λ place link e. absurd (cc);
  }

  pub linked_open : (heads : List (Option ℕ)) → heads ≡ replicate most None → AreLinked number back most [] heads
  linked_open heads is = linked_none heads (ap length is ∙ length-replicate most None) (λ n head e. replicate_is most None n head (sym (ap (λ (heads : List (Option ℕ)). slice_get heads n) is) ∙ e))

  -- each head that leads to a place is of the number of a link from this one on
  abbrev pub LeadFrom : List Link → ℕ → List (Option ℕ) → Type 0
  LeadFrom links i heads = (n place : ℕ) → slice_get heads n ≡ Some (Some place) → (k : ℕ) × (i ≤ k) × IsNumbered number links n k

  pub lead_from_first : (links : List Link) (heads : List (Option ℕ)) → AreLinked number back most links heads → LeadFrom links 0 heads
  lead_from_first links heads linked n place e = let last : IsLastNumbered number links n (length links) place = linked.last n (Some place) e in (place, omega arith, last.at)

  pub lead_from_next : (links : List Link) (i : ℕ) (link : Link) (heads : List (Option ℕ)) → slice_get links i ≡ Some link → number link.fact < length heads → LeadFrom links i heads → LeadFrom links (i + 1) (set heads (number link.fact) None)
  lead_from_next links i link heads at inside lead n place e = elim (cases_eq (number link.fact) n) [ inl same ↦ absurd (gone same) | inr differ ↦ later differ ] where
    gone : number link.fact ≡ n → ⊥
    gone same =
        let here : slice_get (set heads (number link.fact) None) n ≡ Some None = subst (λ (n : ℕ). slice_get (set heads (number link.fact) None) n ≡ Some None) same (set_here heads (number link.fact) None inside) in
        let bad : Some None ≡ Some (Some place) = sym here ∙ e in cc

    later : (number link.fact ≡ n → ⊥) → (k : ℕ) × (i + 1 ≤ k) × IsNumbered number links n k
    later differ =
        let from : (k : ℕ) × (i ≤ k) × IsNumbered number links n k = lead n place (sym (set_elsewhere heads (number link.fact) n None differ) ∙ e) in
        let other : i ≢ from.0 = (λ is. differ (same_number from.0 is from.2)) in
        (from.0, omega arith, from.2)
      where
        same_number : (k : ℕ) → i ≡ k → IsNumbered number links n k → number link.fact ≡ n
        same_number k is h = ap (λ (link : Link). number link.fact) (same_Some link h.0 (sym at ∙ (ap (slice_get links) is ∙ h.1))) ∙ h.2

  pub lead_from_read : (links : List Link) (i : ℕ) (d : Link) (m : ℕ) (heads : List (Option ℕ)) → i < length links → m ≡ number (get_or links i d).fact → m < length heads → LeadFrom links i heads → LeadFrom links (i + 1) (set heads m None)
  lead_from_read links i d m heads inside is low lead =
      subst (λ (m : ℕ). LeadFrom links (i + 1) (set heads m None)) (sym is) (lead_from_next links i (get_or links i d) heads (slice_get-get_or links i d inside) (subst (λ (m : ℕ). m < length heads) is low) lead)

  pub lead_from_end : (links : List Link) (i : ℕ) (heads : List (Option ℕ)) → length links ≤ i → length heads ≡ most → LeadFrom links i heads → AreLinked number back most [] heads
  lead_from_end links i heads past wide lead = linked_none heads wide none where
    none : (n : ℕ) (head : Option ℕ) → slice_get heads n ≡ Some head → None ≡ head
    none n None e = refl
    none n (Some place) e =
        let from : (k : ℕ) × (i ≤ k) × IsNumbered number links n k = lead n place e in
        let within : from.0 < length links = slice_get_within links from.0 from.2.0 from.2.1 in
        absurd (omega arith)
