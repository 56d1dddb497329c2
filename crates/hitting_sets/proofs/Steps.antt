-- Steps of the loops.
use Rattle.std.proofs.Common.{◌≡◌, ℕ, ◌+◌, ◌<◌, ◌≤◌, ◌⊎◌, inl, inr, cond, IsTrue, ◌↔◌, List, [], ◌∷◌, ◌++◌, length, get_or, take, drop, refl, sym, ap, subst, ◌∙◌, arith}
use Rattle.std.proofs.lemmas.Bool.{or_left, or_right, or_cases, both_ways, cases_Bool, cases_eq, cond-true, cond-false}
use Rattle.std.proofs.lemmas.List.{map-append, take_more, take-append-drop}
use Rattle.environment_sets.specs.declared.environment.Env.{Env}
use Rattle.environment_sets.specs.declared.environment.TheConstants.{SLOTS}
use Rattle.environment_sets.specs.Sets.{Set, ◌∪◌, only, Hits, HitsEach, IsBelow}
use Rattle.environment_sets.specs.Members.{members, sets, HasMember}
use Rattle.environment_sets.specs.Lists.{IsIn, AreDistinct, IsRoster}
use Rattle.environment_sets.proofs.Listings.{sets-push, IsIn-push, IsIn-front, IsIn-last}
use Rattle.environment_sets.proofs.Membership.{IsIn-left, map-IsIn, AreDistinct-left, roster_alike}
use Rattle.hitting_sets.specs.Own.{IsAlone, HasOwn}
use Rattle.hitting_sets.specs.Hitting.{IsMinimalFor, AreMinimalFor, ComesFrom, Adds}
use Rattle.hitting_sets.proofs.Minimality.{sets_are_below}
use Rattle.hitting_sets.proofs.Widening.{widened, of_widened, stays_minimal, wider_hits, one_origin, comes_from_minimal}
use Rattle.hitting_sets.proofs.Rosters.{IsIn-at, roster_append, roster_one, last_is_new, not_before, IsIn-take, has_more, adds_alike, adds_more, roster_adds}

pub take_item : {X : Type 0} (xs : List X) (i : ℕ) (x : X) → i < length xs → x ≡ get_or xs i x → take (i + 1) xs ≡ take i xs ++ x ∷ []
take_item xs i x low is = take_more xs i x low ∙ ap (λ y. take i xs ++ y ∷ []) (sym is)

-- the slots that hit some conflict alone, with one conflict more
pub own_more : (before : List Env) (conflict : Env) (D own one new : Set ℕ) → ((k : ℕ) → IsTrue (own k) ↔ HasOwn (HasMember before) D k) → ((k : ℕ) → IsTrue (one k) ↔ IsAlone D (members conflict) k) → new ≡ own ∪ one → (k : ℕ) → IsTrue (new k) ↔ HasOwn (HasMember (before ++ conflict ∷ [])) D k
own_more before conflict D own one new earlier here both k = (
  λ is. elim (or_cases (own k) (one k) (sym (ap (λ E. E k) both) ∙ is)) [
    | inl h ↦ let mine : HasOwn (HasMember before) D k = (earlier k).0 h in (mine.0, (has_more before conflict mine.0).1 (inl mine.1), mine.2)
    | inr h ↦ (members conflict, (has_more before conflict (members conflict)).1 (inr refl), (here k).0 h)
  ],
  λ mine. ap (λ E. E k) both ∙ elim ((has_more before conflict mine.0).0 mine.1) [
    | inl h ↦ or_left (own k) (one k) ((earlier k).1 (mine.0, h, mine.2))
    | inr e ↦ or_right (own k) (one k) ((here k).1 (subst (λ (C : Set ℕ). IsAlone D C k) (sym e) mine.2))
  ],
)

-- the slots of an environment below i, and i where the environment has it
pub slots_more : (E : Set ℕ) (i : ℕ) (old new : List ℕ) → IsRoster (λ k. IsTrue (E k) × (k < i)) old → new ≡ cond (E i) (old ++ i ∷ []) old → IsRoster (λ k. IsTrue (E k) × (k < i + 1)) new
slots_more E i old new roster grown =
    elim (cases_Bool (E i)) [
      | inl is ↦
          subst (IsRoster (λ k. IsTrue (E k) × (k < i + 1))) (sym (grown ∙ cond-true (E i) _ _ is))
          (roster_alike (λ k. (IsTrue (E k) × (k < i)) ⊎ (i ≡ k)) (λ k. IsTrue (E k) × (k < i + 1)) (old ++ i ∷ [])
          (λ k h. elim h [ inl (there, low) ↦ (there, omega arith) | inr e ↦ (ap E (sym e) ∙ is, omega arith) ])
          (λ k h. elim (cases_eq i k) [ inl e ↦ inr e | inr other ↦ inl (h.0, omega (arith, h.1)) ])
          (roster_append (λ k. IsTrue (E k) × (k < i)) (λ k. i ≡ k) old (i ∷ []) (λ k h e. omega (arith, h.1)) roster (roster_one (λ k. i ≡ k) i refl (λ k e. e))))
      | inr out ↦
          subst (IsRoster (λ k. IsTrue (E k) × (k < i + 1))) (sym (grown ∙ cond-false (E i) _ _ out))
          (roster_alike (λ k. IsTrue (E k) × (k < i)) (λ k. IsTrue (E k) × (k < i + 1)) old
          (λ k h. (h.0, omega (arith, h.1)))
          (λ k h. elim (cases_eq i k) [ inl e ↦ absurd (both_ways (E i) out (ap E e ∙ h.0)) | inr other ↦ (h.0, omega (arith, h.1)) ])
          roster)
    ]

pub slots_all : (E : Set ℕ) (n i : ℕ) (slots : List ℕ) → IsBelow n E → n ≤ i → IsRoster (λ k. IsTrue (E k) × (k < i)) slots → IsRoster (λ k. IsTrue (E k)) slots
slots_all E n i slots low all roster =
    roster_alike (λ k. IsTrue (E k) × (k < i)) (λ k. IsTrue (E k)) slots (λ k h. h.0) (λ k h. (h, omega (arith, low k h))) roster

-- what a set becomes with one conflict more
abbrev pub Becomes : List Env → Env → Set ℕ → Set ℕ → Type 0
Becomes before conflict S D = IsMinimalFor (before ++ conflict ∷ []) D × ComesFrom (members conflict) S D

-- what hits the conflict stays as it is
pub kept_alone : (C S D : Set ℕ) → Hits S C → ComesFrom C S D → S ≡ D
kept_alone C S D hit (inl (_, same)) = sym same
kept_alone C S D hit (inr (misses, _)) = absurd (misses hit)

-- and with the first slots of that conflict
abbrev pub BecomesBy : List Env → Env → Set ℕ → List ℕ → Set ℕ → Type 0
BecomesBy before conflict S slots D = IsMinimalFor (before ++ conflict ∷ []) D × ((k : ℕ) × IsIn slots k × (D ≡ S ∪ only k))

module _ (before : List Env) (conflict : Env) where
  abbrev After : List Env
  After = before ++ conflict ∷ []

  pub minimal_stays : (S : Set ℕ) → IsMinimalFor before S → Hits S (members conflict) → IsMinimalFor After S
  minimal_stays S minimal hit = stays_minimal (sets before) (members conflict) (sets After) (has_more before conflict) S minimal hit

  pub hits_wider : (S : Set ℕ) (k : ℕ) → HitsEach (HasMember before) S → IsTrue (members conflict k) → HitsEach (HasMember After) (S ∪ only k)
  hits_wider S k hits is = wider_hits (sets before) (members conflict) (sets After) (has_more before conflict) S k hits is

  -- one slot more
  pub becomes_by_more : (S : Set ℕ) (slots : List ℕ) (i k : ℕ) (old mid new : List Env) → (Hits S (members conflict) → ⊥) → IsRoster (λ j. IsTrue (members conflict j)) slots → i < length slots → k ≡ get_or slots i 0 → Adds (BecomesBy before conflict S (take i slots)) old mid → Adds (λ D. IsMinimalFor After D × (D ≡ S ∪ only k)) mid new → Adds (BecomesBy before conflict S (take (i + 1) slots)) old new
  becomes_by_more S slots i k old mid new misses roster low is first next =
      adds_alike (λ D. BecomesBy before conflict S (take i slots) D ⊎ (IsMinimalFor After D × (D ≡ S ∪ only k))) (BecomesBy before conflict S (take (i + 1) slots)) old new
      (λ D h. elim h [
        | inl (minimal, (j, there, wide)) ↦ (minimal, (j, subst (λ (js : List ℕ). IsIn js j) (sym longer) (IsIn-front (take i slots) k j there), wide))
        | inr (minimal, wide) ↦ (minimal, (k, subst (λ (js : List ℕ). IsIn js k) (sym longer) (IsIn-last (take i slots) k k refl), wide))
      ])
      (λ D h. elim (IsIn-push (take i slots) k h.1.0 (subst (λ (js : List ℕ). IsIn js h.1.0) longer h.1.1)) [
        | inl there ↦ inl (h.0, (h.1.0, there, h.1.2))
        | inr e ↦ inr (h.0, h.1.2 ∙ ap (λ j. S ∪ only j) (sym e))
      ])
      (adds_more (BecomesBy before conflict S (take i slots)) (λ D. IsMinimalFor After D × (D ≡ S ∪ only k)) old mid new apart first next)
    where
      longer : take (i + 1) slots ≡ take i slots ++ k ∷ []
      longer = take_more slots i 0 low ∙ ap (λ (j : ℕ). take i slots ++ j ∷ []) (sym is)

      apart : (D : Set ℕ) → BecomesBy before conflict S (take i slots) D → IsMinimalFor After D × (D ≡ S ∪ only k) → ⊥
      apart D (_, earlier) (_, wide) =
          let same : IsTrue ((S ∪ only k) earlier.0) = subst (λ (F : Set ℕ). IsTrue (F earlier.0)) (sym earlier.2 ∙ wide) (widened S earlier.0) in
          elim (of_widened S k earlier.0 same) [
            | inl is ↦ misses (earlier.0, is, (roster.exact earlier.0).0 (IsIn-take slots i earlier.0 earlier.1))
            | inr e ↦ not_before slots i 0 low roster.distinct (subst (IsIn (take i slots)) (e ∙ is) earlier.1)
          ]

  -- the slots are all slots of the conflict
  pub becomes_all : (S : Set ℕ) (slots : List ℕ) (old new : List Env) → (Hits S (members conflict) → ⊥) → IsRoster (λ j. IsTrue (members conflict j)) slots → Adds (BecomesBy before conflict S slots) old new → Adds (Becomes before conflict S) old new
  becomes_all S slots old new misses roster adds =
      adds_alike (BecomesBy before conflict S slots) (Becomes before conflict S) old new
      (λ D h. (h.0, inr (misses, (h.1.0, (roster.exact h.1.0).0 h.1.1, h.1.2))))
      (λ D (minimal, from). elim from [
        | inl kept ↦ absurd (misses kept.0)
        | inr wide ↦ (minimal, (wide.1.0, (roster.exact wide.1.0).1 wide.1.1, wide.1.2))
      ])
      adds

-- what the sets become with one conflict more
abbrev pub BecomeOf : List Env → Env → List Env → Set ℕ → Type 0
BecomeOf before conflict es D = IsMinimalFor (before ++ conflict ∷ []) D × ((S : Set ℕ) × IsIn (sets es) S × ComesFrom (members conflict) S D)

module _ (before : List Env) (conflict : Env) (es : List Env) (minimal : AreMinimalFor before es) where
  -- one set more
  pub become_more : (i : ℕ) (e : Env) (old new : List Env) → i < length es → e ≡ get_or es i e → IsRoster (BecomeOf before conflict (take i es)) (sets old) → Adds (Becomes before conflict (members e)) old new → IsRoster (BecomeOf before conflict (take (i + 1) es)) (sets new)
  become_more i e old new low is roster adds =
      roster_alike (λ D. BecomeOf before conflict (take i es) D ⊎ Becomes before conflict (members e) D) (BecomeOf before conflict (take (i + 1) es)) (sets new)
      (λ D h. elim h [
        | inl (least, (S, there, from)) ↦ (least, (S, subst (λ (Es : List (Set ℕ)). IsIn Es S) (sym longer) (IsIn-front (sets (take i es)) (members e) S there), from))
        | inr (least, from) ↦ (least, (members e, subst (λ (Es : List (Set ℕ)). IsIn Es (members e)) (sym longer) (IsIn-last (sets (take i es)) (members e) (members e) refl), from))
      ])
      (λ D h. elim (IsIn-push (sets (take i es)) (members e) h.1.0 (subst (λ (Es : List (Set ℕ)). IsIn Es h.1.0) longer h.1.1)) [
        | inl there ↦ inl (h.0, (h.1.0, there, h.1.2))
        | inr same ↦ inr (h.0, subst (λ (S : Set ℕ). ComesFrom (members conflict) S D) (sym same) h.1.2)
      ])
      (roster_adds (BecomeOf before conflict (take i es)) (Becomes before conflict (members e)) old new apart roster adds)
    where
      longer : sets (take (i + 1) es) ≡ sets (take i es) ++ members e ∷ []
      longer = ap sets (take_item es i e low is) ∙ sets-push (take i es) e

      whole : sets (take (i + 1) es) ++ sets (drop (i + 1) es) ≡ sets es
      whole = sym (map-append members (take (i + 1) es) (drop (i + 1) es)) ∙ ap sets (take-append-drop (i + 1) es)

      apart : (D : Set ℕ) → BecomeOf before conflict (take i es) D → Becomes before conflict (members e) D → ⊥
      apart D (_, earlier) (_, from) =
          let same : earlier.0 ≡ members e = one_origin (sets before) (members conflict) (sets (before ++ conflict ∷ [])) (has_more before conflict) earlier.0 (members e) D ((minimal.exact earlier.0).0 (subst (λ (Es : List (Set ℕ)). IsIn Es earlier.0) whole (IsIn-left _ _ earlier.0 (subst (λ (Es : List (Set ℕ)). IsIn Es earlier.0) (sym longer) (IsIn-front (sets (take i es)) (members e) earlier.0 earlier.1))))) ((minimal.exact (members e)).0 (map-IsIn members es e (IsIn-at es i e low is))) earlier.2 from in
          last_is_new (sets (take i es)) (members e) (subst AreDistinct longer (AreDistinct-left (sets (take (i + 1) es)) (sets (drop (i + 1) es)) (subst AreDistinct (sym whole) minimal.distinct))) (subst (IsIn (sets (take i es))) same earlier.1)

  -- all sets
  pub become_all : (new : List Env) → IsRoster (BecomeOf before conflict es) (sets new) → AreMinimalFor (before ++ conflict ∷ []) new
  become_all new roster =
      roster_alike (BecomeOf before conflict es) (IsMinimalFor (before ++ conflict ∷ [])) (sets new)
      (λ D h. h.0)
      (λ D least.
      let from = comes_from_minimal (sets before) (members conflict) (sets (before ++ conflict ∷ [])) (has_more before conflict) SLOTS (sets_are_below before) (sets_are_below (before ++ conflict ∷ [])) D least in
      (least, (from.0, (minimal.exact from.0).1 from.1, from.2)))
      roster
