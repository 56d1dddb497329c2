-- Levels that are cut, and levels with one more.
use Rattle.std.proofs.Common.{◌≡◌, ℕ, zero, suc, ◌+◌, ◌<◌, ◌≤◌, ◌⊎◌, inl, inr, List, [], ◌∷◌, ◌++◌, length, get_or, slice_get, Some, take, refl, sym, ap, subst, ◌∙◌, arith}
use Rattle.std.proofs.lemmas.List.{map-append, take-map, take-take, take-append-le, take_all, length-map, length-append, length-take-le}
use Rattle.environment_sets.specs.declared.environment.Env.{Env}
use Rattle.environment_sets.specs.Sets.{no_elements}
use Rattle.environment_sets.specs.Members.{members}
use Rattle.environment_sets.proofs.Hitting.{none_is_hit_by_none}
use Rattle.hitting_sets.specs.declared.levels.Level.{Level}
use Rattle.hitting_sets.specs.Hitting.{IsMinimalFor, AreMinimalFor}
use Rattle.hitting_sets.specs.Levels.{conflicts_of, AreLevels}
use Rattle.hitting_sets.proofs.Rosters.{roster_one}

module _ {X : Type 0} where
  slice_get-take : (n : ℕ) (xs : List X) (i : ℕ) (x : X) → slice_get (take n xs) i ≡ Some x → (i < n) × (slice_get xs i ≡ Some x)
  slice_get-take zero xs i x e = absurd (cc)
  slice_get-take (suc n) [] i x e = absurd (cc)
  slice_get-take (suc n) (y ∷ xs) zero x e = (omega arith, e)
  slice_get-take (suc n) (y ∷ xs) (suc i) x e = let rest : (i < n) × (slice_get xs i ≡ Some x) = slice_get-take n xs i x e in (omega (arith, rest.0), rest.1)

  slice_get-push : (xs : List X) (y : X) (i : ℕ) (x : X) → slice_get (xs ++ y ∷ []) i ≡ Some x → ((i < length xs) × (slice_get xs i ≡ Some x)) ⊎ ((i ≡ length xs) × (y ≡ x))
  slice_get-push [] y zero x e = inr (refl, cc)
  slice_get-push [] y (suc i) x e = absurd (cc)
  slice_get-push (z ∷ xs) y zero x e = inl (omega arith, e)
  slice_get-push (z ∷ xs) y (suc i) x e =
      elim (slice_get-push xs y i x e) [
        | inl h ↦ inl (omega (arith, h.0), h.1)
        | inr h ↦ inr (omega (arith, h.0), h.1)
      ]

  pub slice_get_at : (xs : List X) (i : ℕ) (x : X) → i < length xs → x ≡ get_or xs i x → slice_get xs i ≡ Some x
  slice_get_at [] i x low is = absurd (omega arith)
  slice_get_at (y ∷ xs) zero x low is = ap Some (sym is)
  slice_get_at (y ∷ xs) (suc i) x low is = slice_get_at xs i x (omega arith) is

  -- lists that differ at a place have no longer common prefix
  pub common_ends : (xs ys : List X) (i n : ℕ) (d : X) → i < length xs → i < length ys → (get_or xs i d ≡ get_or ys i d → ⊥) → take n xs ≡ take n ys → n ≤ i
  common_ends xs ys i zero d low lower differ same = omega arith
  common_ends [] ys i (suc n) d low lower differ same = absurd (omega arith)
  common_ends (x ∷ xs) [] i (suc n) d low lower differ same = absurd (omega arith)
  common_ends (x ∷ xs) (y ∷ ys) zero (suc n) d low lower differ same = absurd (differ (ap (λ zs. get_or zs 0 d) same))
  common_ends (x ∷ xs) (y ∷ ys) (suc i) (suc n) d low lower differ same = let rest : n ≤ i = common_ends xs ys i n d (omega arith) (omega arith) differ (ap (λ zs. tail zs) same) in omega arith
    where
      tail : List X → List X
      tail [] = []
      tail (z ∷ zs) = zs

  -- no common prefix is longer than either list
  pub common_within : (xs ys : List X) (n : ℕ) → n ≤ length ys → take n xs ≡ take n ys → n ≤ length xs
  common_within xs ys zero inside same = omega arith
  common_within [] ys (suc n) inside same = let e : length (take (suc n) ys) ≡ suc n = length-take-le (suc n) ys inside in let none : 0 ≡ length (take (suc n) ys) = ap length same in omega arith
  common_within (x ∷ xs) [] (suc n) inside same = absurd (omega arith)
  common_within (x ∷ xs) (y ∷ ys) (suc n) inside same = let rest : n ≤ length xs = common_within xs ys n (omega arith) (ap (λ zs. tail zs) same) in omega arith
    where
      tail : List X → List X
      tail [] = []
      tail (z ∷ zs) = zs

pub levels_none : AreLevels []
levels_none i level e = absurd (cc)

pub levels_take : (n : ℕ) (levels : List Level) → AreLevels levels → AreLevels (take n levels)
levels_take n levels are i level e =
    let there : (i < n) × (slice_get levels i ≡ Some level) = slice_get-take n levels i level e in
    let same : take (i + 1) (conflicts_of (take n levels)) ≡ take (i + 1) (conflicts_of levels) =
    ap (take (i + 1)) (sym (take-map (λ (l : Level). l.conflict) n levels)) ∙ take-take (i + 1) n (conflicts_of levels) (omega (arith, there.0)) in
    let P : List Env → Type 0 = λ es. AreMinimalFor es level.sets.items in
    subst P (sym same) (are i level there.1)

pub conflicts_push : (levels : List Level) (last : Level) → conflicts_of (levels ++ last ∷ []) ≡ conflicts_of levels ++ last.conflict ∷ []
conflicts_push levels last = map-append (λ (l : Level). l.conflict) levels (last ∷ [])

pub levels_push : (levels : List Level) (last : Level) → AreLevels levels → AreMinimalFor (conflicts_of levels ++ last.conflict ∷ []) last.sets.items → AreLevels (levels ++ last ∷ [])
levels_push levels last are minimal i level e =
    let long : length (conflicts_of levels) ≡ length levels = length-map levels (λ (l : Level). l.conflict) in
    let longer : length (conflicts_of levels ++ last.conflict ∷ []) ≡ length (conflicts_of levels) + 1 = length-append (conflicts_of levels) (last.conflict ∷ []) in
    let P : List Env → Type 0 = λ es. AreMinimalFor es level.sets.items in
    elim (slice_get-push levels last i level e) [
      | inl h ↦
          let same : take (i + 1) (conflicts_of (levels ++ last ∷ [])) ≡ take (i + 1) (conflicts_of levels) =
          ap (take (i + 1)) (conflicts_push levels last) ∙ take-append-le (i + 1) (conflicts_of levels) (last.conflict ∷ []) (omega (arith, h.0, long)) in
          subst P (sym same) (are i level h.1)
      | inr h ↦
          let same : take (i + 1) (conflicts_of (levels ++ last ∷ [])) ≡ conflicts_of levels ++ last.conflict ∷ [] =
          ap (take (i + 1)) (conflicts_push levels last) ∙ take_all (i + 1) (conflicts_of levels ++ last.conflict ∷ []) (omega (arith, h.0, long, longer)) in
          let Q : Level → Type 0 = λ l. AreMinimalFor (conflicts_of levels ++ last.conflict ∷ []) l.sets.items in
          subst P (sym same) (subst Q h.1 minimal)
    ]

-- the conflict of a level
pub at_level : (levels : List Level) (i : ℕ) (level : Level) (d : Env) → i < length levels → level ≡ get_or levels i level → level.conflict ≡ get_or (conflicts_of levels) i d
at_level [] i level d low is = absurd (omega arith)
at_level (l ∷ levels) zero level d low is = ap (λ (x : Level). x.conflict) is
at_level (l ∷ levels) (suc i) level d low is = at_level levels i level d (omega arith) is

-- the one minimal hitting set of no conflict
pub minimal_for_none : (nothing : Env) → members nothing ≡ no_elements → AreMinimalFor [] (nothing ∷ [])
minimal_for_none nothing none =
    roster_one (IsMinimalFor []) (members nothing) ((none_is_hit_by_none (members nothing)).1 none) (λ D minimal. none ∙ sym ((none_is_hit_by_none D).0 minimal))
