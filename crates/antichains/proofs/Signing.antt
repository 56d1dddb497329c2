-- Lists of environments with their signatures.
use Rattle.std.proofs.Common.{◌≡◌, ◌≢◌, ℕ, zero, suc, ◌+◌, ◌-◌, ◌<◌, ◌≤◌, inl, inr, Bool, true, cond, refl, sym, ap, subst, ◌∙◌, List, [], ◌∷◌, length, get_or, set, map, Some, bit_and, arith, get_or-set_same, get_or-set_other, length-set, below_more}
use Rattle.std.specs.List.{filter, slice_get}
use Rattle.std.proofs.lemmas.Bool.{cases_lt}
use Rattle.std.proofs.lemmas.List.{length-map, get_or_default, same_lists, get_or-map}
use Rattle.std.proofs.lemmas.Option.{slice_get_within, get_or_from_slice_get}
use Rattle.environment_sets.specs.declared.environment.Env.{Env}
use Rattle.environment_sets.specs.Sets.{Set, ◌⊆◌}
use Rattle.environment_sets.specs.Members.{members, HasMember}
use Rattle.environment_sets.specs.Families.{IsCovered}
use Rattle.environment_sets.specs.Lists.{IsIn}
use Rattle.environment_sets.specs.Signatures.{signature}
use Rattle.environment_sets.proofs.Membership.{IsIn-map, slice_get-IsIn}
use Rattle.environment_sets.proofs.Signed.{subsets_have_less}
use Rattle.antichains.specs.Signed.{AreWritten, NoneBefore}

-- ---- numbers of the environments that are written one by one

-- f of the environment at the place
pub number_at : (f : Env → ℕ) (es : List Env) (i : ℕ) (m : Env) → i < length es → m ≡ get_or es i m → get_or (map f es) i 0 ≡ f m
number_at f es i m low is = get_or-map f es i m 0 low ∙ ap f (sym is)

pub one_more_written : (f : Env → ℕ) (es : List Env) (ws : List ℕ) (i w : ℕ) (m : Env) → AreWritten f es ws i → i < length es → m ≡ get_or es i m → w ≡ f m → AreWritten f es (set ws i w) (i + 1)
one_more_written f es ws i w m so low is written = record {
  long = length-set ws i w ∙ so.long;
  below = below_more _ _ (λ k lower. let other : k ≢ i = omega arith in get_or-set_other ws i k w 0 other ∙ so.below k lower) (get_or-set_same ws i w 0 (omega (arith, so.long)) ∙ (written ∙ sym (number_at f es i m low is)));
}

pub all_written : (f : Env → ℕ) (es : List Env) (ws : List ℕ) (i : ℕ) → length es ≤ i → AreWritten f es ws i → ws ≡ map f es
all_written f es ws i past so =
    let long : length (map f es) ≡ length es = length-map es f in
    same_lists ws (map f es) (so.long ∙ sym long) (λ j d low. get_or_default ws j d 0 low ∙ (so.below j (omega (arith, low, so.long)) ∙ sym (get_or_default (map f es) j d 0 (omega (arith, low, so.long, long)))))

-- ---- a test that a signature spares

-- the number at the place is f of the environment there
pub own_number : (f : Env → ℕ) (es : List Env) (ws : List ℕ) (i d w : ℕ) (e : Env) → ws ≡ map f es → w ≡ get_or ws i d → slice_get es i ≡ Some e → w ≡ f e
own_number f es ws i d w e written is at =
    let low : i < length es = slice_get_within es i e at in
    is ∙ (ap (λ l. get_or l i d) written ∙ (get_or-map f es i e d low ∙ ap f (get_or_from_slice_get es i e e at)))

-- of a subset the signature is part of the other's, as the code tests it
pub subset_needs : (e f : Env) (a b : ℕ) → a ≡ signature e → b ≡ signature f → members e ⊆ members f → bit_and a b ≡ a
subset_needs e f a b own other within = rw (own, other) (subsets_have_less e f within)

-- ---- environments of which none has a property, up to a place

module _ (P : Env → Type 0) (es : List Env) where
  abbrev pub NoneBehind : ℕ → Type 0
  NoneBehind i = (k : ℕ) (e : Env) → i ≤ k → slice_get es k ≡ Some e → P e → ⊥

  pub none_before_more : (i : ℕ) → NoneBefore P es i → ((e : Env) → slice_get es i ≡ Some e → P e → ⊥) → NoneBefore P es (i + 1)
  none_before_more i none here k e low at holds =
      elim (cases_lt k i) [
        | inl lower ↦ none k e lower at holds
        | inr high ↦ let same : k ≡ i = omega (arith, low, high) in here e (subst (λ (n : ℕ). slice_get es n ≡ Some e) same at) holds
      ]

  pub none_behind_more : (i : ℕ) → 0 < i → NoneBehind i → ((e : Env) → slice_get es (i - 1) ≡ Some e → P e → ⊥) → NoneBehind (i - 1)
  none_behind_more i some none here k e past at holds =
      elim (cases_lt k i) [
        | inl low ↦ let same : k ≡ i - 1 = omega (arith, low, past) in here e (subst (λ (n : ℕ). slice_get es n ≡ Some e) same at) holds
        | inr high ↦ none k e high at holds
      ]

  pub none_behind_all : (n : ℕ) → length es ≤ n → NoneBehind n
  none_behind_all n all k e past at holds = let low : k < length es = slice_get_within es k e at in absurd (omega arith)

  pub none_at_all : (i : ℕ) → i ≤ 0 → NoneBehind i → (e : Env) → IsIn es e → P e → ⊥
  none_at_all i first none e there holds = let at : (k : ℕ) × (slice_get es k ≡ Some e) = slice_get-IsIn es e there in none at.0 e (omega arith) at.1 holds

-- ---- subsets and supersets among them

module _ (env : Env) (es : List Env) where
  pub not_covered : ((e : Env) → IsIn es e → members e ⊆ members env → ⊥) → IsCovered (HasMember es) (members env) → ⊥
  not_covered none (E, member, within) = let e : (e : Env) × IsIn es e × (members e ≡ E) = IsIn-map members es E member in none e.0 e.1 (subst (λ (F : Set ℕ). F ⊆ members env) (sym e.2) within)

-- ---- what is left by a test

-- numbers that are the same below n, behind one more
same_from : (w : ℕ) (xs ys : List ℕ) (n : ℕ) → ((k : ℕ) → k < n → get_or xs k 0 ≡ get_or ys k 0) → (k : ℕ) → k < suc n → get_or (w ∷ xs) k 0 ≡ get_or (w ∷ ys) k 0
same_from w xs ys n same zero low = refl
same_from w xs ys n same (suc k) low = same k (omega (arith, low))

-- those before a place that all pass are left at their places
module _ (test : Env → Bool) where
  pub front_left : (es : List Env) (n : ℕ) → n ≤ length es → ((k : ℕ) (e : Env) → k < n → slice_get es k ≡ Some e → test e ≡ true) → n ≤ length (filter test es)
  front_left es zero inside passes = omega arith
  front_left [] (suc n) inside passes = absurd (omega (arith, inside))
  front_left (e ∷ es) (suc n) inside passes =
      let first : test e ≡ true = passes 0 e (omega arith) refl in
      let rest : n ≤ length (filter test es) = front_left es n (omega (arith, inside)) (λ k x low at. passes (suc k) x (omega (arith, low)) at) in
      let P : Bool → Type 0 = λ b. suc n ≤ length (cond b (e ∷ filter test es) (filter test es)) in
      subst P (sym first) (omega (arith, rest))

  pub front_mapped : (f : Env → ℕ) (es : List Env) (n : ℕ) → n ≤ length es → ((k : ℕ) (e : Env) → k < n → slice_get es k ≡ Some e → test e ≡ true) → (k : ℕ) → k < n → get_or (map f es) k 0 ≡ get_or (map f (filter test es)) k 0
  front_mapped f es zero inside passes k low = absurd (omega (arith, low))
  front_mapped f [] (suc n) inside passes k low = absurd (omega (arith, inside))
  front_mapped f (e ∷ es) (suc n) inside passes k low =
      let first : test e ≡ true = passes 0 e (omega arith) refl in
      let P : Bool → Type 0 = λ b. get_or (map f (e ∷ es)) k 0 ≡ get_or (map f (cond b (e ∷ filter test es) (filter test es))) k 0 in
      subst P (sym first) (same_from (f e) (map f es) (map f (filter test es)) n (front_mapped f es n (omega (arith, inside)) (λ j x l a. passes (suc j) x (omega (arith, l)) a)) k low)

-- a test of equal numbers that holds
