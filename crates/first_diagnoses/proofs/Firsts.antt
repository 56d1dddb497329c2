-- The first values with a property, found piece by piece.
use Rattle.std.proofs.Common.{◌≡◌, ℕ, zero, suc, ◌+◌, ◌-◌, ◌<◌, ◌≤◌, ◌⊎◌, inl, inr, List, [], ◌∷◌, ◌++◌, length, take, refl, sym, ap, ap₂, subst, ◌∙◌, arith, length-append, append-nil, append_assoc}
use Rattle.std.proofs.lemmas.List.{length-map, map-append}
use Rattle.environment_sets.specs.declared.environment.Env.{Env}
use Rattle.environment_sets.specs.Sets.{Set}
use Rattle.environment_sets.specs.Members.{members, sets}
use Rattle.environment_sets.specs.Lists.{IsIn, IsRising, IsStrict}
use Rattle.environment_sets.proofs.Membership.{IsIn-append, IsIn-left, IsIn-right, IsRising-append}
use Rattle.environment_sets.specs.Costs.{ComesBeforeByCost}
use Rattle.environment_sets.proofs.CostOrder.{cost_order_is_strict}
use Rattle.first_diagnoses.specs.declared.problem.Problem.{Problem}
use Rattle.first_diagnoses.specs.First.{AreFirst}
use Rattle.first_diagnoses.specs.Rounds.{ComesFirst, AddsFirst}
use Rattle.first_diagnoses.specs.Laws.{FirstsAreFronts}

module _ {X : Type 0} where
  -- where nothing has the property, or nothing is wanted
  pub first_none : (before : X → X → Type 0) (P : X → Type 0) (m : ℕ) → ((x : X) → P x → ⊥) → AreFirst before P m []
  first_none before P m none = record { rising = tt; sound = λ x h. absurd h; few = omega arith; others = λ x is. absurd (none x is) }

  pub first_zero : (before : X → X → Type 0) (P : X → Type 0) (m : ℕ) → m ≡ 0 → AreFirst before P m []
  first_zero before P m none = record { rising = tt; sound = λ x h. absurd h; few = omega arith; others = λ x is. inr (sym none, λ y h. absurd h) }

  pub first_one : (before : X → X → Type 0) (P : X → Type 0) (m : ℕ) (x : X) → 0 < m → P x → ((y : X) → P y → x ≡ y) → AreFirst before P m (x ∷ [])
  first_one before P m x some is only =
      record {
        rising = (λ y h. absurd h, tt);
        sound = λ y h. elim h [ inl same ↦ subst P same is | inr bad ↦ absurd bad ];
        few = omega arith;
        others = λ y there. inl (inl (only y there));
      }

  -- first those with one property, then those with another one that come after them
  pub first_append : (before : X → X → Type 0) (P Q R : X → Type 0) (m n : ℕ) (xs ys : List X) → AreFirst before P m xs → AreFirst before Q n ys → length xs + n ≡ m → ((x y : X) → P x → Q y → before x y) → ((x : X) → P x → R x) → ((x : X) → Q x → R x) → ((x : X) → R x → P x ⊎ Q x) → AreFirst before R m (xs ++ ys)
  first_append before P Q R m n xs ys a b room across left right parts =
      let long : length (xs ++ ys) ≡ length xs + length ys = length-append xs ys in
      record {
        rising = IsRising-append before xs ys a.rising b.rising (λ x y h k. across x y (a.sound x h) (b.sound y k));
        sound = λ x h. elim (IsIn-append xs ys x h) [ inl k ↦ left x (a.sound x k) | inr k ↦ right x (b.sound x k) ];
        few = omega (arith, a.few, b.few);
        others = λ x is. elim (parts x is) [
          | inl here ↦ elim (a.others x here) [
            | inl there ↦ inl (IsIn-left xs ys x there)
            | inr (full, after) ↦
                let none : length ys ≡ 0 = omega (arith, b.few) in
                inr (omega arith, λ y h. elim (IsIn-append xs ys y h) [ inl k ↦ after y k | inr k ↦ absurd (nothing ys y none k) ])
          ]
          | inr later ↦ elim (b.others x later) [
            | inl there ↦ inl (IsIn-right xs ys x there)
            | inr (full, after) ↦ inr (omega arith, λ y h. elim (IsIn-append xs ys y h) [ inl k ↦ across y x (a.sound y k) later | inr k ↦ after y k ])
          ]
        ];
      }
    where
      nothing : (zs : List X) (z : X) → length zs ≡ 0 → IsIn zs z → ⊥
      nothing [] z e h = h
      nothing (y ∷ zs) z e h = absurd (omega arith)

  rising_map : (before after : X → X → Type 0) (P : X → Type 0) (xs : List X) → ((x y : X) → P x → P y → before x y → after x y) → ((x : X) → IsIn xs x → P x) → IsRising before xs → IsRising after xs
  rising_map before after P [] to sound up = tt
  rising_map before after P (x ∷ xs) to sound up = (
    λ y h. to x y (sound x (inl refl)) (sound y (inr h)) (up.0 y h),
    rising_map before after P xs to (λ y h. sound y (inr h)) up.1,
  )

  -- in another order that goes with the first one
  pub first_map : (before after : X → X → Type 0) (P : X → Type 0) (m : ℕ) (xs : List X) → ((x y : X) → P x → P y → before x y → after x y) → AreFirst before P m xs → AreFirst after P m xs
  first_map before after P m xs to first =
      record {
        rising = rising_map before after P xs to first.sound first.rising;
        sound = first.sound;
        few = first.few;
        others = λ x is. elim (first.others x is) [
          | inl there ↦ inl there
          | inr (full, later) ↦ inr (full, λ y h. to y x (first.sound y h) is (later y h))
        ];
      }

-- the environments to which the first sets are added
module _ (p : Problem) (P : Set ℕ → Type 0) (limit : ℕ) where
  pub adds_none : (old : List Env) → ((D : Set ℕ) → P D → ⊥) → AddsFirst p P limit old old
  adds_none old none = record { added = []; appended = sym (append-nil old); first = first_none (ComesFirst p) P (limit - length old) none }

  pub adds_zero : (old : List Env) → limit ≤ length old → AddsFirst p P limit old old
  adds_zero old full = record { added = []; appended = sym (append-nil old); first = first_zero (ComesFirst p) P (limit - length old) (omega arith) }

  pub adds_one : (old new : List Env) (e : Env) → length old < limit → new ≡ old ++ e ∷ [] → P (members e) → ((D : Set ℕ) → P D → members e ≡ D) → AddsFirst p P limit old new
  adds_one old new e room pushed is only = record { added = e ∷ []; appended = pushed; first = first_one (ComesFirst p) P (limit - length old) (members e) (omega arith) is only }

  pub adds_map : (Q : Set ℕ → Type 0) (old new : List Env) → ((D : Set ℕ) → P D → Q D) → ((D : Set ℕ) → Q D → P D) → AddsFirst p P limit old new → AddsFirst p Q limit old new
  adds_map Q old new to from a =
      record {
        added = a.added;
        appended = a.appended;
        first = record {
          rising = a.first.rising;
          sound = λ D h. to D (a.first.sound D h);
          few = a.first.few;
          others = λ D h. a.first.others D (from D h);
        };
      }

  pub adds_append : (Q R : Set ℕ → Type 0) (old mid new : List Env) → length old ≤ limit → AddsFirst p P limit old mid → AddsFirst p Q limit mid new → ((D E : Set ℕ) → P D → Q E → ComesFirst p D E) → ((D : Set ℕ) → P D → R D) → ((D : Set ℕ) → Q D → R D) → ((D : Set ℕ) → R D → P D ⊎ Q D) → AddsFirst p R limit old new
  adds_append Q R old mid new room a b across left right parts =
      let grown : length mid ≡ length old + length a.added = ap length a.appended ∙ length-append old a.added in
      let many : length (sets a.added) ≡ length a.added = length-map a.added members in
      record {
        added = a.added ++ b.added;
        appended = b.appended ∙ (ap (λ es. es ++ b.added) a.appended ∙ append_assoc old a.added b.added);
        first = subst (AreFirst (ComesFirst p) R (limit - length old)) (sym (map-append members a.added b.added))
            (first_append (ComesFirst p) P Q R (limit - length old) (limit - length mid) (sets a.added) (sets b.added) a.first b.first (omega (arith, a.first.few)) across left right parts);
      }

-- the first elements of a rising list are its front
module _ {X : Type 0} (before : X → X → Type 0) (strict : IsStrict before) where
  irreflexive : (x y : X) → x ≡ y → before x y → ⊥
  irreflexive x y same h = let itself : before y y = subst (λ (z : X). before z y) same h in strict y y itself itself

  take_none : (k : ℕ) → ◌≡◌ {A = List X} [] (take k [])
  take_none zero = refl
  take_none (suc k) = refl

  none_of_none : (xs : List X) → ((x : X) → IsIn xs x → ⊥) → xs ≡ []
  none_of_none [] none = refl
  none_of_none (x ∷ xs) none = absurd (none x (inl refl))

  none_of_zero : (xs : List X) → length xs ≤ 0 → xs ≡ []
  none_of_zero [] few = refl
  none_of_zero (x ∷ xs) few = absurd (omega arith)

  head_same : (y : X) (ys : List X) (k : ℕ) (x : X) (xs : List X) → IsRising before (y ∷ ys) → AreFirst before (IsIn (y ∷ ys)) k (x ∷ xs) → x ≡ y
  head_same y ys k x xs up first =
      let never : before x y → ⊥ = λ less. elim (first.sound x (inl refl)) [ inl same ↦ irreflexive x y (sym same) less | inr there ↦ strict x y less (up.0 x there) ] in
      elim (first.others y (inl refl)) [
        | inl (inl same) ↦ same
        | inl (inr there) ↦ absurd (never (first.rising.0 y there))
        | inr (full, after) ↦ absurd (never (after x (inl refl)))
      ]

  tail_first : (y : X) (ys : List X) (k : ℕ) (x : X) (xs : List X) → x ≡ y → IsRising before (y ∷ ys) → AreFirst before (IsIn (y ∷ ys)) (suc k) (x ∷ xs) → AreFirst before (IsIn ys) k xs
  tail_first y ys k x xs same up first =
      record {
        rising = first.rising.1;
        sound = λ z h. elim (first.sound z (inr h)) [ inl again ↦ absurd (irreflexive x z (same ∙ again) (first.rising.0 z h)) | inr there ↦ there ];
        few = omega (arith, first.few);
        others = λ z h. elim (first.others z (inr h)) [
          | inl (inl again) ↦ absurd (irreflexive y z (sym same ∙ again) (up.0 z h))
          | inl (inr there) ↦ inl there
          | inr (full, after) ↦ inr (omega arith, λ w there. after w (inr there))
        ];
      }

  pub first_is_front : (all : List X) (k : ℕ) (xs : List X) → IsRising before all → AreFirst before (IsIn all) k xs → xs ≡ take k all
  first_is_front [] k xs up first = none_of_none xs first.sound ∙ take_none k
  first_is_front (y ∷ ys) zero xs up first = none_of_zero xs first.few
  first_is_front (y ∷ ys) (suc k) [] up first = elim (first.others y (inl refl)) [ inl there ↦ absurd there | inr (full, after) ↦ absurd (omega arith) ]
  first_is_front (y ∷ ys) (suc k) (x ∷ xs) up first =
      let same : x ≡ y = head_same y ys (suc k) x xs up first in ap₂ (λ z zs. z ∷ zs) same (first_is_front ys k xs up.1 (tail_first y ys k x xs same up first))

-- and so are those with a property, where the rising list has exactly these
pub firsts_are_fronts : FirstsAreFronts
firsts_are_fronts conflicts order costs k all xs listing first =
    first_is_front (ComesBeforeByCost order costs) (cost_order_is_strict order costs) all k xs listing.rising
    (record {
      rising = first.rising;
      sound = λ E h. (listing.exact E).1 (first.sound E h);
      few = first.few;
      others = λ E h. first.others E ((listing.exact E).0 h);
    })
