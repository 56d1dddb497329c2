-- Branches that wait, one after another.
use Rattle.std.proofs.Common.{◌≡◌, ℕ, ◌+◌, ◌<◌, ◌≤◌, ◌⊎◌, inl, inr, Option, Some, None, List, [], ◌∷◌, ◌++◌, length, get_or, take, drop, refl, sym, ap, subst, ◌∙◌, arith, append-nil, append_assoc}
use Rattle.std.proofs.lemmas.Bool.{cases_lt}
use Rattle.std.proofs.lemmas.List.{take-append-drop}
use Rattle.environment_sets.specs.declared.environment.Env.{Env}
use Rattle.environment_sets.specs.Sets.{Set}
use Rattle.environment_sets.specs.Lists.{IsIn, IsRising}
use Rattle.environment_sets.proofs.Membership.{IsIn-append, IsIn-left, IsIn-right, IsRising-append, IsRising-left}
use Rattle.hitting_sets.proofs.Rosters.{IsIn-at}
use Rattle.hitting_sets.proofs.Steps.{take_item}
use Rattle.first_diagnoses.specs.declared.problem.Problem.{Problem}
use Rattle.first_diagnoses.specs.declared.waiting.Waiting.{Waiting}
use Rattle.first_diagnoses.specs.Weights.{weight_in}
use Rattle.first_diagnoses.specs.Branches.{IsSought}
use Rattle.first_diagnoses.specs.Rounds.{ComesFirst, IsOfRound, AddsFirst}
use Rattle.first_diagnoses.specs.Waits.{IsWaiting, ComesWhole, AreWaiting, IsSoughtIn, IsOfRoundIn, AreHeavier, AddsHeavier, IsLeastOf, lesser_of}
use Rattle.first_diagnoses.proofs.Firsts.{adds_append, adds_zero, adds_map}

module _ {X : Type 0} (before : X → X → Type 0) where
  -- of a rising list, what stands in a front comes before what stands after it
  pub rising_across : (xs ys : List X) → IsRising before (xs ++ ys) → (x y : X) → IsIn xs x → IsIn ys y → before x y
  rising_across [] ys up x y h k = absurd h
  rising_across (z ∷ xs) ys up x y (inl same) k = subst (λ (w : X). before w y) same (up.0 y (IsIn-right xs ys y k))
  rising_across (z ∷ xs) ys up x y (inr h) k = rising_across xs ys up.1 x y h k

  pub rising_right : (xs ys : List X) → IsRising before (xs ++ ys) → IsRising before ys
  rising_right [] ys up = up
  rising_right (z ∷ xs) ys up = rising_right xs ys up.1

module _ (p : Problem) where
  -- the branches that wait for one property and those that wait for another one, of sets that come later
  pub heavier_append : (P Q R : Set ℕ → Type 0) (weight : ℕ) (xs ys : List Waiting) → AreHeavier p P weight xs → AreHeavier p Q weight ys → ((D E : Set ℕ) → P D → Q E → ComesFirst p D E) → ((D : Set ℕ) → P D → R D) → ((D : Set ℕ) → Q D → R D) → ((D : Set ℕ) → R D → P D ⊎ Q D) → AreHeavier p R weight (xs ++ ys)
  heavier_append P Q R weight xs ys a b across left right parts =
      record {
        branches = record {
          each = λ w h. elim (IsIn-append xs ys w h) [ inl k ↦ a.branches.each w k | inr k ↦ b.branches.each w k ];
          rising = IsRising-append (ComesWhole p) xs ys a.branches.rising b.branches.rising (λ v w h k D E sought other. across D E (a.sound D (v, h, sought)) (b.sound E (w, k, other)));
        };
        heavier = λ w h. elim (IsIn-append xs ys w h) [ inl k ↦ a.heavier w k | inr k ↦ b.heavier w k ];
        sound = λ D (w, h, sought). elim (IsIn-append xs ys w h) [ inl k ↦ left D (a.sound D (w, k, sought)) | inr k ↦ right D (b.sound D (w, k, sought)) ];
        others = λ D is. elim (parts D is) [
          | inl here ↦ elim (a.others D here) [ inl low ↦ inl low | inr (w, h, sought) ↦ inr (w, IsIn-left xs ys w h, sought) ]
          | inr there ↦ elim (b.others D there) [ inl low ↦ inl low | inr (w, h, sought) ↦ inr (w, IsIn-right xs ys w h, sought) ]
        ];
      }

  pub heavier_map : (P Q : Set ℕ → Type 0) (weight : ℕ) (xs : List Waiting) → ((D : Set ℕ) → P D → Q D) → ((D : Set ℕ) → Q D → P D) → AreHeavier p P weight xs → AreHeavier p Q weight xs
  heavier_map P Q weight xs to from a = record { branches = a.branches; heavier = a.heavier; sound = λ D h. to D (a.sound D h); others = λ D h. a.others D (from D h) }

  pub heavier_none : (P : Set ℕ → Type 0) (weight : ℕ) → ((D : Set ℕ) → P D → weight_in p D ≤ weight) → AreHeavier p P weight []
  heavier_none P weight low =
      record {
        branches = record { each = λ w h. absurd h; rising = tt };
        heavier = λ w h. absurd h;
        sound = λ D (w, h, sought). absurd h;
        others = λ D h. inl (low D h);
      }

  pub heavier_one : (w : Waiting) (weight : ℕ) → IsWaiting p w → weight < w.least → AreHeavier p (IsSought p w.branch) weight (w ∷ [])
  heavier_one w weight is high =
      record {
        branches = record { each = λ v h. elim h [ inl same ↦ subst (IsWaiting p) same is | inr bad ↦ absurd bad ]; rising = (λ v h. absurd h, tt) };
        heavier = λ v h. elim h [ inl same ↦ subst (λ (u : Waiting). weight < u.least) same high | inr bad ↦ absurd bad ];
        sound = λ D (v, h, sought). elim h [ inl same ↦ subst (λ (u : Waiting). IsSought p u.branch D) (sym same) sought | inr bad ↦ absurd bad ];
        others = λ D sought. inr (w, inl refl, sought);
      }

  -- the same of what is added
  pub adds_none_heavier : (P : Set ℕ → Type 0) (weight : ℕ) (old : List Waiting) → ((D : Set ℕ) → P D → weight_in p D ≤ weight) → AddsHeavier p P weight old old
  adds_none_heavier P weight old low = record { added = []; appended = sym (append-nil old); later = heavier_none P weight low }

  pub adds_one_heavier : (w : Waiting) (weight : ℕ) (old new : List Waiting) → IsWaiting p w → weight < w.least → new ≡ old ++ w ∷ [] → AddsHeavier p (IsSought p w.branch) weight old new
  adds_one_heavier w weight old new is high pushed = record { added = w ∷ []; appended = pushed; later = heavier_one w weight is high }

  pub adds_heavier_append : (P Q R : Set ℕ → Type 0) (weight : ℕ) (old mid new : List Waiting) → AddsHeavier p P weight old mid → AddsHeavier p Q weight mid new → ((D E : Set ℕ) → P D → Q E → ComesFirst p D E) → ((D : Set ℕ) → P D → R D) → ((D : Set ℕ) → Q D → R D) → ((D : Set ℕ) → R D → P D ⊎ Q D) → AddsHeavier p R weight old new
  adds_heavier_append P Q R weight old mid new a b across left right parts =
      record {
        added = a.added ++ b.added;
        appended = b.appended ∙ (ap (λ ws. ws ++ b.added) a.appended ∙ append_assoc old a.added b.added);
        later = heavier_append P Q R weight a.added b.added a.later b.later across left right parts;
      }

  -- a list of branches in two parts
  module _ (xs ys : List Waiting) where
    pub in_either : (D : Set ℕ) → IsSoughtIn p (xs ++ ys) D → IsSoughtIn p xs D ⊎ IsSoughtIn p ys D
    in_either D (w, h, sought) = elim (IsIn-append xs ys w h) [ inl k ↦ inl (w, k, sought) | inr k ↦ inr (w, k, sought) ]

    in_left : (D : Set ℕ) → IsSoughtIn p xs D → IsSoughtIn p (xs ++ ys) D
    in_left D (w, h, sought) = (w, IsIn-left xs ys w h, sought)

    in_right : (D : Set ℕ) → IsSoughtIn p ys D → IsSoughtIn p (xs ++ ys) D
    in_right D (w, h, sought) = (w, IsIn-right xs ys w h, sought)

    module _ (up : IsRising (ComesWhole p) (xs ++ ys)) where
      left_first : (D E : Set ℕ) → IsSoughtIn p xs D → IsSoughtIn p ys E → ComesFirst p D E
      left_first D E (v, h, sought) (w, k, other) = rising_across (ComesWhole p) xs ys up v w h k D E sought other

      pub round_join : (weight limit : ℕ) (old mid new : List Env) → length old ≤ limit → AddsFirst p (IsOfRoundIn p xs weight) limit old mid → AddsFirst p (IsOfRoundIn p ys weight) limit mid new → AddsFirst p (IsOfRoundIn p (xs ++ ys) weight) limit old new
      round_join weight limit old mid new room a b =
          adds_append p (IsOfRoundIn p xs weight) limit (IsOfRoundIn p ys weight) (IsOfRoundIn p (xs ++ ys) weight) old mid new room a b
          (λ D E h k. left_first D E h.0 k.0)
          (λ D h. (in_left D h.0, h.1))
          (λ D h. (in_right D h.0, h.1))
          (λ D h. elim (in_either D h.0) [ inl k ↦ inl (k, h.1) | inr k ↦ inr (k, h.1) ])

      pub heavier_join : (weight : ℕ) (later added : List Waiting) → AreHeavier p (IsSoughtIn p xs) weight later → AreHeavier p (IsSoughtIn p ys) weight added → AreHeavier p (IsSoughtIn p (xs ++ ys)) weight (later ++ added)
      heavier_join weight later added a b = heavier_append (IsSoughtIn p xs) (IsSoughtIn p ys) (IsSoughtIn p (xs ++ ys)) weight later added a b left_first in_left in_right in_either

  -- one branch as a list
  in_one : (w : Waiting) (D : Set ℕ) → IsSought p w.branch D → IsSoughtIn p (w ∷ []) D
  in_one w D sought = (w, inl refl, sought)

  of_one : (w : Waiting) (D : Set ℕ) → IsSoughtIn p (w ∷ []) D → IsSought p w.branch D
  of_one w D (v, h, sought) = elim h [ inl same ↦ subst (λ (u : Waiting). IsSought p u.branch D) (sym same) sought | inr bad ↦ absurd bad ]

  -- a round that goes through the branches one after another
  module _ (ws : List Waiting) (wait : AreWaiting p ws) (weight limit : ℕ) where
    front_rising : (i : ℕ) → IsRising (ComesWhole p) (take i ws ++ drop i ws)
    front_rising i = subst (IsRising (ComesWhole p)) (sym (take-append-drop i ws)) wait.rising

    module _ (i : ℕ) (w : Waiting) (low : i < length ws) (is : w ≡ get_or ws i w) where
      more_rising : IsRising (ComesWhole p) (take i ws ++ w ∷ [])
      more_rising = subst (IsRising (ComesWhole p)) (take_item ws i w low is) (IsRising-left (ComesWhole p) (take (i + 1) ws) (drop (i + 1) ws) (front_rising (i + 1)))

      pub this_waits : IsWaiting p w
      this_waits = wait.each w (IsIn-at ws i w low is)

      pub round_more : (old mid new : List Env) → length old ≤ limit → AddsFirst p (IsOfRoundIn p (take i ws) weight) limit old mid → AddsFirst p (IsOfRound p w.branch weight) limit mid new → AddsFirst p (IsOfRoundIn p (take (i + 1) ws) weight) limit old new
      round_more old mid new room a b =
          subst (λ (vs : List Waiting). AddsFirst p (IsOfRoundIn p vs weight) limit old new) (sym (take_item ws i w low is))
          (round_join (take i ws) (w ∷ []) more_rising weight limit old mid new room a
          (adds_map p (IsOfRound p w.branch weight) limit (IsOfRoundIn p (w ∷ []) weight) mid new (λ D h. (in_one w D h.0, h.1)) (λ D h. (of_one w D h.0, h.1)) b))

      pub heavier_more : (later new : List Waiting) → AreHeavier p (IsSoughtIn p (take i ws)) weight later → AddsHeavier p (IsSought p w.branch) weight later new → AreHeavier p (IsSoughtIn p (take (i + 1) ws)) weight new
      heavier_more later new a b =
          let one : AreHeavier p (IsSoughtIn p (w ∷ [])) weight b.added = heavier_map (IsSought p w.branch) (IsSoughtIn p (w ∷ [])) weight b.added (in_one w) (of_one w) b.later in
          let both : AreHeavier p (IsSoughtIn p (take i ws ++ w ∷ [])) weight (later ++ b.added) = heavier_join (take i ws) (w ∷ []) more_rising weight later b.added a one in
          subst (λ (vs : List Waiting). AreHeavier p (IsSoughtIn p vs) weight new) (sym (take_item ws i w low is))
          (subst (λ (us : List Waiting). AreHeavier p (IsSoughtIn p (take i ws ++ w ∷ [])) weight us) (sym b.appended) both)

    -- where there are as many as wanted, the branches that are left add none
    pub round_full : (i : ℕ) (old new : List Env) → length old ≤ limit → limit ≤ length new → AddsFirst p (IsOfRoundIn p (take i ws) weight) limit old new → AddsFirst p (IsOfRoundIn p ws weight) limit old new
    round_full i old new room full a =
        subst (λ (vs : List Waiting). AddsFirst p (IsOfRoundIn p vs weight) limit old new) (take-append-drop i ws)
        (round_join (take i ws) (drop i ws) (front_rising i) weight limit old new new room a (adds_zero p (IsOfRoundIn p (drop i ws) weight) limit new full))

-- the least bound with one branch more
pub least_more : (ws : List Waiting) (w : Waiting) (least : Option ℕ) → IsLeastOf ws least → IsLeastOf (ws ++ w ∷ []) (Some (lesser_of least w.least))
least_more ws w None none = (
  (w, IsIn-right ws (w ∷ []) w (inl refl), refl),
  λ v h. elim (IsIn-append ws (w ∷ []) v h) [
    | inl k ↦ absurd (subst (λ (vs : List Waiting). IsIn vs v) none k)
    | inr k ↦ elim k [ inl same ↦ omega (arith, ap (λ (u : Waiting). u.least) same) | inr bad ↦ absurd bad ]
  ],
)
least_more ws w (Some least) (some, each) = (
  elim (cases_lt least w.least) [
    | inl less ↦ (some.0, IsIn-left ws (w ∷ []) some.0 some.1, omega (arith, some.2))
    | inr high ↦ (w, IsIn-right ws (w ∷ []) w (inl refl), omega arith)
  ],
  λ v h. elim (IsIn-append ws (w ∷ []) v h) [
    | inl k ↦ omega (arith, each v k)
    | inr k ↦ elim k [ inl same ↦ omega (arith, ap (λ (u : Waiting). u.least) same) | inr bad ↦ absurd bad ]
  ],
)
