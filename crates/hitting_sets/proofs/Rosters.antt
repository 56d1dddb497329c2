-- Rosters, and lists of environments to which a roster is added.
use Rattle.std.proofs.Common.{◌≡◌, ℕ, ◌+◌, ◌<◌, ◌⊎◌, inl, inr, List, [], ◌∷◌, ◌++◌, length, get_or, take, drop, refl, sym, ap, subst, ◌∙◌, append-nil, append_assoc}
use Rattle.std.proofs.lemmas.List.{map-append, take_more, take-append-drop}
use Rattle.environment_sets.specs.declared.environment.Env.{Env}
use Rattle.environment_sets.specs.Sets.{Set}
use Rattle.environment_sets.specs.Members.{members, sets}
use Rattle.environment_sets.specs.Lists.{IsIn, AreDistinct, IsRoster}
use Rattle.environment_sets.proofs.Listings.{sets-push, IsIn-get_or, IsIn-push, IsIn-front, IsIn-last}
use Rattle.environment_sets.proofs.Membership.{IsIn-append, IsIn-left, IsIn-right, AreDistinct-append, AreDistinct-left, roster_alike}
use Rattle.hitting_sets.specs.Hitting.{Adds}
use Rattle.hitting_sets.proofs.Widening.{HasMore}

module _ {X : Type 0} where
  pub roster_append : (P Q : X → Type 0) (xs ys : List X) → ((x : X) → P x → Q x → ⊥) → IsRoster P xs → IsRoster Q ys → IsRoster (λ x. P x ⊎ Q x) (xs ++ ys)
  roster_append P Q xs ys apart a b =
      record {
        distinct = AreDistinct-append xs ys a.distinct b.distinct (λ x h k. apart x ((a.exact x).0 h) ((b.exact x).0 k));
        exact = λ x. (
          λ h. elim (IsIn-append xs ys x h) [ inl k ↦ inl ((a.exact x).0 k) | inr k ↦ inr ((b.exact x).0 k) ],
          λ h. elim h [ inl p ↦ IsIn-left xs ys x ((a.exact x).1 p) | inr q ↦ IsIn-right xs ys x ((b.exact x).1 q) ],
        );
      }

  pub roster_none : (P : X → Type 0) → ((x : X) → P x → ⊥) → IsRoster P []
  roster_none P none = record { distinct = tt; exact = λ x. (λ h. absurd h, λ p. none x p) }

  pub roster_one : (P : X → Type 0) (x : X) → P x → ((y : X) → P y → x ≡ y) → IsRoster P (x ∷ [])
  roster_one P x is only =
      record {
        distinct = (λ y bad. absurd bad, tt);
        exact = λ y. (λ h. elim h [ inl e ↦ subst P e is | inr bad ↦ absurd bad ], λ p. inl (only y p));
      }

  -- the last of distinct elements is not among the others
  pub last_is_new : (xs : List X) (x : X) → AreDistinct (xs ++ x ∷ []) → IsIn xs x → ⊥
  last_is_new [] x apart h = h
  last_is_new (y ∷ xs) x apart (inl e) = apart.0 x (IsIn-last xs x x refl) e
  last_is_new (y ∷ xs) x apart (inr h) = last_is_new xs x apart.1 h

  -- of distinct elements none comes again
  pub not_before : (xs : List X) (i : ℕ) (d : X) → i < length xs → AreDistinct xs → IsIn (take i xs) (get_or xs i d) → ⊥
  not_before xs i d low apart =
      let whole : take (i + 1) xs ++ drop (i + 1) xs ≡ xs = take-append-drop (i + 1) xs in
      last_is_new (take i xs) (get_or xs i d) (subst AreDistinct (take_more xs i d low) (AreDistinct-left (take (i + 1) xs) (drop (i + 1) xs) (subst AreDistinct (sym whole) apart)))

  pub IsIn-at : (xs : List X) (i : ℕ) (x : X) → i < length xs → x ≡ get_or xs i x → IsIn xs x
  IsIn-at xs i x low is = subst (IsIn xs) (sym is) (IsIn-get_or xs i x low)

  pub IsIn-take : (xs : List X) (i : ℕ) (x : X) → IsIn (take i xs) x → IsIn xs x
  IsIn-take xs i x h = subst (λ (ys : List X). IsIn ys x) (take-append-drop i xs) (IsIn-left (take i xs) (drop i xs) x h)

pub has_more : (before : List Env) (conflict : Env) → HasMore (sets before) (members conflict) (sets (before ++ conflict ∷ []))
has_more before conflict F = (
  λ h. IsIn-push (sets before) (members conflict) F (subst (λ (Es : List (Set ℕ)). IsIn Es F) (sets-push before conflict) h),
  λ h. subst (λ (Es : List (Set ℕ)). IsIn Es F) (sym (sets-push before conflict)) (elim h [ inl k ↦ IsIn-front (sets before) (members conflict) F k | inr e ↦ IsIn-last (sets before) (members conflict) F e ]),
)

module _ (P : Set ℕ → Type 0) where
  pub adds_none : (es : List Env) → ((D : Set ℕ) → P D → ⊥) → Adds P es es
  adds_none es none = record { added = []; appended = sym (append-nil es); roster = roster_none P none }

  pub adds_one : (old new : List Env) (e : Env) → new ≡ old ++ e ∷ [] → P (members e) → ((D : Set ℕ) → P D → members e ≡ D) → Adds P old new
  adds_one old new e pushed is only = record { added = e ∷ []; appended = pushed; roster = roster_one P (members e) is only }

  pub adds_alike : (Q : Set ℕ → Type 0) (old new : List Env) → ((D : Set ℕ) → P D → Q D) → ((D : Set ℕ) → Q D → P D) → Adds P old new → Adds Q old new
  adds_alike Q old new to from adds = record { added = adds.added; appended = adds.appended; roster = roster_alike P Q (sets adds.added) to from adds.roster }

  pub adds_more : (Q : Set ℕ → Type 0) (old mid new : List Env) → ((D : Set ℕ) → P D → Q D → ⊥) → Adds P old mid → Adds Q mid new → Adds (λ D. P D ⊎ Q D) old new
  adds_more Q old mid new apart a b =
      record {
        added = a.added ++ b.added;
        appended = b.appended ∙ (ap (λ es. es ++ b.added) a.appended ∙ append_assoc old a.added b.added);
        roster = subst (IsRoster (λ D. P D ⊎ Q D)) (sym (map-append members a.added b.added)) (roster_append P Q (sets a.added) (sets b.added) apart a.roster b.roster);
      }

  pub roster_adds : (Q : Set ℕ → Type 0) (old new : List Env) → ((D : Set ℕ) → P D → Q D → ⊥) → IsRoster P (sets old) → Adds Q old new → IsRoster (λ D. P D ⊎ Q D) (sets new)
  roster_adds Q old new apart roster adds =
      subst (IsRoster (λ D. P D ⊎ Q D)) (sym (ap sets adds.appended ∙ map-append members old adds.added)) (roster_append P Q (sets old) (sets adds.added) apart roster adds.roster)
