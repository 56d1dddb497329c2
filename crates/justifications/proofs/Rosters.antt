-- Lists of exactly what has a property, in which one number is put or of which one is taken.
use Rattle.std.proofs.Common.{◌≡◌, ◌≢◌, ℕ, inl, inr, true, false, ◌==◌, not, cond, true≢false, sym, ap, subst, ◌∙◌, List, [], ◌∷◌, Option, Some, None, arith}
use Rattle.std.proofs.lemmas.Bool.{cases_eq}
use Rattle.std.proofs.lemmas.Bool.Decides.{nat_tests}
use Rattle.environment_sets.specs.Lists.{IsIn, IsRoster}
use Rattle.environment_sets.proofs.Listings.{IsIn-filter, IsIn-kept, IsRising-filter}
use Rattle.index_lists.specs.Lists.{without}
use Rattle.index_lists.proofs.Links.{none_is_no_some, same_some}
use Rattle.justifications.specs.Chained.{with_key}

-- the same elements, said otherwise
pub roster_of : {P Q : ℕ → Type 0} (keys : List ℕ) → IsRoster P keys → ((k : ℕ) → P k → Q k) → ((k : ℕ) → Q k → P k) → IsRoster Q keys
roster_of keys r to from = record { distinct = r.distinct; exact = λ k. (λ i. to k ((r.exact k).0 i), λ q. (r.exact k).1 (from k q)) }

-- nothing has the property
pub roster_none : (P : ℕ → Type 0) (keys : List ℕ) → keys ≡ [] → ((k : ℕ) → P k → ⊥) → IsRoster P keys
roster_none P keys e never = subst (λ (l : List ℕ). IsRoster P l) (sym e) (record { distinct = tt; exact = λ k. (λ i. absurd i, λ p. never k p) })

module _ (P Q : ℕ → Type 0) (key : ℕ) (keys : List ℕ) (r : IsRoster P keys) (free : P key → ⊥) (to : (k : ℕ) → k ≢ key → P k → Q k) (from : (k : ℕ) → k ≢ key → Q k → P k) where
  put_here : Q key → IsRoster Q (key ∷ keys)
  put_here q = record {
    distinct = (λ y i e. free ((r.exact key).0 (subst (λ (z : ℕ). IsIn keys z) (sym e) i)), r.distinct);
    exact = λ k. (
      λ i. elim i [
        | inl e ↦ subst Q e q
        | inr j ↦ let p : P k = (r.exact k).0 j in to k (λ e. free (subst P e p)) p
      ],
      λ q'. elim (cases_eq k key) [ inl e ↦ inl (sym e) | inr ne ↦ inr ((r.exact k).1 (from k ne q')) ],
    );
  }

  put_elsewhere : (Q key → ⊥) → IsRoster Q keys
  put_elsewhere never = roster_of keys r (λ k p. to k (λ e. free (subst P e p)) p) (λ k q. from k (λ e. never (subst Q e q)) q)

  -- in front where the key says it, and else nowhere
  pub put_roster : (said : Option ℕ) (head : ℕ) → (said ≡ Some head → Q key) → (Q key → said ≡ Some head) → IsRoster Q (with_key key said head keys)
  put_roster None head has tells = put_elsewhere (λ q. none_is_no_some head (tells q))
  put_roster (Some s) head has tells = elim (cases_eq s head) [
    | inl e ↦
        let is : (s == head) ≡ true = grind (arith, nat_tests) in
        subst (λ b. IsRoster Q (cond b (key ∷ keys) keys)) (sym is) (put_here (has (ap (λ (n : ℕ). Some n) e)))
    | inr ne ↦
        let out : (s == head) ≡ false = grind (arith, nat_tests) in
        subst (λ b. IsRoster Q (cond b (key ∷ keys) keys)) (sym out) (put_elsewhere (λ q. ne (same_some s head (tells q))))
  ]

-- without the key
pub cut_roster : (P Q : ℕ → Type 0) (key : ℕ) (keys : List ℕ) → IsRoster P keys → (Q key → ⊥) → ((k : ℕ) → k ≢ key → P k → Q k) → ((k : ℕ) → k ≢ key → Q k → P k) → IsRoster Q (without key keys)
cut_roster P Q key keys r never to from = record {
  distinct = IsRising-filter (λ j. not (j == key)) (λ x y. x ≡ y → ⊥) keys r.distinct;
  exact = λ k. (
    λ i.
        let both = IsIn-filter (λ j. not (j == key)) keys k i in
        let ne : k ≢ key = λ e. (let is : (k == key) ≡ true = grind (arith, nat_tests) in true≢false (sym both.1 ∙ ap not is)) in
        to k ne ((r.exact k).0 both.0),
    λ q.
        let ne : k ≢ key = λ e. never (subst Q e q) in
        let out : (k == key) ≡ false = grind (arith, nat_tests) in
        IsIn-kept (λ j. not (j == key)) keys k ((r.exact k).1 (from k ne q)) (ap not out),
  );
}
