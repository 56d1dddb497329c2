-- Inferences that are dropped one after another.
use Rattle.std.proofs.Common.{◌≡◌, ◌≢◌, ◌⊎◌, ℕ, ◌<◌, ◌≤◌, inl, inr, Bool, true, false, ◌==◌, not, cond, true≢false, refl, sym, ap, subst, ◌∙◌, List, [], ◌∷◌, length, filter, is_some, Option, Some, None, IsSome, IfSome, arith}
use Rattle.std.proofs.lemmas.Bool.{cases_eq}
use Rattle.std.proofs.lemmas.Bool.Decides.{nat_tests}
use Rattle.environment_sets.specs.Lists.{IsIn}
use Rattle.index_lists.specs.Lists.{first_of, without}
use Rattle.index_lists.specs.Chains.{Records, record_at, keys_in}
use Rattle.index_lists.proofs.Links.{none_is_no_some, same_some, first_in_it}
use Rattle.circuit_model.proofs.Renaming.{is_some_of}
use Rattle.justifications.specs.declared.model.Inferred.{Inferred}
use Rattle.justifications.specs.Chained.{said_by, AreAllChained, IsRemoved, AreDropped}
use Rattle.justifications.specs.Woven.{head_of_inferred}
use Rattle.justifications.specs.Kept.{IsLow, AreDropping}
use Rattle.justifications.proofs.Chaining.{removed_chained, stands}
use Rattle.justifications.proofs.Uses.{listed_is}

-- lists of which all pass
pub filter_all : (p : ℕ → Bool) (xs : List ℕ) → ((k : ℕ) → IsIn xs k → p k ≡ true) → xs ≡ filter p xs
filter_all p [] all = refl
filter_all p (x ∷ xs) all = ap (λ (l : List ℕ). x ∷ l) (filter_all p xs (λ k i. all k (inr i))) ∙ sym (ap (λ b. cond b (x ∷ filter p xs) (filter p xs)) (all x (inl refl)))

-- what passes q passes p
pub filter_twice : (p q : ℕ → Bool) → ((k : ℕ) → q k ≡ true → p k ≡ true) → (xs : List ℕ) → filter q (filter p xs) ≡ filter q xs
filter_twice p q less [] = refl
filter_twice p q less (x ∷ xs) =
    elim (p x) as (λ b. p x ≡ b → filter q (cond b (x ∷ filter p xs) (filter p xs)) ≡ cond (q x) (x ∷ filter q xs) (filter q xs)) [
      | true ↦ λ _. ap (λ (l : List ℕ). cond (q x) (x ∷ l) l) (filter_twice p q less xs)
      | false ↦ λ out. filter_twice p q less xs ∙ sym (ap (λ b. cond b (x ∷ filter q xs) (filter q xs)) (not_less x out))
    ] refl
  where
    not_less : (x : ℕ) → p x ≡ false → q x ≡ false
    not_less x out = elim (q x) as (λ b. q x ≡ b → b ≡ false) [ true ↦ λ is. absurd (true≢false (sym (less x is) ∙ out)) | false ↦ λ _. refl ] refl

without_filter : (p q : ℕ → Bool) (key : ℕ) → q key ≡ false → ((k : ℕ) → k ≢ key → q k ≡ p k) → (xs : List ℕ) → without key (filter p xs) ≡ filter q xs
without_filter p q key gone same [] = refl
without_filter p q key gone same (x ∷ xs) = elim (cases_eq x key) [
  | inl e ↦
      let is : (x == key) ≡ true = grind (arith, nat_tests) in
      let q' : q x ≡ false = ap q e ∙ gone in
      elim (p x) as (λ b. without key (cond b (x ∷ filter p xs) (filter p xs)) ≡ cond (q x) (x ∷ filter q xs) (filter q xs)) [
        | true ↦ ap (λ b. cond (not b) (x ∷ without key (filter p xs)) (without key (filter p xs))) is ∙ (without_filter p q key gone same xs ∙ sym (ap (λ b. cond b (x ∷ filter q xs) (filter q xs)) q'))
        | false ↦ without_filter p q key gone same xs ∙ sym (ap (λ b. cond b (x ∷ filter q xs) (filter q xs)) q')
      ]
  | inr ne ↦
      let out : (x == key) ≡ false = grind (arith, nat_tests) in
      elim (p x) as (λ b. p x ≡ b → without key (cond b (x ∷ filter p xs) (filter p xs)) ≡ cond (q x) (x ∷ filter q xs) (filter q xs)) [
        | true ↦ λ is.
            ap (λ b. cond (not b) (x ∷ without key (filter p xs)) (without key (filter p xs))) out
            ∙ (ap (λ (l : List ℕ). x ∷ l) (without_filter p q key gone same xs) ∙ sym (ap (λ b. cond b (x ∷ filter q xs) (filter q xs)) (same x ne ∙ is)))
        | false ↦ λ is. without_filter p q key gone same xs ∙ sym (ap (λ b. cond b (x ∷ filter q xs) (filter q xs)) (same x ne ∙ is))
      ] refl
]

no_longer : (key : ℕ) (xs : List ℕ) → length (without key xs) ≤ length xs
no_longer key [] = omega arith
no_longer key (x ∷ xs) =
    let rest : length (without key xs) ≤ length xs = no_longer key xs in
    elim (x == key) as (λ b. length (cond (not b) (x ∷ without key xs) (without key xs)) ≤ length (x ∷ xs)) [ true ↦ omega (arith, rest) | false ↦ omega (arith, rest) ]

pub shorter : (key : ℕ) (xs : List ℕ) → first_of xs ≡ Some key → length (without key xs) < length xs
shorter key [] e = absurd (none_is_no_some key e)
shorter key (x ∷ xs) e =
    let same : x ≡ key = same_some x key e in
    let is : (x == key) ≡ true = grind (arith, nat_tests) in
    let rest : length (without key xs) ≤ length xs = no_longer key xs in
    let here : length (without key (x ∷ xs)) ≡ length (without key xs) = ap (λ b. length (cond (not b) (x ∷ without key xs) (without key xs))) is in
    omega (arith, rest, here)

none_in : (xs : List ℕ) → first_of xs ≡ None → (k : ℕ) → IsIn xs k → ⊥
none_in [] e k i = i
none_in (x ∷ xs) e k i = none_is_no_some x (sym e)

module _ (old : Records Inferred) (lane head : ℕ) where
  pub dropping_none : (now : Records Inferred) → now ≡ old → AreAllChained head_of_inferred old → ((key : ℕ) → IfSome (record_at old key) IsLow) → AreDropping old now lane head
  dropping_none now e chained low = subst (λ s. AreDropping old s lane head) (sym e) (record {
    chained = chained;
    low = low;
    left = λ key. inl refl;
    keys = λ l h. filter_all (λ key. is_some (record_at old key)) (keys_in old l h) (λ k i. let it = listed_is head_of_inferred old chained l h k i in is_some_of (record_at old k) it.0 it.1);
  })

  module _ (now : Records Inferred) (d : AreDropping old now lane head) where
    pub dropping_next : (new : Records Inferred) (key : ℕ) → first_of (keys_in now lane head) ≡ Some key → IsRemoved now new key → AreDropping old new lane head
    dropping_next new key first a =
        let it = listed_is head_of_inferred now d.chained lane head key (first_in_it (keys_in now lane head) key first) in
        let was : said_by (head_of_inferred lane) (record_at old key) ≡ Some head = elim (d.left key) [
          | inl same ↦ ap (λ (o : Option Inferred). said_by (head_of_inferred lane) o) (sym same ∙ it.1) ∙ it.2
          | inr gone ↦ gone.1
        ] in
        record {
          chained = removed_chained head_of_inferred now new d.chained key a;
          low = λ k. elim (cases_eq k key) [
            | inl e ↦ subst (λ (j : ℕ). IfSome (record_at new j) IsLow) (sym e) (let P : Option Inferred → Type 0 = λ o. IfSome o IsLow in subst P (sym a.gone) tt)
            | inr ne ↦ let P : Option Inferred → Type 0 = λ o. IfSome o IsLow in subst P (sym (a.others k ne)) (d.low k)
          ];
          left = λ k. elim (cases_eq k key) [
            | inl e ↦ subst (λ (j : ℕ). (record_at new j ≡ record_at old j) ⊎ ((record_at new j ≡ None) × (said_by (head_of_inferred lane) (record_at old j) ≡ Some head))) (sym e) (inr (a.gone, was))
            | inr ne ↦ elim (d.left k) [ inl same ↦ inl (a.others k ne ∙ same) | inr gone ↦ inr (a.others k ne ∙ gone.0, gone.1) ]
          ];
          keys = λ l h.
              a.keys l h
              ∙ (ap (λ (ks : List ℕ). without key ks) (d.keys l h)
              ∙ without_filter (λ k. is_some (record_at now k)) (λ k. is_some (record_at new k)) key (ap (λ (o : Option Inferred). is_some o) a.gone) (λ k ne. ap (λ (o : Option Inferred). is_some o) (a.others k ne)) (keys_in old l h));
        }

    pub dropping_shorter : (new : Records Inferred) (key : ℕ) → first_of (keys_in now lane head) ≡ Some key → IsRemoved now new key → length (keys_in new lane head) < length (keys_in now lane head)
    dropping_shorter new key first a = let less = shorter key (keys_in now lane head) first in subst (λ (l : List ℕ). length l < length (keys_in now lane head)) (sym (a.keys lane head)) less

    pub dropped_all : first_of (keys_in now lane head) ≡ None → AreDropped (λ x. head_of_inferred lane x ≡ Some head) old now
    dropped_all none = record {
      gone = λ key x at says. elim (d.left key) [
        | inl same ↦ absurd (none_in (keys_in now lane head) none key (stands head_of_inferred now now d.chained key x (same ∙ at) lane head says))
        | inr gone ↦ gone.0
      ];
      others = λ key out. elim (d.left key) [
        | inl same ↦ same
        | inr gone ↦ absurd (said_is (record_at old key) (λ x at. out x at) gone.1)
      ];
      keys = d.keys;
    }
      where
        said_is : (o : Option Inferred) → ((x : Inferred) → o ≡ Some x → head_of_inferred lane x ≡ Some head → ⊥) → said_by (head_of_inferred lane) o ≡ Some head → ⊥
        said_is None out e = none_is_no_some head e
        said_is (Some x) out e = out x refl e

    pub dropping_stay : (key : ℕ) → IsSome (record_at now key) → record_at now key ≡ record_at old key
    dropping_stay key some = elim (d.left key) [
      | inl same ↦ same
      | inr gone ↦ absurd (true≢false (sym some ∙ ap (λ (o : Option Inferred). is_some o) gone.0))
    ]

-- one property after another
module _ (P Q : Inferred → Type 0) (old mid new : Records Inferred) (a : AreDropped P old mid) (b : AreDropped Q mid new) (stay : (key : ℕ) → IsSome (record_at mid key) → record_at mid key ≡ record_at old key) (stay' : (key : ℕ) → IsSome (record_at new key) → record_at new key ≡ record_at mid key) where
  gone_both : (key : ℕ) (x : Inferred) (o : Option Inferred) → record_at mid key ≡ o → record_at old key ≡ Some x → (P x ⊎ Q x) → record_at new key ≡ None
  gone_both key x None e at either = b.others key (λ y at' _. none_is_no_some y (sym e ∙ at')) ∙ e
  gone_both key x (Some y) e at either = elim either [
    | inl p ↦ absurd (none_is_no_some y (sym (a.gone key x at p) ∙ e))
    | inr q ↦ b.gone key x (stay key (is_some_of (record_at mid key) y e) ∙ at) q
  ]

  pub dropped_both : AreDropped (λ x. P x ⊎ Q x) old new
  dropped_both = record {
    gone = λ key x at either. gone_both key x (record_at mid key) refl at either;
    others = λ key out.
        b.others key (λ x at q. out x (sym (stay key (is_some_of (record_at mid key) x at)) ∙ at) (inr q)) ∙ a.others key (λ x at p. out x at (inl p));
    keys = λ l h.
        b.keys l h
        ∙ (ap (λ (ks : List ℕ). filter (λ k. is_some (record_at new k)) ks) (a.keys l h)
        ∙ filter_twice (λ k. is_some (record_at mid k)) (λ k. is_some (record_at new k)) (λ k some. ap (λ (o : Option Inferred). is_some o) (sym (stay' k some)) ∙ some) (keys_in old l h));
  }

  pub stay_both : (key : ℕ) → IsSome (record_at new key) → record_at new key ≡ record_at old key
  stay_both key some = let e = stay' key some in e ∙ stay key (ap (λ (o : Option Inferred). is_some o) (sym e) ∙ some)
