-- One environment more of a list.
use Rattle.std.proofs.Common.{◌≡◌, inl, inr, ℕ, ◌+◌, ◌<◌, ◌≤◌, Bool, true, false, List, [], ◌∷◌, ◌++◌, length, take, get_or, Result, Ok, Err, IfOk, sym, ap, subst, ◌∙◌, append_assoc, arith}
use Rattle.std.proofs.lemmas.Grind.{common_steps}
use Rattle.std.proofs.lemmas.List.{map-append}
use Rattle.std.proofs.lemmas.Option.{slice_get-get_or}
use Rattle.environment_sets.specs.Sets.{Set, ◌⊆◌}
use Rattle.environment_sets.specs.Lists.{IsIn}
use Rattle.environment_sets.proofs.Membership.{IsIn-append, IsIn-slice_get, map-IsIn}
use Rattle.circuit_model.specs.Diagnoses.{Place}
use Rattle.plain_answers.specs.declared.environment.Environment.{Environment}
use Rattle.plain_answers.specs.Members.{members}
use Rattle.plain_answers.specs.Sets.{IsWith}
use Rattle.plain_answers.specs.Subsets.{sets, adding, doubling, Keeps}
use Rattle.plain_answers.specs.Tests.{IsDecided, IsLeastIn}
use Rattle.plain_answers.proofs.Doubling.{sets_taken, with_adding, doubling_one_more}
use Rattle.plain_answers.proofs.KeptLists.{Keeps-more, Keeps-skip}

-- what holds of each value holds of the answer's
pub IfOk-more : {T E : Type 0} (r : Result T E) (P Q : T → Type 0) → ((x : T) → P x → Q x) → IfOk r P → IfOk r Q
IfOk-more (Ok x) P Q more h = more x h
IfOk-more (Err e) P Q more h = h

decided_true : (b : Bool) (P : Type 0) → IsDecided b P → b ≡ true → P
decided_true true P h e = h
decided_true false P h e = cc

decided_false : (b : Bool) (P : Type 0) → IsDecided b P → b ≡ false → P → ⊥
decided_false true P h e = cc
decided_false false P h e = h

sets_pushed : (kept new : List Environment) (e : Environment) → new ≡ kept ++ e ∷ [] → sets new ≡ sets kept ++ members e ∷ []
sets_pushed kept new e is = ap sets is ∙ map-append members kept (e ∷ [])

module _ (all : List Environment) (i : ℕ) (d : Environment) (inside : i < length all) where
  abbrev E : Set Place
  E = members (get_or all i d)

  pub keep_pushed : (P : Set Place → Type 0) (kept new : List Environment) (b : Bool) → IsDecided b (P E) → b ≡ true → new ≡ kept ++ get_or all i d ∷ [] → Keeps P (sets (take i all)) (sets kept) → Keeps P (sets (take (i + 1) all)) (sets new)
  keep_pushed P kept new b decided is pushed keeps =
      let to : List (Set Place) → Type 0 = λ xs. Keeps P xs (sets new) in
      let into : List (Set Place) → Type 0 = λ ys. Keeps P (sets (take i all) ++ E ∷ []) ys in
      subst to (sym (sets_taken all i d inside)) (subst into (sym (sets_pushed kept new (get_or all i d) pushed)) (Keeps-more P E (sets (take i all)) (sets kept) (decided_true b (P E) decided is) keeps))

  pub keep_passed : (P : Set Place → Type 0) (kept new : List Environment) (b : Bool) → IsDecided b (P E) → b ≡ false → new ≡ kept → Keeps P (sets (take i all)) (sets kept) → Keeps P (sets (take (i + 1) all)) (sets new)
  keep_passed P kept new b decided is same keeps =
      let to : List (Set Place) → Type 0 = λ xs. Keeps P xs (sets new) in
      let into : List Environment → Type 0 = λ ys. Keeps P (sets (take i all) ++ E ∷ []) (sets ys) in
      subst to (sym (sets_taken all i d inside)) (subst into (sym same) (Keeps-skip P E (sets (take i all)) (sets kept) (decided_false b (P E) decided is) keeps))

  pub doubled_more : (name : Place) (w : Environment) (both mid new : List Environment) → IsWith E name (members w) → mid ≡ both ++ get_or all i d ∷ [] → new ≡ mid ++ w ∷ [] → sets both ≡ doubling name (sets (take i all)) → sets new ≡ doubling name (sets (take (i + 1) all))
  doubled_more name w both mid new with pushed again before =
      let one : sets mid ≡ sets both ++ E ∷ [] = sets_pushed both mid (get_or all i d) pushed in
      let two : sets new ≡ sets mid ++ members w ∷ [] = sets_pushed mid new w again in
      let added : members w ≡ adding name E = with_adding name E (members w) with in
      let left : sets new ≡ doubling name (sets (take i all)) ++ E ∷ adding name E ∷ [] =
      two ∙ (ap (λ (xs : List (Set Place)). xs ++ members w ∷ []) (one ∙ ap (λ (xs : List (Set Place)). xs ++ E ∷ []) before) ∙ (append_assoc (doubling name (sets (take i all))) (E ∷ []) (members w ∷ []) ∙ ap (λ (F : Set Place). doubling name (sets (take i all)) ++ E ∷ F ∷ []) added)) in
      left ∙ (sym (doubling_one_more name (sets (take i all)) E) ∙ ap (λ (xs : List (Set Place)). doubling name xs) (sym (sets_taken all i d inside)))

  pub least_more : (F : Set Place) → (E ⊆ F → F ⊆ E) → IsLeastIn (sets (take i all)) F → IsLeastIn (sets (take (i + 1) all)) F
  least_more F here below G inside_of within = elim (IsIn-append (sets (take i all)) (E ∷ []) G (subst (λ (xs : List (Set Place)). IsIn xs G) (sets_taken all i d inside) inside_of)) [
    | inl h ↦ below G h within
    | inr last ↦ elim last [
      | inl e ↦ subst (λ (G : Set Place). F ⊆ G) e (here (subst (λ (G : Set Place). G ⊆ F) (sym e) within))
      | inr none ↦ absurd none
    ]
  ]

  pub not_least : (F : Set Place) → E ⊆ F → (F ⊆ E → ⊥) → IsLeastIn (sets all) F → ⊥
  not_least F within proper least = proper (least E (map-IsIn members all (get_or all i d) (IsIn-slice_get all i (get_or all i d) (slice_get-get_or all i d inside))) within)

pub taken_all : (all : List Environment) (i : ℕ) → length all ≤ i → take i all ≡ all
taken_all all i past = grind (arith, common_steps)
