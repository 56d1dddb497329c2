-- What a table of numbers under facts has.
use Rattle.std.proofs.Common.{◌≡◌, ◌≢◌, ◌⊎◌, ℕ, ◌==◌, ◌&&◌, inl, inr, true, false, cond, refl, sym, ap, subst, ◌∙◌, List, [], Option, Some, None}
use Rattle.std.specs.Map.{lookup}
use Rattle.std.proofs.lemmas.Bool.{and_parts, and_from, eqb-true, eq-eqb, false_from_ne_true, cases_eq}
use Rattle.circuit_model.specs.declared.model.Fact.{Fact}
use Rattle.index_lists.specs.Chains.{Records, record_at}
use Rattle.index_lists.proofs.Links.{none_is_no_some, same_some}
use Rattle.justifications.specs.declared.table.Named.{Named}
use Rattle.justifications.specs.Chained.{AreAlike, IsAdded, IsRemoved}
use Rattle.justifications.specs.Woven.{head_of_fact}
use Rattle.justifications.specs.Kept.{key_of, is_key, number_in, AreTold, IsEntered}

module _ (a b : Fact) where
  pub same_fact : is_key (key_of a) (key_of b) ≡ true → a ≡ b
  same_fact is =
      let one = and_parts (a.cell.net == b.cell.net) ((a.cell.cycle == b.cell.cycle) && (a.value == b.value)) is in
      let two = and_parts (a.cell.cycle == b.cell.cycle) (a.value == b.value) one.1 in
      let net : a.cell.net ≡ b.cell.net = eqb-true a.cell.net b.cell.net one.0 in
      let cycle : a.cell.cycle ≡ b.cell.cycle = eqb-true a.cell.cycle b.cell.cycle two.0 in
      let value : a.value ≡ b.value = eqb-true a.value b.value two.1 in
      λ i. record { cell = record { net = net i; cycle = cycle i }; value = value i }

same_key : (a b : Fact) → a ≡ b → is_key (key_of a) (key_of b) ≡ true
same_key a b e =
    let itself : is_key (key_of a) (key_of a) ≡ true = and_from _ _ (eq-eqb a.cell.net a.cell.net refl) (and_from _ _ (eq-eqb a.cell.cycle a.cell.cycle refl) (eq-eqb a.value a.value refl)) in
    subst (λ f. is_key (key_of a) (key_of f) ≡ true) e itself

-- what an update of one key leaves
pub entered_of : (old new : List (Named × ℕ)) (fact : Fact) (what : Option ℕ) → ((q : Named) → lookup (is_key q) new ≡ cond (is_key (key_of fact) q) what (lookup (is_key q) old)) → IsEntered old new fact what
entered_of old new fact what tells = record {
  here = tells (key_of fact) ∙ ap (λ b. cond b what (number_in old fact)) (same_key fact fact refl);
  others = λ f ne.
      let out : is_key (key_of fact) (key_of f) ≡ false = false_from_ne_true (is_key (key_of fact) (key_of f)) (λ is. ne (sym (same_fact fact f is))) in
      tells (key_of f) ∙ ap (λ b. cond b what (number_in old f)) out;
}

-- facts are the same or not
pub same_or_other : (a b : Fact) → (a ≡ b) ⊎ (a ≡ b → ⊥)
same_or_other a b = elim (is_key (key_of a) (key_of b)) as (λ t. is_key (key_of a) (key_of b) ≡ t → (a ≡ b) ⊎ (a ≡ b → ⊥)) [
  | true ↦ λ is. inl (same_fact a b is)
  | false ↦ λ out. inr (λ e. let is = same_key a b e in cc)
] refl

module _ (entries entries' : List (Named × ℕ)) (facts facts' : Records Fact) (told : AreTold entries facts) where
  pub told_added : (n : ℕ) (fact : Fact) → number_in entries fact ≡ None → IsAdded head_of_fact facts facts' n fact → IsEntered entries entries' fact (Some n) → AreTold entries' facts'
  told_added n fact none a e = record {
    found = λ f k is. elim (same_or_other f fact) [
      | inl same ↦
          let at : number_in entries' fact ≡ Some k = subst (λ g. number_in entries' g ≡ Some k) same is in
          let num : n ≡ k = same_some n k (sym e.here ∙ at) in
          subst (λ j. record_at facts' j ≡ Some f) num (subst (λ g. record_at facts' n ≡ Some g) (sym same) a.there)
      | inr ne ↦
          let was : record_at facts k ≡ Some f = told.found f k (sym (e.others f ne) ∙ is) in
          let other : k ≢ n = λ same. none_is_no_some f (sym a.free ∙ subst (λ j. record_at facts j ≡ Some f) same was) in
          a.others k other ∙ was
    ];
    told = λ k f at. elim (cases_eq k n) [
      | inl same ↦
          let there : record_at facts' n ≡ Some f = subst (λ j. record_at facts' j ≡ Some f) same at in
          let it : fact ≡ f = same_some fact f (sym a.there ∙ there) in
          subst (λ j. number_in entries' f ≡ Some j) (sym same) (subst (λ g. number_in entries' g ≡ Some n) it e.here)
      | inr ne ↦
          let was : number_in entries f ≡ Some k = told.told k f (sym (a.others k ne) ∙ at) in
          let other : f ≡ fact → ⊥ = λ same. none_is_no_some k (sym none ∙ subst (λ g. number_in entries g ≡ Some k) same was) in
          e.others f other ∙ was
    ];
  }

  pub told_alike : AreAlike facts facts' → entries' ≡ entries → AreTold entries' facts'
  told_alike a e = record {
    found = λ f k is. a.records k ∙ told.found f k (subst (λ es. number_in es f ≡ Some k) e is);
    told = λ k f at. subst (λ es. number_in es f ≡ Some k) (sym e) (told.told k f (sym (a.records k) ∙ at));
  }

  pub told_removed : (n : ℕ) (fact : Fact) → record_at facts n ≡ Some fact → IsRemoved facts facts' n → IsEntered entries entries' fact None → AreTold entries' facts'
  told_removed n fact was a e = record {
    found = λ f k is. elim (same_or_other f fact) [
      | inl same ↦ absurd (none_is_no_some k (sym e.here ∙ subst (λ g. number_in entries' g ≡ Some k) same is))
      | inr ne ↦
          let at : record_at facts k ≡ Some f = told.found f k (sym (e.others f ne) ∙ is) in
          let other : k ≢ n = λ same. ne (same_some f fact (sym (subst (λ j. record_at facts j ≡ Some f) same at) ∙ was)) in
          a.others k other ∙ at
    ];
    told = λ k f at. elim (cases_eq k n) [
      | inl same ↦ absurd (none_is_no_some f (sym a.gone ∙ subst (λ j. record_at facts' j ≡ Some f) same at))
      | inr ne ↦
          let before : record_at facts k ≡ Some f = sym (a.others k ne) ∙ at in
          let other : f ≡ fact → ⊥ = λ same. ne (same_some k n (sym (told.told k f before) ∙ subst (λ g. number_in entries g ≡ Some n) (sym same) (told.told n fact was))) in
          e.others f other ∙ told.told k f before
    ];
  }

-- what no node has has no number
pub untold : (entries : List (Named × ℕ)) (facts : Records Fact) → AreTold entries facts → (fact : Fact) → ((n : ℕ) → record_at facts n ≡ Some fact → ⊥) → number_in entries fact ≡ None
untold entries facts told fact none = elim (number_in entries fact) as (λ o. number_in entries fact ≡ o → o ≡ None) [
  | None ↦ λ _. refl
  | Some n ↦ λ is. absurd (none n (told.found fact n is))
] refl

pub nothing_told : (facts : Records Fact) → ((k : ℕ) → record_at facts k ≡ None) → AreTold [] facts
nothing_told facts none = record { found = λ f n e. absurd (none_is_no_some n e); told = λ n f e. absurd (none_is_no_some f (sym (none n) ∙ e)) }
