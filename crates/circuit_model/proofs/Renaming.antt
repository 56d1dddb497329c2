-- Labels and nogoods under other names.
use Rattle.std.proofs.Common.{◌≡◌, Bool, IsTrue, true≢false, refl, sym, subst, ◌∙◌, Option, Some, None, IsSome}
use Rattle.std.proofs.lemmas.Option.{same_Some}
use Rattle.circuit_model.specs.declared.model.Fact.{Fact}
use Rattle.circuit_model.specs.declared.model.Assumption.{Assumption}
use Rattle.environment_sets.specs.Sets.{Set, ◌⊆◌, IsMinimal}
use Rattle.circuit_model.specs.Stock.{Stock, IsChosen, IsEnvironment, Has, IsRefutedBy, IsInLabel, IsNogood}
use Rattle.circuit_model.specs.Renaming.{passes, along, IsRenaming, RenamedClosures, RenamedClashes, RenamedLabels, RenamedNogoods}
use Rattle.circuit_model.proofs.Settled.{same_set}
use Rattle.circuit_model.proofs.Monotony.{Follows-map, Clashes-map}

-- a test that answers at a value
pub passes-elim : {A : Type 0} (p : A → Bool) (o : Option A) → IsTrue (passes p o) → (x : A) × (o ≡ Some x) × IsTrue (p x)
passes-elim p None h = absurd (true≢false (sym h))
passes-elim p (Some x) h = (x, refl, h)

pub passes-intro : {A : Type 0} (p : A → Bool) (o : Option A) (x : A) → o ≡ Some x → IsTrue (p x) → IsTrue (passes p o)
passes-intro p o x e h = rw e h

-- where there is a value, it is some
pub some_of : {A : Type 0} (o : Option A) → IsSome o → (x : A) × (o ≡ Some x)
some_of None h = absurd (true≢false (sym h))
some_of (Some x) h = (x, refl)

pub is_some_of : {A : Type 0} (o : Option A) (x : A) → o ≡ Some x → IsSome o
is_some_of o x e = rw e refl

turned : {N M : Type 0} (S : Stock N) (R : Stock M) (to : N → Option M) (back : M → Option N) → IsRenaming S R to back → IsRenaming R S back to
turned S R to back r = record {
  each = r.each_back;
  each_back = r.each;
  there = λ m k e. r.here k m e;
  here = λ m k e. r.there k m e;
  same = λ m k e. sym (r.same k m (r.here k m e));
}

module _ {N M : Type 0} (S : Stock N) (R : Stock M) (to : N → Option M) (back : M → Option N) (r : IsRenaming S R to back) where
  chosen_to : (E : Set N) → (a : Assumption) → IsChosen S E a → IsChosen R (along back E) a
  chosen_to E a h =
      let m : (m : M) × (to h.name ≡ Some m) = some_of (to h.name) (r.each h.name (is_some_of _ a h.named)) in
      record {
        name = m.0;
        chosen = passes-intro E (back m.0) h.name (r.there _ _ m.1) h.chosen;
        named = sym (r.same _ _ m.1) ∙ h.named;
      }

  chosen_back : (E : Set N) → (a : Assumption) → IsChosen R (along back E) a → IsChosen S E a
  chosen_back E a h =
      let k : (k : N) × (back h.name ≡ Some k) × IsTrue (E k) = passes-elim E (back h.name) h.chosen in
      record { name = k.0; chosen = k.2; named = r.same _ _ (r.here _ _ k.1) ∙ h.named }

  environment_to : (E : Set N) → IsEnvironment S E → IsEnvironment R (along back E)
  environment_to E env m inside =
      let k : (k : N) × (back m ≡ Some k) × IsTrue (E k) = passes-elim E (back m) inside in
      let P : Option Assumption → Type 0 = IsSome in
      subst P (r.same k.0 m (r.here k.0 m k.1)) (env k.0 k.2)

  -- there and back again
  round : (E : Set N) → IsEnvironment S E → E ⊆ along to (along back E)
  round E env k inside =
      let m : (m : M) × (to k ≡ Some m) = some_of (to k) (r.each k (env k inside)) in
      passes-intro (along back E) (to k) m.0 m.1 (passes-intro E (back m.0) k (r.there k m.0 m.1) inside)

  round_back : (E : Set N) → along to (along back E) ⊆ E
  round_back E k h =
      let m : (m : M) × (to k ≡ Some m) × IsTrue (along back E m) = passes-elim (along back E) (to k) h in
      let j : (j : N) × (back m.0 ≡ Some j) × IsTrue (E j) = passes-elim E (back m.0) m.2 in
      let e : j.0 ≡ k = same_Some j.0 k (sym j.1 ∙ r.there k m.0 m.1) in
      let P : N → Type 0 = λ i. IsTrue (E i) in subst P e j.2

  along-more : (E F : Set N) → E ⊆ F → along back E ⊆ along back F
  along-more E F within m h =
      let k : (k : N) × (back m ≡ Some k) × IsTrue (E k) = passes-elim E (back m) h in
      passes-intro F (back m) k.0 k.1 (within k.0 k.2)

module _ {N M : Type 0} (S : Stock N) (R : Stock M) (to : N → Option M) (back : M → Option N) (r : IsRenaming S R to back) (P : Set N → Type 0) (Q : Set M → Type 0) (there : (E : Set N) → P E → Q (along back E)) (here : (F : Set M) → Q F → P (along to F)) where
  minimal_to : (E : Set N) → IsEnvironment S E → IsMinimal P E → IsMinimal Q (along back E)
  minimal_to E env m = record {
    holds = there E m.holds;
    least = λ G within q.
        let t = turned S R to back r in
        let low : along to G ⊆ E = λ k h. round_back S R to back r E k (along-more R S back to t G (along back E) within k h) in
        let all : E ⊆ along to G = m.least (along to G) low (here G q) in
        λ i h. round_back R S back to t G i (along-more S R to back r E (along to G) all i h);
  }

module _ {N M : Type 0} (S : Stock N) (R : Stock M) (to : N → Option M) (back : M → Option N) (r : IsRenaming S R to back) where
  pub label_to : (f : Fact) (E : Set N) → IsInLabel S f E → IsInLabel R f (along back E)
  label_to f E l = record {
    environment = environment_to S R to back r E l.environment;
    consistent = λ clash. l.consistent (Clashes-map (chosen_back S R to back r E) clash);
    minimal = minimal_to S R to back r (Has S f) (Has R f) (λ E has. Follows-map (chosen_to S R to back r E) f has) (λ F has. Follows-map (chosen_to R S back to (turned S R to back r) F) f has) E l.environment l.minimal;
  }

  pub nogood_to : (E : Set N) → IsNogood S E → IsNogood R (along back E)
  nogood_to E l = record {
    environment = environment_to S R to back r E l.environment;
    minimal = minimal_to S R to back r (IsRefutedBy S) (IsRefutedBy R) (λ E has. Clashes-map (chosen_to S R to back r E) has) (λ F has. Clashes-map (chosen_to R S back to (turned S R to back r) F) has) E l.environment l.minimal;
  }

pub renamed_labels : (N M : Type 0) → RenamedLabels N M
renamed_labels N M S R to back r f E env =
    let same : along to (along back E) ≡ E = same_set _ E (round_back S R to back r E) (round S R to back r E env) in
    (label_to S R to back r f E, λ (l : IsInLabel R f (along back E)). subst (IsInLabel S f) same (label_to R S back to (turned S R to back r) f (along back E) l))

pub renamed_nogoods : (N M : Type 0) → RenamedNogoods N M
renamed_nogoods N M S R to back r E env =
    let same : along to (along back E) ≡ E = same_set _ E (round_back S R to back r E) (round S R to back r E env) in
    (nogood_to S R to back r E, λ (l : IsNogood R (along back E)). subst (IsNogood S) same (nogood_to R S back to (turned S R to back r) (along back E) l))

pub renamed_closures : (N M : Type 0) → RenamedClosures N M
renamed_closures N M S R to back r f E = (Follows-map (chosen_to S R to back r E) f, Follows-map (chosen_back S R to back r E) f)

pub renamed_clashes : (N M : Type 0) → RenamedClashes N M
renamed_clashes N M S R to back r E = (Clashes-map (chosen_to S R to back r E), Clashes-map (chosen_back S R to back r E))
