-- What is kept, of the assumptions of a mask alone.
use Rattle.std.proofs.Common.{◌≡◌, ℕ, ◌+◌, Option, Some, None, List, sym, ap, subst, ◌∙◌, arith}
use mathlib.Core.Path.{fun_ext}
use Rattle.circuit_model.specs.declared.model.Cell.{Cell}
use Rattle.circuit_model.specs.declared.model.Fact.{Fact}
use Rattle.circuit_model.specs.Closure.{fact}
use Rattle.circuit_model.specs.declared.model.Assumption.{Assumption}
use Rattle.circuit_model.specs.Settled.{AreExact}
use Rattle.circuit_model.specs.Load.{IsLoad}
use Rattle.circuit_model.specs.Stock.{IsInLabel, IsNogood, within}
use Rattle.circuit_model.proofs.Settled as settled_is
use Rattle.environment_sets.specs.declared.environment.Env.{Env}
use Rattle.environment_sets.specs.Lists.{IsRoster}
use Rattle.environment_sets.specs.Members.{HasMember}
use Rattle.environment_sets.specs.Sets.{Set, ◌⊆◌}
use Rattle.environment_sets.specs.Families.{AreInside}
use Rattle.environment_sets.specs.Walks.{GivesNext}
use Rattle.inference_search.specs.declared.inferred.Inferred.{Inferred}
use Rattle.assumption_slots.specs.Slots.{stock}
use Rattle.labelled_nodes.specs.declared.node.Node.{Node}
use Rattle.label_engine.specs.Engine.{Kept, Seen, label_of, label_at, kept_of}
use Rattle.labelled_nodes.specs.Nodes.{Labelled, KeptIn, label_in}
use Rattle.label_engine.specs.Update.{AreUpToDate}
use Rattle.label_engine.proofs.Masks.{label_within, nogood_within, next_alike}
use Rattle.label_engine.specs.Questions.{GivesNextNumber, HasInside, HasLabel}
use Rattle.labelled_nodes.specs.Counted.{ArePairs}
use Rattle.label_engine.proofs.Kept.{label_of_nodes}
use Rattle.label_engine.proofs.Values.{next_number_alike}

abbrev pub seen : List (Option Assumption) → Labelled → Seen
seen slots labels = record { slots = slots; kept = kept_of labels.list; nogoods = labels.nogoods }

abbrev pub IsExact : Seen → Type 0
IsExact e = AreExact (stock e.slots) (label_at e) (HasMember e.nogoods)

-- what is settled is exact
pub is_exact : (slots : List (Option Assumption)) (labels : Labelled) (recorded : List Inferred) → AreUpToDate (stock slots) labels recorded → (e : Seen) → seen slots labels ≡ e → IsExact e
is_exact slots labels recorded up_to_date e same =
    let P : (Fact → List Env) → Type 0 = λ label. AreExact (stock slots) (λ f. HasMember (label f)) (HasMember labels.nogoods) in
    let nodes : List Node = labels.list in
    let label : label_of (kept_of nodes) ≡ label_in nodes = fun_ext (λ f. label_of_nodes nodes up_to_date.once f) in
    subst IsExact same (subst P (sym label) (settled_is.exact (stock slots) (λ f. KeptIn labels (Some f)) (KeptIn labels None) up_to_date.settled))

-- the label of a fact that was met, or not
pub label_is : (slots : List (Option Assumption)) (labels : Labelled) (recorded : List Inferred) → AreUpToDate (stock slots) labels recorded → (e : Seen) → seen slots labels ≡ e → (f : Fact) → label_in labels.list f ≡ label_of e.kept f
label_is slots labels recorded up_to_date e same f = sym (label_of_nodes labels.list up_to_date.once f) ∙ ap (λ (s : Seen). label_of s.kept f) same

module _ (e : Seen) (exact : IsExact e) (M : Set ℕ) where
  pub label_inside : (f : Fact) (E : Set ℕ) → E ⊆ M → label_at e f E → IsInLabel (within M (stock e.slots)) f E
  label_inside f E inside kept = (label_within M (stock e.slots) f E).1 ((exact.labels f E).0 kept, inside)

  pub inside_label : (f : Fact) (E : Set ℕ) → IsInLabel (within M (stock e.slots)) f E → label_at e f E × (E ⊆ M)
  inside_label f E h = let there : IsInLabel (stock e.slots) f E × (E ⊆ M) = (label_within M (stock e.slots) f E).0 h in ((exact.labels f E).1 there.0, there.1)

  pub nogood_inside : (E : Set ℕ) → E ⊆ M → HasMember e.nogoods E → IsNogood (within M (stock e.slots)) E
  nogood_inside E inside kept = (nogood_within M (stock e.slots) E).1 ((exact.nogoods_exact E).0 kept, inside)

  pub inside_nogood : (E : Set ℕ) → IsNogood (within M (stock e.slots)) E → HasMember e.nogoods E × (E ⊆ M)
  inside_nogood E h = let there : IsNogood (stock e.slots) E × (E ⊆ M) = (nogood_within M (stock e.slots) E).0 h in ((exact.nogoods_exact E).1 there.0, there.1)

  -- the next of what is kept is the next over the assumptions of the mask
  pub next_in_label :
      (f : Fact) (es : List Env) → es ≡ label_of e.kept f → (order : List ℕ) (last next : Option (Set ℕ)) → GivesNext order (HasMember es) M last next
      → GivesNext order (IsInLabel (within M (stock e.slots)) f) M last next
  next_in_label f es same order last next gives =
      let P : List Env → Type 0 = λ l. GivesNext order (HasMember l) M last next in
      next_alike order (label_at e f) (IsInLabel (within M (stock e.slots)) f) M (label_inside f) (λ E _ h. (inside_label f E h).0) last next (subst P same gives)

  pub next_nogood :
      (es : List Env) → es ≡ e.nogoods → (order : List ℕ) (last next : Option (Set ℕ)) → GivesNext order (HasMember es) M last next
      → GivesNext order (IsNogood (within M (stock e.slots))) M last next
  next_nogood es same order last next gives =
      let P : List Env → Type 0 = λ l. GivesNext order (HasMember l) M last next in
      next_alike order (HasMember e.nogoods) (IsNogood (within M (stock e.slots))) M nogood_inside (λ E _ h. (inside_nogood E h).0) last next (subst P same gives)

  -- the next word of which an environment is kept inside the mask is the next that has a label over its assumptions
  pub next_word : (kept : List Kept) → kept ≡ e.kept → (c : Cell) (last next : Option ℕ) → GivesNextNumber (HasInside kept c M) last next → GivesNextNumber (HasLabel (within M (stock e.slots)) c) last next
  next_word kept same c last next gives =
      let P : List Kept → Type 0 = λ ks. GivesNextNumber (HasInside ks c M) last next in
      next_number_alike (HasInside e.kept c M) (HasLabel (within M (stock e.slots)) c) last
      (λ v _ h. (h.0, label_inside (fact c v) h.0 h.2 h.1))
      (λ v _ h. let r : label_at e (fact c v) h.0 × (h.0 ⊆ M) = inside_label (fact c v) h.0 h.1 in (h.0, r.0, r.1))
      next (subst P same gives)

  -- what is counted inside the mask is the load of its assumptions
  pub load_of : (nodes : List Node) → ((f : Fact) → label_in nodes f ≡ label_of e.kept f) → (nogoods : List Env) → nogoods ≡ e.nogoods → (n k : ℕ) → ArePairs nodes M n → AreInside (HasMember nogoods) M k → IsLoad (within M (stock e.slots)) (n + k)
  load_of nodes same nogoods same_nogoods n k p inside =
      let Q : List Env → Type 0 = λ es. AreInside (HasMember es) M k in
      let g : AreInside (HasMember e.nogoods) M k = subst Q same_nogoods inside in
      record {
        pairs = p.pairs;
        nogoods = g.inside;
        pairs_exact = record {
          distinct = p.exact.distinct;
          exact = λ q. (
            λ h. let there : HasMember (label_in nodes q.0) q.1 × (q.1 ⊆ M) = (p.exact.exact q).0 h in label_inside q.0 q.1 there.1 (let P : List Env → Type 0 = λ es. HasMember es q.1 in subst P (same q.0) there.0),
            λ h. let there : label_at e q.0 q.1 × (q.1 ⊆ M) = inside_label q.0 q.1 h in (p.exact.exact q).1 (let P : List Env → Type 0 = λ es. HasMember es q.1 in subst P (sym (same q.0)) there.0, there.1),
          );
        };
        nogoods_exact = record {
          distinct = g.exact.distinct;
          exact = λ E. (λ h. let kept : HasMember e.nogoods E × (E ⊆ M) = (g.exact.exact E).0 h in nogood_inside E kept.1 kept.0, λ h. (g.exact.exact E).1 (inside_nogood E h));
        };
        count = omega (arith, p.count, g.count);
      }

  -- all nogoods that are kept inside the mask are those of its assumptions
  pub all_nogoods : (es : List Env) → es ≡ e.nogoods → (found : List (Set ℕ)) → IsRoster (λ E. HasMember es E × (E ⊆ M)) found → IsRoster (IsNogood (within M (stock e.slots))) found
  all_nogoods es same found roster =
      let kept : IsRoster (λ E. HasMember e.nogoods E × (E ⊆ M)) found = subst (λ (l : List Env). IsRoster (λ E. HasMember l E × (E ⊆ M)) found) same roster in
      record {
        distinct = kept.distinct;
        exact = λ E. (
          λ h. let at : HasMember e.nogoods E × (E ⊆ M) = (kept.exact E).0 h in nogood_inside E at.1 at.0,
          λ h. (kept.exact E).1 (inside_nogood E h),
        );
      }
