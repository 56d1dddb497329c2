-- Taking back: without the slot all is as it was.
use Rattle.std.proofs.Common.{◌≡◌, ◌≢◌, ℕ, true, false, ◌==◌, cond, IsTrue, IsFalse, true≢false, refl, sym, ap, subst, ◌∙◌, ◌↔◌, List, [], Option, Some, None, Result, Ok, Err, IfErr, arith}
use Rattle.std.proofs.lemmas.Bool.Decides.{nat_tests}
use Rattle.circuit_model.specs.declared.model.Fact.{Fact}
use Rattle.circuit_model.specs.declared.model.Assumption.{Assumption}
use Rattle.circuit_model.specs.Settled.{IsSettled}
use Rattle.circuit_model.specs.Stock.{Stock}
use Rattle.environment_sets.specs.Sets.{Set}
use Rattle.environment_sets.specs.Lists.{IsIn, AreDistinct}
use Rattle.propagation.specs.Propagating.{Target, RecordedInference, All, AreRecorded}
use Rattle.propagation.proofs.Alike.{settled_alike}
use Rattle.propagation.proofs.Entry.{leads_more}
use Rattle.inference_search.specs.Inferences.{RecordedIn}
use Rattle.assumption_slots.specs.Slots.{stock}
use Rattle.label_engine.specs.declared.update.Update.{Update}
use Rattle.labelled_nodes.specs.Nodes.{facts_of, KeptIn}
use Rattle.label_engine.specs.Update.{before, AllLead, Survives, IsAtRest, HasForgotten, IsTakenBack}
use Rattle.label_engine.proofs.Assuming.{lacks, one_more_slot}
use Rattle.label_engine.proofs.Forgetting.{drops_new, once_new, met_supported, stays_recorded, leads_new, member_met, recorded_without}

module _ (slots : List (Option Assumption)) (w mid new : Update) (rest : IsAtRest (before slots w.slot) w) (s : Survives slots w mid) (gone : HasForgotten w.slot mid new) where
  abbrev S : Stock ℕ
  S = before slots w.slot

  once_mid : AreDistinct (facts_of mid.nodes.list)
  once_mid = s.once rest.up_to_date.once

  kept_lacks : (t : Target) (E : Set ℕ) → KeptIn w.nodes t E → IsFalse (E w.slot)
  kept_lacks None E k = lacks slots w.slot E (rest.up_to_date.settled.nogood_environments E k)
  kept_lacks (Some g) E k = lacks slots w.slot E (rest.up_to_date.settled.environments g E k)

  out_of : (E : Set ℕ) → (IsTrue (E w.slot) → ⊥) → IsFalse (E w.slot)
  out_of E lacking = elim (E w.slot) as (λ b. E w.slot ≡ b → b ≡ false) [ true ↦ λ inside. absurd (lacking inside) | false ↦ λ _. refl ] refl

  same_left : (t : Target) (E : Set ℕ) → KeptIn w.nodes t E ↔ KeptIn new.nodes t E
  same_left t E = (
    (λ (k : KeptIn w.nodes t E). let out : IsFalse (E w.slot) = kept_lacks t E k in (drops_new mid new w.slot gone once_mid t E).1 ((s.agrees t E out).0 k, λ h. true≢false (sym h ∙ out))),
    (λ (k : KeptIn new.nodes t E). let m : KeptIn mid.nodes t E × (IsTrue (E w.slot) → ⊥) = (drops_new mid new w.slot gone once_mid t E).0 k in (s.agrees t E (out_of E m.1)).1 m.0),
  )

  -- without the slot there is none there, and the others are the same
  free : S w.slot ≡ None
  free = let is : (w.slot == w.slot) ≡ true = grind (arith, nat_tests) in ap (λ b. cond b None (stock slots w.slot)) is

  others : (k : ℕ) → k ≢ w.slot → S k ≡ stock slots k
  others k ne = let out : (k == w.slot) ≡ false = grind (arith, nat_tests) in ap (λ b. cond b None (stock slots k)) out

  all_lead : AllLead slots mid.recorded
  all_lead = s.lead (λ j r. leads_more S (stock slots) w.slot (one_more_slot slots w.slot) j.from j.maker j.to (rest.up_to_date.are.leads j r))

  met_before : (f : Fact) → IsIn (facts_of new.nodes.list) f → IsIn (facts_of w.nodes.list) f
  met_before f h = let has : (E : Set ℕ) × KeptIn new.nodes (Some f) E = met_supported mid new w.slot gone once_mid f h in rest.up_to_date.were_met f has.0 ((same_left (Some f) has.0).1 has.1)

  stays : (j : RecordedInference) → RecordedIn w.recorded j → (j.maker ≡ Some w.slot → ⊥) → ((f : Fact) → IsIn j.from f → IsIn (facts_of new.nodes.list) f) → RecordedIn new.recorded j
  stays j r other all =
      let P : RecordedInference → Type 0 = λ x. (f : Fact) → IsIn x.from f → IsIn (facts_of new.nodes.list) f in
      let from = subst P (sym r.2) all in
      (r.0, stays_recorded mid new w.slot gone once_mid r.0 (s.stay r.0 r.1 (λ f uses. met_before f (from f uses))) (λ e. other (sym (ap (λ (x : RecordedInference). x.maker) r.2) ∙ e)) from, r.2)

  are_new : AreRecorded S (IsIn (facts_of new.nodes.list)) All (RecordedIn new.recorded)
  are_new =
      recorded_without S S w.slot free (λ k ne. refl) (IsIn (facts_of w.nodes.list)) (IsIn (facts_of new.nodes.list)) (RecordedIn w.recorded) (RecordedIn new.recorded) met_before
      (leads_new mid new w.slot gone once_mid S (stock slots) free others all_lead) stays rest.up_to_date.are

  pub taken : new.due.items ≡ [] → new.work.items ≡ [] → new.agenda ≡ [] → new.slot ≡ w.slot → IsTakenBack slots w new
  taken due work agenda slot = record {
    at_rest = record {
      up_to_date = record {
        settled = (let P : ℕ → Type 0 = λ n. IsSettled (before slots n) (λ g. KeptIn new.nodes (Some g)) (KeptIn new.nodes None) in subst P (sym slot) (settled_alike S (KeptIn w.nodes) (KeptIn new.nodes) same_left rest.up_to_date.settled));
        are = (let P : ℕ → Type 0 = λ n. AreRecorded (before slots n) (IsIn (facts_of new.nodes.list)) All (RecordedIn new.recorded) in subst P (sym slot) are_new);
        were_met = λ g E k. member_met new.nodes.list g E k;
        once = once_new mid new w.slot gone once_mid;
      };
      none_due = due;
      none_at_hand = work;
      nothing_waits = agenda;
    };
    same = same_left;
    same_slot = slot;
  }

pub IfErr-always : {A E Q : Type 0} → (r : Result A E) → Q → IfErr r (λ _. Q)
IfErr-always (Ok x) q = tt
IfErr-always (Err e) q = q
