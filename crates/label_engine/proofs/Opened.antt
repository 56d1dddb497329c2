-- With nothing remembered, nothing kept is exact.
use Rattle.std.proofs.Common.{◌≡◌, ℕ, sym, subst, ◌∙◌, List, [], Option, Some, None}
use Rattle.circuit_model.specs.declared.model.Assumption.{Assumption}
use Rattle.circuit_model.specs.declared.model.Fact.{Fact}
use Rattle.environment_sets.specs.declared.environment.Env.{Env}
use Rattle.environment_sets.specs.Sets.{Set}
use Rattle.environment_sets.specs.Members.{HasMember}
use Rattle.environment_sets.specs.Lists.{IsIn, AreDistinct}
use Rattle.propagation.specs.Propagating.{Target, RecordedInference}
use Rattle.labelled_nodes.specs.declared.node.Node.{Node}
use Rattle.inference_search.specs.declared.inferred.Inferred.{Inferred}
use Rattle.labelled_nodes.specs.Nodes.{Labelled, facts_of, label_in, KeptIn}
use Rattle.label_engine.specs.Update.{AreUpToDate}
use Rattle.assumption_slots.specs.Slots.{stock}
use Rattle.inference_search.specs.Inferences.{RecordedIn}

module _ (slots : List (Option Assumption)) (free : (k : ℕ) → stock slots k ≡ None) where
  nothing : (k : ℕ) (a : Assumption) → stock slots k ≡ Some a → ⊥
  nothing k a e = let bad : None ≡ Some a = sym (free k) ∙ e in cc

  module _ (labels : Labelled) (recorded : List Inferred) (nodes : labels.list ≡ []) (nogoods : labels.nogoods ≡ []) (none : recorded ≡ []) where
    none_kept : (t : Target) (E : Set ℕ) → KeptIn labels t E → ⊥
    none_kept None E k = let P : List Env → Type 0 = λ l. HasMember l E in subst P nogoods k
    none_kept (Some f) E k = let P : List Node → Type 0 = λ l. HasMember (label_in l f) E in subst P nodes k

    none_met : (f : Fact) → IsIn (facts_of labels.list) f → ⊥
    none_met f h = let P : List Node → Type 0 = λ l. IsIn (facts_of l) f in subst P nodes h

    none_recorded : (j : RecordedInference) → RecordedIn recorded j → ⊥
    none_recorded j r = let P : List Inferred → Type 0 = λ l. IsIn l r.0 in subst P none r.1

    pub opened : AreUpToDate (stock slots) labels recorded
    opened = record {
      settled = record {
        environments = λ f E k. absurd (none_kept (Some f) E k);
        sound = λ f E k. absurd (none_kept (Some f) E k);
        nogood_environments = λ E k. absurd (none_kept None E k);
        nogood_sound = λ E k. absurd (none_kept None E k);
        antichain = λ f E F e g within. absurd (none_kept (Some f) E e);
        nogood_antichain = λ E F e g within. absurd (none_kept None E e);
        clean = λ f E g e n within. none_kept (Some f) E e;
        readings = λ k f E named inside. absurd (nothing k _ named);
        forced = λ k part instance known p v c E named inside of_part held at forces. absurd (nothing k _ named);
        refuted = λ k part instance known E named inside of_part held refutes. absurd (nothing k _ named);
        two_words = λ c v x E differ low high. absurd (none_kept (Some _) low.0 low.1);
      };
      are = record {
        leads = λ j r. absurd (none_recorded j r);
        forced = λ k part instance known p v c named of_part scope held at forces. absurd (nothing k _ named);
        refuted = λ k part instance known named of_part scope held refutes. absurd (nothing k _ named);
        two_words = λ c v x differ scope low high. absurd (none_met _ low);
      };
      were_met = λ f E k. absurd (none_kept (Some f) E k);
      once = (let P : List Node → Type 0 = λ l. AreDistinct (facts_of l) in subst P (sym nodes) tt);
    }
