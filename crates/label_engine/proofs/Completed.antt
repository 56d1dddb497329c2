-- Unions that contain a nogood by one of their slots.
use Rattle.std.proofs.Common.{◌≡◌, ℕ, inl, inr, ◌==◌, None, IsTrue, sym, ap, subst, ◌∙◌, List}
use Rattle.std.proofs.lemmas.Bool.{or_cases, or_left, or_right, eqb-true}
use Rattle.environment_sets.specs.declared.environment.Env.{Env}
use Rattle.environment_sets.specs.Sets.{Set, ◌∪◌, Hits}
use Rattle.environment_sets.specs.Members.{members, HasMember}
use Rattle.environment_sets.specs.Families.{IsCovered}
use Rattle.antichains.specs.Completed.{Complete}
use Rattle.propagation.specs.Propagating.{AgreeWithout}
use Rattle.label_engine.specs.declared.insertion.Insertion.{Insertion}
use Rattle.label_engine.specs.declared.update.Completing.{Completing}
use Rattle.label_engine.specs.declared.update.Pending.{Pending}
use Rattle.labelled_nodes.specs.Nodes.{Labelled, KeptIn}
use Rattle.label_engine.specs.Update.{made_by, BeginsUnions, IsCompleting, StaysCompleting}

-- a union with an environment that has one of the slots contains a nogood
pub completed_union :
    (item : Pending) (nogoods : List Env) (slots E : Set ℕ) (begun d : Insertion)
    → BeginsUnions item begun → members d.env ≡ members begun.env ∪ E → Complete slots (HasMember nogoods) (members item.env) → Hits slots E → IsCovered (HasMember nogoods) (members d.env)
completed_union item nogoods slots E begun d begins joined complete (n, in_slots, in_other) =
    let found = complete n in_slots in (
      found.0,
      found.1,
      λ k there.
          let has : IsTrue ((members begun.env ∪ E) k) =
          elim (or_cases (members item.env k) (k == n) (found.2 k there)) [
            | inl own ↦ or_left (members begun.env k) (E k) (ap (λ (F : Set ℕ). F k) begins.joined ∙ or_left (members item.env k) (made_by item.inferred.maker k) own)
            | inr same ↦ let at : k ≡ n = eqb-true k n same in or_right (members begun.env k) (E k) (subst (λ (m : ℕ). IsTrue (E m)) (sym at) in_other)
          ] in
          ap (λ (F : Set ℕ). F k) joined ∙ has,
    )

-- a nogood that lacks the slot stays where the two keep the same without it
pub stays_completing : (slot now : ℕ) (old new : Labelled) (c : Completing) → AgreeWithout slot (KeptIn old) (KeptIn new) → now ≡ slot → StaysCompleting slot old c → StaysCompleting now new c
stays_completing slot now old new c agree same stays =
    subst (λ (s : ℕ). StaysCompleting s new c) (sym same) (λ n h.
    let found = stays n h in
    let lacks = found.1.1 in
    (found.0, ((agree None found.0 lacks).0 found.1.0, lacks), found.2))

pub completing_now : (slot : ℕ) (nodes : Labelled) (c : Completing) → StaysCompleting slot nodes c → IsCompleting nodes c
completing_now slot nodes c stays n h = let found = stays n h in (found.0, found.1.0, found.2)
