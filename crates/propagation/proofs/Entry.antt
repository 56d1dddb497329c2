-- One assumption more: what was kept at the entry stays, and comes back.
use Rattle.std.proofs.Common.{◌≡◌, ℕ, inl, inr, true, false, IsTrue, IsFalse, true≢false, refl, sym, ap, ◌∙◌, ◌↔◌, List, Option, Some, None, IsSome}
use Rattle.circuit_model.specs.declared.model.Fact.{Fact}
use Rattle.circuit_model.specs.declared.model.Assumption.{Assumption}
use Rattle.environment_sets.specs.Sets.{Set}
use Rattle.circuit_model.specs.Stock.{Stock, IsEnvironment, IsChosen, Has}
use Rattle.circuit_model.specs.Settled.{IsSettled}
use Rattle.circuit_model.specs.Laws.{HasOneMore}
use Rattle.circuit_model.proofs.Monotony.{Follows-map, Clashes-map, IsForced-map, IsRefuted-map}
use Rattle.circuit_model.proofs.Settled as settled_is
use Rattle.propagation.specs.Propagating.{Target, Family, HasAt, IsMaker, Leads, IsReached, IsSound, AgreeWithout}

module _ (S R : Stock ℕ) (one : ℕ) (more : HasOneMore ℕ S R one) where
  in_part : (E : Set ℕ) → IsFalse (E one) → (a : Assumption) → IsChosen R E a → IsChosen S E a
  in_part E without a h = record { name = h.name; chosen = h.chosen; named = more.1 h.name a (λ e. true≢false (sym h.chosen ∙ (ap E e ∙ without))) h.named }

  in_whole : (E : Set ℕ) (a : Assumption) → IsChosen S E a → IsChosen R E a
  in_whole E a h = record { name = h.name; chosen = h.chosen; named = more.0 h.name a h.named }

  environment_in_whole : (E : Set ℕ) → IsEnvironment S E → IsEnvironment R E
  environment_in_whole E env k inside =
      elim (S k) as (λ x. S k ≡ x → IsSome x → IsSome (R k)) [
        | Some b ↦ λ s _. rw (more.0 k b s) refl
        | None ↦ λ s n. absurd (true≢false (sym n))
      ] refl (env k inside)

  pub has_in_part : (t : Target) (E : Set ℕ) → IsFalse (E one) → HasAt R t E → HasAt S t E
  has_in_part (Some f) E without h = Follows-map (in_part E without) f h
  has_in_part None E without h = Clashes-map (in_part E without) h

  pub has_in_whole : (t : Target) (E : Set ℕ) → HasAt S t E → HasAt R t E
  has_in_whole (Some f) E h = Follows-map (in_whole E) f h
  has_in_whole None E h = Clashes-map (in_whole E) h

  -- what was sound stays sound
  pub sound_more : (kept : Family) → IsSound S kept → IsSound R kept
  sound_more kept s = record {
    environments = λ t E k. environment_in_whole E (s.environments t E k);
    sound = λ t E k. has_in_whole t E (s.sound t E k);
    antichain = s.antichain;
    clean = s.clean;
  }

  makers_more : (maker : Option ℕ) (a : Assumption) → IsMaker S maker a → IsMaker R maker a
  makers_more maker a m = (m.0, m.1, more.0 m.0 a m.2)

  pub leads_more : (from : List Fact) (maker : Option ℕ) (to : Target) → Leads S from maker to → Leads R from maker to
  leads_more from maker (Some g) h = IsForced-map (makers_more maker) (λ f i. i) h
  leads_more from maker None (inl h) = inl (IsRefuted-map (makers_more maker) (λ f i. i) h)
  leads_more from maker None (inr two) = inr two

  module _ (entry : Family) (settled : IsSettled S (λ f. entry (Some f)) (entry None)) where
    -- all that is sound without the further assumption was reached at the entry
    pub entry_reaches : (t : Target) (E : Set ℕ) → IsFalse (E one) → HasAt R t E → IsReached entry t E
    entry_reaches (Some f) E without h = let h' : Has S f E = has_in_part (Some f) E without h in settled_is.covered S (λ f. entry (Some f)) (entry None) settled E h'.0 f h'.1
    entry_reaches None E without h = inl (settled_is.clash_covered S (λ f. entry (Some f)) (entry None) settled E (has_in_part None E without h))

-- what is put in has the slot
pub has_slot : (S : Stock ℕ) (slot : ℕ) (kept : Family) → ((t : Target) (E : Set ℕ) → IsFalse (E slot) → HasAt S t E → IsReached kept t E) → (t : Target) (E : Set ℕ) → HasAt S t E → (IsReached kept t E → ⊥) → IsTrue (E slot)
has_slot S slot kept before t E h out =
    elim (E slot) as (λ b. E slot ≡ b → IsTrue b) [
      | true ↦ λ _. refl
      | false ↦ λ without. absurd (out (before t E without h))
    ] refl

-- dropping what has the slot gives back the entry
pub taken_back : (slot : ℕ) (entry kept : Family) → AgreeWithout slot entry kept → ((t : Target) (E : Set ℕ) → entry t E → IsFalse (E slot)) → (t : Target) (E : Set ℕ) → entry t E ↔ (kept t E × IsFalse (E slot))
taken_back slot entry kept agree lack t E = (λ (e : entry t E). ((agree t E (lack t E e)).0 e, lack t E e), λ (k : kept t E × IsFalse (E slot)). (agree t E k.1).1 k.0)
