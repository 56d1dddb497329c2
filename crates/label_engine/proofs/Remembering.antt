-- One assumption more at a free slot, and the slot freed again.
use Rattle.std.proofs.Common.{◌≡◌, ◌≢◌, ◌↔◌, ℕ, zero, suc, ◌<◌, true, false, ◌==◌, cond, refl, sym, ap, subst, ◌∙◌, List, [], ◌∷◌, length, set, Option, Some, None, IsSome, arith}
use Rattle.std.proofs.lemmas.Bool.Decides.{nat_tests}
use mathlib.Core.Path.{fun_ext}
use Rattle.circuit_model.specs.declared.model.Assumption.{Assumption}
use Rattle.circuit_model.specs.Stock.{Stock}
use Rattle.circuit_model.specs.declared.model.Fact.{Fact}
use Rattle.environment_sets.specs.declared.environment.TheConstants.{SLOTS}
use Rattle.environment_sets.specs.declared.environment.Env.{Env}
use Rattle.environment_sets.specs.Sets.{Set}
use Rattle.environment_sets.specs.Members.{HasMember}
use Rattle.label_engine.specs.declared.update.Update.{Update}
use Rattle.label_engine.specs.Engine.{Seen, label_of, label_at, kept_of, Remembers, IsAsBefore}
use Rattle.labelled_nodes.specs.Nodes.{label_in}
use Rattle.label_engine.proofs.Kept.{label_of_nodes}
use Rattle.label_engine.proofs.Asked.{IsExact, seen, is_exact}
use Rattle.label_engine.specs.Update.{before, AreUpToDate, IsAtRest, IsTakenBack}
use Rattle.assumption_slots.specs.Slots.{stock}

pub kept_exact : (slots : List (Option Assumption)) (w : Update) → IsAtRest (stock slots) w → IsExact (seen slots w.nodes)
kept_exact slots w k = is_exact slots w.nodes w.recorded k.up_to_date (seen slots w.nodes) refl

abbrev Slots : Type 0
Slots = List (Option Assumption)

set_here : (xs : Slots) (k : ℕ) (o : Option Assumption) → k < length xs → stock (set xs k o) k ≡ o
set_here [] k o low = absurd (omega (arith, low))
set_here (x ∷ xs) zero o low = refl
set_here (x ∷ xs) (suc k) o low = set_here xs k o (omega (arith, low))

pub set_elsewhere : (xs : Slots) (k j : ℕ) (o : Option Assumption) → j ≢ k → stock (set xs k o) j ≡ stock xs j
set_elsewhere [] k j o ne = refl
set_elsewhere (x ∷ xs) zero zero o ne = absurd (ne refl)
set_elsewhere (x ∷ xs) zero (suc j) o ne = refl
set_elsewhere (x ∷ xs) (suc k) zero o ne = refl
set_elsewhere (x ∷ xs) (suc k) (suc j) o ne = set_elsewhere xs k j o (λ e. ne (ap (λ n. suc n) e))

-- a slot that was free is free again
pub set_back : (xs : Slots) (k : ℕ) (o : Option Assumption) → stock xs k ≡ None → set (set xs k o) k None ≡ xs
set_back [] k o free = refl
set_back (x ∷ xs) zero o free = ap (λ y. y ∷ xs) (sym free)
set_back (x ∷ xs) (suc k) o free = ap (λ l. x ∷ l) (set_back xs k o free)

-- without the slot that was free, what is remembered is as it was
before_is : (xs : Slots) (k : ℕ) (o : Option Assumption) → stock xs k ≡ None → before (set xs k o) k ≡ stock xs
before_is xs k o free = fun_ext (λ j. at j)
  where
    at : (j : ℕ) → before (set xs k o) k j ≡ stock xs j
    at j = elim (j == k) as (λ b. (j == k) ≡ b → cond b None (stock (set xs k o) j) ≡ stock xs j) [
      | true ↦ λ is. let same : j ≡ k = grind (arith, nat_tests) in sym (ap (stock xs) same ∙ free)
      | false ↦ λ out. set_elsewhere xs k j o (λ e. let no : (j == k) ≡ true = grind (arith, nat_tests) in absurd (cc))
    ] refl

module _ (slots : Slots) (slot : ℕ) (what : Assumption) (free : stock slots slot ≡ None) where
  abbrev Now : Slots
  Now = set slots slot (Some what)

  pub there_now : slot < length slots → (now : Slots) → now ≡ Now → IsSome (stock now slot)
  there_now low now e = rw (e, set_here slots slot (Some what) low) refl

  pub remembers_now : slot < SLOTS → slot < length slots → (now : Slots) → now ≡ Now → Remembers (stock slots) slot what (stock now)
  remembers_now below low now e = rw e (record { below = below; free = free; there = set_here slots slot (Some what) low; others = λ k ne. set_elsewhere slots slot k (Some what) ne })

  -- the work begins from what is kept
  module _ (old : Update) (kept : IsAtRest (stock slots) old) where
    abbrev Begun : Update
    Begun = record { slot = slot; nodes = old.nodes; recorded = old.recorded; due = old.due; work = old.work; agenda = old.agenda }

    pub begun : (now : Slots) → now ≡ Now → IsAtRest (before now slot) Begun
    begun now e =
        let P : Stock ℕ → Type 0 = λ S. AreUpToDate S old.nodes old.recorded in
        record { up_to_date = subst P (sym (ap (λ l. before l slot) e ∙ before_is slots slot (Some what) free)) kept.up_to_date; none_due = kept.none_due; none_at_hand = kept.none_at_hand; nothing_waits = kept.nothing_waits }

    -- memory ran out: what is kept is kept as it was
    module _ (new : Update) (now : Slots) (now_is : now ≡ Now) (taken : IsTakenBack now Begun new) (freed : Slots) (freed_is : freed ≡ set now slot None) where
      pub freed_same : freed ≡ slots
      freed_same = freed_is ∙ (ap (λ l. set l slot None) now_is ∙ set_back slots slot (Some what) free)

      stock_same : before now new.slot ≡ stock freed
      stock_same = ap (λ l. before l new.slot) now_is ∙ (ap (before Now) taken.same_slot ∙ (before_is slots slot (Some what) free ∙ sym (ap stock freed_same)))

      pub kept_again : IsAtRest (stock freed) new
      kept_again = let P : Stock ℕ → Type 0 = λ S. IsAtRest S new in subst P stock_same taken.at_rest

      same_label : (f : Fact) (E : Set ℕ) → label_at (seen slots old.nodes) f E ↔ label_at (seen freed new.nodes) f E
      same_label f E =
          let P : List Env → List Env → Type 0 = λ xs ys. HasMember xs E ↔ HasMember ys E in
          subst (P (label_of (kept_of old.nodes.list) f)) (sym (label_of_nodes new.nodes.list taken.at_rest.up_to_date.once f))
          (subst (λ (xs : List Env). P xs (label_in new.nodes.list f)) (sym (label_of_nodes old.nodes.list kept.up_to_date.once f)) (taken.same (Some f) E))

      pub as_before : (before_it : Seen) → seen slots old.nodes ≡ before_it → IsAsBefore before_it (seen freed new.nodes)
      as_before before_it e =
          let P : Seen → Type 0 = λ s. IsAsBefore s (seen freed new.nodes) in
          subst P e (record { slots = freed_same; labels = same_label; nogoods = λ E. taken.same None E })
