-- The unions along recorded inferences are sound.
use Rattle.std.proofs.Common.{◌≡◌, ℕ, zero, suc, ◌+◌, inl, inr, refl, sym, subst, ◌∙◌, List, [], ◌∷◌, Option, Some, None, IsSome, arith}
use Rattle.circuit_model.specs.declared.model.Fact.{Fact}
use Rattle.circuit_model.specs.declared.model.Assumption.{Assumption}
use Rattle.circuit_model.specs.Closure.{Holds, Follows}
use Rattle.environment_sets.specs.Lists.{IsIn}
use Rattle.environment_sets.specs.Sets.{Set, ◌⊆◌}
use Rattle.circuit_model.specs.Stock.{Stock, IsChosen, Has}
use Rattle.circuit_model.proofs.Monotony.{IsForced-map, IsRefuted-map, Has-more, IsRefutedBy-more}
use Rattle.circuit_model.proofs.Rounds.{Holds-later}
use Rattle.propagation.specs.Propagating.{Target, HasAt, IsMaker, Leads, HasMaker}

module _ (A : Assumption → Type 0) where
  -- what follows one by one holds at one round
  pub at_one_round : (fs : List Fact) → ((f : Fact) → IsIn fs f → Follows A f) → (n : ℕ) × ((f : Fact) → IsIn fs f → Holds A n f)
  at_one_round [] each = (zero, λ f h. absurd h)
  at_one_round (g ∷ fs) each =
      let rest : (n : ℕ) × ((f : Fact) → IsIn fs f → Holds A n f) = at_one_round fs (λ f i. each f (inr i)) in
      let first : Follows A g = each g (inl refl) in (
        first.0 + rest.0,
        λ f i. elim i [
          | inl e ↦ let P : Fact → Type 0 = λ x. Holds A (first.0 + rest.0) x in subst P e (Holds-later A first.0 (first.0 + rest.0) g (omega arith) first.1)
          | inr later ↦ Holds-later A rest.0 (first.0 + rest.0) f (omega arith) (rest.1 f later)
        ],
      )

some_of : (S : Stock ℕ) (maker : Option ℕ) (a : Assumption) → IsMaker S maker a → (k : ℕ) → maker ≡ Some k → IsSome (S k)
some_of S maker a m k e = let same : m.0 ≡ k = cc in let P : ℕ → Type 0 = λ i. IsSome (S i) in subst P same (rw m.2 refl)

module _ (S : Stock ℕ) (E : Set ℕ) where
  maker_chosen : (maker : Option ℕ) → HasMaker maker E → (a : Assumption) → IsMaker S maker a → IsChosen S E a
  maker_chosen maker has a m = record { name = m.0; chosen = has m.0 m.1; named = m.2 }

  -- what an inference leads to follows where each of its facts does and its maker is there
  pub leads_on : (from : List Fact) (maker : Option ℕ) (to : Target) → Leads S from maker to → HasMaker maker E → ((f : Fact) → IsIn from f → Has S f E) → HasAt S to E
  leads_on from maker (Some g) leads has each =
      let now : (n : ℕ) × ((f : Fact) → IsIn from f → Holds (IsChosen S E) n f) = at_one_round (IsChosen S E) from each in
      (suc now.0, inr (IsForced-map (maker_chosen maker has) now.1 leads))
  leads_on from maker None (inl leads) has each =
      let now : (n : ℕ) × ((f : Fact) → IsIn from f → Holds (IsChosen S E) n f) = at_one_round (IsChosen S E) from each in
      (now.0, inr (IsRefuted-map (maker_chosen maker has) now.1 leads))
  leads_on from maker None (inr two) has each =
      let now : (n : ℕ) × ((f : Fact) → IsIn from f → Holds (IsChosen S E) n f) = at_one_round (IsChosen S E) from each in
      (now.0, inl (record { cell = two.1.cell; low = two.1.low; high = two.1.high; low_holds = now.1 _ two.1.low_holds; high_holds = now.1 _ two.1.high_holds; differ = two.1.differ }))

  pub has_more : (t : Target) (F : Set ℕ) → F ⊆ E → HasAt S t F → HasAt S t E
  has_more (Some f) F within h = Has-more S f F E within h
  has_more None F within h = IsRefutedBy-more S F E within h

-- the maker of an inference is one of the stock
pub maker_some : (S : Stock ℕ) (from : List Fact) (maker : Option ℕ) (to : Target) → Leads S from maker to → (k : ℕ) → maker ≡ Some k → IsSome (S k)
maker_some S from maker (Some f) h k e = some_of S maker _ h.assumed k e
maker_some S from maker None (inl h) k e = some_of S maker _ h.assumed k e
maker_some S from maker None (inr two) k e = absurd (let no : None ≡ Some k = sym two.0 ∙ e in cc)
