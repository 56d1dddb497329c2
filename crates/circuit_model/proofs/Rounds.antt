-- The closure is the least family of facts that has the readings and all that is forced from it.
use Rattle.std.proofs.Common.{◌≡◌, ℕ, zero, suc, ◌+◌, ◌≤◌, inl, inr, Option, Some, None, List, slice_get, refl, subst, arith}
use Rattle.std.proofs.Math.Nat.{le-suc_iff}
use Rattle.std.proofs.lemmas.Option.{slice_get_past}
use Rattle.circuit_model.specs.declared.model.Cell.{Cell}
use Rattle.circuit_model.specs.declared.model.Fact.{Fact}
use Rattle.circuit_model.specs.declared.model.Assumption.{Assumption}
use Rattle.circuit_model.specs.declared.model.Assumption.TheVariants.{Reading}
use Rattle.circuit_model.specs.Closure.{fact, AreHeld, AreTwoWords, IsForced, IsRefuted, Holds, Follows, Clashes}
use Rattle.circuit_model.specs.Stock.{IsChosen}
use Rattle.circuit_model.specs.Laws.{ClosuresAreClosed}
use Rattle.circuit_model.proofs.Monotony.{AreTwoWords-map, IsForced-map, IsRefuted-map}

module _ (A : Assumption → Type 0) where
  -- what holds at a round holds at each later one
  pub Holds-later : (m n : ℕ) (f : Fact) → m ≤ n → Holds A m f → Holds A n f
  Holds-later m zero f p h = let e : m ≡ zero = omega arith in let P : ℕ → Type 0 = λ k. Holds A k f in subst P e h
  Holds-later m (suc n) f p h = elim (le-suc_iff.0 p) [
    | inl q ↦ inl (Holds-later m n f q h)
    | inr e ↦ let P : ℕ → Type 0 = λ k. Holds A k f in subst P e h
  ]

  module _ (cells : List Cell) (known : List (Option ℕ)) (h : AreHeld (Follows A) cells known) where
    -- a round at which the word of a port holds, if one is known there
    abbrev RoundOf : ℕ → Type 0
    RoundOf p = (n : ℕ) × ((v : ℕ) (c : Cell) → slice_get known p ≡ Some (Some v) → slice_get cells p ≡ Some c → Holds A n (fact c v))

    round_at : (p : ℕ) → RoundOf p
    round_at p =
        elim (slice_get known p) as (λ o. slice_get known p ≡ o → RoundOf p) [
          | None ↦ λ k. (0, λ v c e _. cc)
          | Some o ↦ elim o as (λ x. slice_get known p ≡ Some x → RoundOf p) [
            | None ↦ λ k. (0, λ v c e _. cc)
            | Some v ↦ λ k. elim (slice_get cells p) as (λ o. slice_get cells p ≡ o → RoundOf p) [
              | None ↦ λ e. (0, λ w d _ f. cc)
              | Some c ↦ λ e. let r : Follows A (fact c v) = h.held p v c k e in (r.0, λ w d l f. same_fact r.0 v w c d (cc) (cc) r.1)
            ] refl
          ]
        ] refl
      where
        same_fact : (n v w : ℕ) (c d : Cell) → v ≡ w → c ≡ d → Holds A n (fact c v) → Holds A n (fact d w)
        same_fact n v w c d a b r = let P : Fact → Type 0 = λ f. Holds A n f in let e : fact c v ≡ fact d w = cc in subst P e r

    -- a round at which all known words hold
    pub common_round : (n : ℕ) × AreHeld (Holds A n) cells known
    common_round =
        let a : RoundOf 0 = round_at 0 in
        let b : RoundOf 1 = round_at 1 in
        let z : RoundOf 2 = round_at 2 in
        (a.0 + b.0 + z.0, record { wide = h.wide; held = held_by a b z; alike = h.alike })
      where
        held_by : (a : RoundOf 0) (b : RoundOf 1) (z : RoundOf 2) (p v : ℕ) (c : Cell) → slice_get known p ≡ Some (Some v) → slice_get cells p ≡ Some c → Holds A (a.0 + b.0 + z.0) (fact c v)
        held_by a b z zero v c k e = Holds-later a.0 _ _ (omega arith) (a.1 v c k e)
        held_by a b z (suc zero) v c k e = Holds-later b.0 _ _ (omega arith) (b.1 v c k e)
        held_by a b z (suc (suc zero)) v c k e = Holds-later z.0 _ _ (omega arith) (z.1 v c k e)
        held_by a b z (suc (suc (suc p))) v c k e = let past = slice_get_past known (suc (suc (suc p))) (omega (arith, h.wide)) in cc

  -- what is forced from facts of the closure is in the closure
  pub Follows-forced : (f : Fact) → IsForced A (Follows A) f → Follows A f
  Follows-forced f s =
      let r : (n : ℕ) × AreHeld (Holds A n) s.instance.cells s.known = common_round s.instance.cells s.known s.from in (
        suc r.0,
        inr (record {
          part = s.part;
          assumed = s.assumed;
          instance = s.instance;
          of_part = s.of_part;
          known = s.known;
          from = r.1;
          port = s.port;
          at = s.at;
          forces = s.forces;
        }),
      )

  -- what is refuted by facts of the closure is a clash
  pub Clashes-refuted : IsRefuted A (Follows A) → Clashes A
  Clashes-refuted s =
      let r : (n : ℕ) × AreHeld (Holds A n) s.instance.cells s.known = common_round s.instance.cells s.known s.from in (
        r.0,
        inr (record {
          part = s.part;
          assumed = s.assumed;
          instance = s.instance;
          of_part = s.of_part;
          known = s.known;
          from = r.1;
          refutes = s.refutes;
        }),
      )

  -- two words of the closure at one cell are a clash
  pub Clashes-two_words : AreTwoWords (Follows A) → Clashes A
  Clashes-two_words t = (
    t.low_holds.0 + t.high_holds.0,
    inl (record {
      cell = t.cell;
      low = t.low;
      high = t.high;
      low_holds = Holds-later t.low_holds.0 _ _ (omega arith) t.low_holds.1;
      high_holds = Holds-later t.high_holds.0 _ _ (omega arith) t.high_holds.1;
      differ = t.differ;
    }),
  )

  -- a family of facts that has the readings, and all that is forced from it
  pub record IsClosed (K : Fact → Type 0) : Type 0 where
    pub readings : (f : Fact) → A (Reading f) → K f
    pub forced : (f : Fact) → IsForced A K f → K f

  -- a closed family has the closure
  module _ (K : Fact → Type 0) (closed : IsClosed K) where
    pub Holds-within : (n : ℕ) (f : Fact) → Holds A n f → K f
    Holds-within zero f h = closed.readings f h
    Holds-within (suc n) f (inl h) = Holds-within n f h
    Holds-within (suc n) f (inr s) = closed.forced f (IsForced-map (λ a x. x) (Holds-within n) s)

    pub Follows-within : (f : Fact) → Follows A f → K f
    Follows-within f (n, h) = Holds-within n f h

    -- where no two words are in it at one cell, and it refutes nothing, there is no clash
    pub Clashes-within : (AreTwoWords K → ⊥) → (IsRefuted A K → ⊥) → Clashes A → ⊥
    Clashes-within one fine (n, inl t) = one (AreTwoWords-map (Holds-within n) t)
    Clashes-within one fine (n, inr s) = fine (IsRefuted-map (λ a x. x) (Holds-within n) s)

pub closures_are_closed : (N : Type 0) → ClosuresAreClosed N
closures_are_closed N S E f s = Follows-forced (IsChosen S E) f s
