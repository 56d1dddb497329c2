-- A known word is replaced by the words that it was forced from.
use Rattle.std.proofs.Common.{◌≡◌, ℕ, zero, suc, ◌+◌, ◌*◌, ◌^◌, ◌≤◌, ◌<◌, ◌⊎◌, inl, inr, true, false, IsTrue, refl, sym, ap, subst, ◌∙◌, List, [], ◌∷◌, length, Option, Some, None, IsSome, slice_get, arith}
use Rattle.std.proofs.lemmas.Option.{slice_get_within}
use Rattle.circuit_model.specs.declared.model.Cell.{Cell}
use Rattle.circuit_model.specs.declared.model.Fact.{Fact}
use Rattle.circuit_model.specs.declared.model.Instance.{Instance}
use Rattle.circuit_model.specs.Inference.{IsTuple, Matches, IsUsed, IsOfPorts, Forces, Refutes}
use Rattle.circuit_model.specs.Closure.{fact, AreHeld}
use Rattle.circuit_model.proofs.Inferences.{Forces-of_ports}
use Rattle.environment_sets.specs.declared.environment.TheConstants.{SLOTS}
use Rattle.environment_sets.specs.Sets.{Set, ◌⊆◌, size_below, no_elements}
use Rattle.propagation.specs.Propagating.{Family, IsReachedUnderLess}
use Rattle.propagation.proofs.Matching.{Matches-at, Matches-from, used_of, weight_of, weight_of-positive, weight_of-less}

pub same_or_not : (k n : ℕ) → (k ≡ n) ⊎ (k ≡ n → ⊥)
same_or_not k n = grind arith

pub some_there : {A : Type 0} (o : Option A) → IsSome o → (x : A) × (o ≡ Some x)
some_there (Some x) is = (x, refl)
some_there None is = absurd (let no : IsTrue false = is in cc)

pub word_or_not : (known : List (Option ℕ)) (p : ℕ) → ((v : ℕ) × (slice_get known p ≡ Some (Some v))) ⊎ ((v : ℕ) → slice_get known p ≡ Some (Some v) → ⊥)
word_or_not [] p = inr (λ v e. cc)
word_or_not (None ∷ known) zero = inr (λ v e. cc)
word_or_not (Some v ∷ known) zero = inl (v, refl)
word_or_not (o ∷ known) (suc p) = word_or_not known p

pub unknown_there : (known : List (Option ℕ)) (p : ℕ) → p < length known → ((v : ℕ) → slice_get known p ≡ Some (Some v) → ⊥) → slice_get known p ≡ Some None
unknown_there [] p low none = absurd (omega (arith, low))
unknown_there (None ∷ known) zero low none = refl
unknown_there (Some v ∷ known) zero low none = absurd (none v refl)
unknown_there (o ∷ known) (suc p) low none = unknown_there known p (omega (arith, low)) none

-- either some of the three gives the way out, or each of them gives what is asked
three_ways : (A : Type 0) (B : ℕ → Type 0) → ((p : ℕ) → B p ⊎ A) → ((p : ℕ) → p < 3 → B p) ⊎ A
three_ways A B each =
    elim (each 0) [
      | inr out ↦ inr out
      | inl b0 ↦ elim (each 1) [
        | inr out ↦ inr out
        | inl b1 ↦ elim (each 2) [ inr out ↦ inr out | inl b2 ↦ inl (all b0 b1 b2) ]
      ]
    ]
  where
    all : B 0 → B 1 → B 2 → (p : ℕ) → p < 3 → B p
    all b0 b1 b2 zero low = b0
    all b0 b1 b2 (suc zero) low = b1
    all b0 b1 b2 (suc (suc zero)) low = b2
    all b0 b1 b2 (suc (suc (suc p))) low = absurd (omega arith)

-- what a kept set beside a known word weighs
abbrev pub cost : Option (Option ℕ) → Set ℕ → ℕ
cost (Some (Some v)) m = weight_of (size_below SLOTS m)
cost (Some None) m = 0
cost None m = 0

cost_at : (known : List (Option ℕ)) (p v : ℕ) (m : Set ℕ) → slice_get known p ≡ Some (Some v) → cost (slice_get known p) m ≡ weight_of (size_below SLOTS m)
cost_at known p v m e = rw e refl

abbrev pub weight : List (Option ℕ) → (ℕ → Set ℕ) → ℕ
weight known M = cost (slice_get known 0) (M 0) + cost (slice_get known 1) (M 1) + cost (slice_get known 2) (M 2)

-- a kept set at each port with a known word, inside E
pub record IsHeldBy (kept : Family) (E : Set ℕ) (cells : List Cell) (known : List (Option ℕ)) (M : ℕ → Set ℕ) : Type 0 where
  pub wide : length known ≡ 3
  pub held : (p v : ℕ) (c : Cell) → slice_get known p ≡ Some (Some v) → slice_get cells p ≡ Some c → kept (Some (fact c v)) (M p)
  pub within : (p : ℕ) → M p ⊆ E

-- the instance forces the fact from words that are reached under less than m
pub record HasSource (instance : Instance) (kept : Family) (m : Set ℕ) (f : Fact) : Type 0 where
  pub known : List (Option ℕ)
  pub from : AreHeld (IsReachedUnderLess kept m) instance.cells known
  pub port : ℕ
  pub at : slice_get instance.cells port ≡ Some f.cell
  pub forces : Forces instance.prim instance.widths known port f.value

-- the port once the word at q is replaced by those that it was forced from
pub record IsReplaced (kept : Family) (E : Set ℕ) (cells : List Cell) (known others : List (Option ℕ)) (M : ℕ → Set ℕ) (q p : ℕ) (o : Option ℕ) (m : Set ℕ) : Type 0 where
  pub gone : p ≡ q → o ≡ None
  pub stays : (v : ℕ) → (p ≡ q → ⊥) → slice_get known p ≡ Some (Some v) → o ≡ Some v
  pub comes : (w : ℕ) → slice_get others p ≡ Some (Some w) → o ≡ Some w
  pub only : (v : ℕ) → o ≡ Some v → (slice_get known p ≡ Some (Some v)) ⊎ (slice_get others p ≡ Some (Some v))
  pub held : (v : ℕ) (c : Cell) → o ≡ Some v → slice_get cells p ≡ Some c → kept (Some (fact c v)) m
  pub within : m ⊆ E
  pub cheap : (p ≡ q → ⊥) → 3 * cost (Some o) m ≤ 3 * cost (slice_get known p) (M p) + weight_of (size_below SLOTS (M q))

-- the known words once the word at q is replaced
pub record AreReplaced (kept : Family) (E : Set ℕ) (cells : List Cell) (known others : List (Option ℕ)) (M : ℕ → Set ℕ) (q : ℕ) (now : List (Option ℕ)) (M' : ℕ → Set ℕ) : Type 0 where
  pub held_by : IsHeldBy kept E cells now M'
  pub gone : slice_get now q ≡ Some None
  pub stays : (p v : ℕ) → (p ≡ q → ⊥) → slice_get known p ≡ Some (Some v) → slice_get now p ≡ Some (Some v)
  pub comes : (p w : ℕ) → slice_get others p ≡ Some (Some w) → slice_get now p ≡ Some (Some w)
  pub only : (p v : ℕ) → slice_get now p ≡ Some (Some v) → (slice_get known p ≡ Some (Some v)) ⊎ (slice_get others p ≡ Some (Some v))
  pub lighter : weight now M' < weight known M

sum_less :
    (q c0 c1 c2 d0 d1 d2 x : ℕ) → q < 3 → 0 < x → (0 ≡ q → (d0 ≡ 0) × (c0 ≡ x)) → ((0 ≡ q → ⊥) → 3 * d0 ≤ 3 * c0 + x) → (1 ≡ q → (d1 ≡ 0) × (c1 ≡ x)) → ((1 ≡ q → ⊥) → 3 * d1 ≤ 3 * c1 + x)
    → (2 ≡ q → (d2 ≡ 0) × (c2 ≡ x)) → ((2 ≡ q → ⊥) → 3 * d2 ≤ 3 * c2 + x) → d0 + d1 + d2 < c0 + c1 + c2
sum_less zero c0 c1 c2 d0 d1 d2 x low positive at0 not0 at1 not1 at2 not2 = omega (arith, positive, (at0 refl).0, (at0 refl).1, not1 (λ e. omega arith), not2 (λ e. omega arith))
sum_less (suc zero) c0 c1 c2 d0 d1 d2 x low positive at0 not0 at1 not1 at2 not2 = omega (arith, positive, (at1 refl).0, (at1 refl).1, not0 (λ e. omega arith), not2 (λ e. omega arith))
sum_less (suc (suc zero)) c0 c1 c2 d0 d1 d2 x low positive at0 not0 at1 not1 at2 not2 = omega (arith, positive, (at2 refl).0, (at2 refl).1, not0 (λ e. omega arith), not1 (λ e. omega arith))
sum_less (suc (suc (suc q))) c0 c1 c2 d0 d1 d2 x low positive at0 not0 at1 not1 at2 not2 = absurd (omega arith)

abbrev pub three : Set ℕ → Set ℕ → Set ℕ → ℕ → Set ℕ
three a b c zero = a
three a b c (suc zero) = b
three a b c (suc (suc p)) = c

module _ (kept : Family) (E : Set ℕ) (cells : List Cell) (known others : List (Option ℕ)) (M : ℕ → Set ℕ) (q u : ℕ) (wide : length known ≡ 3) (others_wide : length others ≡ 3) (there : slice_get known q ≡ Some (Some u)) where
  abbrev pub New : ℕ → Type 0
  New p = (o : Option ℕ) × (m : Set ℕ) × IsReplaced kept E cells known others M q p o m

  module _ (n0 : New 0) (n1 : New 1) (n2 : New 2) where
    abbrev pub now : List (Option ℕ)
    now = n0.0 ∷ n1.0 ∷ n2.0 ∷ []

    abbrev pub beside : ℕ → Set ℕ
    beside = three n0.1 n1.1 n2.1

    at : (p : ℕ) → p < 3 → (o : Option ℕ) × (m : Set ℕ) × IsReplaced kept E cells known others M q p o m × (slice_get now p ≡ Some o) × (beside p ≡ m)
    at zero low = (n0.0, n0.1, n0.2, refl, refl)
    at (suc zero) low = (n1.0, n1.1, n1.2, refl, refl)
    at (suc (suc zero)) low = (n2.0, n2.1, n2.2, refl, refl)
    at (suc (suc (suc p))) low = absurd (omega arith)

    below : (p : ℕ) (o : Option ℕ) → slice_get known p ≡ Some o → p < 3
    below p o e = rw (← wide) (slice_get_within known p o e)

    others_below : (p : ℕ) (o : Option ℕ) → slice_get others p ≡ Some o → p < 3
    others_below p o e = rw (← others_wide) (slice_get_within others p o e)

    now_below : (p : ℕ) (o : Option ℕ) → slice_get now p ≡ Some o → p < 3
    now_below p o e = slice_get_within now p o e

    within : (p : ℕ) → beside p ⊆ E
    within zero = n0.2.within
    within (suc zero) = n1.2.within
    within (suc (suc p)) = n2.2.within

    held_now : (p v : ℕ) (c : Cell) → slice_get now p ≡ Some (Some v) → slice_get cells p ≡ Some c → kept (Some (fact c v)) (beside p)
    held_now p v c w cell =
        let a = at p (now_below p (Some v) w) in
        let same : a.0 ≡ Some v = cc in
        let P : Set ℕ → Type 0 = λ m. kept (Some (fact c v)) m in
        subst P (sym a.4) (a.2.held v c same cell)

    gone_now : slice_get now q ≡ Some None
    gone_now = let a = at q (below q (Some u) there) in a.3 ∙ ap Some (a.2.gone refl)

    stays_now : (p v : ℕ) → (p ≡ q → ⊥) → slice_get known p ≡ Some (Some v) → slice_get now p ≡ Some (Some v)
    stays_now p v ne w = let a = at p (below p (Some v) w) in a.3 ∙ ap Some (a.2.stays v ne w)

    comes_now : (p w : ℕ) → slice_get others p ≡ Some (Some w) → slice_get now p ≡ Some (Some w)
    comes_now p v w = let a = at p (others_below p (Some v) w) in a.3 ∙ ap Some (a.2.comes v w)

    only_now : (p v : ℕ) → slice_get now p ≡ Some (Some v) → (slice_get known p ≡ Some (Some v)) ⊎ (slice_get others p ≡ Some (Some v))
    only_now p v w =
        let a = at p (now_below p (Some v) w) in
        let same : a.0 ≡ Some v = cc in
        a.2.only v same

    nothing : (p : ℕ) (n : New p) → p ≡ q → (cost (Some n.0) n.1 ≡ 0) × (cost (slice_get known p) (M p) ≡ weight_of (size_below SLOTS (M q)))
    nothing p n e =
        let none : n.0 ≡ None = n.2.gone e in
        let known_there : slice_get known p ≡ Some (Some u) = ap (slice_get known) e ∙ there in
        ((rw none refl), cost_at known p u (M p) known_there ∙ ap (λ k. weight_of (size_below SLOTS (M k))) e)

    lighter_now : weight now beside < weight known M
    lighter_now =
        sum_less q (cost (slice_get known 0) (M 0)) (cost (slice_get known 1) (M 1)) (cost (slice_get known 2) (M 2)) (cost (Some n0.0) n0.1) (cost (Some n1.0) n1.1) (cost (Some n2.0) n2.1) (weight_of (size_below SLOTS (M q)))
        (below q (Some u) there) (weight_of-positive (size_below SLOTS (M q)))
        (nothing 0 n0) n0.2.cheap (nothing 1 n1) n1.2.cheap (nothing 2 n2) n2.2.cheap

    pub replaced : AreReplaced kept E cells known others M q now beside
    replaced = record {
      held_by = record { wide = refl; held = held_now; within = within };
      gone = gone_now;
      stays = stays_now;
      comes = comes_now;
      only = only_now;
      lighter = lighter_now;
    }

  -- the word at q goes
  pub at_gone : (p : ℕ) → slice_get others q ≡ Some None → p ≡ q → IsReplaced kept E cells known others M q p None no_elements
  at_gone p unknown e = record {
    gone = λ _. refl;
    stays = λ v ne w. absurd (ne e);
    comes = λ w is. absurd (let none : slice_get others p ≡ Some None = ap (slice_get others) e ∙ unknown in let no : Some (Some w) ≡ Some None = sym is ∙ none in cc);
    only = λ v no. cc;
    held = λ v c no cell. absurd (let bad : None ≡ Some v = no in cc);
    within = λ k h. absurd (let no : false ≡ true = h in cc);
    cheap = λ ne. absurd (ne e);
  }

  -- a word stays
  pub at_known : (p v : ℕ) → (p ≡ q → ⊥) → slice_get known p ≡ Some (Some v) → ((w : ℕ) → slice_get others p ≡ Some (Some w) → v ≡ w) → IsHeldBy kept E cells known M → IsReplaced kept E cells known others M q p (Some v) (M p)
  at_known p v ne is agree h = record {
    gone = λ e. absurd (ne e);
    stays = λ w _ e. cc;
    comes = λ w e. ap Some (agree w e);
    only = λ w e. inl (is ∙ ap Some e);
    held = λ w c e cell. h.held p w c (is ∙ ap Some e) cell;
    within = h.within p;
    cheap = λ _. let same : cost (slice_get known p) (M p) ≡ weight_of (size_below SLOTS (M p)) = cost_at known p v (M p) is in omega (arith, same);
  }

  -- a word comes
  pub at_comes :
      (p w : ℕ) (m : Set ℕ) → (p ≡ q → ⊥) → ((v : ℕ) → slice_get known p ≡ Some (Some v) → ⊥) → slice_get others p ≡ Some (Some w) → ((c : Cell) → slice_get cells p ≡ Some c → kept (Some (fact c w)) m) → m ⊆ E
      → size_below SLOTS m < size_below SLOTS (M q) → IsReplaced kept E cells known others M q p (Some w) m
  at_comes p w m ne unknown is has inside less = record {
    gone = λ e. absurd (ne e);
    stays = λ v _ e. absurd (unknown v e);
    comes = λ v e. (let same : Some (Some w) ≡ Some (Some v) = sym is ∙ e in cc);
    only = λ v e. inr (is ∙ ap Some e);
    held = λ v c e cell. (let same : w ≡ v = cc in let P : ℕ → Type 0 = λ x. kept (Some (fact c x)) m in subst P same (has c cell));
    within = inside;
    cheap = λ _. let lighter : 3 * weight_of (size_below SLOTS m) ≤ weight_of (size_below SLOTS (M q)) = weight_of-less (size_below SLOTS m) (size_below SLOTS (M q)) less in omega (arith, lighter);
  }

  -- no word is there
  pub at_none : (p : ℕ) → ((v : ℕ) → slice_get known p ≡ Some (Some v) → ⊥) → ((v : ℕ) → slice_get others p ≡ Some (Some v) → ⊥) → IsReplaced kept E cells known others M q p None no_elements
  at_none p unknown none = record {
    gone = λ _. refl;
    stays = λ v _ e. absurd (unknown v e);
    comes = λ w e. absurd (none w e);
    only = λ v no. cc;
    held = λ v c no cell. absurd (let bad : None ≡ Some v = no in cc);
    within = λ k h. absurd (let no : false ≡ true = h in cc);
    cheap = λ _. omega arith;
  }

-- what the new words say is what the old ones say
module _
    (instance : Instance) (wide_each : (p w : ℕ) → slice_get instance.widths p ≡ Some w → 1 < 2 ^ w) (kept : Family) (E : Set ℕ) (known others : List (Option ℕ)) (M : ℕ → Set ℕ) (q u : ℕ)
    (there : slice_get known q ≡ Some (Some u)) (wide : length known ≡ 3) (others_wide : length others ≡ 3) (within : IsOfPorts instance.prim known) (forced : Forces instance.prim instance.widths others q u)
    (now : List (Option ℕ)) (M' : ℕ → Set ℕ) (r : AreReplaced kept E instance.cells known others M q now M')
  where
    -- what has the new words has the old ones
    has_old : (t : List ℕ) → IsTuple instance.prim instance.widths t → Matches now t → Matches known t
    has_old t tuple m = Matches-from known t each
      where
        has_others : Matches others t
        has_others = Matches-from others t (λ p w e. Matches-at now t p w m (r.comes p w e))

        each : (p v : ℕ) → slice_get known p ≡ Some (Some v) → slice_get t p ≡ Some v
        each p v e =
            elim (same_or_not p q) [
              | inl same ↦
                  let here : slice_get known q ≡ Some (Some v) = subst (λ (k : ℕ). slice_get known k ≡ Some (Some v)) same e in
                  let word : u ≡ v = cc in
                  let has : slice_get t q ≡ Some u = forced.every_tuple t tuple has_others in
                  subst (λ (k : ℕ). slice_get t k ≡ Some v) (sym same) (has ∙ ap Some word)
              | inr ne ↦ Matches-at now t p v m (r.stays p v ne e)
            ]

    low_others : (p v : ℕ) → slice_get others p ≡ Some (Some v) → p < 3
    low_others p v e = rw (← others_wide) (slice_get_within others p (Some v) e)

    low_now : (p v : ℕ) → slice_get now p ≡ Some (Some v) → p < 3
    low_now p v e = rw (← r.held_by.wide) (slice_get_within now p (Some v) e)

    -- where no word is now, none was among the others
    none_now : (p : ℕ) → p < 3 → slice_get now p ≡ Some None → slice_get others p ≡ Some None
    none_now p low e =
        elim (word_or_not others p) [
          | inl is ↦ absurd (let there_now : slice_get now p ≡ Some (Some is.0) = r.comes p is.0 is.1 in cc)
          | inr none ↦ unknown_there others p (rw others_wide low) none
        ]

    not_gone : (p v : ℕ) → slice_get now p ≡ Some (Some v) → p ≡ q → ⊥
    not_gone p v e same = let here : slice_get now q ≡ Some (Some v) = subst (λ (k : ℕ). slice_get now k ≡ Some (Some v)) same e in let none : slice_get now q ≡ Some None = r.gone in cc

    of_ports : IsOfPorts instance.prim now
    of_ports p v e = elim (r.only p v e) [ inl k ↦ within p v k | inr o ↦ Forces-of_ports instance.prim instance.widths others q u forced p v o ]

    used_now : IsUsed instance.prim now
    used_now = used_of instance.prim instance.widths wide_each others now q u others_wide r.held_by.wide forced none_now

    pub refuted_now : Refutes instance.prim instance.widths known → Refutes instance.prim instance.widths now
    refuted_now refutes = record {
      used = used_now;
      within = of_ports;
      open_port = (q, within q u there, r.gone);
      no_tuple = λ t tuple m. refutes.no_tuple t tuple (has_old t tuple m);
    }

    -- the forced word against another one at its port
    pub against_now : (p v w : ℕ) → Forces instance.prim instance.widths known p v → slice_get now p ≡ Some (Some w) → (w ≡ v → ⊥) → Refutes instance.prim instance.widths now
    against_now p v w forces is differ = record {
      used = used_now;
      within = of_ports;
      open_port = (q, within q u there, r.gone);
      no_tuple = λ t tuple m. differ (let has : slice_get t p ≡ Some v = forces.every_tuple t tuple (has_old t tuple m) in let other : slice_get t p ≡ Some w = Matches-at now t p w m is in cc);
    }

    module _ (p v : ℕ) (forces : Forces instance.prim instance.widths known p v) (open_now : slice_get now p ≡ Some None) where
      low_p : p < 3
      low_p = rw (← wide) (slice_get_within known p None forces.unknown)

      low_q : q < 3
      low_q = rw (← wide) (slice_get_within known q (Some u) there)

      apart : p ≡ q → ⊥
      apart e = let none : slice_get known q ≡ Some None = subst (λ (k : ℕ). slice_get known k ≡ Some None) e forces.unknown in cc

      abbrev IsNews : ℕ → Type 0
      IsNews x = (w : ℕ) × (slice_get others x ≡ Some (Some w)) × ((y : ℕ) → slice_get known x ≡ Some (Some y) → ⊥)

      abbrev IsNoNews : ℕ → Type 0
      IsNoNews x = (w : ℕ) → slice_get others x ≡ Some (Some w) → (y : ℕ) × (slice_get known x ≡ Some (Some y))

      news_or_not : (x : ℕ) → IsNoNews x ⊎ IsNews x
      news_or_not x =
          elim (word_or_not known x) [
            | inl is ↦ inl (λ w e. is)
            | inr unknown ↦ elim (word_or_not others x) [
              | inl comes ↦ inr (comes.0, comes.1, unknown)
              | inr none ↦ inl (λ w e. absurd (none w e))
            ]
          ]

      -- where no word came, a tuple with the old words has the new ones
      tuple_of_old : ((x : ℕ) → x < 3 → IsNoNews x) → (t : List ℕ) × IsTuple instance.prim instance.widths t × Matches now t
      tuple_of_old none =
          let t : List ℕ = forces.some_tuple.0 in
          let m : Matches known t = forces.some_tuple.2 in (
            t,
            forces.some_tuple.1,
            Matches-from now t (λ x y e. elim (r.only x y e) [
              | inl k ↦ Matches-at known t x y m k
              | inr o ↦
                  let is : (z : ℕ) × (slice_get known x ≡ Some (Some z)) = none x (low_others x y o) y o in
                  let stays : slice_get now x ≡ Some (Some is.0) = r.stays x is.0 (not_gone x y e) is.1 in
                  let has : slice_get t x ≡ Some is.0 = Matches-at known t x is.0 m is.1 in
                  cc
            ]),
          )

      same_port : (x y : ℕ) → x < 3 → y < 3 → (x ≡ q → ⊥) → (x ≡ p → ⊥) → (y ≡ q → ⊥) → (y ≡ p → ⊥) → x ≡ y
      same_port x y lx ly xq xp yq yp = let a : p < 3 = low_p in let b : q < 3 = low_q in let c : p ≡ q → ⊥ = apart in grind arith

      not_open : (known' : List (Option ℕ)) (x w : ℕ) → slice_get known' p ≡ Some None → slice_get known' x ≡ Some (Some w) → x ≡ p → ⊥
      not_open known' x w none is e = let here : slice_get known' p ≡ Some (Some w) = subst (λ (k : ℕ). slice_get known' k ≡ Some (Some w)) e is in cc

      others_not_gone : (x w : ℕ) → slice_get others x ≡ Some (Some w) → x ≡ q → ⊥
      others_not_gone x w is e = let here : slice_get others q ≡ Some (Some w) = subst (λ (k : ℕ). slice_get others k ≡ Some (Some w)) e is in let none : slice_get others q ≡ Some None = forced.unknown in cc

      -- where a word came, the other words are all that is known now
      tuple_of_others : (x : ℕ) → IsNews x → (t : List ℕ) × IsTuple instance.prim instance.widths t × Matches now t
      tuple_of_others x news =
          let t : List ℕ = forced.some_tuple.0 in (
            t,
            forced.some_tuple.1,
            Matches-from now t (λ k y e. elim (r.only k y e) [
              | inl old ↦
                  let same : k ≡ x = same_port k x (low_now k y e) (low_others x news.0 news.1) (not_gone k y e) (not_open now k y open_now e) (others_not_gone x news.0 news.1) (not_open others x news.0 (none_now p low_p open_now) news.1) in
                  absurd (news.2 y (subst (λ (i : ℕ). slice_get known i ≡ Some (Some y)) same old))
              | inr o ↦ Matches-at others t k y forced.some_tuple.2 o
            ]),
          )

      some_now : (t : List ℕ) × IsTuple instance.prim instance.widths t × Matches now t
      some_now =
          elim (three_ways ((x : ℕ) × IsNews x) IsNoNews (λ x. elim (news_or_not x) [ inl none ↦ inl none | inr news ↦ inr (x, news) ])) [
            | inl none ↦ tuple_of_old none
            | inr news ↦ tuple_of_others news.0 news.1
          ]

      pub forced_now : Forces instance.prim instance.widths now p v
      forced_now = record {
        used = used_now;
        unknown = open_now;
        some_tuple = some_now;
        every_tuple = λ t tuple m. forces.every_tuple t tuple (has_old t tuple m);
      }
