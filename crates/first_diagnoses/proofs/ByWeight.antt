-- Rounds by rising weight.
use Rattle.std.proofs.Common.{◌≡◌, ◌⊎◌, ℕ, ◌+◌, ◌-◌, ◌^◌, ◌<◌, ◌≤◌, inl, inr, Option, Some, None, List, [], ◌∷◌, length, refl, sym, ap, subst, ◌∙◌, arith}
use Rattle.std.proofs.lemmas.Bool.{cases_lt}
use Rattle.std.proofs.lemmas.List.{length-map, map-append}
use Rattle.environment_sets.specs.declared.environment.Env.{Env}
use Rattle.environment_sets.specs.Sets.{Set}
use Rattle.environment_sets.specs.Members.{members, sets}
use Rattle.environment_sets.specs.Lists.{IsIn, IsListing}
use Rattle.hitting_sets.specs.Hitting.{IsMinimalFor}
use Rattle.first_diagnoses.specs.declared.branch.Branch.{Branch}
use Rattle.first_diagnoses.specs.declared.problem.Problem.{Problem}
use Rattle.first_diagnoses.specs.First.{AreFirst}
use Rattle.first_diagnoses.specs.Weights.{weight_in}
use Rattle.first_diagnoses.specs.Branches.{IsSought}
use Rattle.first_diagnoses.specs.declared.waiting.Waiting.{Waiting}
use Rattle.first_diagnoses.specs.Rounds.{ComesFirst, ComesByWeight, IsOfRound, AddsFirst}
use Rattle.first_diagnoses.specs.Waits.{IsWaiting, AreWaiting, IsSoughtIn, IsOfRoundIn, AreHeavier, IsLeastOf}
use Rattle.first_diagnoses.proofs.Firsts.{first_append, first_map, adds_map}

-- the set weighs less than the next weight, if there is one
abbrev pub IsLighter : Problem → Option ℕ → Set ℕ → Type 0
IsLighter p None D = Unit {0}
IsLighter p (Some next) D = weight_in p D < next

-- the environments are the minimal hitting sets that weigh less than the next weight
abbrev pub AreLighter : Problem → Option ℕ → List Env → Type 0
AreLighter p next es = IsListing (ComesByWeight p) (λ D. IsMinimalFor p.conflicts.now D × IsLighter p next D) (sets es)

-- no sought set has a weight between this one and the next one, and none is heavier where there is no next one
abbrev pub IsNextWeight : Problem → Branch → ℕ → Option ℕ → Type 0
IsNextWeight p b weight None = (D : Set ℕ) → IsSought p b D → weight_in p D ≤ weight
IsNextWeight p b weight (Some next) = (weight < next) × ((D : Set ℕ) → IsSought p b D → (weight_in p D ≤ weight) ⊎ (next ≤ weight_in p D))

-- the minimal hitting sets that do not weigh less than the next weight wait in the branches
pub record WaitFor (p : Problem) (next : Option ℕ) (waiting : List Waiting) : Type 0 where
  pub branches : AreWaiting p waiting
  pub others : (D : Set ℕ) → IsMinimalFor p.conflicts.now D → IsLighter p next D ⊎ IsSoughtIn p waiting D

-- how many weights may come next
abbrev pub weights_left : Option ℕ → ℕ
weights_left None = 0
weights_left (Some weight) = 1 + (2 ^ 32 - weight)

pub weights_fall : (p : Problem) (all : Branch) (weight : ℕ) (next : Option ℕ) → weight < 2 ^ 32 → IsNextWeight p all weight next → weights_left next < weights_left (Some weight)
weights_fall p all weight None low none = omega arith
weights_fall p all weight (Some next) low between = omega (arith, between.0)

module _ (p : Problem) where
  pub none_lighter : AreLighter p (Some 0) []
  none_lighter = record { rising = tt; exact = λ D. (λ h. absurd h, λ h. let low : weight_in p D < 0 = h.1 in absurd (omega arith)) }

  -- where no weight is next, all are listed
  pub all_first : (limit : ℕ) (es : List Env) → length es ≤ limit → AreLighter p None es → AreFirst (ComesByWeight p) (IsMinimalFor p.conflicts.now) limit (sets es)
  all_first limit es few listing =
      let many : length (sets es) ≡ length es = length-map es members in
      record {
        rising = listing.rising;
        sound = λ D h. ((listing.exact D).0 h).0;
        few = omega arith;
        others = λ D minimal. inl ((listing.exact D).1 (minimal, tt));
      }

  -- the sets of one round more
  module _ (all : Branch) (sought : (D : Set ℕ) → IsMinimalFor p.conflicts.now D → IsSought p all D) (weight limit : ℕ) (old new : List Env) (room : length old < limit) (before : AreLighter p (Some weight) old) (adds : AddsFirst p (IsOfRound p all weight) limit old new) where
    -- a minimal hitting set that weighs no more than those of the round
    abbrev IsReached : Set ℕ → Type 0
    IsReached D = IsMinimalFor p.conflicts.now D × (weight_in p D ≤ weight)

    abbrev IsBefore : Set ℕ → Type 0
    IsBefore D = IsMinimalFor p.conflicts.now D × (weight_in p D < weight)

    reached_first : AreFirst (ComesByWeight p) IsReached limit (sets new)
    reached_first =
        let long : length (sets old) ≡ length old = length-map old members in
        let earlier : AreFirst (ComesByWeight p) IsBefore limit (sets old) = record {
          rising = before.rising;
          sound = λ D h. (before.exact D).0 h;
          few = omega arith;
          others = λ D h. inl ((before.exact D).1 h);
        } in
        let later : AreFirst (ComesByWeight p) (IsOfRound p all weight) (limit - length old) (sets adds.added) =
        first_map (ComesFirst p) (ComesByWeight p) (IsOfRound p all weight) (limit - length old) (sets adds.added) (λ D E h k comes. inr (h.1 ∙ sym k.1, comes)) adds.first in
        subst (AreFirst (ComesByWeight p) IsReached limit) (sym (ap sets adds.appended ∙ map-append members old adds.added))
        (first_append (ComesByWeight p) IsBefore (IsOfRound p all weight) IsReached limit (limit - length old) (sets old) (sets adds.added) earlier later (omega arith)
        (λ D E h k. let low : weight_in p D < weight = h.1 in let here : weight_in p E ≡ weight = k.1 in inl (omega arith))
        (λ D h. let low : weight_in p D < weight = h.1 in (h.0, omega arith))
        (λ D h. let here : weight_in p D ≡ weight = h.1 in (h.0.minimal, omega arith))
        (λ D h. let low : weight_in p D ≤ weight = h.1 in elim (cases_lt (weight_in p D) weight) [ inl less ↦ inl (h.0, less) | inr high ↦ inr (sought D h.0, omega arith) ]))

    as_long : length (sets new) ≡ length new
    as_long = length-map new members

    -- where there are as many as wanted, all heavier sets come later
    pub full_first : limit ≤ length new → AreFirst (ComesByWeight p) (IsMinimalFor p.conflicts.now) limit (sets new)
    full_first full =
        record {
          rising = reached_first.rising;
          sound = λ D h. (reached_first.sound D h).0;
          few = reached_first.few;
          others = λ D minimal. elim (cases_lt weight (weight_in p D)) [
            | inl heavier ↦ inr (omega (arith, reached_first.few, as_long), λ E h. let low : weight_in p E ≤ weight = (reached_first.sound E h).1 in inl (omega arith))
            | inr low ↦ reached_first.others D (minimal, low)
          ];
        }

    -- where there are fewer, all sets below the next weight are listed
    all_reached : length new < limit → (D : Set ℕ) → IsReached D → IsIn (sets new) D
    all_reached fewer D h =
        elim (reached_first.others D h) [
          | inl there ↦ there
          | inr (full, after) ↦ absurd (omega (arith, as_long))
        ]

    pub next_lighter : length new < limit → (next : Option ℕ) → IsNextWeight p all weight next → AreLighter p next new
    next_lighter fewer None none =
        record {
          rising = reached_first.rising;
          exact = λ D. (λ h. ((reached_first.sound D h).0, tt), λ h. all_reached fewer D (h.0, none D (sought D h.0)));
        }
    next_lighter fewer (Some next) between =
        record {
          rising = reached_first.rising;
          exact = λ D. (
            λ h. let low : weight_in p D ≤ weight = (reached_first.sound D h).1 in ((reached_first.sound D h).0, omega (arith, between.0)),
            λ h. all_reached fewer D (h.0, elim (between.1 D (sought D h.0)) [ inl low ↦ low | inr high ↦ let less : weight_in p D < next = h.1 in absurd (omega arith) ]),
          );
        }

-- at first all sets wait in one branch
pub all_wait : (p : Problem) (w : Waiting) → IsWaiting p w → ((D : Set ℕ) → IsMinimalFor p.conflicts.now D → IsSought p w.branch D) → WaitFor p (Some 0) (w ∷ [])
all_wait p w is has =
    record {
      branches = record { each = λ v h. elim h [ inl same ↦ subst (IsWaiting p) same is | inr bad ↦ absurd bad ]; rising = (λ v h. absurd h, tt) };
      others = λ D minimal. inr (w, inl refl, has D minimal);
    }

-- what waits after a round
module _ (p : Problem) (all : Branch) (sought : (D : Set ℕ) → IsMinimalFor p.conflicts.now D → IsSought p all D) where
  module _ (weight : ℕ) (waiting : List Waiting) (wait : WaitFor p (Some weight) waiting) where
    -- the sets of a round that wait are all sets of the round
    pub all_of_round : (limit : ℕ) (old new : List Env) → AddsFirst p (IsOfRoundIn p waiting weight) limit old new → AddsFirst p (IsOfRound p all weight) limit old new
    all_of_round limit old new adds =
        adds_map p (IsOfRoundIn p waiting weight) limit (IsOfRound p all weight) old new
        (λ D h. (sought D h.0.2.minimal, h.1))
        (λ D h. elim (wait.others D h.0.minimal) [ inl low ↦ let less : weight_in p D < weight = low in let here : weight_in p D ≡ weight = h.1 in absurd (omega arith) | inr there ↦ (there, h.1) ])
        adds

    module _ (later : List Waiting) (left : AreHeavier p (IsSoughtIn p waiting) weight later) where
      still : (D : Set ℕ) → IsMinimalFor p.conflicts.now D → (weight_in p D ≤ weight) ⊎ IsSoughtIn p later D
      still D minimal = elim (wait.others D minimal) [ inl low ↦ let less : weight_in p D < weight = low in inl (omega arith) | inr there ↦ left.others D there ]

      pub next_waits : (next : Option ℕ) → IsLeastOf later next → IsNextWeight p all weight next
      next_waits None none = λ D is. elim (still D is.minimal) [ inl low ↦ low | inr (w, h, there) ↦ absurd (subst (λ (ws : List Waiting). IsIn ws w) none h) ]
      next_waits (Some next) (some, each) = (
        subst (λ (m : ℕ). weight < m) some.2 (left.heavier some.0 some.1),
        λ D is. elim (still D is.minimal) [
          | inl low ↦ inl low
          | inr (w, h, there) ↦
              let bound : w.least ≤ weight_in p D = (left.branches.each w h).bound D there in
              inr (omega (arith, each w h))
        ],
      )

      pub wait_on : (next : Option ℕ) → IsNextWeight p all weight next → WaitFor p next later
      wait_on None none = record { branches = left.branches; others = λ D minimal. inl tt }
      wait_on (Some next) between =
          record {
            branches = left.branches;
            others = λ D minimal. elim (still D minimal) [ inl low ↦ inl (omega (arith, between.0)) | inr there ↦ inr there ];
          }
