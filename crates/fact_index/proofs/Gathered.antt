-- Walks over the places of a cell, and the facts that they gather.
use Rattle.std.proofs.Common.{◌≡◌, ◌⊎◌, inl, inr, ℕ, ◌<◌, List, [], ◌∷◌, ◌++◌, length, Option, Some, None, slice_get, sym, subst, ◌∙◌, arith}
use Rattle.std.proofs.lemmas.Bool.{cases_lt}
use Rattle.std.proofs.lemmas.Option.{slice_get_within}
use Rattle.environment_sets.specs.Lists.{IsIn}
use Rattle.environment_sets.proofs.Listings.{IsIn-push, IsIn-front, IsIn-last}
use Rattle.environment_sets.proofs.Membership.{IsIn-slice_get, slice_get-IsIn}
use Rattle.circuit_model.specs.declared.model.Cell.{Cell}
use Rattle.circuit_model.specs.declared.model.Fact.{Fact}
use Rattle.fact_index.specs.Listed.{IsAt, GivesLast, HasFactsAt}
use Rattle.fact_index.specs.Links.{past}
use Rattle.fact_index.specs.Gathered.{IsWalked, HasPlace, IsGathered}

-- the place is followed by the last one before it with a fact at the same cell
abbrev pub IsFollowedBy : List Fact → ℕ → Option ℕ → Type 0
IsFollowedBy facts place later = (f : Fact) → slice_get facts place ≡ Some f → GivesLast facts f.cell place later

pub fewer_left : (facts : List Fact) (c : Cell) (place : ℕ) (later : Option ℕ) → GivesLast facts c place later → past later < past (Some place)
fewer_left facts c place None none = omega arith
fewer_left facts c place (Some earlier) is = let low : earlier < place = is.before in omega arith

-- the steps of a walk, over any property of places
module _ (facts : List Fact) (c : Cell) (Done : ℕ → Type 0) where
  -- from the last place of all on, nothing is done
  pub walk_begins : (next : Option ℕ) → GivesLast facts c (length facts) next → IsWalked facts c Done next
  walk_begins next is = record {
    bound = length facts;
    last = is;
    done = λ k past at. let inside : k < length facts = slice_get_within facts k at.0 at.1 in absurd (omega arith);
  }

  module _ (next : Option ℕ) (walked : IsWalked facts c Done next) where
    -- at the end each place of the cell is done
    pub walk_ends : next ≡ None → (k : ℕ) → IsAt facts c k → Done k
    walk_ends end k at =
        let none : GivesLast facts c walked.bound None = subst (GivesLast facts c walked.bound) end walked.last in
        elim (cases_lt k walked.bound) as (λ _. Done k) [
          | inl low ↦ absurd (none k low at)
          | inr past ↦ walked.done k past at
        ]

    module _ (place : ℕ) (is : next ≡ Some place) where
      here : GivesLast facts c walked.bound (Some place)
      here = subst (GivesLast facts c walked.bound) is walked.last

      -- the next place is one of the cell
      pub walk_is_at : IsAt facts c place
      walk_is_at = here.at

      pub walk_is_inside : place < length facts
      walk_is_inside = slice_get_within facts place walk_is_at.0 walk_is_at.1

      follows : (later : Option ℕ) → IsFollowedBy facts place later → GivesLast facts c place later
      follows later followed = subst (λ (c : Cell). GivesLast facts c place later) walk_is_at.2 (followed walk_is_at.0 walk_is_at.1)

      -- each step leaves fewer places
      pub walk_falls : (later : Option ℕ) → IsFollowedBy facts place later → past later < past next
      walk_falls later followed = subst (λ (o : Option ℕ). past later < past o) (sym is) (fewer_left facts c place later (follows later followed))

      -- the next place is done too, and what was done still is
      pub walk_goes_on : (Later : ℕ → Type 0) → ((k : ℕ) → Done k → Later k) → Later place → (later : Option ℕ) → IsFollowedBy facts place later → IsWalked facts c Later later
      walk_goes_on Later keeps now later followed = record {
        bound = place;
        last = follows later followed;
        done = λ k from at. elim (cases_lt k walked.bound) as (λ _. Later k) [
          | inl low ↦ elim (cases_lt place k) as (λ _. Later k) [
            | inl between ↦ absurd (here.last k between low at)
            | inr not_past ↦ let same : place ≡ k = omega arith in subst Later same now
          ]
          | inr past ↦ keeps k (walked.done k past at)
        ];
      }

module _ (facts : List Fact) (c : Cell) (old : List Fact) where
  -- at the beginning the list is as it was
  pub gather_begins : (next : Option ℕ) → GivesLast facts c (length facts) next → IsGathered facts c old old next
  gather_begins next is = record {
    stays = λ f h. h;
    only = λ f h. inl h;
    walked = walk_begins facts c (HasPlace facts old) next is;
  }

  -- the fact at the next place is put at the end
  pub gather_goes_on : (mid new : List Fact) (next : Option ℕ) → IsGathered facts c old mid next → (place : ℕ) → next ≡ Some place → (f : Fact) → slice_get facts place ≡ Some f → new ≡ mid ++ f ∷ [] → (later : Option ℕ) → IsFollowedBy facts place later
      → IsGathered facts c old new later
  gather_goes_on mid new next before place is f there pushed later followed =
      let keeps : (g : Fact) → IsIn mid g → IsIn new g = λ g h. subst (λ (fs : List Fact). IsIn fs g) (sym pushed) (IsIn-front mid f g h) in
      let comes : (g : Fact) → f ≡ g → IsIn new g = λ g e. subst (λ (fs : List Fact). IsIn fs g) (sym pushed) (IsIn-last mid f g e) in
      let at : IsAt facts c place = walk_is_at facts c (HasPlace facts mid) next before.walked place is in
      let same : at.0 ≡ f = cc (at.1) in
      record {
        stays = λ g h. keeps g (before.stays g h);
        only = λ g h. elim (IsIn-push mid f g (subst (λ (fs : List Fact). IsIn fs g) pushed h)) as (λ _. IsIn old g ⊎ (IsIn facts g × (g.cell ≡ c))) [
          | inl earlier ↦ before.only g earlier
          | inr e ↦ inr (subst (λ (g : Fact). IsIn facts g × (g.cell ≡ c)) (same ∙ e) (IsIn-slice_get facts place at.0 at.1, at.2))
        ];
        walked = walk_goes_on facts c (HasPlace facts mid) next before.walked place is (HasPlace facts new) (λ k had g e. keeps g (had g e)) (λ g e. comes g (cc)) later followed;
      }

  -- at the end all facts at the cell are there
  pub gather_ends : (new : List Fact) (next : Option ℕ) → next ≡ None → IsGathered facts c old new next → HasFactsAt facts c old new
  gather_ends new next end gathered f = (
    gathered.only f,
    λ h. elim h as (λ _. IsIn new f) [
      | inl earlier ↦ gathered.stays f earlier
      | inr of ↦ let place : (k : ℕ) × (slice_get facts k ≡ Some f) = slice_get-IsIn facts f of.0 in walk_ends facts c (HasPlace facts new) next gathered.walked end place.0 (f, place.1, of.1) f place.1
    ],
  )
