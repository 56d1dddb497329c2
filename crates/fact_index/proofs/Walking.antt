-- Walks along links of one number.
use Rattle.std.proofs.Common.{◌≡◌, inl, inr, ℕ, zero, suc, ◌+◌, ◌<◌, ◌≤◌, List, [], ◌∷◌, Option, Some, None, length, slice_get, refl, sym, ap, subst, ◌∙◌, arith}
use Rattle.std.specs.Option.{IfSome}
use Rattle.std.proofs.lemmas.Bool.{cases_lt, cases_eq}
use Rattle.std.proofs.lemmas.Option.{slice_get_within, same_Some}
use Rattle.circuit_model.specs.declared.model.Cell.{Cell}
use Rattle.circuit_model.specs.declared.model.Fact.{Fact}
use Rattle.environment_sets.specs.Lists.{IsIn}
use Rattle.environment_sets.proofs.Membership.{slice_get-IsIn}
use Rattle.fact_index.specs.declared.links.Link.{Link}
use Rattle.fact_index.specs.Listed.{IsAt, IsLast, GivesLast}
use Rattle.fact_index.specs.Links.{facts_of, number_of_fact, back_by_fact, back_by_cell, number_of_cell, cell_number, past, IsNumbered, GivesLastNumbered, LeadBack}

-- the walk goes on below the bound, at a place of the number, and no place past that one has P
pub record IsAhead (number : Fact → ℕ) (links : List Link) (n bound : ℕ) (P : ℕ → Type 0) (next : Option ℕ) : Type 0 where
  pub within : past next ≤ bound
  pub at : IfSome next (IsNumbered number links n)
  pub none : (k : ℕ) → past next ≤ k → P k → ⊥

-- the links of the facts
pub link_at : (links : List Link) (k : ℕ) (f : Fact) → slice_get (facts_of links) k ≡ Some f → (link : Link) × (slice_get links k ≡ Some link) × (link.fact ≡ f)
link_at [] k f e = absurd (cc)
link_at (link ∷ links) zero f e = (link, refl, same_Some link.fact f e)
link_at (link ∷ links) (suc k) f e = link_at links k f e

pub fact_at : (links : List Link) (k : ℕ) (link : Link) → slice_get links k ≡ Some link → slice_get (facts_of links) k ≡ Some link.fact
fact_at [] k link e = cc
fact_at (y ∷ links) zero link e = ap (λ (link : Link). Some link.fact) (same_Some y link e)
fact_at (y ∷ links) (suc k) link e = fact_at links k link e

pub fact_numbered : (number : Fact → ℕ) (links : List Link) (f : Fact) (k : ℕ) → slice_get (facts_of links) k ≡ Some f → IsNumbered number links (number f) k
fact_numbered number links f k e = let there : (link : Link) × (slice_get links k ≡ Some link) × (link.fact ≡ f) = link_at links k f e in (there.0, there.1, ap number there.2)

pub cell_numbered : (links : List Link) (c : Cell) (k : ℕ) → IsAt (facts_of links) c k → IsNumbered cell_number links (number_of_cell c) k
cell_numbered links c k at = let there : IsNumbered cell_number links (number_of_cell at.0.cell) k = fact_numbered cell_number links at.0 k at.1 in (there.0, there.1, there.2 ∙ ap number_of_cell at.2)

module _ (number : Fact → ℕ) (links : List Link) (n : ℕ) where
  pub past_within : (bound : ℕ) (answer : Option ℕ) → GivesLastNumbered number links n bound answer → past answer ≤ bound
  past_within bound None gives = omega arith
  past_within bound (Some place) gives = let before : place < bound = gives.before in omega arith

  pub given_at : (bound : ℕ) (answer : Option ℕ) → GivesLastNumbered number links n bound answer → IfSome answer (IsNumbered number links n)
  given_at bound None gives = tt
  given_at bound (Some place) gives = gives.at

  none_between : (bound : ℕ) (answer : Option ℕ) → GivesLastNumbered number links n bound answer → (k : ℕ) → past answer ≤ k → k < bound → IsNumbered number links n k → ⊥
  none_between bound None gives k above below h = gives k below h
  none_between bound (Some place) gives k above below h = gives.last k (omega arith) below h

  -- one link back
  pub given_next : (back : Link → Option ℕ) → LeadBack number back links → (place : ℕ) (link : Link) → slice_get links place ≡ Some link → IsNumbered number links n place → GivesLastNumbered number links n place (back link)
  given_next back lead place link at numbered =
      let same : number link.fact ≡ n = ap (λ (link : Link). number link.fact) (same_Some link numbered.0 (sym at ∙ numbered.1)) ∙ numbered.2 in
      subst (λ (n : ℕ). GivesLastNumbered number links n place (back link)) same (lead place link at)

  pub falls : (back : Link → Option ℕ) → LeadBack number back links → (place : ℕ) (link : Link) → slice_get links place ≡ Some link → IsNumbered number links n place → past (back link) ≤ place
  falls back lead place link at numbered = past_within place (back link) (given_next back lead place link at numbered)

module _ (number : Fact → ℕ) (links : List Link) (n bound : ℕ) (P : ℕ → Type 0) (has : (k : ℕ) → P k → IsNumbered number links n k) where
  pub ahead_first : (first : Option ℕ) → ((k : ℕ) → P k → k < bound) → GivesLastNumbered number links n bound first → IsAhead number links n bound P first
  ahead_first first below gives = record {
    within = past_within number links n bound first gives;
    at = given_at number links n bound first gives;
    none = λ k above p. none_between number links n bound first gives k above (below k p) (has k p);
  }

  pub ahead_next : (place : ℕ) (next : Option ℕ) → IsAhead number links n bound P (Some place) → GivesLastNumbered number links n place next → (P place → ⊥) → IsAhead number links n bound P next
  ahead_next place next ahead gives other = record {
    within = let low : past next ≤ place = past_within number links n place next gives in let high : place + 1 ≤ bound = ahead.within in omega arith;
    at = given_at number links n place next gives;
    none = λ k above p. elim (cases_lt k place) [
      | inl below ↦ none_between number links n place next gives k above below (has k p)
      | inr past ↦ elim (cases_eq place k) [ inl same ↦ other (subst P (sym same) p) | inr differ ↦ ahead.none k (omega arith) p ]
    ];
  }

-- the walk of `find`: no place that was passed lists the fact
abbrev pub Finds : List Link → Fact → Option ℕ → Type 0
Finds links f next = IsAhead number_of_fact links (number_of_fact f) (length links) (λ k. slice_get (facts_of links) k ≡ Some f) next

pub listed_within : (links : List Link) (k : ℕ) (f : Fact) → slice_get (facts_of links) k ≡ Some f → k < length links
listed_within links k f e = let there : (link : Link) × (slice_get links k ≡ Some link) × (link.fact ≡ f) = link_at links k f e in slice_get_within links k there.0 there.1

pub finds_first : (links : List Link) (f : Fact) (head : Option ℕ) → GivesLastNumbered number_of_fact links (number_of_fact f) (length links) head → Finds links f head
finds_first links f head gives = ahead_first number_of_fact links (number_of_fact f) (length links) (λ k. slice_get (facts_of links) k ≡ Some f) (fact_numbered number_of_fact links f) head (λ k e. listed_within links k f e) gives

pub finds_next : (links : List Link) (f : Fact) (place : ℕ) (link : Link) → LeadBack number_of_fact back_by_fact links → slice_get links place ≡ Some link → Finds links f (Some place) → (link.fact ≡ f → ⊥) → Finds links f link.by_fact
finds_next links f place link lead at ahead other =
    ahead_next number_of_fact links (number_of_fact f) (length links) (λ k. slice_get (facts_of links) k ≡ Some f) (fact_numbered number_of_fact links f) place link.by_fact ahead
    (given_next number_of_fact links (number_of_fact f) back_by_fact lead place link at ahead.at)
    (λ e. other (same_Some link.fact f (sym (fact_at links place link at) ∙ e)))

pub none_listed : (links : List Link) (f : Fact) → Finds links f None → IsIn (facts_of links) f → ⊥
none_listed links f ahead h = let at : (k : ℕ) × (slice_get (facts_of links) k ≡ Some f) = slice_get-IsIn (facts_of links) f h in ahead.none at.0 (omega arith) at.1

-- the walk of the last place at a cell: no place that was passed is at the cell
abbrev pub Seeks : List Link → Cell → ℕ → Option ℕ → Type 0
Seeks links c bound next = IsAhead cell_number links (number_of_cell c) bound (λ k. (k < bound) × IsAt (facts_of links) c k) next

pub seeks_first : (links : List Link) (c : Cell) (first : Option ℕ) → IfSome first (IsNumbered cell_number links (number_of_cell c)) → Seeks links c (past first) first
seeks_first links c first at = record {
  within = omega arith;
  at = at;
  none = λ k above h. let below : k < past first = h.0 in omega arith;
}

pub seeks_next : (links : List Link) (c : Cell) (bound place : ℕ) (link : Link) → LeadBack cell_number back_by_cell links → slice_get links place ≡ Some link → Seeks links c bound (Some place) → (link.fact.cell ≡ c → ⊥) → Seeks links c bound link.by_cell
seeks_next links c bound place link lead at ahead other =
    ahead_next cell_number links (number_of_cell c) bound (λ k. (k < bound) × IsAt (facts_of links) c k) (λ k h. cell_numbered links c k h.1) place link.by_cell ahead
    (given_next cell_number links (number_of_cell c) back_by_cell lead place link at ahead.at)
    (λ h. other (at_cell h.1))
  where
    at_cell : IsAt (facts_of links) c place → link.fact.cell ≡ c
    at_cell h = ap (λ (f : Fact). f.cell) (same_Some link.fact h.0 (sym (fact_at links place link at) ∙ h.1)) ∙ h.2

-- a walk that found the last place at the cell, or none
pub last_found : (links : List Link) (c : Cell) (bound place : ℕ) (link : Link) → Seeks links c bound (Some place) → slice_get links place ≡ Some link → link.fact.cell ≡ c
    → IsLast (facts_of links) c bound place
last_found links c bound place link ahead at same = record {
  before = let within : place + 1 ≤ bound = ahead.within in omega arith;
  at = (link.fact, fact_at links place link at, same);
  last = λ k above below h. ahead.none k (omega arith) (below, h);
}

pub none_found : (links : List Link) (c : Cell) (bound : ℕ) → Seeks links c bound None → GivesLast (facts_of links) c bound None
none_found links c bound ahead k below h = ahead.none k (omega arith) (below, h)

-- the last one up to the first place of the number is the last one before the bound
pub last_before : (links : List Link) (c : Cell) (bound : ℕ) (first answer : Option ℕ) → GivesLastNumbered cell_number links (number_of_cell c) bound first → GivesLast (facts_of links) c (past first) answer → GivesLast (facts_of links) c bound answer
last_before links c bound first None gives last = λ k below h. elim (cases_lt k (past first)) [
  | inl low ↦ last k low h
  | inr high ↦ none_between cell_number links (number_of_cell c) bound first gives k high below (cell_numbered links c k h)
]
last_before links c bound first (Some place) gives last = record {
  before = let low : past first ≤ bound = past_within cell_number links (number_of_cell c) bound first gives in let before : place < past first = last.before in omega arith;
  at = last.at;
  last = λ k above below h. elim (cases_lt k (past first)) [
    | inl low ↦ last.last k above low h
    | inr high ↦ none_between cell_number links (number_of_cell c) bound first gives k high below (cell_numbered links c k h)
  ];
}

-- the place before, by the link of the place
pub before_given : (links : List Link) (place : ℕ) (link : Link) (answer : Option ℕ) → LeadBack cell_number back_by_cell links → slice_get links place ≡ Some link → GivesLast (facts_of links) link.fact.cell (past link.by_cell) answer
    → (f : Fact) → slice_get (facts_of links) place ≡ Some f → GivesLast (facts_of links) f.cell place answer
before_given links place link answer lead at given f there =
    subst (λ (f : Fact). GivesLast (facts_of links) f.cell place answer) (same_Some link.fact f (sym (fact_at links place link at) ∙ there))
    (last_before links link.fact.cell place link.by_cell answer (lead place link at) given)
