-- Facts in order: where one stands, and where two are of one cell.
use Rattle.std.proofs.Common.{◌≡◌, ℕ, zero, suc, ◌+◌, ◌-◌, ◌<◌, ◌≤◌, ◌⊎◌, ◌↔◌, inl, inr, false, IsTrue, List, [], ◌∷◌, length, Option, Some, None, MatchOption, slice_get, true≢false, refl, sym, ap, ap₂, subst, ◌∙◌, arith}
use Rattle.std.specs.List.{insert}
use Rattle.std.proofs.lemmas.Bool.{cases_Bool, cases_lt, cases_order, cases_eq}
use Rattle.std.proofs.lemmas.Bool.Decides.{nat_tests}
use Rattle.std.proofs.lemmas.Option.{slice_get_within}
use Rattle.environment_sets.specs.Lists.{IsIn, IsRising}
use Rattle.environment_sets.proofs.Membership.{IsIn-slice_get, slice_get-IsIn}
use Rattle.circuit_model.specs.declared.model.Cell.{Cell}
use Rattle.circuit_model.specs.declared.model.Fact.{Fact}
use Rattle.circuit_model.specs.Closure.{fact, AreTwoWords}
use Rattle.circuit_model.specs.Derivation.{is_fact_before, AreFirstTwoWords}
use Rattle.circuit_model.specs.Present.{is_cell_before}
use Rattle.circuit_model.proofs.SameCells.{cell_by}
use Rattle.proof_check.specs.Ordered.{AreInOrder, AreBefore, AreFrom, IsPlaceOf, HasPut}

-- no place without an element stands before one with an element
no_gap : {X : Type 0} (xs : List X) (i k : ℕ) (x : X) → i < k → slice_get xs i ≡ None → slice_get xs k ≡ Some x → ⊥
no_gap [] i k x less a b = cc
no_gap (y ∷ xs) i zero x less a b = omega arith
no_gap (y ∷ xs) zero (suc k) x less a b = cc
no_gap (y ∷ xs) (suc i) (suc k) x less a b = no_gap xs i k x (omega arith) a b

abbrev Before : Fact → Fact → Type 0
Before f g = IsTrue (is_fact_before f g)

-- the order, told by numbers
pub record IsBehind (f g : Fact) : Type 0 where
  pub net : f.cell.net ≤ g.cell.net
  pub cycle : f.cell.net ≡ g.cell.net → f.cell.cycle ≤ g.cell.cycle
  pub word : f.cell.net ≡ g.cell.net → f.cell.cycle ≡ g.cell.cycle → f.value < g.value

pub behind : (f g : Fact) → Before f g → IsBehind f g
behind f g h = record { net = grind (arith, nat_tests); cycle = λ e. grind (arith, nat_tests); word = λ e k. grind (arith, nat_tests) }

pub before_by : (f g : Fact) → IsBehind f g → Before f g
before_by f g h =
    let net = h.net in
    let cycle = h.cycle in
    let word = h.word in
    grind (arith, nat_tests)

pub before_trans : (f g h : Fact) → Before f g → Before g h → Before f h
before_trans f g h a b =
    let x : IsBehind f g = behind f g a in
    let y : IsBehind g h = behind g h b in
    before_by f h (record {
      net = omega (arith, x.net, y.net);
      cycle = λ e. let n = x.net in let m = y.net in let i : f.cell.net ≡ g.cell.net = omega arith in let k : g.cell.net ≡ h.cell.net = omega arith in omega (arith, x.cycle i, y.cycle k);
      word = λ e t.
          let n = x.net in let m = y.net in let i : f.cell.net ≡ g.cell.net = omega arith in let k : g.cell.net ≡ h.cell.net = omega arith in
          let p = x.cycle i in let q = y.cycle k in let r : f.cell.cycle ≡ g.cell.cycle = omega arith in let u : g.cell.cycle ≡ h.cell.cycle = omega arith in
          omega (arith, x.word i r, y.word k u);
    })

pub not_before_itself : (f : Fact) → Before f f → ⊥
not_before_itself f h = let less = (behind f f h).word refl refl in omega arith

-- of two facts that do not come before each other, both are one
pub same_fact : (f g : Fact) → is_fact_before f g ≡ false → is_fact_before g f ≡ false → f ≡ g
same_fact f g a b =
    let net : f.cell.net ≡ g.cell.net = grind (arith, nat_tests) in
    let cycle : f.cell.cycle ≡ g.cell.cycle = grind (arith, nat_tests) in
    let value : f.value ≡ g.value = grind (arith, nat_tests) in
    ap₂ fact (cell_by f.cell g.cell net cycle) value

-- a fact of an earlier cell comes before
of_cells : (f g : Fact) → IsTrue (is_cell_before f.cell g.cell) → Before f g
of_cells f g h = grind (arith, nat_tests)

-- between two facts of one cell there are facts of that cell alone
pub cell_between : (f g h : Fact) → Before f g → (Before g h) ⊎ (g ≡ h) → f.cell ≡ h.cell → f.cell ≡ g.cell
cell_between f g h a (inr e) same = same ∙ ap (λ (f : Fact). f.cell) (sym e)
cell_between f g h a (inl b) same =
    let x : IsBehind f g = behind f g a in
    let y : IsBehind g h = behind g h b in
    let n : f.cell.net ≡ h.cell.net = ap (λ (c : Cell). c.net) same in
    let t : f.cell.cycle ≡ h.cell.cycle = ap (λ (c : Cell). c.cycle) same in
    let p = x.net in let q = y.net in
    let net : f.cell.net ≡ g.cell.net = omega arith in
    let other : g.cell.net ≡ h.cell.net = omega arith in
    let u = x.cycle net in let v = y.cycle other in
    cell_by f.cell g.cell net (omega arith)

-- no two neighbours below the place are of one cell
abbrev pub AreApart : List Fact → ℕ → Type 0
AreApart facts n = (k : ℕ) (f g : Fact) → suc k < n → slice_get facts k ≡ Some f → slice_get facts (suc k) ≡ Some g → f.cell ≡ g.cell → ⊥

-- in a list that rises, what stands at an earlier place comes before
pub IsRising-places : {X : Type 0} (before : X → X → Type 0) (xs : List X) (i j : ℕ) (x y : X) → IsRising before xs → i < j → slice_get xs i ≡ Some x → slice_get xs j ≡ Some y → before x y
IsRising-places before [] i j x y rising less a b = absurd (cc)
IsRising-places before (z ∷ xs) i zero x y rising less a b = absurd (omega arith)
IsRising-places {X = X} before (z ∷ xs) zero (suc j) x y rising less a b = let is : z ≡ x = cc in subst (λ (w : X). before w y) is (rising.0 y (IsIn-slice_get xs j y b))
IsRising-places before (z ∷ xs) (suc i) (suc j) x y rising less a b = IsRising-places before xs i j x y rising.1 (omega arith) a b

module _ (facts : List Fact) (rising : AreInOrder facts) where
  at_places : (i j : ℕ) (f g : Fact) → i < j → slice_get facts i ≡ Some f → slice_get facts j ≡ Some g → Before f g
  at_places i j f g less a b = IsRising-places (λ f g. Before f g) facts i j f g rising less a b

  -- where the fact at a place comes before f, so do those at earlier places
  pub AreBefore-at : (f h : Fact) (m : ℕ) → slice_get facts m ≡ Some h → Before h f → AreBefore facts f (m + 1)
  AreBefore-at f h m at less k g low there = elim (cases_lt k m) [
    | inl lower ↦ before_trans g h f (at_places k m g h lower there at) less
    | inr past ↦
        let e : k ≡ m = omega arith in
        let here : slice_get facts m ≡ Some g = subst (λ (k : ℕ). slice_get facts k ≡ Some g) e there in
        let is : h ≡ g = cc in
        subst (λ (g : Fact). Before g f) is less
  ]

  -- where it does not, those at later places do not
  pub AreFrom-at : (f h : Fact) (m : ℕ) → slice_get facts m ≡ Some h → is_fact_before h f ≡ false → AreFrom facts f m
  AreFrom-at f h m at never k g low there = elim (cases_order k m) [
    | inl e ↦
        let here : slice_get facts m ≡ Some g = subst (λ (k : ℕ). slice_get facts k ≡ Some g) e there in
        let is : h ≡ g = cc in
        subst (λ (g : Fact). is_fact_before g f ≡ false) is never
    | inr (inl lower) ↦ absurd (omega arith)
    | inr (inr higher) ↦ elim (cases_Bool (is_fact_before g f)) [
      | inl less ↦ absurd (true≢false (sym (before_trans h g f (at_places m k h g higher at there) less) ∙ never))
      | inr is ↦ is
    ]
  ]

  -- a fact of the list stands at its place
  pub at_its_place : (f : Fact) (place : ℕ) → IsPlaceOf facts f place → (slice_get facts place ≡ Some f) ↔ IsIn facts f
  at_its_place f place p = (λ e. IsIn-slice_get facts place f e, λ h. there (slice_get-IsIn facts f h)) where
    there : (k : ℕ) × (slice_get facts k ≡ Some f) → slice_get facts place ≡ Some f
    there (k, at) = elim (cases_order place k) [
      | inl e ↦ subst (λ (k : ℕ). slice_get facts k ≡ Some f) (sym e) at
      | inr (inl lower) ↦ by_element (slice_get facts place) refl lower
      | inr (inr higher) ↦ absurd (not_before_itself f (p.before k f higher at))
    ] where
      by_element : (o : Option Fact) → slice_get facts place ≡ o → place < k → slice_get facts place ≡ Some f
      by_element (Some g) is lower = absurd (true≢false (sym (at_places place k g f lower is at) ∙ p.after place g (omega arith) is))
      by_element None is lower = absurd (no_gap facts place k f lower is at)

  -- the first fact from a cell's least on is of the cell, if one is
  pub word_at_place : (c : Cell) (place v : ℕ) → IsPlaceOf facts (fact c 0) place → IsIn facts (fact c v) → (w : ℕ) × (slice_get facts place ≡ Some (fact c w))
  word_at_place c place v p h = there (slice_get-IsIn facts (fact c v) h) where
    there : (k : ℕ) × (slice_get facts k ≡ Some (fact c v)) → (w : ℕ) × (slice_get facts place ≡ Some (fact c w))
    there (k, at) = elim (cases_order place k) [
      | inl e ↦ (v, subst (λ (k : ℕ). slice_get facts k ≡ Some (fact c v)) (sym e) at)
      | inr (inl lower) ↦ by_element (slice_get facts place) refl lower
      | inr (inr higher) ↦ absurd (let less = (behind (fact c v) (fact c 0) (p.before k (fact c v) higher at)).word refl refl in omega arith)
    ] where
      of_cell : (g : Fact) → Before g (fact c v) → is_fact_before g (fact c 0) ≡ false → g ≡ fact c g.value
      of_cell g less never =
          let net : g.cell.net ≡ c.net = grind (arith, nat_tests) in
          let cycle : g.cell.cycle ≡ c.cycle = grind (arith, nat_tests) in
          let cell : g.cell ≡ c = cell_by g.cell c net cycle in
          ap (λ (c : Cell). fact c g.value) cell

      by_element : (o : Option Fact) → slice_get facts place ≡ o → place < k → (w : ℕ) × (slice_get facts place ≡ Some (fact c w))
      by_element (Some g) is lower = (g.value, is ∙ ap Some (of_cell g (at_places place k g (fact c v) lower is at) (p.after place g (omega arith) is)))
      by_element None is lower = absurd (no_gap facts place k (fact c v) lower is at)

  pub AreApart-more : (i : ℕ) (f g : Fact) → 1 ≤ i → slice_get facts (i - 1) ≡ Some f → slice_get facts i ≡ Some g → (f.cell ≡ g.cell → ⊥) → AreApart facts i → AreApart facts (i + 1)
  AreApart-more i f g positive at there differ apart k x y low kx ky = elim (cases_eq (suc k) i) [
    | inl e ↦
        let before_it : k ≡ i - 1 = omega arith in
        let first : slice_get facts (i - 1) ≡ Some x = subst (λ (k : ℕ). slice_get facts k ≡ Some x) before_it kx in
        let second : slice_get facts i ≡ Some y = subst (λ (k : ℕ). slice_get facts k ≡ Some y) e ky in
        let is_f : f ≡ x = cc in
        let is_g : g ≡ y = cc in
        λ same. differ (ap (λ (f : Fact). f.cell) is_f ∙ (same ∙ sym (ap (λ (g : Fact). g.cell) is_g)))
    | inr other ↦ apart k x y (omega arith) kx ky
  ]

  -- then no two at all are
  apart_to : (n : ℕ) → AreApart facts n → (p q : ℕ) (f g : Fact) → p < q → q < n → slice_get facts p ≡ Some f → slice_get facts q ≡ Some g → f.cell ≡ g.cell → ⊥
  apart_to n apart p q f g less low at there same = by_next (slice_get facts (suc p)) refl (cases_lt (suc p) q) where
    by_next : (o : Option Fact) → slice_get facts (suc p) ≡ o → (suc p < q) ⊎ (q ≤ suc p) → ⊥
    by_next (Some h) is (inl lower) = apart p f h (omega arith) at is (cell_between f h g (at_places p (suc p) f h (omega arith) at is) (inl (at_places (suc p) q h g lower is there)) same)
    by_next (Some h) is (inr past) =
        let e : q ≡ suc p = omega arith in
        let here : slice_get facts (suc p) ≡ Some g = subst (λ (k : ℕ). slice_get facts k ≡ Some g) e there in
        apart p f g (omega arith) at here same
    by_next None is (inl lower) = no_gap facts (suc p) q g lower is there
    by_next None is (inr past) =
        let e : q ≡ suc p = omega arith in
        let here : slice_get facts (suc p) ≡ Some g = subst (λ (k : ℕ). slice_get facts k ≡ Some g) e there in
        cc

  -- places below which each two are apart have no two facts of one cell
  pub none_above : (n : ℕ) → AreApart facts n → (p q : ℕ) (f g : Fact) → slice_get facts p ≡ Some f → slice_get facts q ≡ Some g → f.cell ≡ g.cell → (f.value ≡ g.value → ⊥) → (n ≤ p) ⊎ (n ≤ q)
  none_above n apart p q f g at there same differ = elim (cases_lt p n) [
    | inr past ↦ inl past
    | inl low ↦ elim (cases_lt q n) [
      | inr past ↦ inr past
      | inl lower ↦ elim (cases_order p q) [
        | inl e ↦
            let here : slice_get facts q ≡ Some f = subst (λ (k : ℕ). slice_get facts k ≡ Some f) e at in
            let is : f ≡ g = cc in
            absurd (differ (ap (λ (f : Fact). f.value) is))
        | inr (inl less) ↦ absurd (apart_to n apart p q f g less lower at there same)
        | inr (inr more) ↦ absurd (apart_to n apart q p g f more low there at (sym same))
      ]
    ]
  ]

  pub no_pair : (n : ℕ) → AreApart facts n → length facts ≤ n → AreTwoWords (λ f. IsIn facts f) → ⊥
  no_pair n apart all two =
      let p : (k : ℕ) × (slice_get facts k ≡ Some (fact two.cell two.low)) = slice_get-IsIn facts (fact two.cell two.low) two.low_holds in
      let q : (k : ℕ) × (slice_get facts k ≡ Some (fact two.cell two.high)) = slice_get-IsIn facts (fact two.cell two.high) two.high_holds in
      let low : p.0 < length facts = slice_get_within facts p.0 _ p.1 in
      let lower : q.0 < length facts = slice_get_within facts q.0 _ q.1 in
      elim (none_above n apart p.0 q.0 (fact two.cell two.low) (fact two.cell two.high) p.1 q.1 refl two.differ) [ inl past ↦ omega arith | inr past ↦ omega arith ]

  -- the first two neighbours of one cell
  module _ (i : ℕ) (f g : Fact) (positive : 1 ≤ i) (at : slice_get facts (i - 1) ≡ Some f) (there : slice_get facts i ≡ Some g) (same : f.cell ≡ g.cell) (apart : AreApart facts i) where
    least_two : (v : ℕ) → IsIn facts (fact f.cell v) → (v ≡ f.value) ⊎ (g.value ≤ v)
    least_two v h = by_place (slice_get-IsIn facts (fact f.cell v) h) where
      by_place : (k : ℕ) × (slice_get facts k ≡ Some (fact f.cell v)) → (v ≡ f.value) ⊎ (g.value ≤ v)
      by_place (k, e) = elim (cases_eq v f.value) [
        | inl is ↦ inl is
        | inr differ ↦ elim (none_above i apart k (i - 1) (fact f.cell v) f e at refl differ) [
          | inr past ↦ absurd (omega arith)
          | inl past ↦ elim (cases_eq k i) [
            | inl is ↦
                let here : slice_get facts i ≡ Some (fact f.cell v) = subst (λ (k : ℕ). slice_get facts k ≡ Some (fact f.cell v)) is e in
                let this : g ≡ fact f.cell v = cc in
                let word : g.value ≡ v = ap (λ (g : Fact). g.value) this in
                inr (omega arith)
            | inr other ↦
                let less = (behind g (fact f.cell v) (at_places i k g (fact f.cell v) (omega arith) there e)).word (ap (λ (c : Cell). c.net) (sym same)) (ap (λ (c : Cell). c.cycle) (sym same)) in
                inr (omega arith)
          ]
        ]
      ]

    first_cell : (two : AreTwoWords (λ f. IsIn facts f)) → IsTrue (is_cell_before two.cell f.cell) → ⊥
    first_cell two earlier =
        let p : (k : ℕ) × (slice_get facts k ≡ Some (fact two.cell two.low)) = slice_get-IsIn facts (fact two.cell two.low) two.low_holds in
        let q : (k : ℕ) × (slice_get facts k ≡ Some (fact two.cell two.high)) = slice_get-IsIn facts (fact two.cell two.high) two.high_holds in
        elim (none_above i apart p.0 q.0 (fact two.cell two.low) (fact two.cell two.high) p.1 q.1 refl two.differ) [
          | inl past ↦ not_past p.0 two.low p.1 past
          | inr past ↦ not_past q.0 two.high q.1 past
        ]
      where
        not_past : (k v : ℕ) → slice_get facts k ≡ Some (fact two.cell v) → i ≤ k → ⊥
        not_past k v e past =
            let later : Before f (fact two.cell v) = at_places (i - 1) k f (fact two.cell v) (omega arith) at e in
            let sooner : Before (fact two.cell v) f = of_cells (fact two.cell v) f earlier in
            not_before_itself f (before_trans f (fact two.cell v) f later sooner)

    pub pair_found : AreFirstTwoWords (λ f. IsIn facts f) f.cell f.value g.value
    pair_found = record {
      low_holds = IsIn-slice_get facts (i - 1) f at;
      high_holds = let Q : Cell → Type 0 = λ c. IsIn facts (fact c g.value) in subst Q (sym same) (IsIn-slice_get facts i g there);
      rising = (behind f g (at_places (i - 1) i f g (omega arith) at there)).word (ap (λ (c : Cell). c.net) same) (ap (λ (c : Cell). c.cycle) same);
      least = least_two;
      first = first_cell;
    }

-- one fact more in its place
IsIn-insert : (xs : List Fact) (n : ℕ) (f g : Fact) → IsIn (insert xs n f) g ↔ ((f ≡ g) ⊎ IsIn xs g)
IsIn-insert [] n f g = (λ h. into n h, λ h. out n h) where
  into : (n : ℕ) → IsIn (insert [] n f) g → (f ≡ g) ⊎ IsIn [] g
  into zero h = h
  into (suc n) h = h

  out : (n : ℕ) → (f ≡ g) ⊎ IsIn [] g → IsIn (insert [] n f) g
  out zero h = h
  out (suc n) h = h
IsIn-insert (x ∷ xs) zero f g = (λ h. h, λ h. h)
IsIn-insert (x ∷ xs) (suc n) f g = (
  λ h. elim h [ inl e ↦ inr (inl e) | inr k ↦ elim ((IsIn-insert xs n f g).0 k) [ inl e ↦ inl e | inr j ↦ inr (inr j) ] ],
  λ h. elim h [ inl e ↦ inr ((IsIn-insert xs n f g).1 (inl e)) | inr k ↦ elim k [ inl e ↦ inl e | inr j ↦ inr ((IsIn-insert xs n f g).1 (inr j)) ] ],
)

pub HasPut-insert : (f : Fact) (xs : List Fact) (n : ℕ) → HasPut f xs (insert xs n f)
HasPut-insert f xs n g = IsIn-insert xs n f g

pub AreInOrder-insert : (xs : List Fact) (f : Fact) (n : ℕ) → AreInOrder xs → n ≤ length xs → AreBefore xs f n → AreFrom xs f n → (slice_get xs n ≡ Some f → ⊥) → AreInOrder (insert xs n f)
AreInOrder-insert [] f zero rising low less after new = (λ y h. absurd h, tt)
AreInOrder-insert [] f (suc n) rising low less after new = absurd (omega arith)
AreInOrder-insert (x ∷ xs) f zero rising low less after new = (first, rising) where
  is_next : Before f x
  is_next = elim (cases_Bool (is_fact_before f x)) [
    | inl is ↦ is
    | inr never ↦ absurd (new (ap Some (same_fact x f (after 0 x (omega arith) refl) never)))
  ]

  first : (y : Fact) → IsIn (x ∷ xs) y → Before f y
  first y (inl e) = subst (λ (y : Fact). Before f y) e is_next
  first y (inr h) = before_trans f x y is_next (rising.0 y h)
AreInOrder-insert (x ∷ xs) f (suc n) rising low less after new = (
  λ y h. elim ((IsIn-insert xs n f y).0 h) [
    | inl e ↦ subst (λ (y : Fact). Before x y) e (less 0 x (omega arith) refl)
    | inr k ↦ rising.0 y k
  ],
  AreInOrder-insert xs f n rising.1 (omega arith) (λ k g below e. less (suc k) g (omega arith) e) (λ k g above e. after (suc k) g (omega arith) e) new,
)

-- the word that stands at a cell's place, told of the whole list
pub word_found : (facts : List Fact) → AreInOrder facts → (c : Cell) (place : ℕ) → IsPlaceOf facts (fact c 0) place → (o : Option ℕ)
    → MatchOption o ((v : ℕ) → slice_get facts place ≡ Some (fact c v) → ⊥) (λ v. slice_get facts place ≡ Some (fact c v)) → MatchOption o ((v : ℕ) → IsIn facts (fact c v) → ⊥) (λ v. IsIn facts (fact c v))
word_found facts rising c place p None none = λ v h. let r : (w : ℕ) × (slice_get facts place ≡ Some (fact c w)) = word_at_place facts rising c place v p h in none r.0 r.1
word_found facts rising c place p (Some v) at = IsIn-slice_get facts place (fact c v) at

-- what is read where no fact stands
abbrev pub no_fact : Fact
no_fact = fact (record { net = 0; cycle = 0 }) 0
