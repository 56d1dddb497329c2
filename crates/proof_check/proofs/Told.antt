-- What is inferred from, and how it is told.
use Rattle.std.proofs.Common.{◌≡◌, ◌↔◌, Bool, IsTrue, ℕ, zero, suc, ◌<◌, ◌≤◌, ◌^◌, ◌⊎◌, inl, inr, List, [], ◌∷◌, length, Option, Some, None, slice_get, get_or, refl, sym, ap, ap₂, subst, ◌∙◌, arith}
use Rattle.std.specs.Option.{option_map}
use Rattle.std.proofs.lemmas.Option.{slice_get-get_or, slice_get_within}
use Rattle.environment_sets.specs.Sets.{Set}
use Rattle.environment_sets.specs.Lists.{IsIn}
use Rattle.circuit_model.specs.declared.model.Cell.{Cell}
use Rattle.circuit_model.specs.declared.model.Fact.{Fact}
use Rattle.circuit_model.specs.declared.model.Instance.{Instance}
use Rattle.circuit_model.specs.Closure.{fact, AreHeld}
use Rattle.circuit_model.specs.Inference.{Forces, Refutes, IsInference, WordsFit}
use Rattle.circuit_model.specs.Diagnoses.{Place}
use Rattle.circuit_model.specs.Derivation.{Justification, number_of, facts_at, Justifies, JustifiesClash}
use Rattle.circuit_model.specs.Present.{PresentView, width_of, circuit_of}
use Rattle.circuit_model.proofs.Derivations.{IsIn-facts_at}
use Rattle.proof_check.specs.declared.written.TheConstants.{CHOICES}
use Rattle.proof_check.specs.Written.{given, at_two_places}
use Rattle.proof_check.specs.Checking.{words_at_choice, AreWords, AreAlike, IsInstanceOf, IsPlaced, IsPremise}

pub length-given : (places : List (Option Fact)) → length (given places) ≤ length places
length-given [] = omega arith
length-given (None ∷ places) = omega (arith, length-given places)
length-given (Some f ∷ places) = omega (arith, length-given places)

-- two facts, at two places and read back
pub given-at_two_places : (facts : List Fact) → length facts ≤ 2 → given (at_two_places facts) ≡ facts
given-at_two_places [] few = refl
given-at_two_places (f ∷ []) few = refl
given-at_two_places (f ∷ g ∷ []) few = refl
given-at_two_places (f ∷ g ∷ h ∷ facts) few = absurd (omega arith)

-- three elements
pub record AreThree {X : Type 0} (xs : List X) : Type 0 where
  pub a : X
  pub b : X
  pub z : X
  pub are : xs ≡ a ∷ b ∷ z ∷ []

pub three_of : {X : Type 0} (xs : List X) → length xs ≡ 3 → AreThree xs
three_of [] e = absurd (omega arith)
three_of (a ∷ []) e = absurd (omega arith)
three_of (a ∷ b ∷ []) e = absurd (omega arith)
three_of (a ∷ b ∷ z ∷ []) e = record { a = a; b = b; z = z; are = refl }
three_of (a ∷ b ∷ z ∷ y ∷ rest) e = absurd (omega arith)

module _ (Q : List Cell → List (Option ℕ) → Type 0) (all : (c d e : Cell) (a b z : Option ℕ) → Q (c ∷ d ∷ e ∷ []) (a ∷ b ∷ z ∷ [])) where
  -- what holds of three cells and three words
  pub by_threes : (cells : List Cell) (known : List (Option ℕ)) → length cells ≡ 3 → length known ≡ 3 → Q cells known
  by_threes cells known three wide =
      let cs : AreThree cells = three_of cells three in
      let ws : AreThree known = three_of known wide in
      let R : List (Option ℕ) → Type 0 = λ known. Q cells known in
      let S : List Cell → Type 0 = λ cells. Q cells (ws.a ∷ ws.b ∷ ws.z ∷ []) in
      subst R (sym ws.are) (subst S (sym cs.are) (all cs.a cs.b cs.z ws.a ws.b ws.z))

facts_of_three : (c d e : Cell) (a b z : Option ℕ) → facts_at (c ∷ d ∷ e ∷ []) (a ∷ b ∷ z ∷ []) ≡ given (option_map (λ x. fact c x) a ∷ option_map (λ x. fact d x) b ∷ option_map (λ x. fact e x) z ∷ [])
facts_of_three c d e None None None = refl
facts_of_three c d e None None (Some z) = refl
facts_of_three c d e None (Some b) None = refl
facts_of_three c d e None (Some b) (Some z) = refl
facts_of_three c d e (Some a) None None = refl
facts_of_three c d e (Some a) None (Some z) = refl
facts_of_three c d e (Some a) (Some b) None = refl
facts_of_three c d e (Some a) (Some b) (Some z) = refl

-- the facts at three places
pub facts_at-three : (cells : List Cell) (known : List (Option ℕ)) (p q r : Cell) (u v w : Option ℕ) → length cells ≡ 3 → length known ≡ 3
    → facts_at cells known ≡ given (option_map (λ x. fact (get_or cells 0 p) x) (get_or known 0 u) ∷ option_map (λ x. fact (get_or cells 1 q) x) (get_or known 1 v) ∷ option_map (λ x. fact (get_or cells 2 r) x) (get_or known 2 w) ∷ [])
facts_at-three cells known p q r u v w = by_threes
    (λ (cells : List Cell) (known : List (Option ℕ)). facts_at cells known ≡ given (option_map (λ x. fact (get_or cells 0 p) x) (get_or known 0 u) ∷ option_map (λ x. fact (get_or cells 1 q) x) (get_or known 1 v) ∷ option_map (λ x. fact (get_or cells 2 r) x) (get_or known 2 w) ∷ []))
    facts_of_three cells known

-- three facts, each of a place
pub facts_given : (cells : List Cell) (known : List (Option ℕ)) (c : Cell) (o : Option ℕ) (x y z : Option Fact) → length cells ≡ 3 → length known ≡ 3
    → x ≡ option_map (λ v. fact (get_or cells 0 c) v) (get_or known 0 o) → y ≡ option_map (λ v. fact (get_or cells 1 c) v) (get_or known 1 o) → z ≡ option_map (λ v. fact (get_or cells 2 c) v) (get_or known 2 o)
    → given (x ∷ y ∷ z ∷ []) ≡ facts_at cells known
facts_given cells known c o x y z three wide at_x at_y at_z = let all = facts_at-three cells known c c c o o o three wide in cc

few_of_three : (c d e : Cell) (a b z : Option ℕ) → number_of (a ∷ b ∷ z ∷ []) < 7 → length (facts_at (c ∷ d ∷ e ∷ []) (a ∷ b ∷ z ∷ [])) ≤ 2
few_of_three c d e None None None low = omega arith
few_of_three c d e None None (Some z) low = omega arith
few_of_three c d e None (Some b) None low = omega arith
few_of_three c d e None (Some b) (Some z) low = omega arith
few_of_three c d e (Some a) None None low = omega arith
few_of_three c d e (Some a) None (Some z) low = omega arith
few_of_three c d e (Some a) (Some b) None low = omega arith
few_of_three c d e (Some a) (Some b) (Some z) low = absurd (omega arith)

-- where some port is left out there are at most two facts
pub facts_at-few : (cells : List Cell) (known : List (Option ℕ)) → length cells ≡ 3 → length known ≡ 3 → number_of known < 7 → length (facts_at cells known) ≤ 2
facts_at-few cells known = by_threes (λ (cells : List Cell) (known : List (Option ℕ)). number_of known < 7 → length (facts_at cells known) ≤ 2) few_of_three cells known

low_of_three : (c d e : Cell) (a b z : Option ℕ) → length (facts_at (c ∷ d ∷ e ∷ []) (a ∷ b ∷ z ∷ [])) ≤ 2 → number_of (a ∷ b ∷ z ∷ []) < 7
low_of_three c d e None None None few = omega arith
low_of_three c d e None None (Some z) few = omega arith
low_of_three c d e None (Some b) None few = omega arith
low_of_three c d e None (Some b) (Some z) few = omega arith
low_of_three c d e (Some a) None None few = omega arith
low_of_three c d e (Some a) None (Some z) few = omega arith
low_of_three c d e (Some a) (Some b) None few = omega arith
low_of_three c d e (Some a) (Some b) (Some z) few = absurd (omega arith)

-- where there are at most two facts, some port is left out
pub number_of-low : (cells : List Cell) (known : List (Option ℕ)) → length cells ≡ 3 → length known ≡ 3 → length (facts_at cells known) ≤ 2 → number_of known < 7
number_of-low cells known = by_threes (λ (cells : List Cell) (known : List (Option ℕ)). length (facts_at cells known) ≤ 2 → number_of known < 7) low_of_three cells known

read_of_three : (c d e : Cell) (a b z : Option ℕ) → number_of (a ∷ b ∷ z ∷ []) < 7 → words_at_choice (get_or CHOICES (number_of (a ∷ b ∷ z ∷ [])) []) (at_two_places (facts_at (c ∷ d ∷ e ∷ []) (a ∷ b ∷ z ∷ []))) ≡ a ∷ b ∷ z ∷ []
read_of_three c d e None None None low = refl
read_of_three c d e None None (Some z) low = refl
read_of_three c d e None (Some b) None low = refl
read_of_three c d e None (Some b) (Some z) low = refl
read_of_three c d e (Some a) None None low = refl
read_of_three c d e (Some a) None (Some z) low = refl
read_of_three c d e (Some a) (Some b) None low = refl
read_of_three c d e (Some a) (Some b) (Some z) low = absurd (omega arith)

-- the number of the ports and the facts at them tell the words
pub words_told : (cells : List Cell) (known : List (Option ℕ)) → length cells ≡ 3 → length known ≡ 3 → number_of known < 7 → words_at_choice (get_or CHOICES (number_of known) []) (at_two_places (facts_at cells known)) ≡ known
words_told cells known = by_threes (λ (cells : List Cell) (known : List (Option ℕ)). number_of known < 7 → words_at_choice (get_or CHOICES (number_of known) []) (at_two_places (facts_at cells known)) ≡ known) read_of_three cells known

module _ (ports : ℕ) (from : List Fact) (cells : List Cell) (three : length cells ≡ 3) (few : length from ≤ 2) where
  pub words_low : (known : List (Option ℕ)) → AreWords ports from cells known → ports < 7
  words_low known w =
      let low : number_of known < 7 = number_of-low cells known three w.wide (let Q : List Fact → Type 0 = λ fs. length fs ≤ 2 in subst Q w.told few) in
      rw w.number low

  -- so there are at most one
  pub words_are : (known : List (Option ℕ)) → AreWords ports from cells known → words_at_choice (get_or CHOICES ports []) (at_two_places from) ≡ known
  words_are known w =
      let low : number_of known < 7 = number_of-low cells known three w.wide (let Q : List Fact → Type 0 = λ fs. length fs ≤ 2 in subst Q w.told few) in
      let read = words_told cells known three w.wide low in
      ap₂ (λ (n : ℕ) (fs : List Fact). words_at_choice (get_or CHOICES n []) (at_two_places fs)) w.number w.told ∙ read

-- a fact at a port is its known word
pub facts_at-there : (cells : List Cell) (known : List (Option ℕ)) (f : Fact) → IsIn (facts_at cells known) f → (p : ℕ) × (slice_get known p ≡ Some (Some f.value)) × (slice_get cells p ≡ Some f.cell)
facts_at-there [] [] f h = absurd h
facts_at-there [] (None ∷ known) f h = absurd h
facts_at-there [] (Some v ∷ known) f h = absurd h
facts_at-there (c ∷ cells) [] f h = absurd h
facts_at-there (c ∷ cells) (None ∷ known) f h = let r = facts_at-there cells known f h in (suc r.0, r.1, r.2)
facts_at-there (c ∷ cells) (Some v ∷ known) f (inl e) = (0, ap (λ (f : Fact). Some (Some f.value)) e, ap (λ (f : Fact). Some f.cell) e)
facts_at-there (c ∷ cells) (Some v ∷ known) f (inr h) = let r = facts_at-there cells known f h in (suc r.0, r.1, r.2)

module _ (H : Fact → Type 0) (cells : List Cell) (known : List (Option ℕ)) where
  pub held_alike : AreHeld H cells known → AreAlike (facts_at cells known)
  held_alike h f g at_f at_g same =
      let p : (p : ℕ) × (slice_get known p ≡ Some (Some f.value)) × (slice_get cells p ≡ Some f.cell) = facts_at-there cells known f at_f in
      let q : (p : ℕ) × (slice_get known p ≡ Some (Some g.value)) × (slice_get cells p ≡ Some g.cell) = facts_at-there cells known g at_g in
      h.alike p.0 q.0 f.value g.value f.cell p.1 p.2 q.1 (q.2 ∙ ap Some (sym same))

  pub held_facts : AreHeld H cells known → (f : Fact) → IsIn (facts_at cells known) f → H f
  held_facts h f at =
      let p : (p : ℕ) × (slice_get known p ≡ Some (Some f.value)) × (slice_get cells p ≡ Some f.cell) = facts_at-there cells known f at in
      h.held p.0 f.value f.cell p.1 p.2

  pub held_from : length known ≡ 3 → AreAlike (facts_at cells known) → ((f : Fact) → IsIn (facts_at cells known) f → H f) → AreHeld H cells known
  held_from wide alike hold = record {
    wide = wide;
    held = λ p v c k e. hold (fact c v) (IsIn-facts_at cells known p v c k e);
    alike = λ p q v w c k e l f. alike (fact c v) (fact c w) (IsIn-facts_at cells known p v c k e) (IsIn-facts_at cells known q w c l f) refl;
  }

module _ (s : PresentView) (E : Set Place) (H : Fact → Type 0) (j : Justification) where
  pub justified : (f : Fact) → (h : Justifies (circuit_of s) E H f j) → IsPremise s E H j h.instance h.known
  justified f h = record { of_instance = h.of_instance; held = h.held }

  pub refuted : (h : JustifiesClash (circuit_of s) E H j) → IsPremise s E H j h.instance h.known
  refuted h = record { of_instance = h.of_instance; held = h.held }

  module _ (instance : Instance) (known : List (Option ℕ)) (p : IsPremise s E H j instance known) where
    pub premise_instance : IsInstanceOf s E j.part j.instance instance
    premise_instance = record { chosen = p.of_instance.assumed; part = p.of_instance.part; at_position = p.of_instance.at_position; at_place = p.of_instance.at_place }

    pub premise_words : AreWords j.ports j.from instance.cells known
    premise_words = record { wide = p.held.wide; number = p.of_instance.ports; told = p.of_instance.from }

    pub premise_alike : AreAlike j.from
    premise_alike = let Q : List Fact → Type 0 = λ fs. AreAlike fs in subst Q (sym p.of_instance.from) (held_alike H instance.cells known p.held)

    pub premise_holds : (f : Fact) → IsIn j.from f → H f
    premise_holds f h = held_facts H instance.cells known p.held f (let Q : List Fact → Type 0 = λ fs. IsIn fs f in subst Q p.of_instance.from h)

    -- the words fit the widths
    pub premise_fits : IsPlaced s instance → ((f : Fact) → H f → f.value < 2 ^ width_of s f.cell.net) → WordsFit instance.widths known
    premise_fits at fit q w v width there =
        let inside : q < length instance.widths = slice_get_within instance.widths q w width in
        let no_cell : Cell = record { net = 0; cycle = 0 } in
        let c : Cell = get_or instance.cells q no_cell in
        let cell : slice_get instance.cells q ≡ Some c = slice_get-get_or instance.cells q no_cell (omega (arith, at.three, at.widths)) in
        rw (at.of_width q w c cell width) (fit (fact c v) (p.held.held q v c there cell))

  -- an instance and words at its ports that hold
  pub premise_of : (instance : Instance) (known : List (Option ℕ)) → IsInstanceOf s E j.part j.instance instance → AreWords j.ports j.from instance.cells known → AreAlike j.from → ((f : Fact) → IsIn j.from f → H f) → IsPremise s E H j instance known
  premise_of instance known i w alike hold = record {
    of_instance = record { assumed = i.chosen; part = i.part; at_position = i.at_position; at_place = i.at_place; ports = w.number; from = w.told };
    held =
        let A : List Fact → Type 0 = λ fs. AreAlike fs in
        let H' : List Fact → Type 0 = λ fs. (f : Fact) → IsIn fs f → H f in
        held_from H instance.cells known w.wide (subst A w.told alike) (subst H' w.told hold);
  }

  same_instance : (i k : Instance) → IsInstanceOf s E j.part j.instance i → IsInstanceOf s E j.part j.instance k → i ≡ k
  same_instance i k a b =
      let part : a.part ≡ b.part = let x = a.at_position in let y = b.at_position in cc in
      let there : slice_get b.part j.instance ≡ Some i = let Q : List Instance → Type 0 = λ p. slice_get p j.instance ≡ Some i in subst Q part a.at_place in
      let other = b.at_place in
      cc

  -- there is one instance, with one choice of words
  pub one_premise : (Q : Instance → List (Option ℕ) → Type 0) (i k : Instance) (known words : List (Option ℕ)) → length k.cells ≡ 3 → length j.from ≤ 2 → IsPremise s E H j i known → IsPremise s E H j k words → Q i known → Q k words
  one_premise Q i k known words three few a b q =
      let is : i ≡ k = same_instance i k (premise_instance i known a) (premise_instance k words b) in
      let a' : IsPremise s E H j k known = let R : Instance → Type 0 = λ i. IsPremise s E H j i known in subst R is a in
      let first : words_at_choice (get_or CHOICES j.ports []) (at_two_places j.from) ≡ known = words_are j.ports j.from k.cells three few known (premise_words k known a') in
      let second : words_at_choice (get_or CHOICES j.ports []) (at_two_places j.from) ≡ words = words_are j.ports j.from k.cells three few words (premise_words k words b) in
      let S : Instance → Type 0 = λ i. Q i known in
      let T : List (Option ℕ) → Type 0 = λ words. Q k words in
      subst T (sym first ∙ second) (subst S is q)

  module _ (instance : Instance) (known : List (Option ℕ)) (p : IsPremise s E H j instance known) (three : length instance.cells ≡ 3) (few : length j.from ≤ 2) (refutes : Bool) (forced : List (Option ℕ)) (said : IsInference instance.prim instance.widths known refutes forced) where
    -- the inference forces the fact exactly where its word is said at a port of its cell
    pub forces_exactly : (f : Fact) → ((port : ℕ) × (slice_get instance.cells port ≡ Some f.cell) × (slice_get forced port ≡ Some (Some f.value))) ↔ Justifies (circuit_of s) E H f j
    forces_exactly f = (
      λ r. record {
        instance = instance;
        known = known;
        of_instance = p.of_instance;
        held = p.held;
        port = r.0;
        at = r.1;
        forces = (said.forces_exactly r.0 f.value).0 r.2;
      },
      λ h.
          let r : (port : ℕ) × (slice_get instance.cells port ≡ Some f.cell) × Forces instance.prim instance.widths known port f.value =
          one_premise (λ (i : Instance) (known : List (Option ℕ)). (port : ℕ) × (slice_get i.cells port ≡ Some f.cell) × Forces i.prim i.widths known port f.value) h.instance instance h.known known three few (justified f h) p (h.port, h.at, h.forces) in
          (r.0, r.1, (said.forces_exactly r.0 f.value).1 r.2),
    )

    -- it refutes exactly where that is said
    pub refutes_exactly : IsTrue refutes ↔ JustifiesClash (circuit_of s) E H j
    refutes_exactly = (
      λ r. record {
        instance = instance;
        known = known;
        of_instance = p.of_instance;
        held = p.held;
        refutes = said.refutes_exactly.0 r;
      },
      λ h. said.refutes_exactly.1 (one_premise (λ (i : Instance) (known : List (Option ℕ)). Refutes i.prim i.widths known) h.instance instance h.known known three few (refuted h) p h.refutes),
    )

-- the words at a choice of ports are the known ones, if there are such
pub words_same : (ports : ℕ) (places : List (Option Fact)) (cells : List Cell) (facts : List (Option Fact)) (words : List (Option ℕ)) → length places ≡ 2 → length cells ≡ 3 → facts ≡ at_two_places (given places) → words ≡ words_at_choice (get_or CHOICES ports []) facts → (known : List (Option ℕ)) → AreWords ports (given places) cells known → words ≡ known
words_same ports places cells facts words two three told made known w =
    let few : length (given places) ≤ 2 = omega (arith, length-given places) in
    let is : words_at_choice (get_or CHOICES ports []) (at_two_places (given places)) ≡ known = words_are ports (given places) cells three few known w in
    made ∙ (ap (λ (fs : List (Option Fact)). words_at_choice (get_or CHOICES ports []) fs) told ∙ is)

-- the facts of a choice that was made are those at the ports
pub words_good : (ports : ℕ) (places : List (Option Fact)) (cells : List Cell) (facts others : List (Option Fact)) (known : List (Option ℕ)) → length places ≡ 2 → length cells ≡ 3 → length known ≡ 3 → ports < 7 → ports ≡ number_of known → facts ≡ at_two_places (given places) → others ≡ at_two_places (facts_at cells known) → others ≡ facts → AreWords ports (given places) cells known
words_good ports places cells facts others known two three wide low number told read same =
    let few : length (given places) ≤ 2 = omega (arith, length-given places) in
    let fewer : length (facts_at cells known) ≤ 2 = facts_at-few cells known three wide (rw (← number) low) in
    let first = given-at_two_places (given places) few in
    let second = given-at_two_places (facts_at cells known) fewer in
    record { wide = wide; number = number; told = cc }

-- each choice is of three places
pub length-choice : (ports : ℕ) → ports < 7 → length (get_or CHOICES ports []) ≡ 3
length-choice zero low = refl
length-choice (suc zero) low = refl
length-choice (suc (suc zero)) low = refl
length-choice (suc (suc (suc zero))) low = refl
length-choice (suc (suc (suc (suc zero)))) low = refl
length-choice (suc (suc (suc (suc (suc zero))))) low = refl
length-choice (suc (suc (suc (suc (suc (suc zero)))))) low = refl
length-choice (suc (suc (suc (suc (suc (suc (suc ports))))))) low = absurd (omega arith)

pub length-at_two_places : (facts : List Fact) → length (at_two_places facts) ≡ 2
length-at_two_places [] = refl
length-at_two_places (f ∷ []) = refl
length-at_two_places (f ∷ g ∷ rest) = refl

pub length-words_at_choice : (choice : List Bool) (places : List (Option Fact)) → length choice ≡ 3 → length places ≡ 2 → length (words_at_choice choice places) ≡ 3
length-words_at_choice (a ∷ b ∷ z ∷ []) (f ∷ g ∷ []) three two = refl
length-words_at_choice (a ∷ b ∷ z ∷ []) [] three two = absurd (omega arith)
length-words_at_choice (a ∷ b ∷ z ∷ []) (f ∷ []) three two = absurd (omega arith)
length-words_at_choice (a ∷ b ∷ z ∷ []) (f ∷ g ∷ h ∷ rest) three two = absurd (omega arith)
length-words_at_choice [] places three two = absurd (omega arith)
length-words_at_choice (a ∷ []) places three two = absurd (omega arith)
length-words_at_choice (a ∷ b ∷ []) places three two = absurd (omega arith)
length-words_at_choice (a ∷ b ∷ z ∷ y ∷ rest) places three two = absurd (omega arith)

-- two facts
agree_two : (a b : Option Fact) (f g : Fact) → a ≡ Some f → b ≡ Some g → (f.cell ≡ g.cell → f ≡ g) ↔ AreAlike (given (a ∷ b ∷ []))
agree_two (Some p) (Some q) f g e k =
    let x : p ≡ f = cc in
    let y : q ≡ g = cc in
    let Q : Fact → Fact → Type 0 = λ f g. (f.cell ≡ g.cell → f ≡ g) ↔ AreAlike (p ∷ q ∷ []) in
    subst (λ (g : Fact). Q f g) y (subst (λ (f : Fact). Q f q) x (to, from))
  where
    to : (p.cell ≡ q.cell → p ≡ q) → AreAlike (p ∷ q ∷ [])
    to h f g (inl a) (inl b) same = let u = a in let v = b in cc
    to h f g (inl a) (inr (inl b)) same = let u = a in let v = b in let t : p.cell ≡ q.cell = cc in let is = h t in cc
    to h f g (inr (inl a)) (inl b) same = let u = a in let v = b in let t : p.cell ≡ q.cell = cc in let is = h t in cc
    to h f g (inr (inl a)) (inr (inl b)) same = let u = a in let v = b in cc
    to h f g (inl a) (inr (inr b)) same = absurd b
    to h f g (inr (inl a)) (inr (inr b)) same = absurd b
    to h f g (inr (inr a)) at same = absurd a

    from : AreAlike (p ∷ q ∷ []) → p.cell ≡ q.cell → p ≡ q
    from h same = ap₂ fact same (h p q (inl refl) (inr (inl refl)) same)
agree_two None b f g e k = cc
agree_two (Some p) None f g e k = cc

pub record ArePair {X : Type 0} (d : X) (xs : List X) : Type 0 where
  pub are : xs ≡ get_or xs 0 d ∷ get_or xs 1 d ∷ []

pub pair_of : {X : Type 0} (d : X) (xs : List X) → length xs ≡ 2 → ArePair d xs
pair_of d [] e = absurd (omega arith)
pair_of d (a ∷ []) e = absurd (omega arith)
pair_of d (a ∷ b ∷ []) e = record { are = refl }
pair_of d (a ∷ b ∷ z ∷ rest) e = absurd (omega arith)

pub alike_two : (places : List (Option Fact)) (f g : Fact) → length places ≡ 2 → get_or places 0 None ≡ Some f → get_or places 1 None ≡ Some g → (f.cell ≡ g.cell → f ≡ g) ↔ AreAlike (given places)
alike_two places f g two e k =
    let Q : List (Option Fact) → Type 0 = λ ps. (f.cell ≡ g.cell → f ≡ g) ↔ AreAlike (given ps) in
    subst Q (sym (pair_of None places two).are) (agree_two (get_or places 0 None) (get_or places 1 None) f g e k)

alone : (a b : Option Fact) → (a ≡ None) ⊎ (b ≡ None) → AreAlike (given (a ∷ b ∷ []))
alone None None h f g at_f at_g same = absurd at_f
alone None (Some q) h f g (inl a) (inl b) same = let u = a in let v = b in cc
alone None (Some q) h f g (inl a) (inr b) same = absurd b
alone None (Some q) h f g (inr a) b same = absurd a
alone (Some p) None h f g (inl a) (inl b) same = let u = a in let v = b in cc
alone (Some p) None h f g (inl a) (inr b) same = absurd b
alone (Some p) None h f g (inr a) b same = absurd a
alone (Some p) (Some q) (inl e) f g a b same = cc
alone (Some p) (Some q) (inr e) f g a b same = cc

pub alike_alone : (places : List (Option Fact)) → length places ≡ 2 → (get_or places 0 None ≡ None) ⊎ (get_or places 1 None ≡ None) → AreAlike (given places)
alike_alone places two h =
    let Q : List (Option Fact) → Type 0 = λ ps. AreAlike (given ps) in
    subst Q (sym (pair_of None places two).are) (alone (get_or places 0 None) (get_or places 1 None) h)
