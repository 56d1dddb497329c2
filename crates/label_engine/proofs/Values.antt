-- The words of a cell that have an environment inside a mask.
use Rattle.std.proofs.Common.{◌≡◌, ℕ, ◌<◌, ◌≤◌, ◌⊎◌, inl, inr, Bool, ◌&&◌, min, IsTrue, IfSome, refl, sym, ap, subst, ◌∙◌, Option, Some, None, List, length, slice_get, arith}
use Rattle.std.specs.Option.{option_map}
use Rattle.std.proofs.lemmas.Bool.{and_parts, and_from, cases_lt}
use Rattle.std.proofs.lemmas.Option.{slice_get-map, slice_get_within}
use Rattle.std.proofs.lemmas.Bool.Decides.{nat_tests}
use Rattle.circuit_model.specs.declared.model.Cell.{Cell}
use Rattle.circuit_model.specs.declared.model.Fact.{Fact}
use Rattle.circuit_model.specs.Closure.{fact}
use Rattle.circuit_model.specs.Present.{is_cell}
use Rattle.environment_sets.specs.Families.{IsCovered}
use Rattle.circuit_model.proofs.SameCells.{cell_itself}
use Rattle.environment_sets.specs.declared.environment.TheConstants.{SLOTS}
use Rattle.environment_sets.specs.Lists.{IsIn}
use Rattle.environment_sets.specs.Members.{members, HasMember}
use Rattle.environment_sets.specs.Sets.{Set, ◌⊆◌, is_within}
use Rattle.environment_sets.proofs.Counting.{count_by-lt}
use Rattle.environment_sets.proofs.Membership.{IsIn-slice_get, slice_get-IsIn}
use Rattle.environment_sets.proofs.Within.{holds_within}
use Rattle.labelled_nodes.specs.declared.node.Node.{Node}
use Rattle.label_engine.specs.Engine.{Kept, label_of, kept_of}
use Rattle.fact_index.specs.Listed.{GivesLast}
use Rattle.labelled_nodes.specs.Nodes.{facts_of}
use Rattle.label_engine.specs.Questions.{IsAbove, IsNextNumber, GivesNextNumber, HasInside, is_above, is_left, values_left, IsLeft, IsLeastOf}
use Rattle.label_engine.proofs.Kept.{kept_member, node_of, of_node}

-- properties that agree above the last number have the same next one
pub next_number_alike :
    (P Q : ℕ → Type 0) (last : Option ℕ) → ((v : ℕ) → IsAbove last v → P v → Q v) → ((v : ℕ) → IsAbove last v → Q v → P v) → (next : Option ℕ) → GivesNextNumber P last next
    → GivesNextNumber Q last next
next_number_alike P Q last to from None none = λ v q above. none v (from v above q) above
next_number_alike P Q last to from (Some v) next = record { holds = to v next.above next.holds; above = next.above; least = λ u q above. next.least u (from u above q) above }

less_or_more : (a b : ℕ) → ((min a b ≡ a) × (a ≤ b)) ⊎ ((min a b ≡ b) × (b ≤ a))
less_or_more a b = grind arith

-- one number more has the property
module _ (P Q : ℕ → Type 0) (last : Option ℕ) (w : ℕ) (stays : (v : ℕ) → P v → Q v) (here : Q w) (above : IsAbove last w) (only : (v : ℕ) → Q v → P v ⊎ (w ≡ v)) where
  pub next_of_more : (next : Option ℕ) (least : ℕ) → GivesNextNumber P last next → IsLeastOf next w least → GivesNextNumber Q last (Some least)
  next_of_more None least gives is =
      subst (IsNextNumber Q last) (sym is) (record {
        holds = here;
        above = above;
        least = λ u h after. elim (only u h) [ inl before ↦ absurd (gives u before after) | inr e ↦ omega (arith, e) ];
      })
  next_of_more (Some found) least gives is =
      elim (less_or_more found w) [
        | inl lower ↦ subst (IsNextNumber Q last) (sym (is ∙ lower.0)) (record {
          holds = stays found gives.holds;
          above = gives.above;
          least = λ u h after. elim (only u h) [ inl before ↦ gives.least u before after | inr e ↦ omega (arith, e, lower.1) ];
        })
        | inr higher ↦ subst (IsNextNumber Q last) (sym (is ∙ higher.0)) (record {
          holds = here;
          above = above;
          least = λ u h after. elim (only u h) [ inl before ↦ omega (arith, higher.1, gives.least u before after) | inr e ↦ omega (arith, e) ];
        })
      ]

-- a node from the place on has the cell and the word, and an environment of its label is inside the mask
pub record HasFrom (nodes : List Node) (c : Cell) (mask : Set ℕ) (from v : ℕ) : Type 0 where
  pub place : ℕ
  pub node : Node
  pub late : from ≤ place
  pub there : slice_get nodes place ≡ Some node
  pub named : node.fact ≡ fact c v
  pub inside : IsCovered (HasMember node.label) mask

-- what was found is the next word of the nodes from a place on, and the next place is the last one before that with the cell
pub record AreWalked (nodes : List Node) (c : Cell) (mask : Set ℕ) (last found next : Option ℕ) : Type 0 where
  pub from : ℕ
  pub within : from ≤ length nodes
  pub next_is : GivesLast (facts_of nodes) c from next
  pub found_is : GivesNextNumber (HasFrom nodes c mask from) last found

-- a walk from the last node of a cell to the one before it
module _ (nodes : List Node) (c : Cell) (mask : Set ℕ) (last : Option ℕ) where
  abbrev From : ℕ → ℕ → Type 0
  From from = HasFrom nodes c mask from

  -- behind all nodes there is none
  pub begun : (next : Option ℕ) → GivesLast (facts_of nodes) c (length nodes) next → AreWalked nodes c mask last None next
  begun next gives = record {
    from = length nodes;
    within = omega arith;
    next_is = gives;
    found_is = λ v h above. let inside : h.place < length nodes = slice_get_within nodes h.place h.node h.there in omega (arith, inside, h.late);
  }

  module _ (found : Option ℕ) (place : ℕ) (was : AreWalked nodes c mask last found (Some place)) (node : Node) (there : slice_get nodes place ≡ Some node) where
    -- the node is of the cell
    pub cell_at : (next : Option ℕ) → GivesLast (facts_of nodes) node.fact.cell place next → GivesLast (facts_of nodes) c place next
    cell_at next gives =
        let at : slice_get (facts_of nodes) place ≡ Some node.fact = slice_get-map (λ (n : Node). n.fact) nodes place ∙ ap (option_map (λ (n : Node). n.fact)) there in
        let same : was.next_is.at.0 ≡ node.fact = (let e : Some was.next_is.at.0 ≡ Some node.fact = sym was.next_is.at.1 ∙ at in cc) in
        subst (λ (d : Cell). GivesLast (facts_of nodes) d place next) (sym (ap (λ (f : Fact). f.cell) same) ∙ was.next_is.at.2) gives

    later : (v : ℕ) → From was.from v → From place v
    later v h = let before : place < was.from = was.next_is.before in record { place = h.place; node = h.node; late = omega (arith, before, h.late); there = h.there; named = h.named; inside = h.inside }

    -- between the two places no node has the cell
    split : (v : ℕ) → From place v → From was.from v ⊎ ((node.fact ≡ fact c v) × IsCovered (HasMember node.label) mask)
    split v h = elim (cases_lt h.place was.from) [
      | inr late ↦ inl (record { place = h.place; node = h.node; late = late; there = h.there; named = h.named; inside = h.inside })
      | inl early ↦ elim (cases_lt place h.place) [
        | inl between ↦ absurd (was.next_is.last h.place between early (
          h.node.fact,
          slice_get-map (λ (n : Node). n.fact) nodes h.place ∙ ap (option_map (λ (n : Node). n.fact)) h.there,
          ap (λ (f : Fact). f.cell) h.named,
        ))
        | inr low ↦
            let same : h.place ≡ place = omega (arith, low, h.late) in
            let at : slice_get nodes place ≡ Some h.node = subst (λ (k : ℕ). slice_get nodes k ≡ Some h.node) same h.there in
            let one : h.node ≡ node = cc in
            let P : Node → Type 0 = λ n. (n.fact ≡ fact c v) × IsCovered (HasMember n.label) mask in
            inr (subst P one (h.named, h.inside))
      ]
    ]

    walked : (found next : Option ℕ) → GivesLast (facts_of nodes) c place next → GivesNextNumber (From place) last found → AreWalked nodes c mask last found next
    walked found next gives is = record {
      from = place;
      within = (let before : place < was.from = was.next_is.before in let within : was.from ≤ length nodes = was.within in omega (arith, before, within));
      next_is = gives;
      found_is = is;
    }

    -- where the node is not left, what was found is still the next word
    pub passed_over : (next : Option ℕ) → GivesLast (facts_of nodes) c place next → (IsLeft c mask last node → ⊥) → AreWalked nodes c mask last found next
    passed_over next gives out = walked found next gives (next_number_alike (From was.from) (From place) last (λ v _ h. later v h) back found was.found_is)
      where
        back : (v : ℕ) → IsAbove last v → From place v → From was.from v
        back v above h = elim (split v h) [
          | inl before ↦ before
          | inr here ↦
              let P : ℕ → Type 0 = IsAbove last in
              absurd (out (record { cell = ap (λ (f : Fact). f.cell) here.0; above = subst P (sym (ap (λ (f : Fact). f.value) here.0)) above; inside = here.1 }))
        ]

    -- where it is left, the lesser of the two is
    pub taken_in : (next : Option ℕ) (least : ℕ) → GivesLast (facts_of nodes) c place next → IsLeft c mask last node → IsLeastOf found node.fact.value least → AreWalked nodes c mask last (Some least) next
    taken_in next least gives left is =
        walked (Some least) next gives (
        next_of_more (From was.from) (From place) last node.fact.value later
        (record { place = place; node = node; late = omega arith; there = there; named = ap (λ (d : Cell). fact d node.fact.value) left.cell; inside = left.inside })
        left.above
        (λ v h. elim (split v h) [ inl before ↦ inl before | inr here ↦ inr (ap (λ (f : Fact). f.value) here.0) ])
        found least was.found_is is
        )

  -- where no node of the cell comes before, all of its nodes have been passed
  pub all_walked : (found : Option ℕ) → AreWalked nodes c mask last found None → GivesNextNumber (HasInside (kept_of nodes) c mask) last found
  all_walked found was = next_number_alike (From was.from) (HasInside (kept_of nodes) c mask) last (λ v _ h. kept v h) (λ v _ h. back v h) found was.found_is
    where
      kept : (v : ℕ) → From was.from v → HasInside (kept_of nodes) c mask v
      kept v h =
          let P : Fact → Type 0 = λ f. IsCovered (HasMember (label_of (kept_of nodes) f)) mask in
          subst P h.named (h.inside.0, of_node nodes h.node h.inside.0 (IsIn-slice_get nodes h.place h.node h.there) h.inside.1, h.inside.2)

      back : (v : ℕ) → HasInside (kept_of nodes) c mask v → From was.from v
      back v h =
          let n : (n : Node) × IsIn nodes n × (n.fact ≡ fact c v) × HasMember n.label h.0 = node_of nodes (fact c v) h.0 h.1 in
          let at : (k : ℕ) × (slice_get nodes k ≡ Some n.0) = slice_get-IsIn nodes n.0 n.1 in
          record {
            place = at.0;
            node = n.0;
            late = elim (cases_lt at.0 was.from) [
              | inl early ↦ absurd (was.next_is at.0 early (
                n.0.fact,
                slice_get-map (λ (m : Node). m.fact) nodes at.0 ∙ ap (option_map (λ (m : Node). m.fact)) at.1,
                ap (λ (f : Fact). f.cell) n.2,
              ))
              | inr late ↦ late
            ];
            there = at.1;
            named = n.2;
            inside = (h.0, n.3, h.2);
          }

-- the tests
above_holds : (last : Option ℕ) (v : ℕ) → IsTrue (is_above last v) → IsAbove last v
above_holds None v h = tt
above_holds (Some last) v h = grind (arith, nat_tests)

is_above_of : (last : Option ℕ) (v : ℕ) → IsAbove last v → IsTrue (is_above last v)
is_above_of None v h = refl
is_above_of (Some last) v h = grind (arith, nat_tests)

above_along : (last : Option ℕ) (v u : ℕ) → IsAbove last v → v < u → IsAbove last u
above_along None v u h less = tt
above_along (Some last) v u h less = omega arith

-- fewer are left after a further word than after the last one
module _ (kept : List Kept) (c : Cell) (mask : Set ℕ) (last : Option ℕ) where
  still_left : (v : ℕ) → IsAbove last v → (k : Kept) → IsTrue (is_left c mask (Some v) k) → IsTrue (is_left c mask last k)
  still_left v above k h =
      let of_cell : Bool = is_cell k.fact.cell c in
      let inside : Bool = is_within SLOTS (members k.env) mask in
      let parts : IsTrue (of_cell && is_above (Some v) k.fact.value) × IsTrue inside = and_parts _ inside h in
      let both : IsTrue of_cell × IsTrue (is_above (Some v) k.fact.value) = and_parts of_cell _ parts.0 in
      and_from _ inside (and_from of_cell _ both.0 (is_above_of last k.fact.value (above_along last v k.fact.value above (above_holds (Some v) k.fact.value both.1)))) parts.1

  not_left : (v : ℕ) (k : Kept) → k.fact ≡ fact c v → IsTrue (is_left c mask (Some v) k) → ⊥
  not_left v k same h =
      let of_cell : Bool = is_cell k.fact.cell c in
      let inside : Bool = is_within SLOTS (members k.env) mask in
      let less : v < k.fact.value = above_holds (Some v) k.fact.value (and_parts of_cell _ (and_parts _ inside h).0).1 in
      let value : k.fact.value ≡ v = ap (λ (f : Fact). f.value) same in
      omega (arith, less, value)

  was_left : (v : ℕ) → IsAbove last v → (k : Kept) → k.fact ≡ fact c v → members k.env ⊆ mask → IsTrue (is_left c mask last k)
  was_left v above k same inside =
      let P : Fact → Type 0 = λ f. IsTrue (is_cell f.cell c && is_above last f.value) in
      and_from _ (is_within SLOTS (members k.env) mask)
      (subst P (sym same) (and_from (is_cell c c) _ (cell_itself c) (is_above_of last v above)))
      (holds_within SLOTS (members k.env) mask inside)

  pub fewer_left : (next : Option ℕ) → GivesNextNumber (HasInside kept c mask) last next → IfSome next (λ v. values_left kept c mask (Some v) < values_left kept c mask last)
  fewer_left None none = tt
  fewer_left (Some v) next =
      let E : IsCovered (HasMember (label_of kept (fact c v))) mask = next.holds in
      let k : (k : Kept) × IsIn kept k × (k.fact ≡ fact c v) × (members k.env ≡ E.0) = kept_member kept (fact c v) E.0 E.1 in
      let P : Set ℕ → Type 0 = λ F. F ⊆ mask in
      count_by-lt (is_left c mask (Some v)) (is_left c mask last) (still_left v next.above) kept k.0 k.1 (not_left v k.0 k.2) (was_left v next.above k.0 k.2 (subst P (sym k.3) E.2))
