-- Changes of antichains.
use Rattle.std.proofs.Common.{◌≡◌, ℕ, ◌<◌, ◌≤◌, inl, inr, Bool, false, not, ◌||◌, IsTrue, ◌↔◌, refl, sym, ap, subst, ◌∙◌, List, [], ◌∷◌, ◌++◌, length, get_or, Option, Some, None, MatchOption, is_some, arith}
use Rattle.std.proofs.lemmas.Bool.{false≢true, and_from, or_left, or_right, eqb-true, both_ways, not-true, not_from_false, false_from_ne_true}
use Rattle.std.proofs.lemmas.List.{length-map}
use Rattle.std.proofs.lemmas.Option.{slice_get-get_or}
use Rattle.std.specs.List.{filter, slice_get}
use Rattle.environment_sets.specs.declared.environment.Env.{Env}
use Rattle.environment_sets.specs.declared.environment.TheConstants.{SLOTS}
use Rattle.environment_sets.specs.Sets.{Set, ◌⊆◌, ◌∪◌, ◌∖◌, only, IsBelow, size_below, is_within}
use Rattle.environment_sets.specs.Families.{IsCovered, Adds, Drops, AreInside}
use Rattle.environment_sets.specs.Members.{members, sets, HasMember}
use Rattle.environment_sets.specs.Lists.{IsIn, AreDistinct, IsRoster}
use Rattle.environment_sets.proofs.Families.{Adds-antichain, Drops-antichain}
use Rattle.environment_sets.proofs.Listings.{sets-push, IsIn-push, IsIn-front, IsIn-last, IsIn-filter, IsIn-kept, IsRising-filter, map-filter}
use Rattle.environment_sets.proofs.Membership.{AreDistinct-push, IsIn-map, map-IsIn, IsIn-slice_get}
use Rattle.environment_sets.proofs.Slots.{slots_are_below}
use Rattle.antichains.specs.Largest.{AreAtMost, AreWithin, ListsAntichain}
use Rattle.antichains.specs.Signed.{HasSubsetAt}
use Rattle.antichains.proofs.Larger.{as_large, filter_keeps}
use Rattle.environment_sets.proofs.Within.{within_holds, holds_within}

-- the test that a set does not contain the environment
abbrev pub leaves_out : Env → Set ℕ → Bool
leaves_out e F = not (is_within SLOTS (members e) F)

-- the test that a set does not have the slot
abbrev pub lacks : ℕ → Set ℕ → Bool
lacks slot F = not (F slot)

pub leaves_out_holds : (e : Env) (F : Set ℕ) → IsTrue (leaves_out e F) → members e ⊆ F → ⊥
leaves_out_holds e F h within = both_ways (is_within SLOTS (members e) F) (not-true (is_within SLOTS (members e) F) h) (holds_within SLOTS (members e) F within)

pub holds_leaves_out : (e : Env) (F : Set ℕ) → (members e ⊆ F → ⊥) → IsTrue (leaves_out e F)
holds_leaves_out e F h = not_from_false (is_within SLOTS (members e) F) (false_from_ne_true (is_within SLOTS (members e) F) (λ is. h (within_holds SLOTS (members e) F (slots_are_below e) is)))

-- what is left by a test is what was there without what fails it
drops_of_filter : (test : Set ℕ → Bool) (P : Set ℕ → Type 0) → ((F : Set ℕ) → IsTrue (test F) → P F → ⊥) → ((F : Set ℕ) → (P F → ⊥) → IsTrue (test F)) → (Es : List (Set ℕ)) → Drops (IsIn Es) (IsIn (filter test Es)) P
drops_of_filter test P fails passes Es F = (
  λ h. let kept : IsIn Es F × IsTrue (test F) = IsIn-filter test Es F h in (kept.0, fails F kept.1),
  λ (member, out). IsIn-kept test Es F member (passes F out),
)

pub record IsLeft (test : Set ℕ → Bool) (old new : List Env) : Type 0 where
  pub filtered : new ≡ filter (λ e. test (members e)) old

sets-left : (test : Set ℕ → Bool) (old new : List Env) → IsLeft test old new → sets new ≡ filter test (sets old)
sets-left test old new left = ap sets left.filtered ∙ map-filter members test old

pub drops-left : (test : Set ℕ → Bool) (P : Set ℕ → Type 0) → ((F : Set ℕ) → IsTrue (test F) → P F → ⊥) → ((F : Set ℕ) → (P F → ⊥) → IsTrue (test F)) → (old new : List Env) → IsLeft test old new → Drops (IsIn (sets old)) (IsIn (sets new)) P
drops-left test P fails passes old new left =
    let Q : List (Set ℕ) → Type 0 = λ Es. Drops (IsIn (sets old)) (IsIn Es) P in subst Q (sym (sets-left test old new left)) (drops_of_filter test P fails passes (sets old))

pub drops_over-left : (e : Env) (old new : List Env) → IsLeft (leaves_out e) old new → Drops (IsIn (sets old)) (IsIn (sets new)) (λ F. members e ⊆ F)
drops_over-left e old new left = drops-left (leaves_out e) (λ F. members e ⊆ F) (leaves_out_holds e) (holds_leaves_out e) old new left

pub drops_slot-left : (slot : ℕ) (old new : List Env) → IsLeft (lacks slot) old new → Drops (IsIn (sets old)) (IsIn (sets new)) (λ F. IsTrue (F slot))
drops_slot-left slot old new left = drops-left (lacks slot) (λ F. IsTrue (F slot)) (λ F h k. both_ways (F slot) (not-true (F slot) h) k) (λ F h. not_from_false (F slot) (false_from_ne_true (F slot) h)) old new left

pub antichain-left : (test : Set ℕ → Bool) (P : Set ℕ → Type 0) (n : ℕ) (old new : List Env) → IsLeft test old new → Drops (HasMember old) (HasMember new) P → ListsAntichain n old → ListsAntichain n new
antichain-left test P n old new left drops (distinct, antichain, at_most) = (
  subst AreDistinct (sym (sets-left test old new left)) (IsRising-filter test (λ x y. x ≡ y → ⊥) (sets old) distinct),
  Drops-antichain (HasMember old) (HasMember new) P drops antichain,
  λ E h. at_most E ((drops E).0 h).0,
)

-- where none has more slots than the environment, and none is a subset of it, none contains it
pub none_left_out : (e : Env) (es : List Env) (n : ℕ) → n ≤ size_below SLOTS (members e) → AreAtMost n (HasMember es) → (IsCovered (HasMember es) (members e) → ⊥) → es ≡ filter (λ m. leaves_out e (members m)) es
none_left_out e es n few at_most uncovered = sym (filter_keeps (λ m. leaves_out e (members m)) es (λ m i. holds_leaves_out e (members m) (λ within.
    let there : HasMember es (members m) = map-IsIn members es m i in
    let size : size_below SLOTS (members m) ≤ n = at_most (members m) there in
    uncovered (members m, there, as_large (members e) (members m) within SLOTS (slots_are_below m) (omega (arith, size, few))))))

pub none_over : (e : Env) (es : List Env) (U : Set ℕ) → AreWithin U (HasMember es) → (members e ⊆ U → ⊥) → es ≡ filter (λ m. leaves_out e (members m)) es
none_over e es U inside out = sym (filter_keeps (λ m. leaves_out e (members m)) es (λ m i. holds_leaves_out e (members m) (λ within. out (λ k h. inside (members m) (map-IsIn members es m i) k (within k h)))))

pub adds-left : (e : Env) (old left new : List Env) → IsLeft (leaves_out e) old left → new ≡ left ++ e ∷ [] → Adds (IsIn (sets old)) (IsIn (sets new)) (members e)
adds-left e old left new is pushed =
    subst (λ (Es : List (Set ℕ)). Adds (IsIn (sets old)) (IsIn Es) (members e)) (sym (ap sets pushed ∙ sets-push left e)) (λ F. (
      λ h. elim (IsIn-push (sets left) (members e) F h) [ inl k ↦ inr ((drops_over-left e old left is F).0 k) | inr same ↦ inl same ],
      λ h. elim h [ inl same ↦ IsIn-last (sets left) (members e) F same | inr k ↦ IsIn-front (sets left) (members e) F ((drops_over-left e old left is F).1 k) ],
    ))

pub antichain-added :
    (e : Env) (old left new : List Env) (n m : ℕ) → IsLeft (leaves_out e) old left → new ≡ left ++ e ∷ [] → (IsCovered (HasMember old) (members e) → ⊥) → n ≤ m → size_below SLOTS (members e) ≤ m → ListsAntichain n old → ListsAntichain m new
antichain-added e old left new n m is pushed uncovered more size (distinct, antichain, at_most) =
    let kept : ListsAntichain n left = antichain-left (leaves_out e) (λ F. members e ⊆ F) n old left is (drops_over-left e old left is) (distinct, antichain, at_most) in
    let apart : IsIn (sets left) (members e) → ⊥ = λ h. ((drops_over-left e old left is (members e)).0 h).1 (λ k inside. inside) in (
      subst AreDistinct (sym (ap sets pushed ∙ sets-push left e)) (AreDistinct-push (sets left) (members e) kept.0 apart),
      Adds-antichain (HasMember old) (HasMember new) (members e) (adds-left e old left new is pushed) uncovered antichain,
      λ E h. elim ((adds-left e old left new is pushed E).0 h) [
        | inl same ↦ let P : Set ℕ → Type 0 = λ F. size_below SLOTS F ≤ m in subst P same size
        | inr k ↦ let low : size_below SLOTS E ≤ n = at_most E k.0 in omega (arith, low, more)
      ],
    )

-- the one at the place is a subset
pub subset_at : (E : Set ℕ) (es : List Env) (i : ℕ) (m : Env) → i < length es → m ≡ get_or es i m → members m ⊆ E → HasSubsetAt es i E
subset_at E es i m low is within = (m, slice_get-get_or es i m low ∙ ap Some (sym is), within)

pub subset_there : (E : Set ℕ) (es : List Env) (i : ℕ) (m : Env) → slice_get es i ≡ Some m → HasSubsetAt es i E → members m ⊆ E
subset_there E es i m is (e, at, within) = let same : e ≡ m = cc in subst (λ (x : Env). members x ⊆ E) same within

pub covered_at : (E : Set ℕ) (es : List Env) (i : ℕ) → HasSubsetAt es i E → IsCovered (HasMember es) E
covered_at E es i (m, at, within) = (members m, map-IsIn members es m (IsIn-slice_get es i m at), within)

-- there is a place exactly where one is a subset
pub some_where_covered : (E : Set ℕ) (es : List Env) (r : Option ℕ) → MatchOption r (IsCovered (HasMember es) E → ⊥) (λ i. HasSubsetAt es i E) → IsTrue (is_some r) ↔ IsCovered (HasMember es) E
some_where_covered E es None none = (λ h. absurd (false≢true h), λ p. absurd (none p))
some_where_covered E es (Some i) there = (λ _. covered_at E es i there, λ _. refl)

-- the sets of the list that are inside the mask
pub roster-left : (es left : List Env) (mask : Set ℕ) → left ≡ filter (λ e. is_within SLOTS (members e) mask) es → AreDistinct (sets es) → IsRoster (λ E. HasMember es E × (E ⊆ mask)) (sets left)
roster-left es left mask filtered distinct =
    let test : Set ℕ → Bool = λ E. is_within SLOTS E mask in
    let is : IsLeft test es left = record { filtered = filtered } in
    subst (IsRoster (λ E. HasMember es E × (E ⊆ mask))) (sym (sets-left test es left is)) (record {
      distinct = IsRising-filter test (λ x y. x ≡ y → ⊥) (sets es) distinct;
      exact = λ E. (
        λ h. let r : IsIn (sets es) E × IsTrue (test E) = IsIn-filter test (sets es) E h in (r.0, within_holds SLOTS E mask (member_below es E r.0) r.1),
        λ (member, inside). IsIn-kept test (sets es) E member (holds_within SLOTS E mask inside),
      );
    })
  where
    member_below : (es : List Env) (E : Set ℕ) → HasMember es E → IsBelow SLOTS E
    member_below es E h = let e : (e : Env) × IsIn es e × (members e ≡ E) = IsIn-map members es E h in subst (IsBelow SLOTS) e.2 (slots_are_below e.0)

pub inside-left : (es left : List Env) (mask : Set ℕ) (n : ℕ) → left ≡ filter (λ e. is_within SLOTS (members e) mask) es → n ≡ length left → AreDistinct (sets es) → AreInside (HasMember es) mask n
inside-left es left mask n filtered count distinct = record {
  inside = sets left;
  exact = roster-left es left mask filtered distinct;
  count = count ∙ sym (length-map left members);
}

-- what is left has no slot outside either
pub within-left : (U : Set ℕ) (P : Set ℕ → Type 0) (old new : List Env) → Drops (HasMember old) (HasMember new) P → AreWithin U (HasMember old) → AreWithin U (HasMember new)
within-left U P old new drops inside E h = inside E ((drops E).0 h).0

-- where what has the slot is dropped, none has it
pub within-dropped : (U : Set ℕ) (slot : ℕ) (old new : List Env) → Drops (HasMember old) (HasMember new) (λ F. IsTrue (F slot)) → AreWithin U (HasMember old) → AreWithin (U ∖ only slot) (HasMember new)
within-dropped U slot old new drops inside E h k is =
    let kept = (drops E).0 h in
    let other : only slot k ≡ false = false_from_ne_true (only slot k) (λ here. kept.1 (let P : ℕ → Type 0 = λ j. IsTrue (E j) in subst P (eqb-true k slot here) is)) in
    and_from (U k) (not (only slot k)) (inside E kept.0 k is) (not_from_false (only slot k) other)

-- with one set more
pub within-added : (U : Set ℕ) (e : Env) (old new : List Env) → Adds (HasMember old) (HasMember new) (members e) → AreWithin U (HasMember old) → AreWithin (U ∪ members e) (HasMember new)
within-added U e old new adds inside E h k is = elim ((adds E).0 h) as (λ _. IsTrue (U k || members e k)) [
  | inl same ↦ or_right (U k) (members e k) (let P : Set ℕ → Type 0 = λ F. IsTrue (F k) in subst P (sym same) is)
  | inr kept ↦ or_left (U k) (members e k) (inside E kept.0 k is)
]

-- where all that the members have is inside the mask, each of them is
pub inside-all : (es : List Env) (U mask : Set ℕ) → AreDistinct (sets es) → AreWithin U (HasMember es) → U ⊆ mask → AreInside (HasMember es) mask (length es)
inside-all es U mask distinct inside within = record {
  inside = sets es;
  exact = record { distinct = distinct; exact = λ E. ((λ h. (h, λ k is. within k (inside E h k is))), λ h. h.0) };
  count = sym (length-map es members);
}
