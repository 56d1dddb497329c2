-- What labels cover, by their members.
use Rattle.std.proofs.Common.{◌≡◌, ℕ, ◌<◌, ◌≤◌, ◌⊎◌, inl, inr, Bool, true, false, not, ◌&&◌, ◌||◌, ◌==◌, IsTrue, List, [], ◌∷◌, ◌++◌, length, get_or, take, ◌+◌, Option, Some, None, refl, sym, ap, subst, ◌∙◌, arith, ◌↔◌}
use Rattle.std.proofs.lemmas.List.{take_more, take_all}
use mathlib.Core.Path.{fun_ext}
use Rattle.circuit_model.specs.declared.model.Cell.{Cell}
use Rattle.circuit_model.specs.Closure.{fact}
use Rattle.circuit_model.specs.Stock.{within}
use Rattle.environment_sets.specs.declared.environment.Env.{Env}
use Rattle.environment_sets.specs.declared.environment.TheConstants.{SLOTS}
use Rattle.environment_sets.specs.Families.{IsCovered}
use Rattle.environment_sets.specs.Lists.{IsIn, IsRising, IsListing}
use Rattle.environment_sets.specs.Members.{members, HasMember}
use Rattle.environment_sets.specs.Sets.{Set, ◌⊆◌, ◌∖◌, is_within}
use Rattle.environment_sets.proofs.Listings.{IsRising-push, IsIn-push, IsIn-front, IsIn-last}
use Rattle.environment_sets.proofs.Membership.{or-end, or-assoc, IsIn-map, map-IsIn, list_any-IsIn, IsIn-list_any}
use Rattle.environment_sets.proofs.Slots.{slots_are_below}
use Rattle.environment_sets.proofs.Within.{within_holds, holds_within}
use Rattle.label_engine.specs.Engine.{Seen, label_of, label_at}
use Rattle.label_engine.specs.Questions.{IsAbove, IsNextNumber, GivesNextNumber}
use Rattle.standing_view.specs.Standing.{is_among}
use Rattle.probe_planner.specs.Covering.{covers, is_covered}

-- a label covers a set exactly where a member is a subset
pub covers_by : (label : List Env) (E : Set ℕ) → IsTrue (covers label E) ↔ IsCovered (HasMember label) E
unfolding covers
covers_by label E = (
  λ h. let m : (m : Env) × IsIn label m × IsTrue (is_within SLOTS (members m) E) = IsIn-list_any (λ m. is_within SLOTS (members m) E) label h in
      (members m.0, map-IsIn members label m.0 m.1, within_holds SLOTS (members m.0) E (slots_are_below m.0) m.2),
  λ (F, at, within). let m : (m : Env) × IsIn label m × (members m ≡ F) = IsIn-map members label F at in
      list_any-IsIn (λ m. is_within SLOTS (members m) E) label m.0 m.1 (holds_within SLOTS (members m.0) E (subst (λ (G : Set ℕ). G ⊆ E) (sym m.2) within)),
)

pub is_covered_by : (seen : Seen) (c : Cell) (v : ℕ) (E : Set ℕ) → IsTrue (is_covered seen c v E) ↔ IsCovered (label_at seen (fact c v)) E
unfolding is_covered
is_covered_by seen c v E = covers_by (label_of seen.kept (fact c v)) E

-- ---- what stands outside a diagnosis, slot by slot

is_among-push : (ys : List ℕ) (y k : ℕ) → is_among (ys ++ y ∷ []) k ≡ (is_among ys k || (k == y))
is_among-push [] y k = or-end (k == y)
is_among-push (x ∷ ys) y k = ap (λ b. (k == x) || b) (is_among-push ys y k) ∙ or-assoc (k == x) (is_among ys k) (k == y)

pub outside_more :
    (xs : List ℕ) (i : ℕ) (D before now : Set ℕ) → i < length xs → ((k : ℕ) → before k ≡ (is_among (take i xs) k && not (D k))) → ((k : ℕ) → now k ≡ (before k || ((k == get_or xs i 0) && not (D k))))
    → (k : ℕ) → now k ≡ (is_among (take (i + 1) xs) k && not (D k))
outside_more xs i D before now low was step k =
    let longer : is_among (take (i + 1) xs) k ≡ (is_among (take i xs) k || (k == get_or xs i 0)) = ap (λ ys. is_among ys k) (take_more xs i 0 low) ∙ is_among-push (take i xs) (get_or xs i 0) k in
    step k ∙ (ap (λ b. b || ((k == get_or xs i 0) && not (D k))) (was k) ∙ (joined (is_among (take i xs) k) (k == get_or xs i 0) (not (D k)) ∙ ap (λ b. b && not (D k)) (sym longer)))
  where
    joined : (a b c : Bool) → ((a && c) || (b && c)) ≡ ((a || b) && c)
    joined true true true = refl
    joined true true false = refl
    joined true false true = refl
    joined true false false = refl
    joined false b c = refl

pub outside_all : (xs : List ℕ) (i : ℕ) (D now : Set ℕ) → length xs ≤ i → ((k : ℕ) → now k ≡ (is_among (take i xs) k && not (D k))) → now ≡ is_among xs ∖ D
outside_all xs i D now high was = fun_ext (λ k. was k ∙ ap (λ ys. is_among ys k && not (D k)) (take_all i xs high))

-- ---- words, listed one after another

-- the numbers of which P holds are listed up to the last one
pub record ListsNumbers (P : ℕ → Type 0) (last : Option ℕ) (words : List ℕ) : Type 0 where
  pub rising : IsRising (λ u v. u < v) words
  pub sound : (v : ℕ) → IsIn words v → P v
  pub covered : (v : ℕ) → P v → IsIn words v ⊎ IsAbove last v
  pub below : (u v : ℕ) → IsIn words u → IsAbove last v → u < v

pub no_numbers : (P : ℕ → Type 0) → ListsNumbers P None []
no_numbers P = record { rising = tt; sound = λ v h. absurd h; covered = λ v h. inr tt; below = λ u v h above. absurd h }

same_or_above : (v w : ℕ) → v ≤ w → (v ≡ w) ⊎ (v < w)
same_or_above v w h = grind arith

module _ (P : ℕ → Type 0) (last : Option ℕ) (words : List ℕ) (was : ListsNumbers P last words) where
  pub more_numbers : (v : ℕ) → IsNextNumber P last v → ListsNumbers P (Some v) (words ++ v ∷ [])
  more_numbers v next = record {
    rising = IsRising-push (λ u w. u < w) words v was.rising (λ u h. was.below u v h next.above);
    sound = λ w h. elim (IsIn-push words v w h) [ inl before ↦ was.sound w before | inr e ↦ subst P e next.holds ];
    covered = λ w member. elim (was.covered w member) [
      | inl before ↦ inl (IsIn-front words v w before)
      | inr above ↦ elim (same_or_above v w (next.least w member above)) [ inl e ↦ inl (IsIn-last words v w e) | inr later ↦ inr later ]
    ];
    below = λ u w h above. elim (IsIn-push words v u h) [
      | inl before ↦ let low : u < v = was.below u v before next.above in omega (arith, low, above)
      | inr e ↦ omega (arith, e, above)
    ];
  }

  pub all_numbers : GivesNextNumber P last None → IsListing (λ u v. u < v) P words
  all_numbers none = record {
    rising = was.rising;
    exact = λ v. (was.sound v, λ member. elim (was.covered v member) [ inl h ↦ h | inr above ↦ absurd (none v member above) ]);
  }
