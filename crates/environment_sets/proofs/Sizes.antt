-- How many elements a set has.
use Rattle.std.proofs.Common.{◌≡◌, ◌≢◌, ℕ, zero, suc, ◌+◌, ◌<◌, ◌⊎◌, inl, inr, Bool, true, false, not, ◌&&◌, ◌==◌, cond, IsTrue, refl, sym, ap, ap₂, ◌∙◌, List, [], ◌∷◌, arith, add-one, zero-add}
use Rattle.std.specs.List.{count_by}
use Rattle.std.proofs.lemmas.Bool.{true≢false, false_from_ne_true, and_parts, and_right, eq-eqb, ne_eqb}
use Rattle.environment_sets.specs.Sets.{Set, size_below, only, ◌∖◌}
use Rattle.environment_sets.specs.Lists.{IsIn}
use Rattle.environment_sets.specs.Laws.{SizesAreCounts}
use Rattle.environment_sets.proofs.Counting.{count_by-cons, count_by-agree}

pub last_or_lower : (k n : ℕ) → k < suc n → (k ≡ n) ⊎ (k < n)
last_or_lower k n h = grind arith

itself_out : (E : Set ℕ) (n : ℕ) → (E ∖ only n) n ≡ false
itself_out E n = and_right (E n) (not (n == n)) (ap not (eq-eqb n n refl))

others_stay : (E : Set ℕ) (n k : ℕ) → k ≢ n → (E ∖ only n) k ≡ E k
others_stay E n k ne = ap (λ b. E k && not b) (ne_eqb k n ne) ∙ and-true (E k)
  where
    and-true : (a : Bool) → (a && true) ≡ a
    and-true true = refl
    and-true false = refl

pub size_below-agree : (n : ℕ) (E F : Set ℕ) → ((k : ℕ) → k < n → E k ≡ F k) → size_below n E ≡ size_below n F
unfolding size_below
size_below-agree zero E F same = refl
size_below-agree (suc n) E F same = ap₂ (λ a b. a + cond b 1 0) (size_below-agree n E F (λ k low. same k (omega arith))) (same n (omega arith))

pub size_below-none : (n : ℕ) (E : Set ℕ) → ((k : ℕ) → k < n → E k ≡ false) → size_below n E ≡ 0
unfolding size_below
size_below-none zero E none = refl
size_below-none (suc n) E none = ap₂ (λ a b. a + cond b 1 0) (size_below-none n E (λ k low. none k (omega arith))) (none n (omega arith))

size_below-less_one : (n : ℕ) (E : Set ℕ) (x : ℕ) → x < n → IsTrue (E x) → size_below n E ≡ suc (size_below n (E ∖ only x))
unfolding size_below
size_below-less_one zero E x low is = absurd (omega arith)
size_below-less_one (suc n) E x low is =
    elim (last_or_lower x n low) [
      | inl e ↦
          let rest : size_below n E ≡ size_below n (E ∖ only x) = size_below-agree n E (E ∖ only x) (λ k lower. sym (others_stay E x k (omega arith))) in
          let here : E n ≡ true = ap E (sym e) ∙ is in
          let out : (E ∖ only x) n ≡ false = ap (E ∖ only x) (sym e) ∙ itself_out E x in
          ap₂ (λ a b. a + cond b 1 0) rest here ∙ (omega arith ∙ ap (λ b. suc (size_below n (E ∖ only x) + cond b 1 0)) (sym out))
      | inr lower ↦
          let rest : size_below n E ≡ suc (size_below n (E ∖ only x)) = size_below-less_one n E x lower is in
          let stays : (E ∖ only x) n ≡ E n = others_stay E x n (omega arith) in
          ap₂ (λ a b. a + cond b 1 0) rest (sym stays) ∙ omega arith
    ]

part : (E F : Set ℕ) (k : ℕ) → IsTrue ((E ∖ F) k) → IsTrue (E k)
part E F k h = (and_parts (E k) (not (F k)) h).0

-- the first name is in the set
count_with : (n : ℕ) (E : Set ℕ) (x : ℕ) (order : List ℕ) → x < n → IsTrue (E x) → ((k : ℕ) → IsIn order k → x ≡ k → ⊥) → count_by (E ∖ only x) order ≡ size_below n (E ∖ only x) → 1 + count_by E order ≡ size_below n E
count_with n E x order low is apart fewer =
    let same : count_by E order ≡ count_by (E ∖ only x) order = count_by-agree E (E ∖ only x) order (λ k h. sym (others_stay E x k (λ e. apart k h (sym e)))) in
    let all : size_below n E ≡ suc (size_below n (E ∖ only x)) = size_below-less_one n E x low is in
    omega arith

pub sizes_are_counts : SizesAreCounts
sizes_are_counts n E [] low distinct listed = sym (size_below-none n E (λ k _. false_from_ne_true (E k) (λ is. listed k is)))
sizes_are_counts n E (x ∷ order) low distinct listed =
    count_by-cons E x order
    ∙ elim (E x) as (λ b. E x ≡ b → cond b 1 0 + count_by E order ≡ size_below n E) [
      | true ↦ λ is. count_with n E x order (low x is) is distinct.0 (sizes_are_counts n (E ∖ only x) order (λ k h. low k (part E (only x) k h)) distinct.1 (λ k h. elim (listed k (part E (only x) k h)) [
        | inl e ↦ absurd (true≢false (sym h ∙ (ap (E ∖ only x) (sym e) ∙ itself_out E x)))
        | inr later ↦ later
      ]))
      | false ↦ λ out. zero-add (count_by E order) ∙ sizes_are_counts n E order low distinct.1 (λ k h. elim (listed k h) [
        | inl e ↦ absurd (true≢false (sym h ∙ (ap E (sym e) ∙ out)))
        | inr later ↦ later
      ])
    ] refl

-- one number more
pub size_below-more : (n : ℕ) (E : Set ℕ) → size_below (n + 1) E ≡ size_below n E + cond (E n) 1 0
unfolding size_below
size_below-more n E = rw add-one refl

pub size_below-zero : (E : Set ℕ) → size_below 0 E ≡ 0
unfolding size_below
size_below-zero E = refl
