-- Words at the places of a number.
use Rattle.std.proofs.Common.{◌≡◌, ℕ, zero, suc, ◌+◌, ◌*◌, ◌/◌, ◌%◌, ◌<◌, ◌==◌, Bool, true, false, if◌then◌else◌, List, [], ◌∷◌, length, slice_get, Option, Some, None, refl, sym, ap, ap₂, subst, ◌∙◌, arith}
use Rattle.std.proofs.lemmas.Bool.{eq-eqb, ne_eqb}
use Rattle.circuit_model.specs.Derivation.{number_of}
use Rattle.circuit_model.specs.Inference.{WordsFit}
use Rattle.explanations.specs.Words.{chosen_words}

pub length-chosen_words : (places : ℕ) (words : List (Option ℕ)) → length (chosen_words places words) ≡ length words
length-chosen_words places [] = refl
length-chosen_words places (word ∷ words) = ap (λ n. suc n) (length-chosen_words (places / 2) words)

-- each known word is one of the words at its place
abbrev pub AreOf : (known words : List (Option ℕ)) → Type 0
AreOf known words = (p v : ℕ) → slice_get known p ≡ Some (Some v) → slice_get words p ≡ Some (Some v)

none_or_word : (b : Bool) (word : Option ℕ) (v : ℕ) → (if b then word else None) ≡ Some v → word ≡ Some v
none_or_word true word v e = e
none_or_word false word v e = cc

pub chosen_words-of : (places : ℕ) (words : List (Option ℕ)) → AreOf (chosen_words places words) words
chosen_words-of places [] p v e = absurd (cc)
chosen_words-of places (word ∷ words) zero v e = ap Some (none_or_word (places % 2 == 1) word v (cc))
chosen_words-of places (word ∷ words) (suc p) v e = chosen_words-of (places / 2) words p v e

pub chosen_words-fit : (widths : List ℕ) (places : ℕ) (words : List (Option ℕ)) → WordsFit widths words → WordsFit widths (chosen_words places words)
chosen_words-fit widths places words fit p w v width there = fit p w v width (chosen_words-of places words p v there)

even : (n : ℕ) → ((2 * n) % 2 == 1) ≡ false
even n = ne_eqb ((2 * n) % 2) 1 (λ e. omega (arith, e))

odd : (n : ℕ) → ((2 * n + 1) % 2 == 1) ≡ true
odd n = eq-eqb ((2 * n + 1) % 2) 1 (omega arith)

half_even : (n : ℕ) → (2 * n) / 2 ≡ n
half_even n = omega arith

half_odd : (n : ℕ) → (2 * n + 1) / 2 ≡ n
half_odd n = omega arith

-- known words are those at the places of their number
pub known-chosen_words : (known words : List (Option ℕ)) → length known ≡ length words → AreOf known words → known ≡ chosen_words (number_of known) words
known-chosen_words [] [] wide of = refl
known-chosen_words [] (word ∷ words) wide of = absurd (omega arith)
known-chosen_words (o ∷ known) [] wide of = absurd (omega arith)
known-chosen_words (None ∷ known) (word ∷ words) wide of =
    let n : ℕ = number_of known in
    let rest : known ≡ chosen_words n words = known-chosen_words known words (omega arith) (λ p v e. of (suc p) v e) in
    let first : (if (2 * n) % 2 == 1 then word else None) ≡ None = (let P : Bool → Type 0 = λ b. (if b then word else None) ≡ None in subst P (sym (even n)) refl) in
    ap₂ (λ (o : Option ℕ) (os : List (Option ℕ)). o ∷ os) (sym first) (rest ∙ ap (λ (m : ℕ). chosen_words m words) (sym (half_even n)))
known-chosen_words (Some x ∷ known) (word ∷ words) wide of =
    let n : ℕ = number_of known in
    let rest : known ≡ chosen_words n words = known-chosen_words known words (omega arith) (λ p v e. of (suc p) v e) in
    let there : Some word ≡ Some (Some x) = of 0 x refl in
    let same : word ≡ Some x = cc in
    let first : (if (2 * n + 1) % 2 == 1 then word else None) ≡ Some x = (let P : Bool → Type 0 = λ b. (if b then word else None) ≡ Some x in subst P (sym (odd n)) same) in
    ap₂ (λ (o : Option ℕ) (os : List (Option ℕ)). o ∷ os) (sym first) (rest ∙ ap (λ (m : ℕ). chosen_words m words) (sym (half_odd n)))

-- of three words
pub number_of-low : (known : List (Option ℕ)) → length known ≡ 3 → number_of known < 8
number_of-low [] wide = absurd (omega arith)
number_of-low (a ∷ []) wide = absurd (omega arith)
number_of-low (a ∷ b ∷ []) wide = absurd (omega arith)
number_of-low (a ∷ b ∷ z ∷ []) wide = low a b z where
  low : (a b z : Option ℕ) → number_of (a ∷ b ∷ z ∷ []) < 8
  low None None None = omega arith
  low None None (Some z) = omega arith
  low None (Some b) None = omega arith
  low None (Some b) (Some z) = omega arith
  low (Some a) None None = omega arith
  low (Some a) None (Some z) = omega arith
  low (Some a) (Some b) None = omega arith
  low (Some a) (Some b) (Some z) = omega arith
number_of-low (a ∷ b ∷ z ∷ y ∷ rest) wide = absurd (omega arith)
