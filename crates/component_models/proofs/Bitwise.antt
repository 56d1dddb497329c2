-- The kinds whose relation holds bit by bit, each with its function on words: a word is determined by its bits.
use Rattle.std.proofs.Common.{◌≡◌, ℕ, ◌+◌, ◌-◌, ◌%◌, ◌^◌, ◌<◌, min, max, sym, ap, ap₂, ◌∙◌, List, [], ◌∷◌, arith, bit_and, bit_xor}
use Rattle.std.specs.Int.{bit_at}
use Rattle.std.proofs.lemmas.Nat.{and_le_l, xor_lt}
use Rattle.std.proofs.lemmas.Nat.Bits.{bit_at_and, bit_at_xor, bit_at-lt, same_from_bits_below}
use Rattle.circuit_model.specs.declared.model.Primitive.{Primitive}
use Rattle.circuit_model.specs.declared.model.Primitive.TheVariants.{And, Or, Xor, Nand, Nor, Xnor}
use Rattle.circuit_model.specs.Inference.{BitByBit, Relates, IsTuple}
use Rattle.component_models.proofs.Functions.{three_fit, three_words, IsFunction}
use Rattle.component_models.proofs.Complements.{complement_of, complement-lt, bit_at_complement}

-- the tuples of the primitive are three words, whose bits go together
record IsBitwise (prim : Primitive) (w : ℕ) (bit : ℕ → ℕ → ℕ) : Type 1 where
  relates : (a b z : ℕ) → BitByBit bit w a b z → Relates prim (w ∷ w ∷ w ∷ []) (a ∷ b ∷ z ∷ [])
  by_bits : (C : List ℕ → Type 0) → ((a b z : ℕ) → a < 2 ^ w → b < 2 ^ w → z < 2 ^ w → BitByBit bit w a b z → C (a ∷ b ∷ z ∷ [])) → (t : List ℕ) → IsTuple prim (w ∷ w ∷ w ∷ []) t → C t

-- the word has these bits
record HasBits (w : ℕ) (bit word : ℕ → ℕ → ℕ) : Type 0 where
  fits : (a b : ℕ) → a < 2 ^ w → b < 2 ^ w → word a b < 2 ^ w
  bits : (a b i : ℕ) → a < 2 ^ w → b < 2 ^ w → i < w → bit_at (word a b) i ≡ bit (bit_at a i) (bit_at b i)

function_of : (prim : Primitive) (w : ℕ) (bit word : ℕ → ℕ → ℕ) → IsBitwise prim w bit → HasBits w bit word → IsFunction prim w w w word
function_of prim w bit word is has = record {
  third_fits = has.fits;
  tuple_of = λ a b z p q r e. record { fits = three_fit w w w [] a b z p q r; relates = is.relates a b z (λ i l. ap (λ k. bit_at k i) e ∙ has.bits a b i p q l) };
  by_words = λ C here. is.by_bits C (λ a b z p q r each. here a b z p q r (same_from_bits_below w z (word a b) r (has.fits a b p q) (λ i l. each i l ∙ sym (has.bits a b i p q l))));
}

module _ (w : ℕ) where
  abbrev ws : List ℕ
  ws = w ∷ w ∷ w ∷ []

  ands : IsBitwise And w (λ x y. min x y)
  ands = record { relates = λ a b z each. each; by_bits = λ C here t h. three_words (BitByBit (λ x y. min x y)) w w w C here t h.fits h.relates }

  ors : IsBitwise Or w (λ x y. max x y)
  ors = record { relates = λ a b z each. each; by_bits = λ C here t h. three_words (BitByBit (λ x y. max x y)) w w w C here t h.fits h.relates }

  xors : IsBitwise Xor w (λ x y. (x + y) % 2)
  xors = record { relates = λ a b z each. each; by_bits = λ C here t h. three_words (BitByBit (λ x y. (x + y) % 2)) w w w C here t h.fits h.relates }

  nands : IsBitwise Nand w (λ x y. 1 - min x y)
  nands = record { relates = λ a b z each. each; by_bits = λ C here t h. three_words (BitByBit (λ x y. 1 - min x y)) w w w C here t h.fits h.relates }

  nors : IsBitwise Nor w (λ x y. 1 - max x y)
  nors = record { relates = λ a b z each. each; by_bits = λ C here t h. three_words (BitByBit (λ x y. 1 - max x y)) w w w C here t h.fits h.relates }

  xnors : IsBitwise Xnor w (λ x y. 1 - (x + y) % 2)
  xnors = record { relates = λ a b z each. each; by_bits = λ C here t h. three_words (BitByBit (λ x y. 1 - (x + y) % 2)) w w w C here t h.fits h.relates }

  and-lt : (a b : ℕ) → a < 2 ^ w → bit_and a b < 2 ^ w
  and-lt a b p = omega (arith, and_le_l a b)

  and_bits : HasBits w (λ x y. min x y) bit_and
  and_bits = record { fits = λ a b p q. and-lt a b p; bits = λ a b i p q l. bit_at_and a b i }

  xor_bits : HasBits w (λ x y. (x + y) % 2) bit_xor
  xor_bits = record { fits = λ a b p q. xor_lt w a b p q; bits = λ a b i p q l. bit_at_xor a b i }

  -- the other bit, at the word or at both that it comes from
  other_of : (bit word : ℕ → ℕ → ℕ) → HasBits w bit word → HasBits w (λ x y. 1 - bit x y) (λ a b. complement_of w (word a b))
  other_of bit word has = record {
    fits = λ a b p q. complement-lt w (word a b) (has.fits a b p q);
    bits = λ a b i p q l. bit_at_complement w (word a b) i (has.fits a b p q) l ∙ ap (λ k. 1 - k) (has.bits a b i p q l);
  }

  of_others : (bit word : ℕ → ℕ → ℕ) → HasBits w bit word → HasBits w (λ x y. bit (1 - x) (1 - y)) (λ a b. word (complement_of w a) (complement_of w b))
  of_others bit word has = record {
    fits = λ a b p q. has.fits _ _ (complement-lt w a p) (complement-lt w b q);
    bits = λ a b i p q l. has.bits _ _ i (complement-lt w a p) (complement-lt w b q) l ∙ ap₂ bit (bit_at_complement w a i p l) (bit_at_complement w b i q l);
  }

  -- the same bits, written otherwise
  like : (bit bit' word : ℕ → ℕ → ℕ) → ((x y : ℕ) → x < 2 → y < 2 → bit x y ≡ bit' x y) → HasBits w bit word → HasBits w bit' word
  like bit bit' word same has = record {
    fits = has.fits;
    bits = λ a b i p q l. has.bits a b i p q l ∙ same (bit_at a i) (bit_at b i) (bit_at-lt a i) (bit_at-lt b i);
  }

  either_bit : (x y : ℕ) → x < 2 → y < 2 → 1 - min (1 - x) (1 - y) ≡ max x y
  either_bit x y p q = omega arith

  neither_bit : (x y : ℕ) → x < 2 → y < 2 → min (1 - x) (1 - y) ≡ 1 - max x y
  neither_bit x y p q = omega arith

  pub and_function : IsFunction And w w w bit_and
  and_function = function_of And w _ _ ands and_bits

  pub xor_function : IsFunction Xor w w w bit_xor
  xor_function = function_of Xor w _ _ xors xor_bits

  pub nand_function : IsFunction Nand w w w (λ a b. complement_of w (bit_and a b))
  nand_function = function_of Nand w _ _ nands (other_of _ _ and_bits)

  pub nor_function : IsFunction Nor w w w (λ a b. bit_and (complement_of w a) (complement_of w b))
  nor_function = function_of Nor w _ _ nors (like _ _ _ neither_bit (of_others _ _ and_bits))

  pub or_function : IsFunction Or w w w (λ a b. complement_of w (bit_and (complement_of w a) (complement_of w b)))
  or_function = function_of Or w _ _ ors (like _ _ _ either_bit (other_of _ _ (of_others _ _ and_bits)))

  pub xnor_function : IsFunction Xnor w w w (λ a b. complement_of w (bit_xor a b))
  xnor_function = function_of Xnor w _ _ xnors (other_of _ _ xor_bits)
