-- Steps through the bits of a word, and through words side by side.
use Rattle.std.proofs.Common.{◌≡◌, ◌≢◌, ℕ, ◌+◌, ◌-◌, ◌*◌, ◌/◌, ◌%◌, ◌^◌, ◌<◌, ◌≤◌, inl, inr, min, ◌==◌, IsTrue, sym, ap, ◌∙◌, List, get_or, bit_and, arith}
use Rattle.std.specs.Int.{bit_at, trailing_zeros, w64}
use Rattle.std.proofs.lemmas.Bool.{cases_lt, false≢true}
use Rattle.std.proofs.lemmas.Nat.{and_le_l}
use Rattle.std.proofs.lemmas.Nat.Bits.{bit_at-zero, bit_at_and, bit_at-lt, bit_at_above, bit_at_mask_inside, bit_at_mask_below, ones_shl, bit_at-trailing_zeros}
use Rattle.environment_sets.specs.declared.environment.Env.{Env}
use Rattle.environment_sets.specs.declared.environment.TheConstants.{SLOTS, WORD_BITS}
use Rattle.environment_sets.specs.Sets.{Set}
use Rattle.environment_sets.specs.Members.{has_bit, slots_in, members}
use Rattle.environment_sets.specs.Steps.{HasNoneFrom, IsNextFrom}
use Rattle.environment_sets.proofs.Words.{slots_in-at}
use Rattle.environment_sets.proofs.Slots.{slots_are_below}

-- ---- one word, without the bits below one

-- the word without the bits below `from`, as the code computes it
abbrev rest_of : ℕ → ℕ → ℕ → ℕ
rest_of w word from = bit_and word ((2 ^ w - 1) * 2 ^ from % 2 ^ w)

-- the rest is no more than the word
rest_fits : (w word from : ℕ) → word < 2 ^ w → rest_of w word from < 2 ^ w
rest_fits w word from fits = fewer (rest_of w word from) word (2 ^ w) (and_le_l word ((2 ^ w - 1) * 2 ^ from % 2 ^ w)) fits
  where
    fewer : (a b n : ℕ) → a ≤ b → b < n → a < n
    fewer a b n le lt = omega arith

module _ (w word from : ℕ) (within : from ≤ w) where
  -- a bit of the rest is one of the word and of the mask
  bit_at-rest : (k : ℕ) → bit_at (rest_of w word from) k ≡ min (bit_at word k) (bit_at (2 ^ w - 2 ^ from) k)
  bit_at-rest k = ap (λ mask. bit_at (bit_and word mask) k) (ones_shl w from within) ∙ bit_at_and word (2 ^ w - 2 ^ from) k

  -- the bits below are gone
  rest_below : (k : ℕ) → k < from → bit_at (rest_of w word from) k ≡ 0
  rest_below k below = bit_at-rest k ∙ (ap (λ d. min (bit_at word k) d) (bit_at_mask_below from w k below) ∙ with_none (bit_at word k))
    where
      with_none : (d : ℕ) → min d 0 ≡ 0
      with_none d = omega arith

  -- the others stay
  rest_above : word < 2 ^ w → (k : ℕ) → from ≤ k → bit_at (rest_of w word from) k ≡ bit_at word k
  rest_above fits k above =
      elim (cases_lt k w) [
        | inl inside ↦ bit_at-rest k ∙ (ap (λ d. min (bit_at word k) d) (bit_at_mask_inside from w k above inside) ∙ with_one (bit_at word k) (bit_at-lt word k))
        | inr past ↦ bit_at_above (rest_of w word from) w k (rest_fits w word from fits) past ∙ sym (bit_at_above word w k fits past)
      ]
    where
      with_one : (d : ℕ) → d < 2 → min d 1 ≡ d
      with_one d low = omega arith

-- a bit that is 0 is not set
not_set : (word k : ℕ) → bit_at word k ≡ 0 → IsTrue (has_bit word k) → ⊥
not_set word k zero is = false≢true (sym (ap (λ d. d == 1) zero) ∙ is)

-- the lowest bit of the rest is the least of the word from this one on
lowest_is_next : (word rest from t : ℕ) → ((k : ℕ) → k < from → bit_at rest k ≡ 0) → ((k : ℕ) → from ≤ k → bit_at rest k ≡ bit_at word k)
    → bit_at rest t ≡ 1 → ((k : ℕ) → k < t → bit_at rest k ≡ 0) → IsNextFrom (has_bit word) from t
lowest_is_next word rest from t below above set lower =
    let reached : from ≤ t = elim (cases_lt t from) [ inl early ↦ omega (arith, below t early, set) | inr late ↦ late ] in
    record {
      reached = reached;
      member = ap (λ d. d == 1) (sym (above t reached) ∙ set);
      least = λ k late is. elim (cases_lt k t) [ inl early ↦ absurd (not_set word k (sym (above k late) ∙ lower k early) is) | inr past ↦ past ];
    }

module _ (word from : ℕ) (fits : word < 2 ^ WORD_BITS) (low : from < WORD_BITS) where
  -- this one is one of the word's bits
  within : from ≤ WORD_BITS
  within = omega arith

  -- where nothing is left of the word, it has no bit from this one on
  pub no_bit_from : rest_of WORD_BITS word from ≡ 0 → HasNoneFrom (has_bit word) from
  no_bit_from none k above is = not_set word k (sym (rest_above WORD_BITS word from within fits k above) ∙ (ap (λ v. bit_at v k) none ∙ bit_at-zero k)) is

  -- where something is left, its lowest bit is the next one
  pub next_bit_from : rest_of WORD_BITS word from ≢ 0 → IsNextFrom (has_bit word) from (trailing_zeros w64 (rest_of WORD_BITS word from))
  next_bit_from some =
      let rest : ℕ = rest_of WORD_BITS word from in
      let left : (trailing_zeros w64 rest < WORD_BITS) × (bit_at rest (trailing_zeros w64 rest) ≡ 1) × ((k : ℕ) → k < trailing_zeros w64 rest → bit_at rest k ≡ 0) = bit_at-trailing_zeros w64 rest (omega (arith, some)) (rest_fits WORD_BITS word from fits) in
      lowest_is_next word rest from (trailing_zeros w64 rest) (rest_below WORD_BITS word from within) (rest_above WORD_BITS word from within fits) left.1 left.2

-- ---- words side by side

-- the search has come from the one number to the other, and none of the set lies between
pub record HasPassed (E : Set ℕ) (from now : ℕ) : Type 0 where
  pub reached : from ≤ now
  pub none : (k : ℕ) → from ≤ k → k < now → IsTrue (E k) → ⊥

module _ (ws : List ℕ) (from i bit : ℕ) (passed : HasPassed (slots_in ws) from (i * WORD_BITS + bit)) where
  -- a slot of the set, in this word or before it, is a bit of this word from this one on
  in_word : (k : ℕ) → from ≤ k → k < (i + 1) * WORD_BITS → IsTrue (slots_in ws k) → (k / WORD_BITS ≡ i) × (bit ≤ k % WORD_BITS) × IsTrue (has_bit (get_or ws i 0) (k % WORD_BITS))
  in_word k late early is =
      elim (cases_lt k (i * WORD_BITS + bit)) [
        | inl before ↦ absurd (passed.none k late before is)
        | inr after ↦
            let here : k / WORD_BITS ≡ i = omega arith in
            (here, omega arith, ap (λ j. has_bit (get_or ws j 0) (k % WORD_BITS)) (sym here) ∙ is)
      ]

  -- the word has none, and the search goes on at the first bit of the next
  pub HasPassed-word : bit < WORD_BITS → HasNoneFrom (has_bit (get_or ws i 0)) bit → HasPassed (slots_in ws) from ((i + 1) * WORD_BITS + 0)
  HasPassed-word low none = record {
    reached = omega (arith, passed.reached);
    none = λ k late early is. let found : (k / WORD_BITS ≡ i) × (bit ≤ k % WORD_BITS) × IsTrue (has_bit (get_or ws i 0) (k % WORD_BITS)) = in_word k late (omega arith) is in none (k % WORD_BITS) found.1 found.2;
  }

  -- the next bit of the word is the next slot
  pub next_in_word : (t : ℕ) → t < WORD_BITS → IsNextFrom (has_bit (get_or ws i 0)) bit t → IsNextFrom (slots_in ws) from (i * WORD_BITS + t)
  next_in_word t low next = record {
    reached = omega (arith, passed.reached, next.reached);
    member = slots_in-at ws i t low ∙ next.member;
    least = λ k late is. elim (cases_lt k (i * WORD_BITS + t)) [
      | inl early ↦
          let found : (k / WORD_BITS ≡ i) × (bit ≤ k % WORD_BITS) × IsTrue (has_bit (get_or ws i 0) (k % WORD_BITS)) = in_word k late (omega arith) is in
          omega (arith, next.least (k % WORD_BITS) found.1 found.2, found.0)
      | inr past ↦ past
    ];
  }

-- past all words no slot is left
pub none_left : (e : Env) (from now : ℕ) → HasPassed (members e) from now → SLOTS ≤ now → HasNoneFrom (members e) from
none_left e from now passed past k late is = passed.none k late (omega (arith, slots_are_below e k is)) is
