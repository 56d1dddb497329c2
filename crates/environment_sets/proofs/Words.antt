-- Sets of the bits of a word, and of words side by side.
use Rattle.std.proofs.Common.{◌≡◌, ◌≢◌, ℕ, zero, suc, ◌+◌, ◌*◌, ◌/◌, ◌%◌, ◌^◌, ◌<◌, ◌≤◌, inl, inr, min, max, Bool, true, false, not, ◌&&◌, ◌||◌, ◌==◌, IsTrue, cond, refl, sym, ap, ap₂, subst, ◌∙◌, List, length, get_or, set, replicate, bit_and, bit_or, arith, get_or-set_same, get_or-set_other, length-set, below_more}
use Rattle.std.specs.Int.{bit_at, bit_not, w64}
use Rattle.std.specs.Int.RustNames.{count_ones}
use Rattle.std.proofs.Math.Nat.{add-suc}
use Rattle.std.proofs.lemmas.Bool.{cases_lt, cases_eq, and_parts, and_from, false≢true, or_right, and_right, eq-eqb, ne_eqb}
use Rattle.std.proofs.lemmas.Bool.Decides.{nat_tests}
use Rattle.std.proofs.lemmas.Nat.{ones_cat, ones_le_self, zero_from_ones, div-mul-add, mod-mul-add, div-add-mod', shr_below, mod_below, pow_pos, and_le_l, or_lt}
use Rattle.std.proofs.lemmas.Nat.Bits.{bit_at-zero, bit_at_and, bit_at_or, bit_at-lt, bit_at_cat_low, bit_at_set_same, bit_at_set_other, bit_at_clear_same, bit_at_clear_other, same_from_bits_below}
use Rattle.std.proofs.lemmas.List.{get_or-replicate, get_or_past, get_or_default, same_lists, length-replicate}
use mathlib.Core.Path.{fun_ext}
use Rattle.environment_sets.specs.declared.environment.TheConstants.{WORD_BITS}
use Rattle.environment_sets.specs.Sets.{Set, no_elements, only, ◌∪◌, ◌∖◌, ◌⊆◌, size_below, Hits}
use Rattle.environment_sets.specs.Members.{has_bit, slots_in}
use Rattle.environment_sets.proofs.Sizes.{size_below-agree}
use Rattle.environment_sets.proofs.Elements.{some_element}

-- what implies another takes it in
pub absorbed : (p q : Bool) → (IsTrue p → IsTrue q) → (p && q) ≡ p
absorbed true q h = h refl
absorbed false q h = refl

-- ---- one word

pub has_bit-zero : (k : ℕ) → has_bit 0 k ≡ false
has_bit-zero k = ap (λ d. d == 1) (bit_at-zero k)

pub has_bit-and : (a b k : ℕ) → has_bit (bit_and a b) k ≡ (has_bit a k && has_bit b k)
has_bit-and a b k = ap (λ d. d == 1) (bit_at_and a b k) ∙ both (bit_at a k) (bit_at b k) (bit_at-lt a k) (bit_at-lt b k)
  where
    both : (m n : ℕ) → m < 2 → n < 2 → (min m n == 1) ≡ ((m == 1) && (n == 1))
    both m n p q = grind (arith, nat_tests)

pub has_bit-or : (a b k : ℕ) → has_bit (bit_or a b) k ≡ (has_bit a k || has_bit b k)
has_bit-or a b k = ap (λ d. d == 1) (bit_at_or a b k) ∙ either (bit_at a k) (bit_at b k) (bit_at-lt a k) (bit_at-lt b k)
  where
    either : (m n : ℕ) → m < 2 → n < 2 → (max m n == 1) ≡ ((m == 1) || (n == 1))
    either m n p q = grind (arith, nat_tests)

-- words with the same bits are equal
pub same_word : (n a b : ℕ) → a < 2 ^ n → b < 2 ^ n → ((k : ℕ) → k < n → has_bit a k ≡ has_bit b k) → a ≡ b
same_word n a b p q same = same_from_bits_below n a b p q (λ k low. digit (bit_at a k) (bit_at b k) (bit_at-lt a k) (bit_at-lt b k) (same k low))
  where
    digit : (m n : ℕ) → m < 2 → n < 2 → (m == 1) ≡ (n == 1) → m ≡ n
    digit m n p q e = grind (arith, nat_tests)

count_ones-digit : (d : ℕ) → d < 2 → count_ones d ≡ d
count_ones-digit d low = elim (cases_eq (count_ones d) 0) [ inl none ↦ none ∙ sym (zero_from_ones d none) | inr some ↦ omega (arith, ones_le_self d) ]

-- as many bits are set as the word has ones
size_of_word : (n w : ℕ) → w < 2 ^ n → size_below n (has_bit w) ≡ count_ones w
unfolding size_below
size_of_word zero w fits = omega (arith, ones_le_self w)
size_of_word (suc n) w fits =
    let rest : ℕ = w % 2 ^ n in
    let top : ℕ = w / 2 ^ n in
    let split : top * 2 ^ n + rest ≡ w = div-add-mod' w (2 ^ n) in
    let low : rest < 2 ^ n = mod_below w (2 ^ n) (pow_pos n) in
    let more : w < 2 ^ (1 + n) = let P : ℕ → Type 0 = λ m. w < 2 ^ m in subst P (omega arith) fits in
    let one : top < 2 = shr_below w 1 n more in
    let below : size_below n (has_bit w) ≡ count_ones rest = size_below-agree n (has_bit w) (has_bit rest) (λ k lower. ap (λ v. has_bit v k) (sym split) ∙ ap (λ d. d == 1) (bit_at_cat_low top n rest k lower)) ∙ size_of_word n rest low in
    let ones : count_ones w ≡ count_ones top + count_ones rest = ap count_ones (sym split) ∙ ones_cat n top rest low in
    omega (arith, below, ones, digit top one, count_ones-digit top one)
  where
    digit : (d : ℕ) → d < 2 → cond (d % 2 == 1) 1 0 ≡ d
    digit d low = grind (arith, nat_tests)

-- a word that is not 0 has a bit
some_bit : (w : ℕ) → w < 2 ^ WORD_BITS → w ≢ 0 → (k : ℕ) × (k < WORD_BITS) × IsTrue (has_bit w k)
some_bit w fits more =
    elim (cases_lt 0 (count_ones w)) [
      | inl some ↦ some_element WORD_BITS (has_bit w) (omega (arith, some, size_of_word WORD_BITS w fits))
      | inr none ↦ absurd (more (zero_from_ones w (omega arith)))
    ]

-- ---- words side by side

-- slot number k of word number i
pub slots_in-at : (ws : List ℕ) (i k : ℕ) → k < WORD_BITS → slots_in ws (i * WORD_BITS + k) ≡ has_bit (get_or ws i 0) k
slots_in-at ws i k low = ap₂ (λ j d. has_bit (get_or ws j 0) d) (div-mul-add i WORD_BITS k low) (mod-mul-add i WORD_BITS k low)

pub slots_in-past : (ws : List ℕ) (k : ℕ) → length ws ≤ k / WORD_BITS → slots_in ws k ≡ false
slots_in-past ws k high = ap (λ w. has_bit w (k % WORD_BITS)) (get_or_past ws (k / WORD_BITS) 0 high) ∙ has_bit-zero (k % WORD_BITS)

pub slots_in-zeros : (n : ℕ) → slots_in (replicate n 0) ≡ no_elements
slots_in-zeros n = fun_ext (λ k. elim (cases_lt (k / WORD_BITS) n) [
  | inl low ↦ ap (λ w. has_bit w (k % WORD_BITS)) (get_or-replicate n (k / WORD_BITS) 0 0 low) ∙ has_bit-zero (k % WORD_BITS)
  | inr high ↦ slots_in-past (replicate n 0) k (simp length-replicate high)
])

-- the word of slot n is v, which is f of the word before at the bit of n, and that word at the other bits
slots_in-set : (f : Bool → Bool → Bool) → ((b : Bool) → f b false ≡ b) → (ws : List ℕ) (n v : ℕ) → n / WORD_BITS < length ws
    → has_bit v (n % WORD_BITS) ≡ f (slots_in ws n) true
    → ((j : ℕ) → j < WORD_BITS → j ≢ n % WORD_BITS → has_bit v j ≡ has_bit (get_or ws (n / WORD_BITS) 0) j)
    → slots_in (set ws (n / WORD_BITS) v) ≡ (λ k. f (slots_in ws k) (k == n))
slots_in-set f keeps ws n v inside here others = fun_ext (λ k. elim (cases_eq (k / WORD_BITS) (n / WORD_BITS)) [
  | inr far ↦ ap (λ w. has_bit w (k % WORD_BITS)) (get_or-set_other ws (n / WORD_BITS) (k / WORD_BITS) v 0 far) ∙ apart k (λ e. far (ap (λ j. j / WORD_BITS) e))
  | inl near ↦ within k near ∙ elim (cases_eq (k % WORD_BITS) (n % WORD_BITS)) [
    | inl same ↦ let e : k ≡ n = omega arith in ap (has_bit v) same ∙ (here ∙ sym (ap₂ f (ap (slots_in ws) e) (eq-eqb k n e)))
    | inr other ↦ others (k % WORD_BITS) (omega arith) other ∙ (ap (λ i. has_bit (get_or ws i 0) (k % WORD_BITS)) (sym near) ∙ apart k (λ e. other (ap (λ j. j % WORD_BITS) e)))
  ]
])
  where
    apart : (k : ℕ) → k ≢ n → slots_in ws k ≡ f (slots_in ws k) (k == n)
    apart k other = sym (ap (f (slots_in ws k)) (ne_eqb k n other) ∙ keeps (slots_in ws k))

    within : (k : ℕ) → k / WORD_BITS ≡ n / WORD_BITS → slots_in (set ws (n / WORD_BITS) v) k ≡ has_bit v (k % WORD_BITS)
    within k near = ap (λ i. has_bit (get_or (set ws (n / WORD_BITS) v) i 0) (k % WORD_BITS)) near ∙ ap (λ w. has_bit w (k % WORD_BITS)) (get_or-set_same ws (n / WORD_BITS) v 0 inside)

-- the bit of a slot, as the code computes it
abbrev bit_of : ℕ → ℕ
bit_of n = 1 * 2 ^ (n % WORD_BITS) % 2 ^ WORD_BITS

module _ (ws : List ℕ) (n : ℕ) (inside : n / WORD_BITS < length ws) where
  in_word : n % WORD_BITS < WORD_BITS
  in_word = omega arith

  pub slots_in-with : slots_in (set ws (n / WORD_BITS) (bit_or (get_or ws (n / WORD_BITS) 0) (bit_of n))) ≡ slots_in ws ∪ only n
  slots_in-with =
      let w : ℕ = get_or ws (n / WORD_BITS) 0 in
      slots_in-set
      (λ a b. a || b)
      (λ b. elim b as (λ a. (a || false) ≡ a) [ true ↦ refl | false ↦ refl ])
      ws
      n
      (bit_or w (bit_of n))
      inside
      (ap (λ d. d == 1) (bit_at_set_same w64 w (n % WORD_BITS) in_word) ∙ sym (or_right (slots_in ws n) true refl))
      (λ j low other. ap (λ d. d == 1) (bit_at_set_other w64 w (n % WORD_BITS) in_word j other))

  pub slots_in-without : slots_in (set ws (n / WORD_BITS) (bit_and (get_or ws (n / WORD_BITS) 0) (bit_not w64 (bit_of n)))) ≡ slots_in ws ∖ only n
  slots_in-without =
      let w : ℕ = get_or ws (n / WORD_BITS) 0 in
      slots_in-set
      (λ a b. a && not b)
      (λ b. elim b as (λ a. (a && true) ≡ a) [ true ↦ refl | false ↦ refl ])
      ws
      n
      (bit_and w (bit_not w64 (bit_of n)))
      inside
      (ap (λ d. d == 1) (bit_at_clear_same w64 w (n % WORD_BITS) in_word) ∙ sym (and_right (slots_in ws n) false refl))
      (λ j low other. ap (λ d. d == 1) (bit_at_clear_other w64 w (n % WORD_BITS) in_word j low other))

-- the new word is a word
pub fits-with : (ws : List ℕ) (n : ℕ) → ((i : ℕ) → get_or ws i 0 < 2 ^ WORD_BITS) → (i : ℕ) → get_or (set ws (n / WORD_BITS) (bit_or (get_or ws (n / WORD_BITS) 0) (bit_of n))) i 0 < 2 ^ WORD_BITS
fits-with ws n fit i =
    let w : ℕ = get_or ws (n / WORD_BITS) 0 in
    let v : ℕ = bit_or w (bit_of n) in
    let fits : v < 2 ^ WORD_BITS = or_lt WORD_BITS w (bit_of n) (fit (n / WORD_BITS)) (mod_below _ (2 ^ WORD_BITS) (pow_pos WORD_BITS)) in
    let P : ℕ → Type 0 = λ w. w < 2 ^ WORD_BITS in
    elim (cases_eq i (n / WORD_BITS)) [
      | inr other ↦ subst P (sym (get_or-set_other ws (n / WORD_BITS) i v 0 other)) (fit i)
      | inl same ↦ elim (cases_lt i (length ws)) [
        | inl low ↦ subst P (sym (ap (λ j. get_or (set ws j v) i 0) (sym same) ∙ get_or-set_same ws i v 0 low)) fits
        | inr high ↦ subst P (sym (get_or_past (set ws (n / WORD_BITS) v) i 0 (omega (arith, length-set ws (n / WORD_BITS) v)))) (pow_pos WORD_BITS)
      ]
    ]

-- ---- words joined one by one

-- below i, each word of zs is f of the words of xs and ys
pub record IsJoined (f : ℕ → ℕ → ℕ) (xs ys zs : List ℕ) (i : ℕ) : Type 0 where
  pub long : length zs ≡ length xs
  pub below : (k : ℕ) → k < i → get_or zs k 0 ≡ f (get_or xs k 0) (get_or ys k 0)

module _ (f : ℕ → ℕ → ℕ) (xs ys : List ℕ) where
  pub IsJoined-none : (zs : List ℕ) → length zs ≡ length xs → IsJoined f xs ys zs 0
  IsJoined-none zs long = record { long = long; below = λ k h. absurd (omega arith) }

  pub IsJoined-more : (zs : List ℕ) (i : ℕ) → IsJoined f xs ys zs i → i < length xs → IsJoined f xs ys (set zs i (f (get_or xs i 0) (get_or ys i 0))) (i + 1)
  IsJoined-more zs i so low =
      let inside : i < length zs = omega (arith, so.long) in
      record {
        long = length-set zs i _ ∙ so.long;
        below = below_more _ _ (λ k lower. let other : k ≢ i = omega arith in get_or-set_other zs i k _ 0 other ∙ so.below k lower) (get_or-set_same zs i _ 0 inside);
      }

  pub IsJoined-all : (zs : List ℕ) (i : ℕ) → f 0 0 ≡ 0 → length ys ≡ length xs → length xs ≤ i → IsJoined f xs ys zs i → (k : ℕ) → get_or zs k 0 ≡ f (get_or xs k 0) (get_or ys k 0)
  IsJoined-all zs i none long all so k =
      elim (cases_lt k i) [
        | inl low ↦ so.below k low
        | inr high ↦ rw (get_or_past zs k 0 (omega (arith, so.long)), get_or_past xs k 0 (omega arith), get_or_past ys k 0 (omega arith)) (sym none)
      ]

  slots_in-joined : (g : Bool → Bool → Bool) → ((a b k : ℕ) → has_bit (f a b) k ≡ g (has_bit a k) (has_bit b k)) → (zs : List ℕ) → ((k : ℕ) → get_or zs k 0 ≡ f (get_or xs k 0) (get_or ys k 0)) → slots_in zs ≡ (λ k. g (slots_in xs k) (slots_in ys k))
  slots_in-joined g bits zs each = fun_ext (λ k. ap (λ w. has_bit w (k % WORD_BITS)) (each (k / WORD_BITS)) ∙ bits (get_or xs (k / WORD_BITS) 0) (get_or ys (k / WORD_BITS) 0) (k % WORD_BITS))

pub slots_in-union : (xs ys zs : List ℕ) → ((k : ℕ) → get_or zs k 0 ≡ bit_or (get_or xs k 0) (get_or ys k 0)) → slots_in zs ≡ slots_in xs ∪ slots_in ys
slots_in-union xs ys zs each = slots_in-joined bit_or xs ys (λ a b. a || b) has_bit-or zs each

pub fits-union : (xs ys zs : List ℕ) → ((k : ℕ) → get_or zs k 0 ≡ bit_or (get_or xs k 0) (get_or ys k 0)) → ((i : ℕ) → get_or xs i 0 < 2 ^ WORD_BITS) → ((i : ℕ) → get_or ys i 0 < 2 ^ WORD_BITS) → (i : ℕ) → get_or zs i 0 < 2 ^ WORD_BITS
fits-union xs ys zs each fit fits i = let P : ℕ → Type 0 = λ w. w < 2 ^ WORD_BITS in subst P (sym (each i)) (or_lt WORD_BITS (get_or xs i 0) (get_or ys i 0) (fit i) (fits i))

pub slots_in-meet : (xs ys zs : List ℕ) → ((k : ℕ) → get_or zs k 0 ≡ bit_and (get_or xs k 0) (get_or ys k 0)) → slots_in zs ≡ (λ k. slots_in xs k && slots_in ys k)
slots_in-meet xs ys zs each = slots_in-joined bit_and xs ys (λ a b. a && b) has_bit-and zs each

-- ---- slots of both, word by word

module _ (xs ys : List ℕ) where
  pub words_meet : (i : ℕ) → get_or xs i 0 < 2 ^ WORD_BITS → bit_and (get_or xs i 0) (get_or ys i 0) ≢ 0 → Hits (slots_in xs) (slots_in ys)
  words_meet i fits some =
      let a : ℕ = get_or xs i 0 in
      let b : ℕ = get_or ys i 0 in
      let smaller : bit_and a b < 2 ^ WORD_BITS = omega (arith, and_le_l a b) in
      let bit : (k : ℕ) × (k < WORD_BITS) × IsTrue (has_bit (bit_and a b) k) = some_bit (bit_and a b) smaller some in
      let parts : IsTrue (has_bit a bit.0) × IsTrue (has_bit b bit.0) = and_parts (has_bit a bit.0) (has_bit b bit.0) (sym (has_bit-and a b bit.0) ∙ bit.2) in
      (i * WORD_BITS + bit.0, slots_in-at xs i bit.0 bit.1 ∙ parts.0, slots_in-at ys i bit.0 bit.1 ∙ parts.1)

  pub words_miss : ((i : ℕ) → i < length xs → bit_and (get_or xs i 0) (get_or ys i 0) ≡ 0) → Hits (slots_in xs) (slots_in ys) → ⊥
  words_miss none hit =
      let k : ℕ = hit.0 in
      let i : ℕ = k / WORD_BITS in
      let a : ℕ = get_or xs i 0 in
      let b : ℕ = get_or ys i 0 in
      elim (cases_lt i (length xs)) [
        | inl low ↦ false≢true (sym (has_bit-zero (k % WORD_BITS)) ∙ (ap (λ w. has_bit w (k % WORD_BITS)) (sym (none i low)) ∙ (has_bit-and a b (k % WORD_BITS) ∙ and_from (has_bit a (k % WORD_BITS)) (has_bit b (k % WORD_BITS)) hit.1 hit.2)))
        | inr high ↦ false≢true (sym (slots_in-past xs k high) ∙ hit.1)
      ]

-- ---- subsets, word by word

module _ (xs ys : List ℕ) where
  pub words_within : (k : ℕ) → bit_and (get_or xs (k / WORD_BITS) 0) (get_or ys (k / WORD_BITS) 0) ≡ get_or xs (k / WORD_BITS) 0 → IsTrue (slots_in xs k) → IsTrue (slots_in ys k)
  words_within k e h =
      let a : ℕ = get_or xs (k / WORD_BITS) 0 in
      let b : ℕ = get_or ys (k / WORD_BITS) 0 in
      (and_parts (has_bit a (k % WORD_BITS)) (has_bit b (k % WORD_BITS)) (sym (has_bit-and a b (k % WORD_BITS)) ∙ (ap (λ w. has_bit w (k % WORD_BITS)) e ∙ h))).1

  pub within_words : (i : ℕ) → get_or xs i 0 < 2 ^ WORD_BITS → slots_in xs ⊆ slots_in ys → bit_and (get_or xs i 0) (get_or ys i 0) ≡ get_or xs i 0
  within_words i fits within =
      let a : ℕ = get_or xs i 0 in
      let b : ℕ = get_or ys i 0 in
      let smaller : bit_and a b < 2 ^ WORD_BITS = omega (arith, and_le_l a b) in
      same_word WORD_BITS (bit_and a b) a smaller fits (λ k low. has_bit-and a b k ∙ absorbed (has_bit a k) (has_bit b k) (λ h. sym (slots_in-at ys i k low) ∙ within (i * WORD_BITS + k) (slots_in-at xs i k low ∙ h)))

-- ---- sizes, word by word

size_below-join : (m n : ℕ) (E : Set ℕ) → size_below (m + n) E ≡ size_below m E + size_below n (λ k. E (m + k))
unfolding size_below
size_below-join m zero E = let e : m + 0 ≡ m = omega arith in ap (λ l. size_below l E) e ∙ omega arith
size_below-join m (suc n) E = ap (λ l. size_below l E) (add-suc m n) ∙ omega (arith, size_below-join m n E)

-- one word more
pub size_below-word : (ws : List ℕ) (i : ℕ) → get_or ws i 0 < 2 ^ WORD_BITS → size_below ((i + 1) * WORD_BITS) (slots_in ws) ≡ size_below (i * WORD_BITS) (slots_in ws) + count_ones (get_or ws i 0)
size_below-word ws i fits =
    let long : (i + 1) * WORD_BITS ≡ i * WORD_BITS + WORD_BITS = omega arith in
    let word : size_below WORD_BITS (λ k. slots_in ws (i * WORD_BITS + k)) ≡ count_ones (get_or ws i 0) = size_below-agree WORD_BITS (λ k. slots_in ws (i * WORD_BITS + k)) (has_bit (get_or ws i 0)) (slots_in-at ws i) ∙ size_of_word WORD_BITS (get_or ws i 0) fits in
    ap (λ l. size_below l (slots_in ws)) long ∙ (size_below-join (i * WORD_BITS) WORD_BITS (slots_in ws) ∙ ap (λ l. size_below (i * WORD_BITS) (slots_in ws) + l) word)

-- lists of words, as many in each, are equal where they have the same slots
pub same_words : (xs ys : List ℕ) → length xs ≡ length ys → ((i : ℕ) → get_or xs i 0 < 2 ^ WORD_BITS) → ((i : ℕ) → get_or ys i 0 < 2 ^ WORD_BITS) → slots_in xs ≡ slots_in ys → xs ≡ ys
same_words xs ys long fits fit same =
    same_lists xs ys long (λ i d low. get_or_default xs i d 0 low ∙ (word i ∙ sym (get_or_default ys i d 0 (omega arith))))
  where
    word : (i : ℕ) → get_or xs i 0 ≡ get_or ys i 0
    word i = same_word WORD_BITS (get_or xs i 0) (get_or ys i 0) (fits i) (fit i) (λ k low. sym (slots_in-at xs i k low) ∙ (ap (λ s. s (i * WORD_BITS + k)) same ∙ slots_in-at ys i k low))
