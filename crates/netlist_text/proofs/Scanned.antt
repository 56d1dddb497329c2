-- Words and numbers of a line.
use Rattle.std.proofs.Common.{◌≡◌, ℕ, zero, suc, ◌+◌, ◌-◌, ◌*◌, ◌^◌, ◌≤◌, ◌<◌, true, false, if◌then◌else◌, List, [], ◌∷◌, ◌++◌, length, take, get_or, refl, sym, ◌∙◌, ap, arith, add-one, nat_le}
use Rattle.std.specs.List.{list_all}
use Rattle.std.proofs.lemmas.Bool.{true≢false, and_parts}
use Rattle.std.proofs.lemmas.List.{take_more}
use Rattle.std.proofs.Math.Nat.{pow-succ'}
use Rattle.netlist_text.specs.Words.{words_of, pieces_of, without_empty, rest, word_at, is_blank, is_digit, number_after}
use Rattle.bench_io.specs.Lines.{onto_first}
use Rattle.netlist_text.specs.Scanning.{AreBlanks, HasNoBlank, BeginsBlank, BeginsWord}

AreBlanks-append : (xs ys : List ℕ) → AreBlanks xs → AreBlanks ys → AreBlanks (xs ++ ys)
AreBlanks-append [] ys p q = q
AreBlanks-append (x ∷ xs) ys p q = (p.0, AreBlanks-append xs ys p.1 q)

HasNoBlank-append : (xs ys : List ℕ) → HasNoBlank xs → HasNoBlank ys → HasNoBlank (xs ++ ys)
HasNoBlank-append [] ys p q = q
HasNoBlank-append (x ∷ xs) ys p q = (p.0, HasNoBlank-append xs ys p.1 q)

pub AreBlanks-more : (xs : List ℕ) (i : ℕ) → i < length xs → AreBlanks (take i xs) → is_blank (get_or xs i 0) ≡ true → AreBlanks (take (i + 1) xs)
AreBlanks-more xs i h p e = rw (take_more xs i 0 h) (AreBlanks-append (take i xs) _ p (e, tt))

pub HasNoBlank-more : (xs : List ℕ) (i : ℕ) → i < length xs → HasNoBlank (take i xs) → is_blank (get_or xs i 0) ≡ false → HasNoBlank (take (i + 1) xs)
HasNoBlank-more xs i h p e = rw (take_more xs i 0 h) (HasNoBlank-append (take i xs) _ p (e, tt))

words-blank : (b : ℕ) (bytes : List ℕ) → is_blank b ≡ true → words_of (b ∷ bytes) ≡ words_of bytes
words-blank b bytes e = rw e refl

pub skipped : (blanks rest : List ℕ) → AreBlanks blanks → words_of (blanks ++ rest) ≡ words_of rest
skipped [] rest h = refl
skipped (b ∷ blanks) rest h = words-blank b (blanks ++ rest) h.0 ∙ skipped blanks rest h.1

after : List ℕ → List (List ℕ)
after [] = []
after (b ∷ rest) = pieces_of rest

pieces_front : (w rest : List ℕ) → HasNoBlank w → BeginsBlank rest → pieces_of (w ++ rest) ≡ w ∷ after rest
unfolding after
pieces_front [] [] h g = refl
pieces_front [] (b ∷ rest) h g = rw g refl
pieces_front (x ∷ w) rest h g = rw (h.0, pieces_front w rest h.1 g) refl

words_after : (rest : List ℕ) → BeginsBlank rest → without_empty (after rest) ≡ words_of rest
unfolding after
words_after [] g = refl
words_after (b ∷ rest) g = sym (words-blank b rest g)

pub word_then : (w rest : List ℕ) → HasNoBlank w → 0 < length w → BeginsBlank rest → words_of (w ++ rest) ≡ w ∷ words_of rest
word_then [] rest h some g = absurd (omega arith)
word_then (x ∷ w) rest h some g = ap without_empty (pieces_front (x ∷ w) rest h g) ∙ ap (λ t. (x ∷ w) ∷ t) (words_after rest g)

pub no_word : (front : List ℕ) → BeginsWord front → BeginsBlank front → words_of front ≡ []
no_word [] p q = refl
no_word (b ∷ front) p q = absurd (true≢false (sym q ∙ p))

number-append : (n b : ℕ) (xs : List ℕ) → number_after n (xs ++ b ∷ []) ≡ 10 * number_after n xs + (b - 48)
number-append n b [] = refl
number-append n b (x ∷ xs) = number-append (10 * n + (x - 48)) b xs

pub number-more : (xs : List ℕ) (i n : ℕ) → i < length xs → n ≡ number_after 0 (take i xs) → 10 * n + (get_or xs i 0 - 48) ≡ number_after 0 (take (i + 1) xs)
number-more xs i n h e = rw (take_more xs i 0 h) (ap (λ m. 10 * m + (get_or xs i 0 - 48)) e ∙ sym (number-append 0 (get_or xs i 0) (take i xs)))

pub power-more : (n i d : ℕ) → n < 10 ^ i → d ≤ 57 → 10 * n + (d - 48) < 10 ^ (i + 1)
power-more n i d h k = let e : 10 ^ (i + 1) ≡ 10 * 10 ^ i = rw add-one (pow-succ' 10 i) in rw e (omega arith)

-- one byte more makes at most one word more
words_onto : (b : ℕ) (pieces : List (List ℕ)) → length (without_empty (onto_first b pieces)) ≤ length (without_empty pieces) + 1
words_onto b [] = omega arith
words_onto b ([] ∷ pieces) = omega arith
words_onto b ((x ∷ piece) ∷ pieces) = omega arith

-- there are no more words than bytes
pub words_within : (bytes : List ℕ) → length (words_of bytes) ≤ length bytes
words_within [] = omega arith
words_within (b ∷ bytes) = elim (is_blank b) as (λ v. length (without_empty (if v then [] ∷ pieces_of bytes else onto_first b (pieces_of bytes))) ≤ length (b ∷ bytes)) [
  | true ↦ omega (arith, words_within bytes)
  | false ↦ omega (arith, words_within bytes, words_onto b (pieces_of bytes))
]

-- the place of a word counts down as words are left out
pub word_after : (words : List (List ℕ)) (n : ℕ) → 0 < n → word_at words n ≡ word_at (rest words) (n - 1)
word_after words zero h = absurd (omega arith)
word_after words (suc n) h = let e : suc n - 1 ≡ n = omega arith in rw e refl

-- each digit of a word of digits
pub digit_at : (word : List ℕ) (i : ℕ) → i < length word → list_all is_digit word ≡ true → is_digit (get_or word i 0) ≡ true
digit_at [] i h e = absurd (omega arith)
digit_at (b ∷ word) zero h e = (and_parts _ _ e).0
digit_at (b ∷ word) (suc i) h e = digit_at word i (omega arith) (and_parts _ _ e).1

-- the largest digit is 9
pub digit_within : (b : ℕ) → is_digit b ≡ true → b ≤ 57
digit_within b e = let k : nat_le b 57 ≡ true = (and_parts (nat_le 48 b) (nat_le b 57) e).1 in grind arith
