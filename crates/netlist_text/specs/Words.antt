-- The words of a line, and the numbers among them.
use Rattle.std.specs.Prelude.{ℕ, zero, suc, ◌+◌, ◌-◌, ◌*◌, ◌==◌, nat_le, nat_lt, Bool, true, ◌||◌, ◌&&◌, if◌then◌else◌, List, [], ◌∷◌, length, slice_index}
use Rattle.std.specs.List.{list_all}
use Rattle.bench_io.specs.Lines.{onto_first}
use Rattle.netlist_text.specs.declared.words.TheConstants.{MOST_DIGITS}

-- a byte that a line may have: a tab, a carriage return, or one of printable ASCII
abbrev pub is_printable : ℕ → Bool
is_printable b = (b == 9) || (b == 13) || (nat_le 32 b && nat_le b 126)

-- a tab, a carriage return and a space separate words
abbrev pub is_blank : ℕ → Bool
is_blank b = (b == 32) || (b == 9) || (b == 13)

-- the bytes between blanks, empty ones too
abbrev pub pieces_of : List ℕ → List (List ℕ)
pieces_of [] = [] ∷ []
pieces_of (b ∷ bytes) = if is_blank b then [] ∷ pieces_of bytes else onto_first b (pieces_of bytes)

-- the pieces that are not empty
abbrev pub without_empty : List (List ℕ) → List (List ℕ)
without_empty [] = []
without_empty ([] ∷ pieces) = without_empty pieces
without_empty ((b ∷ bytes) ∷ pieces) = (b ∷ bytes) ∷ without_empty pieces

-- the words of a line
abbrev pub words_of : List ℕ → List (List ℕ)
words_of line = without_empty (pieces_of line)

-- the first of the words, where there is one
abbrev pub first : List (List ℕ) → List ℕ
first [] = []
first (word ∷ words) = word

-- the words after the first
abbrev pub rest : List (List ℕ) → List (List ℕ)
rest [] = []
rest (word ∷ words) = words

-- the word with so many before it, where there is one
abbrev pub word_at : List (List ℕ) → ℕ → List ℕ
word_at words zero = first words
word_at words (suc place) = word_at (rest words) place

-- Words that ask for nothing: there is none, or they are a comment, whose first word begins with `#`.
abbrev pub are_silent : List (List ℕ) → Bool
are_silent [] = true
are_silent (word ∷ words) = slice_index word 0 == 35

-- the byte is a decimal digit
abbrev pub is_digit : ℕ → Bool
is_digit b = nat_le 48 b && nat_le b 57

-- the word is a number: at least one decimal digit, and no more than a number may have
abbrev pub is_number : List ℕ → Bool
is_number word = nat_lt 0 (length word) && nat_le (length word) MOST_DIGITS && list_all is_digit word

-- the number that the digits stand for, after those that stand for `before`
abbrev pub number_after : ℕ → List ℕ → ℕ
number_after before [] = before
number_after before (b ∷ bytes) = number_after (10 * before + (b - 48)) bytes

-- the number that a word of digits stands for
abbrev pub number_of : List ℕ → ℕ
number_of word = number_after 0 word
