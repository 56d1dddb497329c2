-- The words of the lines of `show`: keywords, names, numbers and cells, and what they stand for.
use Rattle.std.proofs.Common.{◌≡◌, ℕ, ◌^◌, ◌≤◌, ◌<◌, ◌==◌, true, false, ◌&&◌, nat_le, nat_lt, if◌then◌else◌, List, [], ◌∷◌, ◌++◌, length, decimal, codes, Some, None, refl, ap, arith, rules, length-append, inl, inr}
use Rattle.std.specs.List.{list_all, position_or_len}
use Rattle.std.proofs.Math.Nat.{pow-le-pow_right}
use Rattle.std.proofs.Math.Seq.{take-append_seam, take-length, drop-append-add}
use Rattle.std.proofs.lemmas.Bool.{and_parts, and_from, le-leb, lt-ltb, le-ltb, cases_eq, ne_eqb}
use Rattle.std.proofs.lemmas.Bool.Decides.{nat_tests}
use Rattle.std.proofs.lemmas.List.{append-nil}
use Rattle.std.proofs.lemmas.Fmt.{digits_decimal, digits_value-decimal, length-decimal-le, decimal_nonempty}
use Rattle.std.proofs.lemmas.Str.Parse.{IsNumeralModel, numerals_by_fold}
use Rattle.circuit_model.specs.Names.{is_name, begins_name, continues_name}
use Rattle.circuit_model.specs.declared.limits.TheConstants.{LONGEST_NAME}
use Rattle.netlist_text.specs.Cells.{is_at, net_part, cycle_part, has_cycle, cycle_of}
use Rattle.netlist_text.specs.Words.{is_digit, is_number, number_of, number_after}
use Rattle.netlist_text.specs.declared.words.TheConstants.{MOST_DIGITS}
use Rattle.netlist_text.proofs.Spaced.{is_graphic, IsWord}

-- a word that is written out
pub known_word : (word : List ℕ) → (nat_lt 0 (length word) && nat_le (length word) 32 && list_all is_graphic word) ≡ true → IsWord 32 word
known_word word h =
    let p = and_parts (nat_lt 0 (length word) && nat_le (length word) 32) (list_all is_graphic word) h in
    let q = and_parts (nat_lt 0 (length word)) (nat_le (length word) 32) p.0 in
    let some : nat_lt 0 (length word) ≡ true = q.0 in
    let short : nat_le (length word) 32 ≡ true = q.1 in
    record { some = grind (arith, nat_tests); short = grind (arith, nat_tests); graphic = p.1 }

pub wider_word : (word : List ℕ) → IsWord 32 word → IsWord 36 word
wider_word word h = let short = h.short in record { some = h.some; short = omega arith; graphic = h.graphic }

-- a name is a word
begins_continues : (b : ℕ) → begins_name b ≡ true → continues_name b ≡ true
begins_continues b h = rw h refl

continues_graphic : (b : ℕ) → continues_name b ≡ true → is_graphic b ≡ true
continues_graphic b h = grind (arith, nat_tests)

continues_not_at : (b : ℕ) → continues_name b ≡ true → is_at b ≡ false
continues_not_at b h = grind (arith, nat_tests)

all_graphic : (bytes : List ℕ) → list_all continues_name bytes ≡ true → list_all is_graphic bytes ≡ true
all_graphic [] h = refl
all_graphic (b ∷ bytes) h = let p = and_parts (continues_name b) (list_all continues_name bytes) h in and_from (is_graphic b) (list_all is_graphic bytes) (continues_graphic b p.0) (all_graphic bytes p.1)

pub record IsNameWord (name : List ℕ) : Type 0 where
  pub some : 0 < length name
  pub short : length name ≤ 32
  pub each : list_all continues_name name ≡ true

pub name_parts : (name : List ℕ) → is_name name ≡ true → IsNameWord name
name_parts [] h = absurd (cc)
name_parts (b ∷ bytes) h =
    let p = and_parts (begins_name b && list_all continues_name bytes) (nat_le (length (b ∷ bytes)) LONGEST_NAME) h in
    let q = and_parts (begins_name b) (list_all continues_name bytes) p.0 in
    let short : nat_le (length (b ∷ bytes)) 32 ≡ true = p.1 in
    record {
      some = omega arith;
      short = grind (arith, nat_tests);
      each = and_from (continues_name b) (list_all continues_name bytes) (begins_continues b q.0) q.1;
    }

pub name_word : (name : List ℕ) → is_name name ≡ true → IsWord 32 name
name_word name h = let p = name_parts name h in record { some = p.some; short = p.short; graphic = all_graphic name p.each }

-- numbers
pub numerals : IsNumeralModel (λ ds. list_all is_digit ds ≡ true) (number_after 0)
numerals = numerals_by_fold _ (search rules) number_after (search rules)

digits_graphic : (bytes : List ℕ) → list_all is_digit bytes ≡ true → list_all is_graphic bytes ≡ true
digits_graphic [] h = refl
digits_graphic (b ∷ bytes) h =
    let p = and_parts (is_digit b) (list_all is_digit bytes) h in
    let here : is_digit b ≡ true = p.0 in
    let graphic : is_graphic b ≡ true = grind (arith, nat_tests) in
    and_from (is_graphic b) (list_all is_graphic bytes) graphic (digits_graphic bytes p.1)

-- the text of a number of at most ten digits is read as that number
pub record IsNumberWord (n : ℕ) : Type 0 where
  pub word : IsWord 32 (decimal n)
  pub short : length (decimal n) ≤ 10
  pub number : is_number (decimal n) ≡ true
  pub value : number_of (decimal n) ≡ n

pub number_word : (n : ℕ) → n < 10 ^ 10 → IsNumberWord n
number_word n h =
    let fits : n < 2 ^ 64 = omega arith in
    let digits : list_all is_digit (decimal n) ≡ true = digits_decimal numerals n fits in
    let some : 0 < length (decimal n) = decimal_nonempty n fits in
    let short : length (decimal n) ≤ 10 = length-decimal-le 10 n (omega arith) h fits in
    record {
      word = record { some = some; short = omega arith; graphic = digits_graphic (decimal n) digits };
      short = short;
      number = and_from (nat_lt 0 (length (decimal n)) && nat_le (length (decimal n)) MOST_DIGITS) (list_all is_digit (decimal n)) (and_from (nat_lt 0 (length (decimal n))) (nat_le (length (decimal n)) MOST_DIGITS) (lt-ltb 0 (length (decimal n)) some) (le-leb (length (decimal n)) MOST_DIGITS short)) digits;
      value = digits_value-decimal numerals n fits;
    }

-- a word of a width has at most ten digits
pub word_below : (width value : ℕ) → width ≤ 32 → value < 2 ^ width → value < 10 ^ 10
word_below width value h v = let most : 2 ^ width ≤ 2 ^ 32 = pow-le-pow_right (omega arith) h in omega (arith, most, v)

-- cells
at_of : (name rest : List ℕ) → list_all continues_name name ≡ true → position_or_len is_at (name ++ 64 ∷ rest) ≡ length name
at_of [] rest h = refl
at_of (b ∷ name) rest h =
    let p = and_parts (continues_name b) (list_all continues_name name) h in
    rw (continues_not_at b p.0) (omega (arith, at_of name rest p.1))

no_at : (name : List ℕ) → list_all continues_name name ≡ true → position_or_len is_at name ≡ length name
no_at [] h = refl
no_at (b ∷ name) h =
    let p = and_parts (continues_name b) (list_all continues_name name) h in
    rw (continues_not_at b p.0) (omega (arith, no_at name p.1))

-- a cell's word, split again
pub record IsCellWord (word name : List ℕ) (cycle : ℕ) : Type 0 where
  pub is_word : IsWord 36 word
  pub net : net_part word ≡ name
  pub has : has_cycle word ≡ true
  pub cycle_is : cycle_of word ≡ cycle

cell_part : (name : List ℕ) → is_name name ≡ true → cycle_part name ≡ None
cell_part name h = let p = name_parts name h in let e = no_at name p.each in rw (e, le-ltb (length name) (length name) (omega arith)) refl

plain_cell : (name : List ℕ) → is_name name ≡ true → IsCellWord name name 0
plain_cell name h =
    let p = name_parts name h in
    let e = no_at name p.each in
    let none = cell_part name h in
    record {
      is_word = wider_word name (name_word name h);
      net = rw e (take-length name);
      has = rw none refl;
      cycle_is = rw none refl;
    }

cycle_after : (name digits : List ℕ) → is_name name ≡ true → cycle_part (name ++ 64 ∷ digits) ≡ Some digits
cycle_after name digits h =
    let p = name_parts name h in
    let e = at_of name digits p.each in
    let size = length-append name (64 ∷ digits) in
    let within : nat_lt (length name) (length (name ++ 64 ∷ digits)) ≡ true = lt-ltb (length name) (length (name ++ 64 ∷ digits)) (omega (arith, size)) in
    rw (e, within) (ap Some (drop-append-add name (64 ∷ digits) 1))

graphic-append : (xs ys : List ℕ) → list_all is_graphic xs ≡ true → list_all is_graphic ys ≡ true → list_all is_graphic (xs ++ ys) ≡ true
graphic-append [] ys h k = k
graphic-append (x ∷ xs) ys h k = let p = and_parts (is_graphic x) (list_all is_graphic xs) h in and_from (is_graphic x) (list_all is_graphic (xs ++ ys)) p.0 (graphic-append xs ys p.1 k)

later_cell : (name : List ℕ) (cycle : ℕ) → is_name name ≡ true → cycle < 100 → IsCellWord (name ++ 64 ∷ decimal cycle) name cycle
later_cell name cycle h few =
    let p = name_parts name h in
    let w = name_word name h in
    let e = at_of name (decimal cycle) p.each in
    let part = cycle_after name (decimal cycle) h in
    let n = number_word cycle (omega arith) in
    let fits : cycle < 2 ^ 64 = omega arith in
    let digits : length (decimal cycle) ≤ 3 = length-decimal-le 3 cycle (omega arith) (omega arith) fits in
    let size = length-append name (64 ∷ decimal cycle) in
    let short = p.short in
    let graphic : list_all is_graphic (64 ∷ decimal cycle) ≡ true = n.word.graphic in
    record {
      is_word = record { some = omega (arith, size); short = omega (arith, size, digits, short); graphic = graphic-append name (64 ∷ decimal cycle) w.graphic graphic };
      net = rw e (take-append_seam name (64 ∷ decimal cycle));
      has = rw part n.number;
      cycle_is = rw part n.value;
    }

-- a cell's word
pub cell_word : (name : List ℕ) (cycle : ℕ) → is_name name ≡ true → cycle < 100 → IsCellWord (name ++ (if cycle == 0 then [] else codes "@" ++ decimal cycle)) name cycle
cell_word name cycle h few = elim (cases_eq cycle 0) [
  | inl e ↦ rw (e, append-nil name) (plain_cell name h)
  | inr ne ↦ rw (ne_eqb cycle 0 ne) (later_cell name cycle h few)
]
