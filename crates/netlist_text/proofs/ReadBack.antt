-- The lines of `show`, read back.
use Rattle.std.proofs.Common.{◌≡◌, ℕ, suc, ◌≤◌, ◌+◌, ◌*◌, ◌==◌, true, false, ◌&&◌, nat_le, nat_lt, List, [], ◌∷◌, length, decimal, codes, Some, None, Ok, refl, ◌∙◌, ap, arith}
use Rattle.std.specs.Prelude.{slice_index}
use Rattle.std.specs.List.{list_all}
use Rattle.std.specs.Str.{bytes_eq}
use Rattle.std.proofs.lemmas.Bool.{and_from, le-leb, le-ltb}
use Rattle.circuit_model.specs.Names.{is_name}
use Rattle.circuit_model.specs.declared.limits.TheConstants.{MOST_PINS}
use Rattle.circuit_model.specs.declared.model.Kind.{Kind}
use Rattle.circuit_model.specs.declared.model.Kind.TheVariants as kind
use Rattle.circuit_model.specs.Kinds.{block_in, RepeatsLast}
use Rattle.netlist_text.specs.Changes.{change_named}
use Rattle.netlist_text.specs.Commands.{form_of, request_of}
use Rattle.netlist_text.specs.Grammar.{reading_by}
use Rattle.netlist_text.specs.Lookups.{word_of_kind}
use Rattle.netlist_text.specs.Parts.{part_named, places_of_part, kind_of, nets_of}
use Rattle.netlist_text.specs.Places.{has_count, have_names, have_numbers}
use Rattle.netlist_text.specs.Queries.{query_named}
use Rattle.netlist_text.specs.Show.{part_words}
use Rattle.netlist_text.specs.declared.commands.Command.{Command}
use Rattle.netlist_text.specs.declared.commands.Command.TheVariants as command
use Rattle.netlist_text.specs.declared.parts.PartWord.{PartWord}
use Rattle.netlist_text.specs.declared.parts.PartWord.TheVariants as word
use Rattle.netlist_text.specs.declared.requests.Change.TheVariants as change
use Rattle.netlist_text.specs.declared.requests.Request.TheVariants as request
use Rattle.bench_io.specs.declared.limits.TheConstants.{LONGEST_LINE}
use Rattle.netlist_text.proofs.Spaced.{asked_by, AreWords, room_for}
use Rattle.netlist_text.proofs.ShownWords.{IsNumberWord, name_word, known_word, IsCellWord}

-- words that fit the form of their command are read
reading_by-fits : (c : Command) (words : List (List ℕ)) → has_count (form_of c) (length words) ≡ true → have_names (form_of c).places words ≡ true → have_numbers (form_of c).places words ≡ true
    → reading_by c words ≡ Ok (request_of c words)
reading_by-fits c words count names numbers = rw (count, names, numbers) refl

-- the lines that say what the text is
pub head_asks : asked_by (codes "#" ∷ codes "gde" ∷ codes "2" ∷ []) ≡ Ok request.Nothing
head_asks = refl

pub end_asks : asked_by (codes "#" ∷ codes "end" ∷ []) ≡ Ok request.Nothing
end_asks = refl

module _ (n : ℕ) (w : IsNumberWord n) where
  pub cycles_asks : asked_by (codes "cycles" ∷ decimal n ∷ []) ≡ Ok (request.Change (change.Cycles n))
  unfolding change_named part_named query_named
  cycles_asks = rw (w.number, w.value) refl

  pub net_asks : (name : List ℕ) → is_name name ≡ true → asked_by (codes "net" ∷ name ∷ decimal n ∷ []) ≡ Ok (request.Change (change.Net name n))
  unfolding change_named part_named query_named
  net_asks name h = rw (h, w.number, w.value) refl

  pub cost_asks : (name : List ℕ) → is_name name ≡ true → asked_by (codes "cost" ∷ name ∷ decimal n ∷ []) ≡ Ok (request.Change (change.Cost name n))
  unfolding change_named part_named query_named
  cost_asks name h = rw (h, w.number, w.value) refl

  pub pin_asks : (block name : List ℕ) → is_name block ≡ true → is_name name ≡ true → asked_by (codes "pin" ∷ block ∷ name ∷ decimal n ∷ []) ≡ Ok (request.Change (change.Pin block name n))
  unfolding change_named part_named query_named
  pin_asks block name b h = rw (b, h, w.number, w.value) refl

  pub acts_asks : (name kind : List ℕ) → is_name name ≡ true → is_name kind ≡ true → asked_by (codes "acts" ∷ name ∷ kind ∷ decimal n ∷ []) ≡ Ok (request.Change (change.Acts name kind n))
  unfolding change_named part_named query_named
  acts_asks name kind h k = rw (h, k, w.number, w.value) refl

  pub stuck_asks : (name : List ℕ) (value : ℕ) → is_name name ≡ true → IsNumberWord value → asked_by (codes "stuck" ∷ name ∷ decimal value ∷ decimal n ∷ []) ≡ Ok (request.Change (change.Stuck name value n))
  unfolding change_named part_named query_named
  stuck_asks name value h v = rw (h, v.number, w.number, v.value, w.value) refl

  pub measure_asks : (cell name : List ℕ) (cycle : ℕ) → is_name name ≡ true → IsCellWord cell name cycle → asked_by (codes "measure" ∷ cell ∷ decimal n ∷ []) ≡ Ok (request.Change (change.Measure name cycle n))
  unfolding change_named part_named query_named
  measure_asks cell name cycle h c = rw (c.net, c.has, c.cycle_is, h, w.number, w.value) refl

pub define_asks : (name : List ℕ) → is_name name ≡ true → asked_by (codes "define" ∷ name ∷ []) ≡ Ok (request.Change (change.Define name))
unfolding change_named part_named query_named
define_asks name h = rw h refl

-- as many words as a form without further names has places
has_exactly : (places words : ℕ) → words ≡ places → (nat_le places words && nat_le words (places + 0)) ≡ true
has_exactly places words e = and_from (nat_le places words) (nat_le words (places + 0)) (le-leb places words (omega arith)) (le-leb words (places + 0) (omega arith))

-- the value of the kind, if it has one, is read as that value
abbrev pub HasNumber : Kind → Type 0
HasNumber kind.Buf = Unit {0}
HasNumber kind.Not = Unit {0}
HasNumber kind.And = Unit {0}
HasNumber kind.Or = Unit {0}
HasNumber kind.Xor = Unit {0}
HasNumber kind.Nand = Unit {0}
HasNumber kind.Nor = Unit {0}
HasNumber kind.Xnor = Unit {0}
HasNumber kind.Add = Unit {0}
HasNumber kind.Mul = Unit {0}
HasNumber (kind.Const value) = IsNumberWord value
HasNumber (kind.Reg reset) = IsNumberWord reset
HasNumber (kind.Block block) = Unit {0}

-- the line of a component fits the form of its first word, and is read as it
pub record FitsPart (k : Kind) (name : List ℕ) (names : List (List ℕ)) (w : PartWord) : Type 0 where
  pub named : part_named (word_of_kind k) ≡ Some w
  pub loud : (slice_index (word_of_kind k) 0 == 35) ≡ false
  pub apart : bytes_eq (word_of_kind k) (codes "inside") ≡ false
  pub count : length (part_words k name names) ≡ length (places_of_part w)
  pub has_names : have_names (places_of_part w) (part_words k name names) ≡ true
  pub has_numbers : have_numbers (places_of_part w) (part_words k name names) ≡ true
  pub kind_is : kind_of w (part_words k name names) ≡ k
  pub nets_are : nets_of w (part_words k name names) ≡ names
  pub words : AreWords 32 (part_words k name names)
  pub short : length (part_words k name names) ≤ 5

module _ (name a b c : List ℕ) (n : is_name name ≡ true) (ha : is_name a ≡ true) (hb : is_name b ≡ true) (hc : is_name c ≡ true) where
  pub fits_part : (k : Kind) → block_in k ≡ None → RepeatsLast k (a ∷ b ∷ c ∷ []) → HasNumber k → (w : PartWord) × FitsPart k name (a ∷ b ∷ c ∷ []) w
  unfolding part_named
  fits_part kind.Buf plain repeats number = let same : b ≡ c = cc in (
    word.Buf,
    record {
      named = refl;
      loud = refl;
      apart = refl;
      count = refl;
      has_names = rw (n, ha, hb) refl;
      has_numbers = refl;
      kind_is = refl;
      nets_are = ap (λ t. a ∷ b ∷ t ∷ []) same;
      words = (known_word (codes "buf") refl, (name_word name n, (name_word a ha, (name_word b hb, tt))));
      short = omega arith;
    },
  )
  fits_part kind.Not plain repeats number = let same : b ≡ c = cc in (
    word.Not,
    record {
      named = refl;
      loud = refl;
      apart = refl;
      count = refl;
      has_names = rw (n, ha, hb) refl;
      has_numbers = refl;
      kind_is = refl;
      nets_are = ap (λ t. a ∷ b ∷ t ∷ []) same;
      words = (known_word (codes "not") refl, (name_word name n, (name_word a ha, (name_word b hb, tt))));
      short = omega arith;
    },
  )
  fits_part kind.And plain repeats number = (
    word.And,
    record {
      named = refl;
      loud = refl;
      apart = refl;
      count = refl;
      has_names = rw (n, ha, hb, hc) refl;
      has_numbers = refl;
      kind_is = refl;
      nets_are = refl;
      words = (known_word (codes "and") refl, (name_word name n, (name_word a ha, (name_word b hb, (name_word c hc, tt)))));
      short = omega arith;
    },
  )
  fits_part kind.Or plain repeats number = (
    word.Or,
    record {
      named = refl;
      loud = refl;
      apart = refl;
      count = refl;
      has_names = rw (n, ha, hb, hc) refl;
      has_numbers = refl;
      kind_is = refl;
      nets_are = refl;
      words = (known_word (codes "or") refl, (name_word name n, (name_word a ha, (name_word b hb, (name_word c hc, tt)))));
      short = omega arith;
    },
  )
  fits_part kind.Xor plain repeats number = (
    word.Xor,
    record {
      named = refl;
      loud = refl;
      apart = refl;
      count = refl;
      has_names = rw (n, ha, hb, hc) refl;
      has_numbers = refl;
      kind_is = refl;
      nets_are = refl;
      words = (known_word (codes "xor") refl, (name_word name n, (name_word a ha, (name_word b hb, (name_word c hc, tt)))));
      short = omega arith;
    },
  )
  fits_part kind.Nand plain repeats number = (
    word.Nand,
    record {
      named = refl;
      loud = refl;
      apart = refl;
      count = refl;
      has_names = rw (n, ha, hb, hc) refl;
      has_numbers = refl;
      kind_is = refl;
      nets_are = refl;
      words = (known_word (codes "nand") refl, (name_word name n, (name_word a ha, (name_word b hb, (name_word c hc, tt)))));
      short = omega arith;
    },
  )
  fits_part kind.Nor plain repeats number = (
    word.Nor,
    record {
      named = refl;
      loud = refl;
      apart = refl;
      count = refl;
      has_names = rw (n, ha, hb, hc) refl;
      has_numbers = refl;
      kind_is = refl;
      nets_are = refl;
      words = (known_word (codes "nor") refl, (name_word name n, (name_word a ha, (name_word b hb, (name_word c hc, tt)))));
      short = omega arith;
    },
  )
  fits_part kind.Xnor plain repeats number = (
    word.Xnor,
    record {
      named = refl;
      loud = refl;
      apart = refl;
      count = refl;
      has_names = rw (n, ha, hb, hc) refl;
      has_numbers = refl;
      kind_is = refl;
      nets_are = refl;
      words = (known_word (codes "xnor") refl, (name_word name n, (name_word a ha, (name_word b hb, (name_word c hc, tt)))));
      short = omega arith;
    },
  )
  fits_part kind.Add plain repeats number = (
    word.Add,
    record {
      named = refl;
      loud = refl;
      apart = refl;
      count = refl;
      has_names = rw (n, ha, hb, hc) refl;
      has_numbers = refl;
      kind_is = refl;
      nets_are = refl;
      words = (known_word (codes "add") refl, (name_word name n, (name_word a ha, (name_word b hb, (name_word c hc, tt)))));
      short = omega arith;
    },
  )
  fits_part kind.Mul plain repeats number = (
    word.Mul,
    record {
      named = refl;
      loud = refl;
      apart = refl;
      count = refl;
      has_names = rw (n, ha, hb, hc) refl;
      has_numbers = refl;
      kind_is = refl;
      nets_are = refl;
      words = (known_word (codes "mul") refl, (name_word name n, (name_word a ha, (name_word b hb, (name_word c hc, tt)))));
      short = omega arith;
    },
  )
  fits_part (kind.Const value) plain repeats number = let first = repeats.0 in let last = repeats.1 in let one : a ≡ b = cc in let two : b ≡ c = cc in (
    word.Const,
    record {
      named = refl;
      loud = refl;
      apart = refl;
      count = refl;
      has_names = rw (n, ha) refl;
      has_numbers = rw number.number refl;
      kind_is = ap kind.Const number.value;
      nets_are = ap (λ t. a ∷ t ∷ a ∷ []) one ∙ ap (λ t. a ∷ b ∷ t ∷ []) (one ∙ two);
      words = (known_word (codes "const") refl, (name_word name n, (name_word a ha, (number.word, tt))));
      short = omega arith;
    },
  )
  fits_part (kind.Reg reset) plain repeats number = let same : b ≡ c = cc in (
    word.Reg,
    record {
      named = refl;
      loud = refl;
      apart = refl;
      count = refl;
      has_names = rw (n, ha, hb) refl;
      has_numbers = rw number.number refl;
      kind_is = ap kind.Reg number.value;
      nets_are = ap (λ t. a ∷ b ∷ t ∷ []) same;
      words = (known_word (codes "reg") refl, (name_word name n, (name_word a ha, (name_word b hb, (number.word, tt)))));
      short = omega arith;
    },
  )
  fits_part (kind.Block block) plain repeats number = cc

-- the line of a component
pub add_asks : (k : Kind) (name : List ℕ) (names : List (List ℕ)) (w : PartWord) → FitsPart k name names w → asked_by (part_words k name names) ≡ Ok (request.Change (change.Add name k names))
add_asks k name names w f =
    rw (f.loud, f.apart, f.named) (reading_by-fits (command.Part w) (part_words k name names) (has_exactly (length (places_of_part w)) (length (part_words k name names)) f.count) f.has_names f.has_numbers
    ∙ rw (f.kind_is, f.nets_are) refl)

-- the line of an inner component
pub inside_asks : (k : Kind) (block name : List ℕ) (names : List (List ℕ)) (w : PartWord) → is_name block ≡ true → FitsPart k name names w
    → asked_by (codes "inside" ∷ block ∷ part_words k name names) ≡ Ok (request.Change (change.Inside block name k names))
inside_asks k block name names w h f =
    let words : List (List ℕ) = codes "inside" ∷ block ∷ part_words k name names in
    let many : nat_lt (length words) 3 ≡ false = le-ltb (length words) 3 (omega arith) in
    rw (many, f.named) (reading_by-fits (command.Inside w) words (has_exactly (suc (suc (length (places_of_part w)))) (length words) (omega (arith, f.count))) (and_from (is_name block) (have_names (places_of_part w) (part_words k name names)) h f.has_names) f.has_numbers
    ∙ rw (f.kind_is, f.nets_are) refl)

-- the line of a block
pub use_asks : (block name net : List ℕ) (nets : List (List ℕ)) → is_name block ≡ true → is_name name ≡ true → is_name net ≡ true → list_all is_name nets ≡ true → length nets + 1 ≤ MOST_PINS
    → asked_by (codes "use" ∷ block ∷ name ∷ net ∷ nets) ≡ Ok (request.Change (change.UseBlock block name (net ∷ nets)))
unfolding change_named part_named query_named
use_asks block name net nets b h k ks few =
    let words : List (List ℕ) = codes "use" ∷ block ∷ name ∷ net ∷ nets in
    let least : nat_le 4 (length words) ≡ true = le-leb 4 (length words) (omega arith) in
    let most : nat_le (length words) 31 ≡ true = le-leb (length words) 31 (omega arith) in
    rw (least, most, b, h, k, ks) refl

-- a line of few words has room
room-count : (words : List (List ℕ)) → room_for 32 words ≡ 33 * length words
room-count [] = refl
room-count (word ∷ words) = omega (arith, room-count words)

pub room_of_few : (words : List (List ℕ)) → length words ≤ 31 → room_for 32 words ≤ LONGEST_LINE
room_of_few words few = omega (arith, room-count words)
