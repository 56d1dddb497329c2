-- Words with one space between them, read back.
use Rattle.std.proofs.Common.{◌≡◌, ℕ, ◌+◌, ◌≤◌, ◌<◌, Bool, true, false, ◌&&◌, nat_le, if◌then◌else◌, List, [], ◌∷◌, ◌++◌, length, Result, Ok, refl, subst, ◌∙◌, ap, arith, length-append}
use Rattle.std.specs.List.{list_all}
use Rattle.std.proofs.lemmas.Bool.{and_parts, and_from}
use Rattle.std.proofs.lemmas.Bool.Decides.{nat_tests}
use Rattle.bench_io.specs.Lines.{HasNoNewline, lines_of}
use Rattle.bench_io.proofs.LineLaws.{lines_of-cut}
use Rattle.bench_io.specs.declared.limits.TheConstants.{LONGEST_LINE}
use Rattle.circuit_model.specs.Present.{PresentView}
use Rattle.netlist_text.specs.Commands.{command_of}
use Rattle.netlist_text.specs.Grammar.{reading_of, reading_from}
use Rattle.netlist_text.specs.Replay.{Takes, TakesLine, LeadTo}
use Rattle.netlist_text.specs.Scanning.{HasNoBlank, BeginsBlank}
use Rattle.netlist_text.specs.Show.{after_spaces, spaced, text_of_lines}
use Rattle.netlist_text.specs.Words.{words_of, are_silent, is_blank, is_printable}
use Rattle.netlist_text.specs.declared.faults.LineFault.{LineFault}
use Rattle.netlist_text.specs.declared.requests.Request.{Request}
use Rattle.netlist_text.specs.declared.requests.Request.TheVariants as request
use Rattle.netlist_text.proofs.Scanned.{word_then}

-- the byte is one that makes words
abbrev pub is_graphic : ℕ → Bool
is_graphic b = nat_le 33 b && nat_le b 126

-- one to so many bytes that make words
pub record IsWord (most : ℕ) (word : List ℕ) : Type 0 where
  pub some : 0 < length word
  pub short : length word ≤ most
  pub graphic : list_all is_graphic word ≡ true

-- each of the words is one of at most so many bytes
abbrev pub AreWords : ℕ → List (List ℕ) → Type 0
AreWords most [] = Unit {0}
AreWords most (word ∷ words) = IsWord most word × AreWords most words

-- as many bytes as such words have at most, with a space for each
abbrev pub room_for : ℕ → List (List ℕ) → ℕ
room_for most [] = 0
room_for most (word ∷ words) = most + 1 + room_for most words

not_blank : (b : ℕ) → is_graphic b ≡ true → is_blank b ≡ false
not_blank b h = grind (arith, nat_tests)

graphic_printable : (b : ℕ) → is_graphic b ≡ true → is_printable b ≡ true
graphic_printable b h = grind (arith, nat_tests)

not_newline : (b : ℕ) → is_graphic b ≡ true → b ≡ 10 → ⊥
not_newline b h e = grind (arith, nat_tests)

has_no_blank : (word : List ℕ) → list_all is_graphic word ≡ true → HasNoBlank word
has_no_blank [] h = tt
has_no_blank (b ∷ word) h = let k = and_parts (is_graphic b) (list_all is_graphic word) h in (not_blank b k.0, has_no_blank word k.1)

begins_blank : (words : List (List ℕ)) → BeginsBlank (after_spaces words)
begins_blank [] = tt
begins_blank (word ∷ words) = refl

-- the words of a line of such words are these
words_of-after_spaces : (most : ℕ) (words : List (List ℕ)) → AreWords most words → words_of (after_spaces words) ≡ words
words_of-after_spaces most [] h = refl
words_of-after_spaces most (word ∷ words) h =
    word_then word (after_spaces words) (has_no_blank word h.0.graphic) h.0.some (begins_blank words) ∙ ap (λ t. word ∷ t) (words_of-after_spaces most words h.1)

words_of-spaced : (most : ℕ) (words : List (List ℕ)) → AreWords most words → words_of (spaced words) ≡ words
words_of-spaced most [] h = refl
words_of-spaced most (word ∷ words) h =
    word_then word (after_spaces words) (has_no_blank word h.0.graphic) h.0.some (begins_blank words) ∙ ap (λ t. word ∷ t) (words_of-after_spaces most words h.1)

-- a word and what follows it are printable
printable-word : (word rest : List ℕ) → list_all is_graphic word ≡ true → list_all is_printable rest ≡ true → list_all is_printable (word ++ rest) ≡ true
printable-word [] rest h k = k
printable-word (b ∷ word) rest h k =
    let p = and_parts (is_graphic b) (list_all is_graphic word) h in
    and_from (is_printable b) (list_all is_printable (word ++ rest)) (graphic_printable b p.0) (printable-word word rest p.1 k)

printable-after : (most : ℕ) (words : List (List ℕ)) → AreWords most words → list_all is_printable (after_spaces words) ≡ true
printable-after most [] h = refl
printable-after most (word ∷ words) h = printable-word word (after_spaces words) h.0.graphic (printable-after most words h.1)

printable-spaced : (most : ℕ) (words : List (List ℕ)) → AreWords most words → list_all is_printable (spaced words) ≡ true
printable-spaced most [] h = refl
printable-spaced most (word ∷ words) h = printable-word word (after_spaces words) h.0.graphic (printable-after most words h.1)

-- and have no newline
no_newline-word : (word rest : List ℕ) → list_all is_graphic word ≡ true → HasNoNewline rest → HasNoNewline (word ++ rest)
no_newline-word [] rest h k = k
no_newline-word (b ∷ word) rest h k = let p = and_parts (is_graphic b) (list_all is_graphic word) h in (not_newline b p.0, no_newline-word word rest p.1 k)

no_newline-after : (most : ℕ) (words : List (List ℕ)) → AreWords most words → HasNoNewline (after_spaces words)
no_newline-after most [] h = tt
no_newline-after most (word ∷ words) h = ((λ e. let bad : ◌≡◌ {A = ℕ} 32 10 = e in absurd (omega (arith, bad))), no_newline-word word (after_spaces words) h.0.graphic (no_newline-after most words h.1))

no_newline-spaced : (most : ℕ) (words : List (List ℕ)) → AreWords most words → HasNoNewline (spaced words)
no_newline-spaced most [] h = tt
no_newline-spaced most (word ∷ words) h = no_newline-word word (after_spaces words) h.0.graphic (no_newline-after most words h.1)

-- they are no longer than that
length-after : (most : ℕ) (words : List (List ℕ)) → AreWords most words → length (after_spaces words) ≤ room_for most words
length-after most [] h = omega arith
length-after most (word ∷ words) h = let short = h.0.short in omega (arith, short, length-append word (after_spaces words), length-after most words h.1)

length-spaced : (most : ℕ) (words : List (List ℕ)) → AreWords most words → length (spaced words) ≤ room_for most words
length-spaced most [] h = omega arith
length-spaced most (word ∷ words) h = let short = h.0.short in omega (arith, short, length-append word (after_spaces words), length-after most words h.1)

-- what a line of these words asks
abbrev pub asked_by : List (List ℕ) → Result Request LineFault
asked_by words = if are_silent words then Ok request.Nothing else reading_from (command_of words) words

reading_of-words : (line : List ℕ) (words : List (List ℕ)) → list_all is_printable line ≡ true → words_of line ≡ words → reading_of line ≡ asked_by words
unfolding reading_of
reading_of-words line words p w = rw (p, w) refl

-- a line of these words leads from the one present to the other
pub record Leads (old : PresentView) (words : List (List ℕ)) (new : PresentView) : Type 0 where
  pub no_newline : HasNoNewline (spaced words)
  pub takes : TakesLine old (spaced words) new

-- lines of these words do, one after another
abbrev pub AllLead : PresentView → List (List (List ℕ)) → PresentView → Type 0
AllLead old [] new = new ≡ old
AllLead old (words ∷ lines) new = (next : PresentView) × Leads old words next × AllLead next lines new

pub leads : (most : ℕ) (words : List (List ℕ)) (old new : PresentView) (asked : Result Request LineFault) → AreWords most words → room_for most words ≤ LONGEST_LINE → asked_by words ≡ asked → Takes old asked new
    → Leads old words new
leads most words old new asked are fits asks takes =
    let read : reading_of (spaced words) ≡ asked = reading_of-words (spaced words) words (printable-spaced most words are) (words_of-spaced most words are) ∙ asks in
    let size : length (spaced words) ≤ room_for most words = length-spaced most words are in
    record {
      no_newline = no_newline-spaced most words are;
      takes = record { short = omega (arith, size, fits); takes = rw read takes };
    }

pub AllLead-append : (a b c : PresentView) (xs ys : List (List (List ℕ))) → AllLead a xs b → AllLead b ys c → AllLead a (xs ++ ys) c
AllLead-append a b c [] ys h k = let P : PresentView → Type 0 = λ s. AllLead s ys c in subst P h k
AllLead-append a b c (words ∷ xs) ys (next, l, h) k = (next, l, AllLead-append next b c xs ys h k)

-- so do the lines of their text
pub lines_of_text : (old new : PresentView) (lines : List (List (List ℕ))) → AllLead old lines new → LeadTo old (lines_of (text_of_lines lines)) new
lines_of_text old new [] h = h
lines_of_text old new (words ∷ lines) (next, l, h) = rw (lines_of-cut (spaced words) (text_of_lines lines) l.no_newline) (next, l.takes, lines_of_text next new lines h)
