-- The faults of a line, in order.
use Rattle.std.proofs.Common.{◌≡◌, ◌⊎◌, inl, inr, ℕ, ◌<◌, Bool, true, false, not, if◌then◌else◌, List, length, Option, Some, None, Result, Ok, Err, refl, sym, subst, ◌∙◌, arith, codes, nat_lt}
use Rattle.std.proofs.lemmas.Bool.{true≢false}
use Rattle.std.specs.List.{list_all}
use Rattle.std.specs.Option.{option_map, option_map_or, ok_or}
use Rattle.std.specs.Str.{bytes_eq}
use Rattle.netlist_text.specs.Commands.{command_of, command_named, inside_command, form_of, request_of}
use Rattle.netlist_text.specs.Faults.{number_of}
use Rattle.netlist_text.specs.Grammar.{reading_of, reading_from}
use Rattle.netlist_text.specs.Laws.{IsOfLine, HaveFault, Applies, SaysOfFaults, FaultsComeInOrder}
use Rattle.netlist_text.specs.Parts.{part_named}
use Rattle.netlist_text.specs.Places.{has_count, have_names, have_numbers}
use Rattle.netlist_text.specs.Words.{words_of, first, word_at, are_silent, is_printable}
use Rattle.netlist_text.specs.declared.commands.Command.{Command}
use Rattle.netlist_text.specs.declared.commands.Command.TheVariants.{Inside}
use Rattle.netlist_text.specs.declared.faults.LineFault.{LineFault}
use Rattle.netlist_text.specs.declared.faults.LineFault.TheVariants.{NotPrintable, UnknownCommand, WordCount, BadName, BadNumber}
use Rattle.netlist_text.specs.declared.requests.Request.TheVariants as request

-- a command that is none is one of these two faults
abbrev IsNoCommand : Result Command LineFault → Type 0
IsNoCommand (Ok command) = Unit {0}
IsNoCommand (Err fault) = (fault ≡ UnknownCommand) ⊎ (fault ≡ WordCount)

unknown : (command : Option Command) → IsNoCommand (ok_or command UnknownCommand)
unknown None = inl refl
unknown (Some command) = tt

either : (test : Bool) (a b : Result Command LineFault) → IsNoCommand a → IsNoCommand b → IsNoCommand (if test then a else b)
either true a b h k = h
either false a b h k = k

no_command : (words : List (List ℕ)) → IsNoCommand (command_of words)
no_command words =
    let inside : Option Command = option_map Inside (part_named (word_at words 2)) in
    let named : Option Command = command_named (first words) in
    either (bytes_eq (first words) (codes "inside")) (inside_command words) (ok_or named UnknownCommand)
    (either (nat_lt (length words) 3) (Err WordCount) (ok_or inside UnknownCommand) (inr refl) (unknown inside)) (unknown named)

-- where all bytes are printable, a fault of the line is one of its words
of_words : (line : List ℕ) (fault : LineFault) → list_all is_printable line ≡ true → Applies fault line → (are_silent (words_of line) ≡ false) × HaveFault fault (words_of line)
of_words line fault e (inl h) = absurd (true≢false (sym e ∙ h.1))
of_words line fault e (inr h) = h

-- the words are of no other line
same_line : (words : List (List ℕ)) (command : Command) (P : Command → Type 0) → command_of words ≡ Ok command → IsOfLine words P → P command
same_line words command P e h = let k : Ok command ≡ Ok h.command = sym e ∙ h.is in let same : h.command ≡ command = cc in subst P same h.holds

-- none of the faults with a lesser number
below_none : (P : LineFault → Type 0) (other : LineFault) → number_of other < 11 → P other → ⊥
below_none P NotPrintable h a = omega arith
below_none P UnknownCommand h a = omega arith
below_none P WordCount h a = omega arith
below_none P BadName h a = omega arith
below_none P BadNumber h a = omega arith

module _ (P : LineFault → Type 0) (not_printable : P NotPrintable → ⊥) where
  below_command : (other : LineFault) → number_of other < 12 → P other → ⊥
  below_command NotPrintable h a = not_printable a
  below_command UnknownCommand h a = omega arith
  below_command WordCount h a = omega arith
  below_command BadName h a = omega arith
  below_command BadNumber h a = omega arith

  module _ (unknown_command : P UnknownCommand → ⊥) where
    below_count : (other : LineFault) → number_of other < 13 → P other → ⊥
    below_count NotPrintable h a = not_printable a
    below_count UnknownCommand h a = unknown_command a
    below_count WordCount h a = omega arith
    below_count BadName h a = omega arith
    below_count BadNumber h a = omega arith

    module _ (word_count : P WordCount → ⊥) where
      below_name : (other : LineFault) → number_of other < 14 → P other → ⊥
      below_name NotPrintable h a = not_printable a
      below_name UnknownCommand h a = unknown_command a
      below_name WordCount h a = word_count a
      below_name BadName h a = omega arith
      below_name BadNumber h a = omega arith

      module _ (bad_name : P BadName → ⊥) where
        below_number : (other : LineFault) → number_of other < 15 → P other → ⊥
        below_number NotPrintable h a = not_printable a
        below_number UnknownCommand h a = unknown_command a
        below_number WordCount h a = word_count a
        below_number BadName h a = bad_name a
        below_number BadNumber h a = omega arith

        none_at_all : (P BadNumber → ⊥) → (fault : LineFault) → P fault → ⊥
        none_at_all bad_number NotPrintable a = not_printable a
        none_at_all bad_number UnknownCommand a = unknown_command a
        none_at_all bad_number WordCount a = word_count a
        none_at_all bad_number BadName a = bad_name a
        none_at_all bad_number BadNumber a = bad_number a

module _ (line : List ℕ) (e : list_all is_printable line ≡ true) where
  printable : Applies NotPrintable line → ⊥
  printable a = (of_words line NotPrintable e a).1

  -- a line that asks for nothing
  silent : are_silent (words_of line) ≡ true → SaysOfFaults line (Ok request.Nothing)
  silent s fault a = true≢false (sym s ∙ (of_words line fault e a).0)

  module _ (s : are_silent (words_of line) ≡ false) where
    -- a line that is none of those that are there
    no_line : (fault : LineFault) → (fault ≡ UnknownCommand) ⊎ (fault ≡ WordCount) → command_of (words_of line) ≡ Err fault → SaysOfFaults line (Err fault)
    no_line UnknownCommand k c = (inr (s, c), below_command (λ fault. Applies fault line) printable)
    no_line WordCount k c =
        (inr (s, inl c), below_count (λ fault. Applies fault line) printable (λ a. let u = (of_words line UnknownCommand e a).1 in let both : ◌≡◌ {A = Result Command LineFault} (Err UnknownCommand) (Err WordCount) = sym u ∙ c in cc))
    no_line NotPrintable k c = elim k [ inl h ↦ cc | inr h ↦ cc ]
    no_line BadName k c = elim k [ inl h ↦ cc | inr h ↦ cc ]
    no_line BadNumber k c = elim k [ inl h ↦ cc | inr h ↦ cc ]

    module _ (command : Command) (c : command_of (words_of line) ≡ Ok command) where
      known : Applies UnknownCommand line → ⊥
      known a = let u = (of_words line UnknownCommand e a).1 in let both : ◌≡◌ {A = Result Command LineFault} (Err UnknownCommand) (Ok command) = sym u ∙ c in cc

      counted : has_count (form_of command) (length (words_of line)) ≡ true → Applies WordCount line → ⊥
      counted n a = elim (of_words line WordCount e a).1 [
        | inl u ↦ let both : ◌≡◌ {A = Result Command LineFault} (Err WordCount) (Ok command) = sym u ∙ c in cc
        | inr h ↦ true≢false (sym n ∙ same_line (words_of line) command (λ k. has_count (form_of k) (length (words_of line)) ≡ false) c h)
      ]

      named : have_names (form_of command).places (words_of line) ≡ true → Applies BadName line → ⊥
      named n a = true≢false (sym n ∙ same_line (words_of line) command (λ k. have_names (form_of k).places (words_of line) ≡ false) c (of_words line BadName e a).1)

      numbered : have_numbers (form_of command).places (words_of line) ≡ true → Applies BadNumber line → ⊥
      numbered n a = true≢false (sym n ∙ same_line (words_of line) command (λ k. have_numbers (form_of k).places (words_of line) ≡ false) c (of_words line BadNumber e a).1)

      -- a fault, unless a test is passed
      ReadsUnless : Bool → LineFault → Option LineFault → Type 0
      ReadsUnless test fault others = SaysOfFaults line (option_map_or (λ f. Err f) (if not test then Some fault else others) (Ok (request_of command (words_of line))))

      by_numbers : (test : Bool) → have_numbers (form_of command).places (words_of line) ≡ test → has_count (form_of command) (length (words_of line)) ≡ true → have_names (form_of command).places (words_of line) ≡ true
          → ReadsUnless test BadNumber None
      unfolding ReadsUnless
      by_numbers false d n m = (inr (s, record { command = command; is = c; holds = d }), below_number (λ fault. Applies fault line) printable known (counted n) (named m))
      by_numbers true d n m = none_at_all (λ fault. Applies fault line) printable known (counted n) (named m) (numbered d)

      by_names : (test : Bool) → have_names (form_of command).places (words_of line) ≡ test → has_count (form_of command) (length (words_of line)) ≡ true
          → ReadsUnless test BadName (if not (have_numbers (form_of command).places (words_of line)) then Some BadNumber else None)
      unfolding ReadsUnless
      by_names false d n = (inr (s, record { command = command; is = c; holds = d }), below_name (λ fault. Applies fault line) printable known (counted n))
      by_names true d n = by_numbers (have_numbers (form_of command).places (words_of line)) refl n d

      by_count : (test : Bool) → has_count (form_of command) (length (words_of line)) ≡ test
          → ReadsUnless test WordCount (if not (have_names (form_of command).places (words_of line)) then Some BadName else if not (have_numbers (form_of command).places (words_of line)) then Some BadNumber else None)
      unfolding ReadsUnless
      by_count false d = (inr (s, inr (record { command = command; is = c; holds = d })), below_count (λ fault. Applies fault line) printable known)
      by_count true d = by_names (have_names (form_of command).places (words_of line)) refl d

    by_command : (found : Result Command LineFault) → command_of (words_of line) ≡ found → SaysOfFaults line (reading_from found (words_of line))
    unfolding ReadsUnless
    by_command (Ok command) c = by_count command c (has_count (form_of command) (length (words_of line))) refl
    by_command (Err fault) c = no_line fault (subst IsNoCommand c (no_command (words_of line))) c

  by_silence : (test : Bool) → are_silent (words_of line) ≡ test → SaysOfFaults line (if test then Ok request.Nothing else reading_from (command_of (words_of line)) (words_of line))
  by_silence true s = silent s
  by_silence false s = by_command s (command_of (words_of line)) refl

by_bytes : (line : List ℕ) (test : Bool) → list_all is_printable line ≡ test
    → SaysOfFaults line (if not test then Err NotPrintable else if are_silent (words_of line) then Ok request.Nothing else reading_from (command_of (words_of line)) (words_of line))
by_bytes line false e = (inl (refl, e), below_none (λ fault. Applies fault line))
by_bytes line true e = by_silence line e (are_silent (words_of line)) refl

-- so for each line
pub in_order : FaultsComeInOrder
unfolding reading_of
in_order line = by_bytes line (list_all is_printable line) refl
