-- Words that fit the places of a line.
use Rattle.std.proofs.Common.{◌≡◌, ℕ, ◌≤◌, ◌+◌, Bool, true, false, not, nat_le, if◌then◌else◌, List, [], ◌∷◌, length, Option, Some, None, refl, arith}
use Rattle.std.proofs.lemmas.Bool.{and_parts, and_from}
use Rattle.std.specs.List.{list_all}
use Rattle.netlist_text.specs.Commands.{form_of}
use Rattle.netlist_text.specs.Grammar.{fault_of}
use Rattle.netlist_text.specs.Places.{Form, has_count, FitEach, have_names, have_numbers}
use Rattle.netlist_text.specs.Words.{first, rest}
use Rattle.netlist_text.specs.declared.commands.Command.{Command}
use Rattle.netlist_text.specs.declared.faults.LineFault.{LineFault}
use Rattle.netlist_text.specs.declared.faults.LineFault.TheVariants.{WordCount, BadName, BadNumber}
use Rattle.netlist_text.specs.declared.places.Place.{Place}

-- words that hold their names and their numbers
pub fit_each : (places : List Place) (words : List (List ℕ)) → have_names places words ≡ true → have_numbers places words ≡ true → FitEach places words
fit_each [] words names numbers = names
fit_each (place ∷ places) words names numbers =
    let n = and_parts _ _ names in
    let d = and_parts _ _ numbers in
    (n.0, d.0, fit_each places (rest words) n.1 d.1)

-- a test that the first word passes, and all others
pub all_from_first : (p : List ℕ → Bool) (words : List (List ℕ)) → p (first words) ≡ true → list_all p (rest words) ≡ true → list_all p words ≡ true
all_from_first p [] h k = refl
all_from_first p (word ∷ words) h k = and_from _ _ h k

-- one word fewer
pub length_rest : (words : List (List ℕ)) (n : ℕ) → length words ≤ n + 1 → length (rest words) ≤ n
length_rest [] n h = omega arith
length_rest (word ∷ words) n h = omega arith

-- without a fault a test was passed, and the tests after it
passed : (test : Bool) (fault : LineFault) (others : Option LineFault) → (if not test then Some fault else others) ≡ None → (test ≡ true) × (others ≡ None)
passed true fault others h = (refl, h)
passed false fault others h = cc

-- a form's words are no more than it may have
at_most : (form : Form) (count : ℕ) → has_count form count ≡ true → count ≤ length form.places + form.more
at_most form count h =
    let k : nat_le count (length form.places + form.more) ≡ true = (and_parts (nat_le (length form.places) count) (nat_le count (length form.places + form.more)) h).1 in
    grind arith

-- the words of a line without a fault
pub no_fault : (command : Command) (words : List (List ℕ)) → fault_of command words ≡ None → (length words ≤ length (form_of command).places + (form_of command).more) × FitEach (form_of command).places words
no_fault command words h =
    let places = (form_of command).places in
    let numbers : Option LineFault = if not (have_numbers places words) then Some BadNumber else None in
    let names : Option LineFault = if not (have_names places words) then Some BadName else numbers in
    let a = passed (has_count (form_of command) (length words)) WordCount names h in
    let b = passed (have_names places words) BadName numbers a.1 in
    let c = passed (have_numbers places words) BadNumber None b.1 in
    (at_most (form_of command) (length words) a.0, fit_each places words b.0 c.0)
