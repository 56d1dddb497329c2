-- What is written of a label, one line after another.
use Rattle.std.proofs.Common.{◌≡◌, ℕ, zero, suc, Bool, List, [], ◌∷◌, ◌++◌, map, length, Option, Some, None, sym, ap, subst, ◌∙◌}
use Rattle.std.specs.List.{slice_get}
use Rattle.std.specs.Option.{ForSome, option_map}
use Rattle.std.proofs.lemmas.List.{append-nil, length-map, map-append}
use Rattle.environment_sets.specs.declared.environment.Env.{Env}
use Rattle.environment_sets.specs.Sets.{Set, ◌⊆◌}
use Rattle.environment_sets.specs.Members.{members}
use Rattle.environment_sets.specs.Walks.{IsNext, GivesNext}
use Rattle.circuit_model.specs.declared.model.Cell.{Cell}
use Rattle.circuit_model.specs.declared.model.Fact.{Fact}
use Rattle.circuit_model.specs.Closure.{fact}
use Rattle.circuit_model.specs.Diagnoses.{Place}
use Rattle.circuit_model.specs.Present.{PresentView}
use Rattle.circuit_model.specs.Whole.{order_of_present, stock, everything}
use Rattle.circuit_model.specs.Printed.{Labelled, IsPrintedLabel}
use Rattle.circuit_model.specs.Stock.{Stock, IsEnvironment, IsInLabel}
use Rattle.label_engine.specs.Questions.{IsNextNumber, GivesNextNumber, HasLabel}
use Rattle.standing_view.specs.Standing.{Stands, order_of, mask_of}
use Rattle.standing_view.specs.View.{places}
use Rattle.standing_view.proofs.Places.{among_listed}
use Rattle.bench_io.specs.Streams.{Telling}
use Rattle.standing_view.proofs.Named.{as_many_parts, stands_remembered}
use Rattle.answer_text.specs.Labels.{labelled, PutsLabel, StandsIn, StandsForPresent}
use Rattle.bench_io.specs.Puts.{Puts}
use Rattle.answer_text.specs.Texts.{label_line, label_lines}
use Rattle.answer_text.proofs.Listing.{ListsWords, words_none, words_more, words_all, lines-append}
use Rattle.environment_sets.proofs.Walking.{ListsTo, ListsTo-none, ListsTo-more, ListsTo-all}
use Rattle.bench_io.proofs.PutParts.{Puts-then, Puts-as, Puts-nothing}

-- what stands for the present, whatever is remembered
pub stands_for : (S : Stock ℕ) (st : Stands) (s : PresentView) → StandsIn S st s → StandsForPresent st s
stands_for S st s h = record { remembered = S; parked = h.parked; stands = h.stands }

-- as many slots as components
pub parts_length : (st : Stands) (s : PresentView) → StandsForPresent st s → length st.parts ≡ length s.parts
parts_length st s h = as_many_parts h.remembered st s h.parked h.stands

-- what stands is remembered
pub remembered : (S : Stock ℕ) (st : Stands) (s : PresentView) → StandsIn S st s → IsEnvironment S (mask_of st)
remembered S st s h k inside = stands_remembered S st s h.parked h.stands k (among_listed (order_of st) k inside)

-- the measured cell at a place
pub cell_at : (st : Stands) (s : PresentView) (i : ℕ) (f : Fact) → StandsForPresent st s → slice_get s.readings i ≡ Some f → slice_get st.cells i ≡ Some f.cell
cell_at st s i f h at = rw h.stands.measured (at_map s.readings i at)
  where
    at_map : (fs : List Fact) (k : ℕ) → slice_get fs k ≡ Some f → slice_get (map (λ (g : Fact). g.cell) fs) k ≡ Some f.cell
    at_map [] k e = absurd (cc)
    at_map (g ∷ fs) zero e = let same : g ≡ f = cc in ap (λ (x : Fact). Some x.cell) same
    at_map (g ∷ fs) (suc k) e = at_map fs k e

pub cells_length : (st : Stands) (s : PresentView) → StandsForPresent st s → length st.cells ≡ length s.readings
cells_length st s h = ap length h.stands.measured ∙ length-map s.readings (λ (f : Fact). f.cell)

-- a line was put for each environment up to the last one
pub record PutsTo (s : PresentView) (st : Stands) (f : Fact) (last : Option Env) (failed_before failed_now : Bool) (before now : Telling) : Type 0 where
  pub environments : List (Set Place)
  pub lists : ListsTo (order_of_present s) (IsInLabel (stock s) f) (option_map (places st) (option_map members last)) environments
  pub puts : Puts failed_before failed_now before now (label_lines s f.cell (map (labelled f.value) environments))
  pub inside : ForSome last (λ e. members e ⊆ mask_of st)

-- lines were put for each word up to the last one
pub record PutsWords (s : PresentView) (c : Cell) (last : Option ℕ) (failed_before failed_now : Bool) (before now : Telling) : Type 0 where
  pub label : List Labelled
  pub lists : ListsWords s c last label
  pub puts : Puts failed_before failed_now before now (label_lines s c label)

-- each environment is within everything
within : (s : PresentView) (f : Fact) (E : Set Place) → IsInLabel (stock s) f E → E ⊆ everything s
within s f E h place inside = h.environment place inside

module _ (s : PresentView) (st : Stands) (f : Fact) where
  pub puts_none : (x : Bool) (a : Telling) → PutsTo s st f None x x a a
  puts_none x a = record { environments = []; lists = ListsTo-none (order_of_present s) (IsInLabel (stock s) f); puts = Puts-nothing x a; inside = λ e bad. cc }

  one_line : (sets : List (Set Place)) (E : Set Place) → label_lines s f.cell (map (labelled f.value) sets) ++ label_line s f E ≡ label_lines s f.cell (map (labelled f.value) (sets ++ E ∷ []))
  one_line sets E =
      ap (λ t. label_lines s f.cell (map (labelled f.value) sets) ++ t) (sym (append-nil (label_line s f E)))
      ∙ (sym (lines-append s f.cell (map (labelled f.value) sets) (labelled f.value E ∷ [])) ∙ ap (label_lines s f.cell) (sym (map-append (labelled f.value) sets (E ∷ []))))

  pub puts_more : {x y z : Bool} {a b c : Telling} {last : Option Env} (env : Env) → PutsTo s st f last x y a b
      → IsNext (order_of_present s) (IsInLabel (stock s) f) (everything s) (option_map (places st) (option_map members last)) (places st (members env)) → members env ⊆ mask_of st
      → Puts y z b c (label_line s f (places st (members env))) → PutsTo s st f (Some env) x z a c
  puts_more env was next inside line = record {
    environments = was.environments ++ places st (members env) ∷ [];
    lists = ListsTo-more (order_of_present s) (IsInLabel (stock s) f) (everything s) (within s f) _ was.environments was.lists (places st (members env)) next;
    puts = Puts-as (one_line was.environments (places st (members env))) (Puts-then was.puts line);
    inside = λ e is. let same : env ≡ e = cc in let P : Env → Type 0 = λ x. members x ⊆ mask_of st in subst P same inside;
  }

  pub puts_all : {x y : Bool} {a b : Telling} {last : Option Env} → PutsTo s st f last x y a b
      → GivesNext (order_of_present s) (IsInLabel (stock s) f) (everything s) (option_map (places st) (option_map members last)) None → PutsLabel s f x y a b
  puts_all was none = record {
    environments = was.environments;
    exact = ListsTo-all (order_of_present s) (IsInLabel (stock s) f) (everything s) (within s f) _ was.environments was.lists none;
    puts = was.puts;
  }

module _ (s : PresentView) (c : Cell) where
  pub puts_no_words : (x : Bool) (a : Telling) → PutsWords s c None x x a a
  puts_no_words x a = record { label = []; lists = words_none s c; puts = Puts-nothing x a }

  pub puts_word : {x y z : Bool} {a b d : Telling} {last : Option ℕ} (v : ℕ) → PutsWords s c last x y a b → IsNextNumber (HasLabel (stock s) c) last v
      → PutsLabel s (fact c v) y z b d → PutsWords s c (Some v) x z a d
  puts_word v was next label = record {
    label = was.label ++ map (labelled v) label.environments;
    lists = words_more s c _ was.label was.lists v label.environments next label.exact;
    puts = Puts-as (sym (lines-append s c was.label (map (labelled v) label.environments))) (Puts-then was.puts label.puts);
  }

  pub all_words : {x y : Bool} {a b : Telling} {last : Option ℕ} → PutsWords s c last x y a b → GivesNextNumber (HasLabel (stock s) c) last None
      → (label : List Labelled) × IsPrintedLabel s c label × Puts x y a b (label_lines s c label)
  all_words was none = (was.label, words_all s c _ was.label was.lists none, was.puts)
