-- What is asked of an engine about what stands.
use Rattle.std.specs.Prelude.{ℕ, List, Option}
use Rattle.std.specs.Option.{option_map}
use Rattle.circuit_model.specs.declared.model.Cell.{Cell}
use Rattle.circuit_model.specs.declared.model.Fact.{Fact}
use Rattle.circuit_model.specs.Present.{PresentView}
use Rattle.circuit_model.specs.Stock.{IsInLabel}
use Rattle.circuit_model.specs.Whole as present
use Rattle.environment_sets.specs.declared.environment.Env.{Env}
use Rattle.environment_sets.specs.declared.environment.TheConstants.{SLOTS}
use Rattle.environment_sets.specs.Members.{members, sets}
use Rattle.environment_sets.specs.Sets.{Set}
use Rattle.environment_sets.specs.Walks.{GivesNext, count_left}
use Rattle.assumption_slots.specs.Slots as slots
use Rattle.label_engine.specs.Engine.{Seen, label_of}
use Rattle.label_engine.specs.Questions.{GivesNextNumber, HasLabel}
use Rattle.standing_view.specs.Standing.{Stands, order_of, mask_of}
use Rattle.circuit_model.specs.Whole.{order_of_present}
use Rattle.standing_view.specs.View.{StandsFor, places}

-- of whatever present the slots stand for, the answer is the first environment of the fact's label after the last one
abbrev pub GivesNextOfLabel : Seen → Stands → Fact → Option (Set ℕ) → Option (Set ℕ) → Type 0
GivesNextOfLabel seen st f last next =
    (P : PresentView) (parked : List Fact) → StandsFor (slots.stock seen.slots) st P parked
    → GivesNext (order_of_present P) (IsInLabel (present.stock P) f) (present.everything P) (option_map (places st) last) (option_map (places st) next)

-- of whatever present the slots stand for, the answer is the least word above the last one that has a label
abbrev pub GivesNextWord : Seen → Stands → Cell → Option ℕ → Option ℕ → Type 0
GivesNextWord seen st c last next = (P : PresentView) (parked : List Fact) → StandsFor (slots.stock seen.slots) st P parked → GivesNextNumber (HasLabel (present.stock P) c) last next

-- how many environments that are kept for the fact stand and come after the last one
abbrev pub label_left : Seen → Stands → Fact → Option Env → ℕ
label_left seen st f last = count_left SLOTS (order_of st) (mask_of st) (option_map members last) (sets (label_of seen.kept f))
