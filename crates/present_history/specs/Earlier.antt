-- The earlier presents, and what they measure.
use Rattle.std.specs.Prelude.{Bool, false, ◌==◌, ◌&&◌, List, [], ◌∷◌, Option, Some, None}
use Rattle.std.specs.List.{list_any, filter_map}
use Rattle.std.specs.Option.{option_map_or}
use Rattle.circuit_model.specs.declared.model.Fact.{Fact}
use Rattle.circuit_model.specs.Present.{PresentView, is_fact, reading_in}
use Rattle.present_history.specs.Undoing.{undone, MayUndo}
use Rattle.present_history.specs.declared.undoing.Undoing.{Undoing}
use Rattle.present_history.specs.declared.undoing.Undoing.TheVariants as back

-- the present measures the cell as this word
abbrev pub measures : PresentView → Fact → Bool
measures s f = option_map_or (λ word. word == f.value) (reading_in s.readings f.cell) false

-- some present measures it
abbrev pub some_measures : List PresentView → Fact → Bool
some_measures presents f = list_any (λ s. measures s f) presents

-- the earlier presents, the newest first, from what takes the changes back, the newest first
abbrev pub earlier_of : PresentView → List Undoing → List PresentView
earlier_of s [] = []
earlier_of s (u ∷ us) = undone u s ∷ earlier_of (undone u s) us

-- each change can be taken back, one after another
abbrev pub MayUndoEach : PresentView → List Undoing → Type 0
MayUndoEach s [] = Unit {0}
MayUndoEach s (u ∷ us) = MayUndo u s × MayUndoEach (undone u s) us

-- the measurement that stands again once the change is taken back, if it was retracted
abbrev pub retracted_by : Undoing → Option Fact
retracted_by (back.Cycles before) = None
retracted_by back.Net = None
retracted_by back.Part = None
retracted_by (back.Cost part before) = None
retracted_by back.Mode = None
retracted_by back.Block = None
retracted_by (back.Pin block) = None
retracted_by (back.Inner block) = None
retracted_by (back.Measured cell) = None
retracted_by (back.Retracted f) = Some f

-- the measurements that were retracted, the newest first
abbrev pub retracted : List Undoing → List Fact
retracted us = filter_map retracted_by us

-- the change retracted the measurement
abbrev pub retracts : Fact → Undoing → Bool
retracts f u = option_map_or (is_fact f) (retracted_by u) false
