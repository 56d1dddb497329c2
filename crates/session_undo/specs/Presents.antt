-- What a session keeps, and its changes.
use Rattle.std.specs.Prelude.{List, [], ◌∷◌, take}
use Rattle.circuit_model.specs.declared.limits.TheConstants.{MOST_EARLIER}
use Rattle.circuit_model.specs.Present.{PresentView, empty_present}
use Rattle.netlist_text.specs.Placing.{changed}
use Rattle.netlist_text.specs.declared.requests.Change.{Change}
use Rattle.netlist_text.specs.declared.requests.Change.TheVariants.{Net, Add, Measure, Cycles, Retract, Undo, Cost, Stuck, Acts, Define, Pin, Inside, UseBlock}

-- what a session keeps between lines: the present, and the earlier presents, the newest first
pub record State : Type 0 where
  pub present : PresentView
  pub earlier : List PresentView

-- that of a fresh bench
abbrev pub empty : State
empty = record { present = empty_present; earlier = [] }

-- The present after a change, and the old one before the earlier presents, of which no more than the most are kept.
abbrev pub with_present : PresentView → State → State
with_present t s = record { present = t; earlier = take MOST_EARLIER (s.present ∷ s.earlier) }

-- the newest of the earlier presents is the present again
abbrev pub back_to : List PresentView → State → State
back_to [] s = s
back_to (t ∷ earlier) s = record { present = t; earlier = earlier }

-- the state after a change
abbrev pub after : State → Change → State
after s (Cycles count) = with_present (changed s.present (Cycles count)) s
after s (Net name width) = with_present (changed s.present (Net name width)) s
after s (Add name kind nets) = with_present (changed s.present (Add name kind nets)) s
after s (Cost name cost) = with_present (changed s.present (Cost name cost)) s
after s (Stuck name value cost) = with_present (changed s.present (Stuck name value cost)) s
after s (Acts name kind cost) = with_present (changed s.present (Acts name kind cost)) s
after s (Define block) = with_present (changed s.present (Define block)) s
after s (Pin block name width) = with_present (changed s.present (Pin block name width)) s
after s (Inside block name kind nets) = with_present (changed s.present (Inside block name kind nets)) s
after s (UseBlock block name nets) = with_present (changed s.present (UseBlock block name nets)) s
after s (Measure net cycle value) = with_present (changed s.present (Measure net cycle value)) s
after s (Retract net cycle) = with_present (changed s.present (Retract net cycle)) s
after s Undo = back_to s.earlier s
