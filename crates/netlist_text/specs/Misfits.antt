-- Why a change does not go with a present.
use Rattle.std.specs.Prelude.{ℕ, List, codes}
use Rattle.netlist_text.specs.declared.misfits.Misfit.{Misfit}
use Rattle.netlist_text.specs.declared.misfits.Misfit.TheVariants as misfit

-- the number of the reply
abbrev pub number_of : Misfit → ℕ
number_of misfit.NameTaken = 20
number_of misfit.UnknownNet = 21
number_of misfit.BadWidth = 22
number_of misfit.WidthsDisagree = 23
number_of misfit.BadCycle = 24
number_of misfit.ValueDoesNotFit = 25
number_of misfit.CyclesNotFirst = 26
number_of misfit.UnknownComponent = 27
number_of misfit.BadCost = 28
number_of misfit.BadMode = 29
number_of misfit.NetsFull = 30
number_of misfit.ComponentsFull = 31
number_of misfit.CellsFull = 32
number_of misfit.MeasurementsFull = 33
number_of misfit.ModesFull = 35
number_of misfit.BlocksFull = 36
number_of misfit.BlockFull = 37
number_of misfit.AlreadyMeasured = 40
number_of misfit.NotMeasured = 41
number_of misfit.UnknownBlock = 48
number_of misfit.BlockInUse = 49
number_of misfit.WrongPinCount = 51
number_of misfit.OutOfMemory = 90

-- its text
abbrev pub text_of : Misfit → List ℕ
text_of misfit.NameTaken = codes "name taken"
text_of misfit.UnknownNet = codes "unknown net"
text_of misfit.BadWidth = codes "bad width"
text_of misfit.WidthsDisagree = codes "widths disagree"
text_of misfit.BadCycle = codes "bad cycle"
text_of misfit.ValueDoesNotFit = codes "value does not fit"
text_of misfit.CyclesNotFirst = codes "cycles not first"
text_of misfit.UnknownComponent = codes "unknown component"
text_of misfit.BadCost = codes "bad cost"
text_of misfit.BadMode = codes "bad mode"
text_of misfit.NetsFull = codes "nets full"
text_of misfit.ComponentsFull = codes "components full"
text_of misfit.CellsFull = codes "cells full"
text_of misfit.MeasurementsFull = codes "measurements full"
text_of misfit.ModesFull = codes "modes full"
text_of misfit.BlocksFull = codes "blocks full"
text_of misfit.BlockFull = codes "block full"
text_of misfit.AlreadyMeasured = codes "already measured"
text_of misfit.NotMeasured = codes "not measured"
text_of misfit.UnknownBlock = codes "unknown block"
text_of misfit.BlockInUse = codes "block in use"
text_of misfit.WrongPinCount = codes "wrong pin count"
text_of misfit.OutOfMemory = codes "no memory"
