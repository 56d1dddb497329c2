-- The numbers and the texts of the faults of lines.
use Rattle.std.specs.Prelude.{ℕ, List, codes}
use Rattle.netlist_text.specs.declared.faults.LineFault.{LineFault}
use Rattle.netlist_text.specs.declared.faults.LineFault.TheVariants.{NotPrintable, UnknownCommand, WordCount, BadName, BadNumber}

-- the number of a fault
abbrev pub number_of : LineFault → ℕ
number_of NotPrintable = 11
number_of UnknownCommand = 12
number_of WordCount = 13
number_of BadName = 14
number_of BadNumber = 15

-- its text
abbrev pub text_of : LineFault → List ℕ
text_of NotPrintable = codes "not printable ASCII"
text_of UnknownCommand = codes "unknown command"
text_of WordCount = codes "wrong word count"
text_of BadName = codes "bad name"
text_of BadNumber = codes "bad number"
