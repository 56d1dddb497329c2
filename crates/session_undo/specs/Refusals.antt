-- Why a line changes and answers nothing.
use Rattle.std.specs.Prelude.{ℕ, List, codes}
use Rattle.netlist_text.specs.Faults as faults
use Rattle.netlist_text.specs.Misfits as misfits
use Rattle.session_undo.specs.declared.refusals.Refusal.{Refusal}
use Rattle.session_undo.specs.declared.refusals.Refusal.TheVariants.{LineTooLong, Unreadable, Misfit, NothingToUndo, NoSuchValue, NoSuchConflict, LoadTooLarge, TooManyDiagnoses, BadCount, NotBuilt}

-- the number of a refusal
abbrev pub number_of : Refusal → ℕ
number_of LineTooLong = 10
number_of (Unreadable fault) = faults.number_of fault
number_of (Misfit misfit) = misfits.number_of misfit
number_of LoadTooLarge = 34
number_of NothingToUndo = 42
number_of NoSuchValue = 43
number_of NoSuchConflict = 44
number_of TooManyDiagnoses = 45
number_of BadCount = 47
number_of NotBuilt = 50

-- its text
abbrev pub text_of_refusal : Refusal → List ℕ
text_of_refusal LineTooLong = codes "line too long"
text_of_refusal (Unreadable fault) = faults.text_of fault
text_of_refusal (Misfit misfit) = misfits.text_of misfit
text_of_refusal LoadTooLarge = codes "load too large"
text_of_refusal NothingToUndo = codes "nothing to undo"
text_of_refusal NoSuchValue = codes "no such value"
text_of_refusal NoSuchConflict = codes "no such conflict"
text_of_refusal TooManyDiagnoses = codes "too many diagnoses"
text_of_refusal BadCount = codes "bad count"
text_of_refusal NotBuilt = codes "not built"
