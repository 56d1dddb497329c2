-- The statuses that a run of the program ends with.
use Rattle.std.specs.Prelude.{ℕ, Bool, if◌then◌else◌}
use Rattle.bench_cli.specs.declared.Status.{Status}
use Rattle.bench_cli.specs.declared.Status.TheVariants.{Done, SomeRefused, Usage, ReadFault, WriteFault, TooMuch, NoMemory}

-- the number that the program exits with
abbrev pub number_of : Status → ℕ
number_of Done = 0
number_of SomeRefused = 1
number_of Usage = 2
number_of ReadFault = 3
number_of WriteFault = 4
number_of TooMuch = 5
number_of NoMemory = 6

-- the status of a session that was read to its end
abbrev pub status_by : (has_no_memory has_refused : Bool) → Status
status_by has_no_memory has_refused = if has_no_memory then NoMemory else if has_refused then SomeRefused else Done
