-- Words that stand for cells: split at the first `@`, where there is one.
use Rattle.std.specs.Prelude.{ℕ, ◌==◌, nat_lt, Bool, true, if◌then◌else◌, List, length, Option, Some, None}
use Rattle.std.specs.List.{position_or_len, before_first, after_first}
use Rattle.std.specs.Option.{option_map_or}
use Rattle.netlist_text.specs.Words.{is_number, number_of}

-- the byte is `@`
abbrev pub is_at : ℕ → Bool
is_at b = b == 64

-- the part before the first `@`, or the whole word
abbrev pub net_part : List ℕ → List ℕ
net_part word = before_first is_at word

-- the part after the first `@`
abbrev pub cycle_part : List ℕ → Option (List ℕ)
cycle_part word = if nat_lt (position_or_len is_at word) (length word) then Some (after_first is_at word) else None

-- the part after the first `@`, where there is one, is a number
abbrev pub has_cycle : List ℕ → Bool
has_cycle word = option_map_or is_number (cycle_part word) true

-- the number after the first `@`, or 0 without one
abbrev pub cycle_of : List ℕ → ℕ
cycle_of word = option_map_or number_of (cycle_part word) 0
