-- The sizes of paper 01, "The store", with the records of paper 02, card 1. Assumes nothing.
use Rattle.std.specs.Prelude.{ℕ, ◌+◌, ◌*◌}

abbrev pub record_length : ℕ
record_length = 28

-- where the records start in an area
abbrev pub header_length : ℕ
header_length = 48

abbrev pub most_records : ℕ
most_records = 128

-- 3,632
abbrev pub area_length : ℕ
area_length = header_length + record_length * most_records

abbrev pub streams : ℕ
streams = 16

-- 58,112
abbrev pub store_length : ℕ
store_length = area_length * streams

-- where a stream's area starts
abbrev pub start_of : ℕ → ℕ
start_of stream = area_length * stream
