-- The project file as numbers: contents, settings, stock records, cut records. Every field is read whatever the file is;
-- `Refusal` says which files are refused.
use Rattle.std.specs.Prelude.{ℕ, ◌+◌, ◌*◌, ◌/◌, ◌%◌, Bool, ◌&&◌, List, [], ◌∷◌, map, leb, eqb, length, take, drop}
use Rattle.lists.specs.Base.{range}

-- ---- numbers

unfoldable pub little_endian : List ℕ → ℕ
little_endian [] = 0
little_endian (b ∷ bs) = b + 256 * little_endian bs

-- the number of n bytes at a place
unfoldable pub number : List ℕ → ℕ → ℕ → ℕ
number bytes at n = little_endian (take n (drop at bytes))

-- ---- where the parts of the file are

-- the contents have an entry of start and length, four bytes each, for settings, stock and cuts
abbrev pub settings_entry : ℕ
settings_entry = 0

abbrev pub stock_entry : ℕ
stock_entry = 8

abbrev pub cuts_entry : ℕ
cuts_entry = 16

abbrev pub settings_start : ℕ
settings_start = 24

abbrev pub settings_length : ℕ
settings_length = 8

abbrev pub stock_start : ℕ
stock_start = settings_start + settings_length

abbrev pub record_length : ℕ
record_length = 24

abbrev pub most_records : ℕ
most_records = 64

abbrev pub start_of : List ℕ → ℕ → ℕ
start_of bytes entry = number bytes entry 4

abbrev pub length_of : List ℕ → ℕ → ℕ
length_of bytes entry = number bytes (entry + 4) 4

-- the stock's length, and where the cuts start
abbrev pub stock_length : List ℕ → ℕ
stock_length bytes = length_of bytes stock_entry

abbrev pub cuts_start : List ℕ → ℕ
cuts_start bytes = stock_start + stock_length bytes

abbrev pub cuts_length : List ℕ → ℕ
cuts_length bytes = length_of bytes cuts_entry

-- ---- records

-- StockPiece or CutPiece, its pattern still a code; `flag` is finite or can_rotate
pub record Record : Type 0 where
  pub id : ℕ
  pub width : ℕ
  pub length : ℕ
  pub quantity : ℕ
  pub pattern : ℕ
  pub flag : ℕ
  pub spare : ℕ

-- the fields of a record from its first byte on
abbrev pub width_field : ℕ
width_field = 8

abbrev pub length_field : ℕ
length_field = 12

abbrev pub quantity_field : ℕ
quantity_field = 16

abbrev pub pattern_field : ℕ
pattern_field = 20

abbrev pub flag_field : ℕ
flag_field = 21

abbrev pub spare_field : ℕ
spare_field = 22

unfoldable pub read_record : List ℕ → ℕ → Record
read_record bytes at =
    record {
      id = number bytes at 8;
      width = number bytes (at + width_field) 4;
      length = number bytes (at + length_field) 4;
      quantity = number bytes (at + quantity_field) 4;
      pattern = number bytes (at + pattern_field) 1;
      flag = number bytes (at + flag_field) 1;
      spare = number bytes (at + spare_field) 2;
    }

-- the records of a body that starts at a place and has a length
unfoldable pub read_records : List ℕ → ℕ → ℕ → List Record
read_records bytes at length = map (λ k. read_record bytes (at + record_length * k)) (range (length / record_length))

-- ---- the project

-- Project with its CutSettings and the effort, codes as they are in the file; `unit` changes nothing
pub record Project : Type 0 where
  pub kerf : ℕ
  pub layout : ℕ
  pub effort : ℕ
  pub unit : ℕ
  pub spare : ℕ
  pub stock : List Record
  pub cuts : List Record

abbrev pub kerf_at : ℕ
kerf_at = settings_start

abbrev pub layout_at : ℕ
layout_at = settings_start + 4

abbrev pub effort_at : ℕ
effort_at = settings_start + 5

abbrev pub unit_at : ℕ
unit_at = settings_start + 6

abbrev pub settings_spare_at : ℕ
settings_spare_at = settings_start + 7

unfoldable pub project_of : List ℕ → Project
project_of bytes =
    record {
      kerf = number bytes kerf_at 4;
      layout = number bytes layout_at 1;
      effort = number bytes effort_at 1;
      unit = number bytes unit_at 1;
      spare = number bytes settings_spare_at 1;
      stock = read_records bytes stock_start (stock_length bytes);
      cuts = read_records bytes (cuts_start bytes) (cuts_length bytes);
    }

-- ---- the shape of the file

-- a length of 24 times 0 to 64
abbrev pub body_length : ℕ → Bool
body_length n = eqb (n % record_length) 0 && leb n (record_length * most_records)

-- contents, lengths and the file's length are as the format says: bodies in order, without gaps or trailing bytes
unfoldable pub well_formed : List ℕ → Bool
well_formed bytes =
    eqb (start_of bytes settings_entry) settings_start && eqb (length_of bytes settings_entry) settings_length
    && eqb (start_of bytes stock_entry) stock_start && body_length (stock_length bytes)
    && eqb (start_of bytes cuts_entry) (cuts_start bytes) && body_length (cuts_length bytes)
    && eqb (length bytes) (cuts_start bytes + cuts_length bytes)
