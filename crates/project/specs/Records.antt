-- The records of a body, by their numbers.
use Rattle.std.specs.Prelude.{ℕ, ◌*◌, ◌/◌, List, length, map}
use Rattle.lists.specs.Base.{count_from}
use Rattle.model.specs.Project.{Record, read_record, record_length}
use Rattle.project.specs.declared.RawRecord.{RawRecord}

-- the definition's record of what was read
abbrev pub record_of : RawRecord → Record
record_of r =
    record {
      id = r.id;
      width = r.width;
      length = r.length;
      quantity = r.quantity;
      pattern = r.pattern;
      flag = r.flag;
      spare = r.spare;
    }

-- record k of a body
abbrev pub record_at : List ℕ → ℕ → Record
record_at body k = read_record body (record_length * k)

-- n records from number i on
abbrev pub records_from : List ℕ → ℕ → ℕ → List Record
records_from body i n = map (record_at body) (count_from i n)

-- all of them
abbrev pub records : List ℕ → List Record
records body = records_from body 0 (length body / record_length)
