-- The number, the offset and the reader that a fault names, and the reader's name.
use Rattle.std.specs.Prelude.{ℕ, List, codes}
use Rattle.record.specs.declared.fault.RecordFault.{RecordFault}
use Rattle.record.specs.declared.fault.RecordFault.TheVariants.{Field, WrongLength, UnknownKind}
use Rattle.record.specs.declared.fault.Reader.{Reader}
use Rattle.record.specs.declared.fault.Reader.TheVariants.{Field as by_field, Record as by-record, Image as by-image}

abbrev pub number_of : RecordFault → ℕ
number_of (Field f) = 21
number_of (WrongLength o) = 22
number_of (UnknownKind o) = 23

abbrev pub offset_of : RecordFault → ℕ
offset_of (Field f) = f.offset
offset_of (WrongLength o) = o
offset_of (UnknownKind o) = o

abbrev pub reader_of : RecordFault → Reader
reader_of (Field f) = by_field
reader_of (WrongLength o) = by-record
reader_of (UnknownKind o) = by-record

-- the name of a reader, in the bytes of its letters
abbrev pub name_of : Reader → List ℕ
name_of by_field = codes "field"
name_of by-record = codes "record"
name_of by-image = codes "image"
