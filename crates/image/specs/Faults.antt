-- The number, the offset and the reader that a fault names.
use Rattle.std.specs.Prelude.{ℕ}
use Rattle.record.specs.Faults as below
use Rattle.record.specs.declared.fault.Reader.{Reader}
use Rattle.record.specs.declared.fault.Reader.TheVariants.{Image as by-image}
use Rattle.image.specs.declared.fault.ImageFault.{ImageFault}
use Rattle.image.specs.declared.fault.ImageFault.TheVariants.{InRecord, Misplaced, TooMany, OutOfRange, NotEmpty}
use Rattle.image.specs.declared.fault.WriteFault.{WriteFault}
use Rattle.image.specs.declared.fault.WriteFault.TheVariants.{OutOfRange as Unfit, TooShort}

abbrev pub number_of : ImageFault → ℕ
number_of (InRecord f) = below.number_of f
number_of (Misplaced o) = 24
number_of (TooMany o) = 25
number_of (OutOfRange o) = 26
number_of NotEmpty = 28

abbrev pub offset_of : ImageFault → ℕ
offset_of (InRecord f) = below.offset_of f
offset_of (Misplaced o) = o
offset_of (TooMany o) = o
offset_of (OutOfRange o) = o
offset_of NotEmpty = 0

abbrev pub reader_of : ImageFault → Reader
reader_of (InRecord f) = below.reader_of f
reader_of (Misplaced o) = by-image
reader_of (TooMany o) = by-image
reader_of (OutOfRange o) = by-image
reader_of NotEmpty = by-image

abbrev pub write_number_of : WriteFault → ℕ
write_number_of Unfit = 26
write_number_of TooShort = 27
