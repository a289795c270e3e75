-- What writing an image answers, and what it leaves in the buffer.
use Rattle.std.specs.Prelude.{ℕ, cond, ◌&&◌, List, ◌++◌, length, drop, Ok, Err, Result, nat_le}
use Rattle.record.specs.declared.entry.Entry.{Entry}
use Rattle.record.specs.declared.kinds.Ballot.{Ballot}
use Rattle.image.specs.declared.fault.WriteFault.{WriteFault}
use Rattle.image.specs.declared.fault.WriteFault.TheVariants.{OutOfRange, TooShort}
use Rattle.image.specs.Rules.{in_range}
use Rattle.image.specs.Images.{image}

-- The length of the image; or, in the order of checking, a number out of range or a buffer with too little room.
abbrev pub write_answer : Ballot → List Entry → (room : ℕ) → Result ℕ WriteFault
write_answer b es room =
    cond (in_range b es) (cond (nat_le (length (image b es)) room) (Ok (length (image b es))) (Err TooShort)) (Err OutOfRange)

-- The image, and the bytes behind it as they were; the buffer as it was where nothing is written.
abbrev pub write_after : Ballot → List Entry → List ℕ → List ℕ
write_after b es buffer =
    cond (in_range b es && nat_le (length (image b es)) (length buffer)) (image b es ++ drop (length (image b es)) buffer) buffer
