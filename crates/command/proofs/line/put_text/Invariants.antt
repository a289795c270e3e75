use Rattle.std.proofs.Common.{take}
use Rattle.command.specs.Writing.{Put}
use Rattle.command.proofs.line.put_text.Given as goal

abbrev pub invariant-loop-byte : goal.invariant-loop-byte
invariant-loop-byte l = Put l.byte-index l.initial.out (take l.byte-index l.bytes) l.out
