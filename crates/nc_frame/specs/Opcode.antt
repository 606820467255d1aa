-- The numbers of the opcodes (RFC 6455, section 5.2).
use Rattle.std.specs.Prelude.{ℕ}
use Rattle.nc_frame.specs.declared.frame.Opcode.{Opcode}
use Rattle.nc_frame.specs.declared.frame.Opcode.TheVariants.{Text, Binary, Close}
use Rattle.nc_frame.specs.Frame.{text_opcode, binary_opcode, close_opcode}

-- the number of an opcode
abbrev pub number : Opcode → ℕ
number Text = text_opcode
number Binary = binary_opcode
number Close = close_opcode
