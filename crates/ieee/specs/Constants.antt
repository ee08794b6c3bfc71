-- Constants by their bit patterns.
use Rattle.std.specs.Prelude.{from_bits, Float}
use Rattle.std.specs.Float.{binary32, binary64}

abbrev pub zero32 : Float
zero32 = from_bits binary32 0

abbrev pub one32 : Float
one32 = from_bits binary32 0x3f80_0000

abbrev pub zero64 : Float
zero64 = from_bits binary64 0

abbrev pub one64 : Float
one64 = from_bits binary64 0x3ff0_0000_0000_0000
