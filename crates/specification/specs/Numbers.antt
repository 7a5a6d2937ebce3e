-- Document 01, opening: numbers and bytes. A number is a whole number of any size, so that no sum wraps; a byte is a number below 256, which the
-- definitions of this crate do not ask of a shadow's elements (Votes.antt says that bytes stay bytes). The definitions that are named here stand in
-- crates/number/specs, a line or two each. Assumes nothing.

-- Little.antt: `byte_of v i` is byte i of the number v, where byte 0 is the lowest; `word f q n` is the number in the n bytes f q, f (q + 1), .., the
-- lowest first
unfoldable pub use Rattle.number.specs.Little.{byte_of, word}
-- Bits.antt: `bit` is 1 for true and 0 for false; `bit_of v j` is bit j of v, which has weight 2 to the j; `with_bit v j` is v with that bit set;
-- `of_bits` is the number with the given bits, bit 0 first; `ones` counts the true ones
pub use Rattle.number.specs.Bits.{bit}
unfoldable pub use Rattle.number.specs.Bits.{bit_of, with_bit, of_bits, ones}
-- Parts.antt: `at h q` is the byte at place q of a list; `tab i n f` is the list f i, f (i + 1), .. of n elements; `zeros f q n` tests that the n
-- bytes f q, f (q + 1), .. are 0; `over q n f h` is h with f i in place of its byte at each of the n places i from q on
pub use Rattle.number.specs.Parts.{at}
unfoldable pub use Rattle.number.specs.Parts.{tab, zeros, over}
