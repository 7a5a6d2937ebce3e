-- `heap_stamp::first_bits` meets its contract: no bit is set or all are. Assumes nothing.
use Rattle.std.proofs.Common.{◌≡◌, ◌⊎◌, true, ap, inl, inr, arith}
use Rattle.types.specs.declared.Beginning.{Beginning}
use Rattle.types.specs.declared.Beginning.TheVariants.{Written, Literal}
use Rattle.plain.specs.Block.{starts_written}
use Rattle.heap_laws.proofs.StampLaws.{bits_none, bits-all}
use Rattle.heap_stamp.proofs.first_bits.Goals as goal

written : (how : Beginning) → (how ≡ Written) ⊎ (how ≡ Literal) → starts_written how ≡ true
written how (inl e) = ap starts_written e
written how (inr e) = ap starts_written e

pub returns-in-Unwritten : goal.returns-in-Unwritten
returns-in-Unwritten c = let a = c.args in (bits_none (starts_written a.how) a.n (ap starts_written c.in-Unwritten.is), omega arith)

pub returns-in-Written : goal.returns-in-Written
returns-in-Written c =
    let a = c.args in
    let e = bits-all (starts_written a.how) a.n (written a.how c.in-Written.is) in
    (omega arith, omega arith)
