use Rattle.std.proofs.Common.{ℤ, pos, negsuc, ◌<◌, ◌^◌}
use Rattle.std.specs.Int.{w64}
use Rattle.std.specs.Int.RustNames.{FitsSigned}
use Rattle.elf_format.specs.Leb128.{magnitude}
use Rattle.elf_format.proofs.Leb128Lemmas.{uleb128_again, sleb128_again}
use Rattle.elf_format.proofs.laws.numbers_are_read_again.Goals as goal

magnitude_small : (z : ℤ) → FitsSigned w64 z → magnitude z < 2 ^ 63
magnitude_small (pos n) f = f.sfits
magnitude_small (negsuc n) f = f.sfits

pub returns-clause-unsigned : goal.returns-clause-unsigned
returns-clause-unsigned c = λ n rest h. uleb128_again n rest h

pub returns-clause-signed : goal.returns-clause-signed
returns-clause-signed c = λ z rest h. sleb128_again z rest (magnitude_small z h)
