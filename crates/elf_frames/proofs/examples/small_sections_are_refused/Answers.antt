use Rattle.std.proofs.Common.{[], ◌∷◌, refl, arith}
use Rattle.elf_format.specs.Bytes.{le}
use Rattle.elf_frames.specs.FrameExample.{cie_and_cut_fde}
use Rattle.elf_frames.proofs.ByHand.{begins, is_entry, is_cie_at, is_fde_at}
use Rattle.elf_frames.proofs.examples.small_sections_are_refused.Goals as goal

pub returns-clause-too_long : goal.returns-clause-too_long
unfolding le
returns-clause-too_long c = record {
  entries = record { offset = 0; size = 8 } ∷ [];
  are_entries = record { tile = (is_entry cie_and_cut_fde 0 4 24 refl refl (omega arith) (omega arith) (omega arith), refl); symbols = (refl, tt) };
  begins = begins cie_and_cut_fde 8 100 24 refl refl (omega arith) (omega arith);
  beyond = omega arith;
}

pub returns-clause-no_symbol : goal.returns-clause-no_symbol
unfolding le
returns-clause-no_symbol c = record {
  entries = record { offset = 0; size = 8 } ∷ [];
  offset = 8;
  entry = record { offset = 8; size = 16 };
  are_entries = record { tile = (is_cie_at, refl); symbols = (refl, tt) };
  is_entry = is_fde_at;
  first = refl;
}
