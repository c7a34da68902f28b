use Rattle.std.proofs.Common.{◌++◌, [], ◌∷◌, refl, replicate, arith}
use Rattle.elf_format.specs.Bytes.{le}
use Rattle.elf_frames.specs.FrameExample.{cie_and_fde, small_cie}
use Rattle.elf_frames.proofs.ByHand.{is_entry, short, zero_length}
use Rattle.elf_frames.proofs.examples.bytes_at_the_end.Goals as goal

pub returns-clause-zero_length : goal.returns-clause-zero_length
unfolding le
returns-clause-zero_length c = record {
  entries = [];
  stop = 0;
  are_entries = record { tile = refl; symbols = tt };
  is_end = zero_length (replicate 8 0 ++ cie_and_fde) 0 32 refl (omega arith) refl;
  cies = refl;
  frames = refl;
  rest = refl;
}

pub returns-clause-after_a_cie : goal.returns-clause-after_a_cie
unfolding le
returns-clause-after_a_cie c = record {
  entries = record { offset = 0; size = 8 } ∷ [];
  stop = 8;
  are_entries = record { tile = (is_entry (small_cie ++ replicate 4 0) 0 4 12 refl refl (omega arith) (omega arith) (omega arith), refl); symbols = (refl, tt) };
  is_end = short (small_cie ++ replicate 4 0) 8 12 refl (omega arith);
  cies = refl;
  frames = refl;
  rest = refl;
}
