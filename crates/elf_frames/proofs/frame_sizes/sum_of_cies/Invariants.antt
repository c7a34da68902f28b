use Rattle.std.proofs.Common.{◌≡◌, map, take}
use Rattle.elf_frames.specs.Frames.{cie_size}
use Rattle.elf_frames.specs.Shown.{shown_cie}
use Rattle.elf_frames.proofs.frame_sizes.sum_of_cies.Given as goal

abbrev pub invariant-loop-cie : goal.invariant-loop-cie
invariant-loop-cie l = l.sum ≡ cie_size (map shown_cie (take l.cie-index l.cies))
