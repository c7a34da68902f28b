use Rattle.elf_frames.proofs.ChainSums.{IsCounted}
use Rattle.elf_frames.proofs.eh_frames.EhFrames.section_frame_sizes.Given as goal

abbrev pub invariant-loop-index : goal.invariant-loop-index
invariant-loop-index g l = IsCounted l.self.frames l.fn.section.0 l.num_frames l.eh_frame_size l.index-iterator
