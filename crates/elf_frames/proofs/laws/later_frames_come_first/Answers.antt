use Rattle.elf_frames.proofs.Linking.{later_frames_first}
use Rattle.elf_frames.proofs.laws.later_frames_come_first.Goals as goal

pub returns : goal.returns
returns c = later_frames_first
