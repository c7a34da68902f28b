use Rattle.elf_frames.proofs.Linking.{previous_is_lower}
use Rattle.elf_frames.proofs.laws.previous_frames_are_lower.Goals as goal

pub returns : goal.returns
returns c = previous_is_lower
