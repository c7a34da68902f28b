use Rattle.std.proofs.Common.{[], ◌∷◌, refl}
use Rattle.elf_format.specs.Bytes.{le}
use Rattle.elf_frames.specs.FrameExample.{relocation_to, frame_of_example}
use Rattle.elf_frames.proofs.ByHand.{splits}
use Rattle.elf_frames.proofs.examples.small_sections_are_split.Goals as goal

pub returns-clause-one_relocation : goal.returns-clause-one_relocation
unfolding le
returns-clause-one_relocation c = splits (relocation_to 16 1 ∷ []) (frame_of_example (relocation_to 16 1 ∷ []) ∷ []) refl refl refl refl

pub returns-clause-last_one : goal.returns-clause-last_one
unfolding le
returns-clause-last_one c = splits (relocation_to 16 2 ∷ relocation_to 16 1 ∷ []) (frame_of_example (relocation_to 16 2 ∷ relocation_to 16 1 ∷ []) ∷ []) refl refl refl refl

pub returns-clause-offset_falls : goal.returns-clause-offset_falls
unfolding le
returns-clause-offset_falls c = splits (relocation_to 16 1 ∷ relocation_to 4 1 ∷ []) (frame_of_example (relocation_to 16 1 ∷ relocation_to 4 1 ∷ []) ∷ []) refl refl refl refl

pub returns-clause-offset_beyond : goal.returns-clause-offset_beyond
unfolding le
returns-clause-offset_beyond c = splits (relocation_to 30 1 ∷ relocation_to 16 1 ∷ []) [] refl refl refl refl

pub returns-clause-not_loadable : goal.returns-clause-not_loadable
unfolding le
returns-clause-not_loadable c = splits (relocation_to 16 2 ∷ []) [] refl refl refl refl

pub returns-clause-in_no_section : goal.returns-clause-in_no_section
unfolding le
returns-clause-in_no_section c = splits (relocation_to 16 3 ∷ []) [] refl refl refl refl
