-- What is split, as the code keeps it. The parameters of the types are the class and the types of its records.
use Rattle.elf_format.specs.Class.{Class}
use Rattle.elf_relocs.specs.Lists.{relocations_of}
use Rattle.elf_frames.specs.declared.source.Source.{Source}
use Rattle.elf_frames.specs.Taken.{FrameInput, symbol_section_in}

abbrev pub source_input : {A B C D E F G H I J K : Type 0} → Class → Source A B C D E F G H I J K → FrameInput
source_input c s = record { bytes = s.bytes.now; section = s.section.0; relocations = relocations_of c s.list.now; loadable = s.loadable.now; symbol_section = symbol_section_in c s.file.now.is_dynamic s.file.now.bytes }
