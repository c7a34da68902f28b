-- Which input has tables.
use Rattle.std.specs.Prelude.{length}
use Rattle.elf_format.specs.Span.{AreInside}
use Rattle.gdb_tables.specs.Files as files
use Rattle.gdb_tables.specs.Index.{AreRelocated}
use Rattle.gdb_tables.specs.Sized.{IsIndexable}
use Rattle.sframe_format.specs.Valid as frames
use Rattle.derivation.specs.Input.{Input}
use Rattle.derivation.specs.Objects.{objects_of, parsed_of, AreObjects}
use Rattle.gdb_index_format.specs.Version.{version_number}

-- the spans of the objects lie in the buffer
abbrev pub HasSpans : Input → Type 0
HasSpans input = AreInside (length input.buffer) input.objects

-- each object is well formed, relocatable and for the machine
abbrev pub HasObjects : Input → Type 0
HasObjects input = AreObjects input.machine (objects_of input.buffer input.objects)

-- The placements strictly ascend by object and section, each names an object and a section that are there, and each end
-- fits 64 bits.
abbrev pub HasPlacements : Input → Type 0
HasPlacements input = files.ArePlacedIn (objects_of input.buffer input.objects) input.placements

-- In each object the first `.debug_info` and all `.debug_gnu_pubnames` and `.debug_gnu_pubtypes` are not compressed, their
-- bytes are in the file, and they hold compilation units (CUs) and, where there is a CU, sets; there are at most 2^24 units; and the index of the version has fewer than 2^32 bytes.
abbrev pub HasIndex : Input → Type 0
HasIndex input = IsIndexable (version_number input.version) (objects_of input.buffer input.objects) input.placements

-- in each object that has two units or more, the relocations of its units are read
abbrev pub HasRelocations : Input → Type 0
HasRelocations input = AreRelocated (parsed_of input.buffer input.objects)

-- The ranges lie in the SFrame bytes, which are fewer than 2^32; their contributions are well formed; and the merged
-- section has room, and its numbers fit their fields.
abbrev pub HasSframe : Input → Type 0
HasSframe input = frames.IsSortable input.sframe input.ranges

-- each condition by its own name
pub record IsValid (input : Input) : Type 0 where
  pub spans : HasSpans input
  pub objects : HasObjects input
  pub placements : HasPlacements input
  pub index : HasIndex input
  pub relocations : HasRelocations input
  pub sframe : HasSframe input
