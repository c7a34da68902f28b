-- What the bytes of a numbered object hold, whatever the three characters of its name and its flag are.
use Rattle.std.proofs.Common.{◌≡◌, ℕ, length, None, refl, false}
use Rattle.elf_format.specs.Bytes.{le, string_at}
use Rattle.elf_format.specs.Class.{class64}
use Rattle.elf_format.specs.Section.{section_count, name_table_index, sections, section_bytes, name_table, section_name, section_of_name}
use Rattle.gdb_index_format.specs.Addresses.{relocation_fault, unit_relocations}
use Rattle.gdb_index_format.specs.Objects.{class_in, first_compressed}
use Rattle.demo_input.specs.Object.{object_with}

pub object_len : (a b c f : ℕ) → length (object_with a b c f) ≡ 501
unfolding object_with
object_len a b c f = refl

pub object_sections : (a b c f : ℕ) → length (sections class64 (object_with a b c f)) ≡ 5
unfolding object_with le section_count sections
object_sections a b c f = refl

pub object_plain : (a b c f : ℕ) → first_compressed class64 (object_with a b c f) ≡ None
unfolding object_with le section_count name_table_index sections section_bytes string_at name_table section_name section_of_name
object_plain a b c f = refl

pub object_relocations : (a b c f : ℕ) → relocation_fault class64 false (object_with a b c f) ≡ None
unfolding object_with le section_count name_table_index sections section_bytes string_at name_table section_name section_of_name unit_relocations relocation_fault
object_relocations a b c f = refl

pub object_class : (a b c f : ℕ) → class_in (object_with a b c f) ≡ class64
unfolding class_in object_with
object_class a b c f = refl
