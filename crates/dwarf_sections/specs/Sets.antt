-- The sets as a reader returns them.
use Rattle.std.specs.Prelude.{List, map}
use Rattle.gdb_index_format.specs.Names.{NameSet}
use Rattle.dwarf_sections.specs.Entries.{entries_in}
use Rattle.dwarf_sections.specs.declared.sets.PubnamesSet.{PubnamesSet}

abbrev pub set_in : PubnamesSet → NameSet
set_in s = record { unit = s.debug_info_offset; entries = entries_in s.entries.items }

abbrev pub sets_in : List PubnamesSet → List NameSet
sets_in ss = map set_in ss
