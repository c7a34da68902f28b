-- Which names an object publishes.
use Rattle.std.specs.Prelude.{ℕ, List, [], map, Option, Some, None}
use Rattle.std.specs.List.{flat_map}
use Rattle.gdb_index_format.specs.declared.unit.CuBoundary.{CuBoundary}
use Rattle.gdb_index_format.specs.Names.{Entry, NameSet}
use Rattle.dwarf_sections.specs.UnitSearch.{unit_at}
use Rattle.gdb_scan.specs.declared.mark.Mark.{Mark}
use Rattle.gdb_scan.specs.declared.mark.Publication.{Publication}

abbrev pub mark_of : ℕ → Entry → List ℕ × Mark
mark_of unit e = (e.name, record { unit = unit; flag = e.flag })

abbrev pub marks_at : Option ℕ → List Entry → List (List ℕ × Mark)
marks_at None es = []
marks_at (Some unit) es = map (mark_of unit) es

-- what a set publishes: nothing where its offset is that of no unit
abbrev pub marks_in : List CuBoundary → NameSet → List (List ℕ × Mark)
marks_in us s = marks_at (unit_at us s.unit) s.entries

-- what an object publishes, in order
abbrev pub marks_of : List CuBoundary → List NameSet → List (List ℕ × Mark)
marks_of us ss = flat_map (marks_in us) ss

-- a publication, as a name with its mark
abbrev pub marked : Publication → List ℕ × Mark
marked p = (p.name.now, record { unit = p.unit; flag = p.flag })

abbrev pub all_marked : List Publication → List (List ℕ × Mark)
all_marked ps = map marked ps
