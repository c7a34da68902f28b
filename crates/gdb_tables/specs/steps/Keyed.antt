-- Private steps: only private contracts cite this module.
-- Names that are sorted, as names with the elements of their CU vectors.
use Rattle.std.specs.Prelude.{ℕ, List, map, Vec}
use Rattle.std.specs.declared.alloc.Global.{Global}
use Rattle.gdb_index_format.specs.Named.{Named}
use Rattle.gdb_index.specs.declared.name_order.ByName.{ByName}

abbrev pub keyed_named : ByName (Vec ℕ Global) → Named
keyed_named n = record { name = n.name.now; words = n.item.items }

abbrev pub all_keyed : List (ByName (Vec ℕ Global)) → List Named
all_keyed ns = map keyed_named ns
