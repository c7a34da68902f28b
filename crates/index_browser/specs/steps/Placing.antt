-- Private steps: only private contracts cite this module.
-- Whether a taken slot is found where it stands, and the tests of an index that has a header.
use Rattle.std.specs.Prelude.{ℕ, List, Option}
use Rattle.std.specs.Option.{option_or}
use Rattle.index_browser.specs.declared.error.BrowseError.{BrowseError}
use Rattle.index_browser.specs.Stored.{StoredSlot}
use Rattle.index_browser.specs.Fault.{misplaced_fault, types_fault, units_fault, area_fault, stored_fault, order_fault}

abbrev pub misplaced_fault_at : List ℕ → StoredSlot → Option BrowseError
misplaced_fault_at b e = misplaced_fault b e.slot e.name

abbrev pub table_fault : List ℕ → Option BrowseError
table_fault b = option_or (stored_fault b) (order_fault b)

abbrev pub parts_fault : List ℕ → Option BrowseError
parts_fault b = option_or (types_fault b) (option_or (units_fault b) (option_or (area_fault b) (table_fault b)))
