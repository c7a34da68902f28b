-- The entries of a set as a reader returns them, and what its refusal means.
use Rattle.std.specs.Prelude.{ℕ, List, map, Result, Ok, Err}
use denote.Ref.{Bor}
use Rattle.gdb_index_format.specs.Names.{Entry}
use Rattle.dwarf_sections.specs.declared.set_error.SetError.{SetError}
use Rattle.dwarf_sections.specs.declared.set_error.SetError.TheVariants.{BadSet, NoMemory}

abbrev pub entry_in : Bor (List ℕ) × ℕ → Entry
entry_in e = record { name = e.0.now; flag = e.1 }

abbrev pub entries_in : List (Bor (List ℕ) × ℕ) → List Entry
entries_in es = map entry_in es

-- what BadSet means; out of memory means nothing
abbrev pub IsBad : {X : Type 0} → Result X SetError → Type 0 → Type 0
IsBad (Ok x) P = Unit {0}
IsBad (Err BadSet) P = P
IsBad (Err NoMemory) P = Unit {0}
