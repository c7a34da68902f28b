-- Private steps: only private contracts cite this module.
-- The probe steps that are known to meet taken slots while a table is filled.
use Rattle.std.specs.Prelude.{ℕ, ◌+◌, ◌*◌, ◌<◌, List, length, nat_le, if◌then◌else◌}
use Rattle.elf_format.specs.Bytes.{le}
use Rattle.gdb_index_format.specs.Slots.{slot_of}
use Rattle.gdb_index.specs.steps.FreeSlots.{IsFree}

-- the number of such steps of the probes that begin at slot s: three bytes a slot, or 0 where there are no such bytes
unfoldable pub steps_passed : List ℕ → ℕ → ℕ
steps_passed passed s = if nat_le (3 * s + 3) (length passed) then le passed (3 * s) 3 else 0

-- each of these steps meets a taken slot
abbrev pub ArePassed : List ℕ → List ℕ → ℕ → Type 0
ArePassed table passed slots = (hash step : ℕ) → step < steps_passed passed (slot_of slots hash 0) → IsFree table (slot_of slots hash step) → ⊥
