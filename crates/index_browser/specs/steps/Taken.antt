-- Private steps: only private contracts cite this module.
-- What a slot holds, as offsets, and whether a probe goes on after it.
use Rattle.std.specs.Prelude.{ℕ, ◌+◌, ◌*◌, ◌==◌, ◌&&◌, Bool, true, false, List, Option, Some, None, if◌then◌else◌}
use Rattle.elf_format.specs.Bytes.{u32_at}
use Rattle.gdb_index_format.specs.Probe.{ProbeStep, Ends, Passes, table_at, pool_at}
use Rattle.index_browser.specs.declared.slots.Taken.{Taken}

unfoldable pub taken_in : List ℕ → ℕ → Option Taken
taken_in b s =
    let name = u32_at b (table_at b + 8 * s) in
    let vector = u32_at b (table_at b + 8 * s + 4) in
    if (name == 0) && (vector == 0) then None
    else Some (record { name = pool_at b + name; vector = pool_at b + vector })

abbrev pub does_pass : ProbeStep → Bool
does_pass (Ends answer) = false
does_pass Passes = true
