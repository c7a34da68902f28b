-- The parts of the text of a name, and of the search for the name of a version.
use Rattle.std.specs.Prelude.{ℕ, nat_lt, if◌then◌else◌, List, Option, Some, None, Result, Ok, Err}
use Rattle.elf_format.specs.declared.error.ElfError.{ElfError}

-- a byte of a part that is no UTF-8
abbrev pub shown_byte : ℕ → ℕ
shown_byte b = if nat_lt b 128 then b else 0x3f

-- a name that was found, or what follows
abbrev pub or_next : Result (Option (List ℕ)) ElfError → Result (Option (List ℕ)) ElfError → Result (Option (List ℕ)) ElfError
or_next (Ok None) after = after
or_next (Ok (Some name)) after = Ok (Some name)
or_next (Err e) after = Err e
