-- Names with no zero byte.
use Rattle.std.specs.Prelude.{◌≢◌}
use Rattle.std.specs.List.{All}
use Rattle.gdb_index_format.specs.Names.{NameSet}

-- no name has a zero byte
abbrev pub IsClean : NameSet → Type 0
IsClean s = All (λ e. All (λ c. c ≢ 0) e.name) s.entries
