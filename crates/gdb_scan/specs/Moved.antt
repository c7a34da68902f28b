-- The units of an object as an index of several objects lists them.
use Rattle.std.specs.Prelude.{ℕ, ◌+◌, List, map}
use Rattle.gdb_index_format.specs.declared.unit.CuBoundary.{CuBoundary}

-- units whose offsets are all greater by so many bytes
abbrev pub moved : ℕ → List CuBoundary → List CuBoundary
moved base us = map (λ u. record { offset = base + u.offset; length = u.length }) us
