-- The special section indexes (gABI, Special Section Indexes).
use Rattle.std.specs.Prelude.{ℕ}

-- no section
abbrev pub shn_undef : ℕ
shn_undef = 0

-- the first reserved index
abbrev pub shn_loreserve : ℕ
shn_loreserve = 0xff00

-- the index does not fit the field and stands elsewhere
abbrev pub shn_xindex : ℕ
shn_xindex = 0xffff
