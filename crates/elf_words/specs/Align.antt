-- Alignments: the next number that leaves a given rest.
use Rattle.std.specs.Prelude.{ℕ, ◌+◌, ◌-◌, ◌%◌, nat_le, if◌then◌else◌}

-- the least number from `value` on that leaves the same rest as `like` where `a` divides them
abbrev pub next_like : ℕ → ℕ → ℕ → ℕ
next_like a like value =
    if nat_le (value % a) (like % a) then value + (like % a - value % a)
    else value + (a - value % a + like % a)
