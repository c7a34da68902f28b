-- LEB128 (DWARF 5, 7.6): a number as groups of seven bits, the lowest first. A byte of 128 or more says that
-- another byte follows.
use Rattle.std.specs.Prelude.{ℕ, zero, suc, ◌+◌, ◌-◌, ◌*◌, ◌/◌, ◌%◌, ◌^◌, nat_lt, ℤ, pos, negsuc, Bool, if◌then◌else◌, List, [], ◌∷◌, length, take, drop, Result, Ok, Err}
use Rattle.elf_format.specs.declared.cursor.CursorError.{CursorError}
use Rattle.elf_format.specs.declared.cursor.CursorError.TheVariants.{Short, TooLong}
use Rattle.elf_format.specs.Chain.{◌>>=◌}

-- the number of bytes at the front that say that another byte follows
abbrev pub continuing : List ℕ → ℕ
continuing [] = 0
continuing (b ∷ bytes) = if nat_lt b 128 then 0 else suc (continuing bytes)

-- the number of the groups of some bytes
abbrev pub group_sum : List ℕ → ℕ
group_sum [] = 0
group_sum (b ∷ bytes) = b % 128 + 128 * group_sum bytes

-- the signed number of a sum below a scale, in two's complement: from half the scale on it is negative
abbrev pub signed_below : ℕ → ℕ → ℤ
signed_below sum scale = if nat_lt (2 * sum) scale then pos sum else negsuc (scale - suc sum)

abbrev pub signed_sum : List ℕ → ℤ
signed_sum bytes = signed_below (group_sum bytes) (128 ^ length bytes)

-- what is read at the front, and the bytes after it
abbrev pub Read : Type 0 → Type 0
Read X = Result (X × List ℕ) CursorError

-- the bytes of the first number: up to the first byte below 128, at most ten
unfoldable pub number_bytes : List ℕ → Read (List ℕ)
number_bytes bytes =
    if nat_lt 9 (continuing bytes) then Err TooLong
    else if nat_lt (continuing bytes) (length bytes) then Ok (take (suc (continuing bytes)) bytes, drop (suc (continuing bytes)) bytes)
    else Err Short

-- whether a number fits 64 bits
abbrev pub is_i64 : ℤ → Bool
is_i64 (pos n) = nat_lt n (2 ^ 63)
is_i64 (negsuc n) = nat_lt n (2 ^ 63)

-- the number of some bytes, and the bytes after them. It has at most 64 bits
abbrev pub unsigned_number : List ℕ × List ℕ → Read ℕ
unsigned_number x = if nat_lt (group_sum x.0) (2 ^ 64) then Ok (group_sum x.0, x.1) else Err TooLong

abbrev pub signed_number : List ℕ × List ℕ → Read ℤ
signed_number x = if is_i64 (signed_sum x.0) then Ok (signed_sum x.0, x.1) else Err TooLong

unfoldable pub uleb128 : List ℕ → Read ℕ
uleb128 bytes = number_bytes bytes >>= unsigned_number

unfoldable pub sleb128 : List ℕ → Read ℤ
sleb128 bytes = number_bytes bytes >>= signed_number

-- the groups of a number, `more` of them before the last one
abbrev pub leb128_groups : ℕ → ℕ → List ℕ
leb128_groups zero n = n % 128 ∷ []
leb128_groups (suc more) n = (128 + n % 128) ∷ leb128_groups more (n / 128)

-- the number of groups before the last one that a number needs, at most `most`
abbrev pub groups_before : ℕ → ℕ → ℕ
groups_before zero n = 0
groups_before (suc most) n = if nat_lt n 128 then 0 else suc (groups_before most (n / 128))

-- the size of the shortest form of a number in bytes
unfoldable pub uleb128_size : ℕ → ℕ
uleb128_size n = suc (groups_before 9 n)

-- the shortest form
unfoldable pub uleb128_form : ℕ → List ℕ
uleb128_form n = leb128_groups (groups_before 9 n) n

-- the magnitude of a number: 0 for -1, 1 for -2
abbrev pub magnitude : ℤ → ℕ
magnitude (pos n) = n
magnitude (negsuc n) = n

-- a signed number needs one bit more, for its sign
abbrev pub signed_groups_before : ℤ → ℕ
signed_groups_before z = groups_before 9 (2 * magnitude z)

-- the unsigned number of a signed one in two's complement below a scale
abbrev pub unsigned_below : ℤ → ℕ → ℕ
unsigned_below (pos n) scale = n
unsigned_below (negsuc n) scale = scale - suc n

unfoldable pub sleb128_form : ℤ → List ℕ
sleb128_form z = leb128_groups (signed_groups_before z) (unsigned_below z (128 ^ suc (signed_groups_before z)))
