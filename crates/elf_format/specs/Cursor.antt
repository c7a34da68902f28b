-- Reading from the front of a byte list.
use Rattle.std.specs.Prelude.{◌≡◌, ℕ, suc, nat_lt, ◌==◌, if◌then◌else◌, List, [], ◌∷◌, length, take, drop, Result, Ok, Err}
use Rattle.std.specs.Str.{is_utf8}
use Rattle.elf_format.specs.declared.cursor.CursorError.{CursorError}
use Rattle.elf_format.specs.declared.cursor.CursorError.TheVariants.{Short, NotUtf8}
use Rattle.elf_format.specs.Bytes.{le}
use Rattle.elf_format.specs.Leb128.{Read}

-- a little-endian number of four bytes, and the bytes after it
unfoldable pub u32_front : List ℕ → Read ℕ
u32_front bytes = if nat_lt (length bytes) 4 then Err Short else Ok (le bytes 0 4, drop 4 bytes)

-- the number of bytes before the first zero byte, or of all bytes where there is none
abbrev pub before_zero : List ℕ → ℕ
before_zero [] = 0
before_zero (b ∷ bytes) = if b == 0 then 0 else suc (before_zero bytes)

-- the string before the first zero byte, and the bytes after that byte
unfoldable pub string_front : List ℕ → Read (List ℕ)
string_front bytes =
    if nat_lt (before_zero bytes) (length bytes)
    then (if is_utf8 (take (before_zero bytes) bytes) then Ok (take (before_zero bytes) bytes, drop (suc (before_zero bytes)) bytes) else Err NotUtf8)
    else Err Short

-- the result is what is read
abbrev pub Returns : {X Y E : Type 0} → (X → Y) → Result X E → Result Y E → Type 0
Returns view (Ok x) read = read ≡ Ok (view x)
Returns view (Err e) read = read ≡ Err e

-- A cursor has `old` bytes before and `new` bytes after: it moves past what is read, and an error leaves it.
abbrev pub Takes : {X Y : Type 0} → (X → Y) → Result X CursorError → List ℕ → List ℕ → Read Y → Type 0
Takes view (Ok x) old new read = read ≡ Ok (view x, new)
Takes view (Err e) old new read = (read ≡ Err e) × (new ≡ old)
