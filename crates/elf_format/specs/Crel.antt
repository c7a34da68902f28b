-- Lists of relocations in the compact form (CREL): a header, and records that hold what changes from one
-- relocation to the next.
use Rattle.std.specs.Prelude.{ℕ, zero, suc, ◌+◌, ◌-◌, ◌*◌, ◌/◌, ◌%◌, ◌^◌, ◌<◌, nat_lt, ◌==◌, ℤ, pos, negsuc, Bool, true, false, ◌&&◌, not, if◌then◌else◌, List, [], ◌∷◌, ◌++◌, length, Result, Ok, Err}
use Rattle.std.specs.Int.RustNames.{FitsSigned}
use Rattle.std.specs.Int.{w32, w64, cast_unsigned, cast_signed, int_wrapping_sub}
use Rattle.elf_format.specs.declared.cursor.CursorError.{CursorError}
use Rattle.elf_format.specs.declared.cursor.CursorError.TheVariants as cursor
use Rattle.elf_format.specs.declared.crel.CrelError.{CrelError}
use Rattle.elf_format.specs.declared.crel.CrelError.TheVariants.{Truncated, TooLong}
use Rattle.elf_format.specs.declared.crel.Crel.{Crel}
use Rattle.elf_format.specs.Chain.{◌>>=◌}
use Rattle.elf_format.specs.Leb128.{uleb128, sleb128, uleb128_form, sleb128_form}

-- the error of a list for the error of a cursor
abbrev pub crel_error : CursorError → CrelError
crel_error cursor.Short = Truncated
crel_error cursor.TooLong = TooLong
crel_error cursor.NotUtf8 = Truncated

abbrev pub with_crel_error : {A : Type 0} → Result A CursorError → Result A CrelError
with_crel_error (Ok x) = Ok x
with_crel_error (Err e) = Err (crel_error e)

-- whether a bit is set
abbrev pub has_bit : ℕ → ℕ → Bool
has_bit byte value = (byte / value) % 2 == 1

-- a number that is there only where a bit says so, else 0
unfoldable pub change : Bool → List ℕ → Result (ℤ × List ℕ) CrelError
change true bytes = with_crel_error (sleb128 bytes)
change false bytes = Ok (pos 0, bytes)

-- the higher part of the change of an offset, which is there where the first byte is 128 or more
unfoldable pub offset_rest : ℕ → List ℕ → Result (ℕ × List ℕ) CrelError
offset_rest byte bytes = if nat_lt byte 128 then Ok (0, bytes) else with_crel_error (uleb128 bytes)

-- wrapping sums
abbrev pub add_32 : ℕ → ℤ → ℕ
add_32 n z = (n + cast_unsigned w64 z) % 2 ^ 32

abbrev pub add_64 : ℤ → ℤ → ℤ
add_64 n z = cast_signed w64 ((cast_unsigned w64 n + cast_unsigned w64 z) % 2 ^ 64)

-- the offset after a change: `low` of the first byte, and `rest` times `unit`
abbrev pub add_offset : ℕ → ℕ → ℕ → ℕ → ℕ
add_offset sum low rest unit = (sum + low + rest * unit) % 2 ^ 64

-- the first bit of the offset in the first byte of a record. The bits below it say what changes
abbrev pub flags_end : Bool → ℕ
flags_end true = 8
flags_end false = 4

-- the record after `last`, with its offset before the shift, and the bytes after it
unfoldable pub record_front : Bool → Crel → List ℕ → Result (Crel × List ℕ) CrelError
record_front has_addends last [] = Err Truncated
record_front has_addends last (byte ∷ bytes) = do
  rest ← offset_rest byte bytes
  symbol ← change (has_bit byte 1) rest.1
  kind ← change (has_bit byte 2) symbol.1
  addend ← change (has_addends && has_bit byte 4) kind.1
  Ok (
    record {
      offset = add_offset last.offset (byte % 128 / flags_end has_addends) rest.0 (128 / flags_end has_addends);
      symbol = add_32 last.symbol symbol.0;
      kind = add_32 last.kind kind.0;
      addend = add_64 last.addend addend.0;
    },
    addend.1,
  )

-- a record with its offset shifted
abbrev pub shifted : ℕ → Crel → Crel
shifted shift last = record last { offset = (last.offset * 2 ^ shift) % 2 ^ 64 }

pub record Header : Type 0 where
  pub count : ℕ
  pub has_addends : Bool
  pub shift : ℕ

abbrev pub crel_header : ℕ → Header
crel_header n = record { count = n / 8; has_addends = has_bit n 4; shift = n % 4 }

-- `count` records, or those before the first malformed one, and its error last
abbrev pub items : ℕ → Bool → ℕ → Crel → List ℕ → List (Result Crel CrelError)
items zero has_addends shift last bytes = []
items (suc count) has_addends shift last bytes =
    elim (record_front has_addends last bytes) [
      | Ok x ↦ Ok (shifted shift x.0) ∷ items count has_addends shift x.0 x.1
      | Err e ↦ Err e ∷ []
    ]

abbrev pub first_record : Crel
first_record = record { offset = 0; symbol = 0; kind = 0; addend = pos 0 }

-- the records as one list, or the error among them
abbrev pub all_ok : List (Result Crel CrelError) → Result (List Crel) CrelError
all_ok [] = Ok []
all_ok (Ok x ∷ xs) = all_ok xs >>= λ rest. Ok (x ∷ rest)
all_ok (Err e ∷ xs) = Err e

-- What a decoder still yields. `count` is that of the header, also after steps.
pub record Listing : Type 0 where
  pub count : ℕ
  pub items : List (Result Crel CrelError)

abbrev pub listing_of : Header → List ℕ → Listing
listing_of header bytes = record { count = header.count; items = items header.count header.has_addends header.shift first_record bytes }

-- what a decoder of these bytes yields
unfoldable pub listing : List ℕ → Result Listing CrelError
listing bytes = do
  header ← with_crel_error (uleb128 bytes)
  Ok (listing_of (crel_header header.0) header.1)

-- the list of some bytes. Bytes after its last record are ignored
unfoldable pub crel_list : List ℕ → Result (List Crel) CrelError
crel_list bytes = listing bytes >>= λ x. all_ok x.items

-- how a list is written: with addends, without a shift, each number in its shortest form, and only what changes

abbrev pub flag : Bool → ℕ → ℕ
flag true value = value
flag false value = 0

abbrev pub same_z : ℤ → ℤ → Bool
same_z (pos m) (pos n) = m == n
same_z (negsuc m) (negsuc n) = m == n
same_z (pos m) (negsuc n) = false
same_z (negsuc m) (pos n) = false

-- from one number to another, wrapping
abbrev pub from_to_32 : ℕ → ℕ → ℤ
from_to_32 old new = cast_signed w32 ((new + (2 ^ 32 - old)) % 2 ^ 32)

abbrev pub from_to_64 : ℤ → ℤ → ℤ
from_to_64 old new = int_wrapping_sub w64 new old

abbrev pub offset_change : Crel → Crel → ℕ
offset_change last crel = (crel.offset + (2 ^ 64 - last.offset)) % 2 ^ 64

abbrev pub flags_of : Crel → Crel → ℕ
flags_of last crel = flag (not (crel.symbol == last.symbol)) 1 + flag (not (crel.kind == last.kind)) 2 + flag (not (same_z crel.addend last.addend)) 4

-- a record's first byte, and the higher part of its offset's change where that is not 0
unfoldable pub offset_form : ℕ → ℕ → List ℕ
offset_form change flags =
    if nat_lt change 16 then (change * 8 + flags) ∷ []
    else (128 + change % 16 * 8 + flags) ∷ uleb128_form (change / 16)

unfoldable pub change_form : Bool → ℤ → List ℕ
change_form true z = sleb128_form z
change_form false z = []

unfoldable pub record_form : Crel → Crel → List ℕ
record_form last crel =
    offset_form (offset_change last crel) (flags_of last crel)
    ++ change_form (not (crel.symbol == last.symbol)) (from_to_32 last.symbol crel.symbol)
    ++ change_form (not (crel.kind == last.kind)) (from_to_32 last.kind crel.kind)
    ++ change_form (not (same_z crel.addend last.addend)) (from_to_64 last.addend crel.addend)

abbrev pub record_forms : Crel → List Crel → List ℕ
record_forms last [] = []
record_forms last (crel ∷ list) = record_form last crel ++ record_forms crel list

unfoldable pub list_form : List Crel → List ℕ
list_form list = uleb128_form (8 * length list + 4) ++ record_forms first_record list

-- a record whose fields have their types' ranges
pub record IsCrel (crel : Crel) : Type 0 where
  pub offset : crel.offset < 2 ^ 64
  pub symbol : crel.symbol < 2 ^ 32
  pub kind : crel.kind < 2 ^ 32
  pub addend : FitsSigned w64 crel.addend
