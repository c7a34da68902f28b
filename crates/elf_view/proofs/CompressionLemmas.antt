-- The fields of the compression header that begins a section's bytes.
use Rattle.std.proofs.Common.{◌≡◌, ℕ, Bool, true, false, List, take, length, Option, Some, None, Ok, Err, refl, ap, sym, ◌∙◌, arith}
use Rattle.std.specs.Prelude.{nat_lt, if◌then◌else◌}
use Rattle.elf_format.specs.declared.error.ElfError.{ElfError}
use Rattle.elf_format.specs.declared.error.ElfError.TheVariants.{Compressed}
use Rattle.elf_format.specs.Bytes.{Field, get}
use Rattle.elf_format.specs.Chain.{on_ok}
use Rattle.elf_format.specs.Class.{Class, class32, class64, compression_header_size, ch_size, ch_addralign}
use Rattle.elf_format.specs.Compression.{compressed_field}
use Rattle.elf_format.proofs.NumberLemmas.{number_in_part}
use Rattle.elf_view.specs.steps.Compression.{compression_header}

chosen : (t : Bool) (field : Field) (header bytes : List ℕ) → get field header ≡ get field bytes
    → (if t then Err Compressed else Ok (get field bytes)) ≡ on_ok (get field) (if t then Err Compressed else Ok header)
chosen true field header bytes e = refl
chosen false field header bytes e = ap Ok (sym e)

field_in_header : (c : Class) (field : Field) (found : Option (List ℕ)) → ((bytes : List ℕ) → get field (take (compression_header_size c) bytes) ≡ get field bytes)
    → compressed_field c field found ≡ on_ok (get field) (compression_header c found)
field_in_header c field None e = refl
field_in_header c field (Some bytes) e = chosen (nat_lt (length bytes) (compression_header_size c)) field (take (compression_header_size c) bytes) bytes (e bytes)

size_field : (c : Class) (bytes : List ℕ) → get (ch_size c) (take (compression_header_size c) bytes) ≡ get (ch_size c) bytes
size_field class32 bytes = number_in_part bytes 0 12 4 4 (omega arith)
size_field class64 bytes = number_in_part bytes 0 24 8 8 (omega arith)

alignment_field : (c : Class) (bytes : List ℕ) → get (ch_addralign c) (take (compression_header_size c) bytes) ≡ get (ch_addralign c) bytes
alignment_field class32 bytes = number_in_part bytes 0 12 8 4 (omega arith)
alignment_field class64 bytes = number_in_part bytes 0 24 16 8 (omega arith)

read_field : (c : Class) (field : Field) (found : Option (List ℕ)) (header : List ℕ) → ((bytes : List ℕ) → get field (take (compression_header_size c) bytes) ≡ get field bytes)
    → compression_header c found ≡ Ok header → compressed_field c field found ≡ Ok (get field header)
read_field c field found header e h = field_in_header c field found e ∙ ap (on_ok (get field)) h

pub read_size : (c : Class) (found : Option (List ℕ)) (header : List ℕ) → compression_header c found ≡ Ok header → compressed_field c (ch_size c) found ≡ Ok (get (ch_size c) header)
read_size c found header = read_field c (ch_size c) found header (size_field c)

pub read_alignment : (c : Class) (found : Option (List ℕ)) (header : List ℕ) → compression_header c found ≡ Ok header → compressed_field c (ch_addralign c) found ≡ Ok (get (ch_addralign c) header)
read_alignment c found header = read_field c (ch_addralign c) found header (alignment_field c)

pub no_size : (c : Class) (found : Option (List ℕ)) (error : ElfError) → compression_header c found ≡ Err error → compressed_field c (ch_size c) found ≡ Err error
no_size c found error h = field_in_header c (ch_size c) found (size_field c) ∙ ap (on_ok (get (ch_size c))) h

pub no_alignment : (c : Class) (found : Option (List ℕ)) (error : ElfError) → compression_header c found ≡ Err error → compressed_field c (ch_addralign c) found ≡ Err error
no_alignment c found error h = field_in_header c (ch_addralign c) found (alignment_field c) ∙ ap (on_ok (get (ch_addralign c))) h
