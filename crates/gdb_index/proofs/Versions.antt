-- The header of either version: the version, and an offset for each part of which the last is the constant pool's.
use Rattle.std.proofs.Common.{◌≡◌, ℕ, ◌+◌, ◌*◌, ◌^◌, ◌<◌, ◌≤◌, Bool, true, false, cond, eqb, [], ◌∷◌, ◌++◌, length, get_or, refl, arith}
use Rattle.std.proofs.lemmas.Bool.Decides.{nat_tests}
use Rattle.std.proofs.lemmas.List.{length-append, get_or_at}
use Rattle.gdb_index_format.specs.declared.version.IndexVersion.{IndexVersion}
use Rattle.gdb_index_format.specs.declared.version.IndexVersion.TheVariants.{V8, V9}
use Rattle.gdb_index_format.specs.Version.{version_number, is_known, header_len, pool_field, shortcut_fields, shortcut_len}
use Rattle.gdb_index.specs.Layout.{u32s_bytes, addresses_offset, hash_table_offset, shortcuts_offset, pool_offset, header_numbers}
use Rattle.gdb_index.proofs.Lengths.{length-u32s}

pub number_is_known : (version : IndexVersion) → is_known (version_number version) ≡ true
number_is_known V8 = refl
number_is_known V9 = refl

pub known_is_small : (v : ℕ) → is_known v ≡ true → v < 2 ^ 32
known_is_small v known = grind (arith, nat_tests)

header_by : (is8 : Bool) (s : ℕ) → cond is8 24 28 ≡ 24 + 4 * length (cond is8 [] (s ∷ []))
header_by true s = refl
header_by false s = refl

pool_by : (is8 : Bool) (s : ℕ) → cond is8 20 24 ≡ 20 + 4 * length (cond is8 [] (s ∷ []))
pool_by true s = refl
pool_by false s = refl

fifth_by : (is8 : Bool) (s p : ℕ) → p ≡ s + cond is8 0 8 → get_or (cond is8 [] (s ∷ []) ++ p ∷ []) 0 0 ≡ s
fifth_by true s p e = omega (arith, e)
fifth_by false s p e = refl

pub header_len_is : (v s : ℕ) → header_len v ≡ 24 + 4 * length (shortcut_fields v s)
unfolding header_len shortcut_fields
header_len_is v s = header_by (eqb v 8) s

pub pool_field_is : (v s : ℕ) → pool_field v ≡ 20 + 4 * length (shortcut_fields v s)
unfolding pool_field shortcut_fields
pool_field_is v s = pool_by (eqb v 8) s

-- the fifth offset is that of the shortcut table, and in version 8, where that table has no bytes, that of the pool
pub fifth_offset : (v s p : ℕ) → p ≡ s + shortcut_len v → get_or (shortcut_fields v s ++ p ∷ []) 0 0 ≡ s
unfolding shortcut_fields shortcut_len
fifth_offset v s p e = fifth_by (eqb v 8) s p e

pub header_len-least : (v : ℕ) → 24 ≤ header_len v
header_len-least v = omega (arith, header_len_is v 0)

-- how many numbers the header has
pub count_of_header : (v units addresses slots : ℕ) → length (header_numbers v units addresses slots) ≡ 6 + length (shortcut_fields v (shortcuts_offset v units addresses slots))
count_of_header v units addresses slots = omega (arith, length-append (shortcut_fields v (shortcuts_offset v units addresses slots)) (pool_offset v units addresses slots ∷ []))

pub length-header : (v units addresses slots : ℕ) → length (u32s_bytes (header_numbers v units addresses slots)) ≡ header_len v
length-header v units addresses slots =
    omega (arith, length-u32s (header_numbers v units addresses slots), count_of_header v units addresses slots, header_len_is v (shortcuts_offset v units addresses slots))

-- the last number is the offset of the pool
pub last_offset : (v units addresses slots : ℕ) → get_or (header_numbers v units addresses slots) (5 + length (shortcut_fields v (shortcuts_offset v units addresses slots))) 0 ≡ pool_offset v units addresses slots
last_offset v units addresses slots =
    let fields = shortcut_fields v (shortcuts_offset v units addresses slots) in
    get_or_at (v ∷ header_len v ∷ addresses_offset v units ∷ addresses_offset v units ∷ hash_table_offset v units addresses ∷ fields) (pool_offset v units addresses slots) [] 0 (5 + length fields) (omega arith)
