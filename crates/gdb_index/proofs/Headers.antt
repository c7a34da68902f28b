-- The header as it is written: its first five numbers, the offset of a shortcut table, and that of the pool.
use Rattle.std.proofs.Common.{◌≡◌, ℕ, ◌+◌, ◌*◌, List, [], ◌∷◌, ◌++◌, length, sym, ap, ◌∙◌, arith}
use Rattle.std.specs.Int.{w32, to_le_bytes}
use Rattle.std.proofs.lemmas.Grind.{flat_map-append}
use Rattle.gdb_index_format.specs.Version.{header_len, shortcut_fields, shortcut_len}
use Rattle.gdb_index.specs.steps.Writes.{Extends}
use Rattle.gdb_index.specs.Layout.{u32s_bytes, header_numbers}
use Rattle.gdb_index.proofs.Lengths.{length-u32s}
use Rattle.gdb_index.proofs.Extending.{Extends-then, Extends-same}

-- the first five numbers, by the size of the header
abbrev first_numbers : ℕ → ℕ → ℕ → ℕ → List ℕ
first_numbers v header units addresses = v ∷ header ∷ (header + 16 * units) ∷ (header + 16 * units) ∷ (header + 16 * units + 20 * addresses) ∷ []

abbrev all_numbers : ℕ → ℕ → ℕ → ℕ → ℕ → ℕ → List ℕ
all_numbers v header shortcut units addresses slots =
    first_numbers v header units addresses ++ shortcut_fields v (header + 16 * units + 20 * addresses + 8 * slots) ++ (header + 16 * units + 20 * addresses + 8 * slots + shortcut) ∷ []

pub header_written : (v header shortcut units addresses slots : ℕ) (b0 b1 b2 b3 : List ℕ) (e1 e2 : ℕ) → header ≡ header_len v → shortcut ≡ shortcut_len v
    → Extends b0 b1 0 (u32s_bytes (v ∷ header ∷ (header + 16 * units) ∷ (header + 16 * units) ∷ (header + 16 * units + 20 * addresses) ∷ [])) → e1 ≡ 20
    → Extends b1 b2 e1 (u32s_bytes (shortcut_fields v (header + 16 * units + 20 * addresses + 8 * slots))) → e2 ≡ e1 + 4 * length (shortcut_fields v (header + 16 * units + 20 * addresses + 8 * slots))
    → Extends b2 b3 e2 (u32s_bytes ((header + 16 * units + 20 * addresses + 8 * slots + shortcut) ∷ []))
    → Extends b0 b3 0 (u32s_bytes (header_numbers v units addresses slots))
header_written v header shortcut units addresses slots b0 b1 b2 b3 e1 e2 header_is shortcut_is first e1_is fields e2_is last =
    let xs : List ℕ = first_numbers v header units addresses in
    let ys : List ℕ = shortcut_fields v (header + 16 * units + 20 * addresses + 8 * slots) in
    let zs : List ℕ = (header + 16 * units + 20 * addresses + 8 * slots + shortcut) ∷ [] in
    let front : Extends b0 b2 0 (u32s_bytes xs ++ u32s_bytes ys) = Extends-then b0 b1 b2 0 e1 (u32s_bytes xs) (u32s_bytes ys) first (omega (arith, e1_is)) fields in
    let ends : e2 ≡ 0 + length (u32s_bytes xs ++ u32s_bytes ys) = omega (arith, e1_is, e2_is, length-u32s (xs ++ ys), ap length (flat_map-append (to_le_bytes w32) xs ys)) in
    let whole : Extends b0 b3 0 (u32s_bytes xs ++ u32s_bytes ys ++ u32s_bytes zs) = Extends-then b0 b2 b3 0 e2 (u32s_bytes xs ++ u32s_bytes ys) (u32s_bytes zs) front ends last in
    let spelled : u32s_bytes (xs ++ ys ++ zs) ≡ u32s_bytes xs ++ u32s_bytes ys ++ u32s_bytes zs = flat_map-append (to_le_bytes w32) (xs ++ ys) zs ∙ ap (λ t. t ++ u32s_bytes zs) (flat_map-append (to_le_bytes w32) xs ys) in
    Extends-same b0 b3 0 (u32s_bytes xs ++ u32s_bytes ys ++ u32s_bytes zs) (u32s_bytes (header_numbers v units addresses slots))
    (sym spelled ∙ ap (λ n. u32s_bytes (all_numbers v n shortcut units addresses slots)) header_is ∙ ap (λ n. u32s_bytes (all_numbers v (header_len v) n units addresses slots)) shortcut_is) whole
