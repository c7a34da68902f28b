-- A buffer of the size of an index has room for all of its parts.
use Rattle.std.proofs.Common.{◌≡◌, ℕ, ◌+◌, ◌*◌, ◌≤◌, cond, eqb, List, length, sym, ap, subst, ◌∙◌, arith, inl, inr}
use Rattle.std.proofs.lemmas.Bool.{cases_eq, eq-eqb, ne_eqb}
use Rattle.std.proofs.lemmas.List.{length-map}
use Rattle.gdb_index_format.specs.declared.unit.CuBoundary.{CuBoundary}
use Rattle.gdb_index_format.specs.declared.name_words.NameWords.{NameWords}
use Rattle.gdb_index_format.specs.Named.{Named, named, all_named}
use Rattle.gdb_index_format.specs.Slots.{IsSlotCount}
use Rattle.gdb_index_format.specs.Size.{size_with}
use Rattle.gdb_index_format.proofs.Sizing.{one_slot_count}
use Rattle.gdb_index.specs.Scan.{Scan}
use Rattle.gdb_index.specs.Size.{IsIndexSize, format_counts, scan_counts}
use Rattle.gdb_index.specs.Pool.{vectors_len, names_len}
use Rattle.gdb_index.specs.Layout.{pool_offset}
use Rattle.gdb_index.proofs.Lengths.{vectors_len-words}

some_unit : (units total size : ℕ) → size ≡ cond (eqb units 0) 0 total → 1 ≤ size → size ≡ total
some_unit units total size is some = elim (cases_eq units 0) [
  | inl none ↦ absurd (omega (arith, some, is ∙ ap (λ x. cond x 0 total) (eq-eqb units 0 none)))
  | inr unit ↦ is ∙ ap (λ x. cond x 0 total) (ne_eqb units 0 unit)
]

-- what the size of an index leaves for each part
pub record HasRoomFor (v : ℕ) (s : Scan) (addresses slots size : ℕ) : Type 0 where
  pub parts : pool_offset v (length s.units) addresses slots + vectors_len s.names + names_len s.names ≤ size
  pub names : 4 * length s.names ≤ size

pub room : (v : ℕ) (s : Scan) (addresses slots size : ℕ) → IsIndexSize v (scan_counts s) size → 1 ≤ size → addresses ≤ s.placed → IsSlotCount (length s.names) slots → HasRoomFor v s addresses slots size
room v s addresses slots size is some few counts =
    let same : slots ≡ is.slots = one_slot_count (length s.names) slots is.slots counts is.counted in
    let whole : size ≡ size_with v (format_counts (scan_counts s)) is.slots = some_unit (length s.units) (size_with v (format_counts (scan_counts s)) is.slots) size is.size_is some in
    record {
      parts = omega (arith, same, whole, few, vectors_len-words s.names);
      names = omega (arith, whole);
    }

-- the same by the units and names as they are held
pub record HoldsRoom (v : ℕ) (units : List CuBoundary) (names : List NameWords) (addresses slots size : ℕ) : Type 0 where
  pub counts : IsSlotCount (length (all_named names)) slots
  pub parts : pool_offset v (length units) addresses slots + vectors_len (all_named names) + names_len (all_named names) ≤ size

pub room_held : (v : ℕ) (s : Scan) (units : List CuBoundary) (names : List NameWords) (addresses slots size : ℕ) → units ≡ s.units → all_named names ≡ s.names → IsSlotCount (length names) slots → IsIndexSize v (scan_counts s) size → 1 ≤ size → addresses ≤ s.placed → HoldsRoom v units names addresses slots size
room_held v s units names addresses slots size us ns counts is some few =
    let counted : IsSlotCount (length (all_named names)) slots = subst (λ n. IsSlotCount n slots) (sym (length-map names named)) counts in
    let fits : HasRoomFor v s addresses slots size = room v s addresses slots size is some few (subst (λ (xs : List Named). IsSlotCount (length xs) slots) ns counted) in
    record {
      counts = counted;
      parts = omega (arith, fits.parts, ap vectors_len ns, ap names_len ns, ap (λ (xs : List CuBoundary). length xs) us);
    }
