-- The units of an object adjoin one another, and what the relocations of an object tell of them.
use Rattle.std.proofs.Common.{◌≡◌, ℕ, zero, suc, ◌+◌, ◌^◌, ◌<◌, ◌≤◌, Bool, true, false, cond, ltb, List, [], ◌∷◌, length, get_or, map, Option, Some, None, Result, Ok, Err, refl, ap, sym, ◌∙◌, arith}
use Rattle.std.specs.Prelude.{unwrap_or, option_and_then, find}
use Rattle.std.specs.List.{filter}
use Rattle.std.proofs.lemmas.Bool.{cond-true, cond-false, ltb-true, lt-ltb, false_from_ne_true}
use Rattle.std.proofs.lemmas.List.Quantifiers.{position-Some}
use Rattle.std.proofs.lemmas.List.Sums.{sum_by-cons}
use Rattle.elf_format.specs.declared.error.ElfError.{ElfError}
use Rattle.elf_format.specs.declared.crel.Crel.{Crel}
use Rattle.elf_format.specs.Class.{Class}
use Rattle.elf_view.specs.Parsed.{Parsed}
use Rattle.gdb_scan.specs.declared.map_error.MapError.{MapError}
use Rattle.gdb_scan.specs.declared.map_error.MapError.TheVariants.{Elf}
use Rattle.gdb_scan.specs.declared.map_error.MapError.TheVariants as maps
use Rattle.gdb_scan.specs.MapCause.{IsMapCause}
use Rattle.gdb_index_format.specs.Addresses.{unit_relocations, assigns, assigned_unit, section_unit, unit_of_section, relocation_fault, unit_relocation_fault}
use Rattle.gdb_index_format.specs.declared.unit.CuBoundary.{CuBoundary}
use Rattle.gdb_index_format.specs.declared.placement.Placement.{Placement}
use Rattle.gdb_index_format.specs.Placed.{has_unit}
use Rattle.gdb_index_format.specs.Units.{total_length, holds_offset, unit_holding}
use Rattle.gdb_index_format.specs.Objects.{info_section, IsUnitsOf}
use Rattle.gdb_index_format.proofs.UnitLists.{Tiles, Tiles-from_front}
use Rattle.dwarf_sections.proofs.UnitSearching.{no_unit}
use Rattle.dwarf_sections.specs.UnitSearch.{AreAdjacent}
use Rattle.gdb_scan.specs.declared.error.GdbError.{GdbError}
use Rattle.gdb_scan.specs.declared.error.GdbError.TheVariants.{BadElf, CompressedSection, BadUnit, BadPubnames, TooManyUnits, IndexTooLarge, NoMemory}
use Rattle.gdb_tables.specs.steps.ObjectEntries.{entry_at, has_entry, entries_at, entries_of, of_map_error, IsEntriesCause}
use Rattle.gdb_scan.specs.Cause.{IsOnlyMemory}
use Rattle.gdb_scan.proofs.Sounding.{info_short}

pub next_adjoins : (b : List ℕ) (at : ℕ) (us : List CuBoundary) → Tiles b at us → (k : ℕ) (d : CuBoundary) → k + 1 < length us → (get_or us (k + 1) d).offset ≡ (get_or us k d).offset + (get_or us k d).length
next_adjoins b at [] t k d l = absurd (omega arith)
next_adjoins b at (u ∷ []) t k d l = absurd (omega arith)
next_adjoins b at (u ∷ v ∷ us) t zero d l = t.2.0 ∙ omega (arith, t.0)
next_adjoins b at (u ∷ v ∷ us) t (suc k) d l =
    let more : suc k + 1 ≡ suc (k + 1) = omega arith in
    ap (λ n. (get_or (u ∷ v ∷ us) n d).offset) more ∙ next_adjoins b (at + u.length) (v ∷ us) t.2 k d (omega arith)

pub ends_within : (b : List ℕ) (at : ℕ) (us : List CuBoundary) → Tiles b at us → (k : ℕ) (d : CuBoundary) → k < length us → (get_or us k d).offset + (get_or us k d).length ≤ at + total_length us
ends_within b at [] t k d l = absurd (omega arith)
ends_within b at (u ∷ us) t zero d l = omega (arith, t.0, sum_by-cons (λ (x : CuBoundary). x.length) u us)
ends_within b at (u ∷ us) t (suc k) d l = omega (arith, ends_within b (at + u.length) us t.2 k d (omega arith), sum_by-cons (λ (x : CuBoundary). x.length) u us)

pub units_adjoin : (c : Class) (file : List ℕ) (us : List CuBoundary) → length file < 2 ^ 39 → IsUnitsOf c file us → AreAdjacent us
units_adjoin c file us short units =
    let tiles = Tiles-from_front units.bytes us units.list.front in
    let small : length units.bytes ≤ length file = info_short c file units.bytes (info_section c file) units.there in
    record {
      next = next_adjoins units.bytes 0 us tiles;
      fit = λ k d l. omega (arith, ends_within units.bytes 0 us tiles k d l, units.list.front.within, small);
    }

-- ---- what is told

few_units : (us : List CuBoundary) → length us < 2 → ltb 1 (length us) ≡ false
few_units us few = false_from_ne_true _ (λ t. omega (arith, ltb-true 1 (length us) t))

module _ (c : Class) (d : Bool) (file : List ℕ) (us : List CuBoundary) where
  pub few_told : (q : ℕ) → length us < 2 → 0 ≡ unit_of_section c d file us q
  few_told q few = sym (cond-false (ltb 1 (length us)) (unwrap_or (section_unit c d file us q) 0) 0 (few_units us few))

  pub few_sound : length us < 2 → unit_relocation_fault c d file us ≡ None
  few_sound few = cond-false (ltb 1 (length us)) (relocation_fault c d file) None (few_units us few)

  pub many_told : (q : ℕ) → 1 < length us → unwrap_or (section_unit c d file us q) 0 ≡ unit_of_section c d file us q
  many_told q many = sym (cond-true (ltb 1 (length us)) (unwrap_or (section_unit c d file us q) 0) 0 (lt-ltb _ _ many))

  pub many_fault : 1 < length us → unit_relocation_fault c d file us ≡ relocation_fault c d file
  many_fault many = cond-true (ltb 1 (length us)) (relocation_fault c d file) None (lt-ltb _ _ many)

pub memory_only : (object : ℕ) (fault : Option ElfError) (e : GdbError) → IsOnlyMemory e → IsEntriesCause object fault e
memory_only object fault (BadElf i kind) h = absurd h
memory_only object fault (CompressedSection i s) h = h
memory_only object fault (BadUnit i offset kind) h = h
memory_only object fault (BadPubnames i s) h = h
memory_only object fault (TooManyUnits n) h = h
memory_only object fault (IndexTooLarge n) h = h
memory_only object fault NoMemory h = tt

pub map_cause : (object : ℕ) (fault told : Option ElfError) (e : MapError) → fault ≡ told → IsMapCause told e → IsEntriesCause object fault (of_map_error object e)
map_cause object fault told (Elf e) same h = (refl, same ∙ h)
map_cause object fault told maps.NoMemory same h = tt

held_at : (us : List CuBoundary) (offset : ℕ) → unwrap_or (unit_holding us offset) 0 ≤ length us
held_at us offset = by (unit_holding us offset) refl where
  by : (o : Option ℕ) → unit_holding us offset ≡ o → unwrap_or o 0 ≤ length us
  by None is = omega arith
  by (Some k) is = omega (arith, (position-Some (holds_offset offset) us k no_unit is).0)

-- the unit of a section is one of the object's
pub unit_within : (c : Class) (d : Bool) (file : List ℕ) (us : List CuBoundary) (q : ℕ) → unit_of_section c d file us q ≤ length us
unfolding section_unit
unit_within c d file us q = either (ltb 1 (length us)) (unwrap_or (section_unit c d file us q) 0) (by_relocations (unit_relocations c file)) where
  found_at : (o : Option Crel) → unwrap_or (option_and_then (λ (r : Crel). unit_holding us r.offset) o) 0 ≤ length us
  found_at None = omega arith
  found_at (Some r) = held_at us r.offset

  by_relocations : (rs : Result (List Crel) ElfError) → unwrap_or (assigned_unit c d file us q rs) 0 ≤ length us
  by_relocations (Err e) = omega arith
  by_relocations (Ok rs) = found_at (find (assigns c d file us q) rs)

  either : (b : Bool) (n : ℕ) → n ≤ length us → cond b n 0 ≤ length us
  either true n le = le
  either false n le = omega arith

-- it is one of them, where the object has any
pub unit_below : (c : Class) (d : Bool) (file : List ℕ) (us : List CuBoundary) (q : ℕ) → 0 < length us → unit_of_section c d file us q < length us
unfolding section_unit
unit_below c d file us q some = either (ltb 1 (length us)) (unwrap_or (section_unit c d file us q) 0) (by_relocations (unit_relocations c file)) where
  held_below : (offset : ℕ) (o : Option ℕ) → unit_holding us offset ≡ o → unwrap_or o 0 < length us
  held_below offset None is = some
  held_below offset (Some k) is = (position-Some (holds_offset offset) us k no_unit is).0

  found_at : (o : Option Crel) → unwrap_or (option_and_then (λ (r : Crel). unit_holding us r.offset) o) 0 < length us
  found_at None = some
  found_at (Some r) = held_below r.offset (unit_holding us r.offset) refl

  by_relocations : (rs : Result (List Crel) ElfError) → unwrap_or (assigned_unit c d file us q rs) 0 < length us
  by_relocations (Err e) = some
  by_relocations (Ok rs) = found_at (find (assigns c d file us q) rs)

  either : (b : Bool) (n : ℕ) → n < length us → cond b n 0 < length us
  either true n le = le
  either false n le = some

-- ---- entries of an object

module _ (c : Class) (file : Parsed) (first : ℕ) (us : List CuBoundary) (ps : List Placement) where
  pub no_entries : length us ≡ 0 → entries_of c file first us ps ≡ []
  no_entries none = by us none where
    by : (vs : List CuBoundary) → length vs ≡ 0 → cond (has_unit vs) (entries_at c file.bytes first (unit_of_section c file.is_dynamic file.bytes us) ps) [] ≡ []
    by [] is = refl
    by (v ∷ vs) is = absurd (omega arith)

  pub some_entries : (units : ℕ → ℕ) → ((q : ℕ) → units q ≡ unit_of_section c file.is_dynamic file.bytes us q) → 0 < length us → entries_at c file.bytes first units ps ≡ entries_of c file first us ps
  some_entries units same some = map_same (filter (has_entry c file.bytes) ps) ∙ by us some where
    map_same : (qs : List Placement) → map (entry_at first units) qs ≡ map (entry_at first (unit_of_section c file.is_dynamic file.bytes us)) qs
    map_same [] = refl
    map_same (q ∷ qs) = ap (λ n. record { low = q.address; high = q.address + q.size; unit = first + n } ∷ map (entry_at first units) qs) (same q.section) ∙ ap (λ es. entry_at first (unit_of_section c file.is_dynamic file.bytes us) q ∷ es) (map_same qs)

    by : (vs : List CuBoundary) → 0 < length vs → entries_at c file.bytes first (unit_of_section c file.is_dynamic file.bytes us) ps ≡ cond (has_unit vs) (entries_at c file.bytes first (unit_of_section c file.is_dynamic file.bytes us) ps) []
    by [] l = absurd (omega arith)
    by (v ∷ vs) l = refl
