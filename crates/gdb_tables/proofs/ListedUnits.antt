-- The units of an object, among the units of all objects as the index lists them.
use Rattle.std.proofs.Common.{◌≡◌, ℕ, zero, suc, ◌+◌, ◌*◌, ◌^◌, ◌<◌, ◌≤◌, List, [], ◌∷◌, ◌++◌, length, take, drop, get_or, Some, refl, sym, ap, ◌∙◌, arith, append_assoc}
use Rattle.std.specs.Prelude.{slice_get}
use Rattle.std.specs.List.{All}
use Rattle.std.proofs.lemmas.List.{length-map, get_or-map, take_at, drop_at}
use Rattle.std.proofs.lemmas.List.Sums.{sum_by-cons}
use Rattle.elf_format.specs.Class.{Class}
use Rattle.elf_view.specs.Parsed.{Parsed}
use Rattle.dwarf_sections.specs.UnitSearch.{AreAdjacent}
use Rattle.gdb_index_format.specs.declared.unit.CuBoundary.{CuBoundary}
use Rattle.gdb_index_format.specs.Objects.{class_in, info_section, info_bytes, IsUnitsOf, AreUnitsOf}
use Rattle.gdb_index_format.specs.Published.{end_to_end, units_in_lists, units_of_lists}
use Rattle.gdb_index_format.specs.Units.{total_length}
use Rattle.gdb_index_format.proofs.ObjectLists.{one_units}
use Rattle.gdb_index_format.proofs.UnitLists.{Tiles, Tiles-from_front}
use Rattle.gdb_scan.specs.Moved.{moved}
use Rattle.gdb_scan.proofs.Sounding.{info_short}
use Rattle.gdb_tables.specs.Files.{file_bytes}
use Rattle.gdb_tables.specs.steps.ObjectEntries.{AreListedUnits}
use Rattle.gdb_tables.proofs.Adjoining.{next_adjoins, ends_within}
use Rattle.gdb_tables.proofs.Merging.{placed-append, length-placed}

abbrev shifted : ℕ → CuBoundary → CuBoundary
shifted base u = record { offset = base + u.offset; length = u.length }

abbrev unit_at_offset : ℕ → ℕ → CuBoundary
unit_at_offset offset len = record { offset = offset; length = len }

-- ---- what the listed units of an object are

module _ (c : Class) (file : List ℕ) (listed : List CuBoundary) (h : AreListedUnits c file listed) where
  as_long : length listed ≡ length h.own
  as_long = ap length h.listed_are ∙ length-map h.own (shifted h.base)

  pub listed_length : (us : List CuBoundary) → IsUnitsOf c file us → length listed ≡ length us
  listed_length us units = as_long ∙ ap length (one_units (info_bytes c file) h.own us h.held units)

  at : (k : ℕ) (d : CuBoundary) → k < length h.own → get_or listed k d ≡ shifted h.base (get_or h.own k d)
  at k d l = ap (λ (xs : List CuBoundary). get_or xs k d) h.listed_are ∙ get_or-map (shifted h.base) h.own k d d l

  pub listed_adjoin : AreAdjacent listed
  listed_adjoin =
      let tiles = Tiles-from_front h.held.bytes h.own h.held.list.front in
      record {
        next = λ k d l.
            let less : k + 1 < length h.own = omega (arith, l, as_long) in
            let here = next_adjoins h.held.bytes 0 h.own tiles k d less in
            omega (arith, ap (λ (u : CuBoundary). u.offset) (at (k + 1) d less), ap (λ (u : CuBoundary). u.offset) (at k d (omega arith)), ap (λ (u : CuBoundary). u.length) (at k d (omega arith)), here);
        fit = λ k d l.
            let less : k < length h.own = omega (arith, l, as_long) in
            omega (arith, ap (λ (u : CuBoundary). u.offset) (at k d less), ap (λ (u : CuBoundary). u.length) (at k d less), ends_within h.held.bytes 0 h.own tiles k d less, h.fit);
      }

  first_own : (us : List CuBoundary) (d : CuBoundary) → Tiles h.held.bytes 0 us → 0 < length us → (get_or us 0 d).offset ≡ 0
  first_own [] d t l = absurd (omega arith)
  first_own (u ∷ us) d t l = t.0

  -- they are moved by the offset of the first
  pub listed_from : (us : List CuBoundary) (d : CuBoundary) (base : ℕ) → IsUnitsOf c file us → 0 < length listed → base ≡ (get_or listed 0 d).offset → listed ≡ moved base us
  listed_from us d base units some is =
      let same : h.own ≡ us = one_units (info_bytes c file) h.own us h.held units in
      let less : 0 < length h.own = omega (arith, some, as_long) in
      let tiles = Tiles-from_front h.held.bytes h.own h.held.list.front in
      let by : h.base ≡ base = omega (arith, is, ap (λ (u : CuBoundary). u.offset) (at 0 d less), first_own h.own d tiles less) in
      h.listed_are ∙ ap (λ n. moved n h.own) by ∙ ap (moved base) same

-- ---- where they stand in the list

split : (uss : List (List CuBoundary)) (i : ℕ) (us : List CuBoundary) → slice_get uss i ≡ Some us → units_in_lists uss ≡ units_in_lists (take i uss) ++ (us ++ units_in_lists (drop (suc i) uss))
split [] zero us e = absurd (cc e)
split [] (suc i) us e = absurd (cc e)
split (x ∷ uss) zero us e = let same : x ≡ us = cc e in ap (λ (y : List CuBoundary). y ++ units_in_lists uss) same
split (x ∷ uss) (suc i) us e = ap (λ (l : List CuBoundary). x ++ l) (split uss i us e) ∙ sym (append_assoc x (units_in_lists (take i uss)) (us ++ units_in_lists (drop (suc i) uss)))

own_slice : (uss : List (List CuBoundary)) (i : ℕ) (us : List CuBoundary) → slice_get uss i ≡ Some us → take (length us) (drop (length (units_in_lists (take i uss))) (units_of_lists uss)) ≡ end_to_end (total_length (units_in_lists (take i uss))) us
own_slice uss i us e =
    let front = units_in_lists (take i uss) in
    let rest = units_in_lists (drop (suc i) uss) in
    let n = length us in
    let base = 0 + total_length front in
    let plain : base ≡ total_length front = omega arith in
    ap (λ (l : List CuBoundary). take n (drop (length front) (end_to_end 0 l))) (split uss i us e)
    ∙ ap (λ (l : List CuBoundary). take n (drop (length front) l)) (placed-append 0 front (us ++ rest))
    ∙ ap (λ (l : List CuBoundary). take n l) (drop_at (end_to_end 0 front) (end_to_end base (us ++ rest)) (length front) (length-placed 0 front))
    ∙ ap (λ (l : List CuBoundary). take n l) (placed-append base us rest)
    ∙ take_at (end_to_end base us) (end_to_end (base + total_length us) rest) n (length-placed base us)
    ∙ ap (λ (k : ℕ). end_to_end k us) plain

tiles_moved : (b : List ℕ) (base at : ℕ) (us : List CuBoundary) → Tiles b at us → end_to_end (base + at) us ≡ moved base us
tiles_moved b base at [] t = refl
tiles_moved b base at (u ∷ us) t =
    let next : base + at + u.length ≡ base + (at + u.length) = omega arith in
    ap (λ (n : ℕ). unit_at_offset (base + n) u.length ∷ end_to_end (base + at + u.length) us) (sym t.0)
    ∙ ap (λ (l : List CuBoundary). shifted base u ∷ l) (ap (λ (n : ℕ). end_to_end n us) next ∙ tiles_moved b base (at + u.length) us t.2)

-- ---- how far they reach

total-append : (xs ys : List CuBoundary) → total_length (xs ++ ys) ≡ total_length xs + total_length ys
total-append [] ys = omega arith
total-append (x ∷ xs) ys = omega (arith, total-append xs ys, sum_by-cons (λ (u : CuBoundary). u.length) x (xs ++ ys), sum_by-cons (λ (u : CuBoundary). u.length) x xs)

own_small : (c : Class) (file : List ℕ) (us : List CuBoundary) → length file < 2 ^ 39 → IsUnitsOf c file us → total_length us < 2 ^ 39
own_small c file us short units = omega (arith, info_short c file units.bytes (info_section c file) units.there, units.list.front.within, short)

total_small : (files : List Parsed) (uss : List (List CuBoundary)) (i : ℕ) → AreUnitsOf (file_bytes files) uss → All (λ f. length f.bytes < 2 ^ 39) files → total_length (units_in_lists (take i uss)) ≤ i * 2 ^ 39
total_small [] [] zero held small = omega arith
total_small [] [] (suc i) held small = omega arith
total_small [] (us ∷ uss) i held small = absurd held
total_small (f ∷ files) [] i held small = absurd held
total_small (f ∷ files) (us ∷ uss) zero held small = omega arith
total_small (f ∷ files) (us ∷ uss) (suc i) held small =
    omega (arith, total-append us (units_in_lists (take i uss)), own_small (class_in f.bytes) f.bytes us (small 0 f (omega arith)) held.0, total_small files uss i held.1 (λ k d l. small (suc k) d (omega arith)))

-- the units of an object in the list of all
pub listed_units : (files : List Parsed) (uss : List (List CuBoundary)) (all : List CuBoundary) (i first count : ℕ) (f : Parsed) (us : List CuBoundary) → AreUnitsOf (file_bytes files) uss → All (λ f. length f.bytes < 2 ^ 39) files → i < length files → length files < 2 ^ 24 → slice_get uss i ≡ Some us → IsUnitsOf (class_in f.bytes) f.bytes us → length f.bytes < 2 ^ 39 → all ≡ units_of_lists uss → first ≡ length (units_in_lists (take i uss)) → count ≡ length us → AreListedUnits (class_in f.bytes) f.bytes (take count (drop first all))
listed_units files uss all i first count f us held small below few there units short is at counted = record {
  own = us;
  base = total_length (units_in_lists (take i uss));
  held = units;
  listed_are =
      ap (λ (l : List CuBoundary). take count (drop first l)) is
      ∙ ap (λ (n : ℕ). take count (drop n (units_of_lists uss))) at
      ∙ ap (λ (n : ℕ). take n (drop (length (units_in_lists (take i uss))) (units_of_lists uss))) counted
      ∙ own_slice uss i us there
      ∙ ap (λ (n : ℕ). end_to_end n us) (plain (total_length (units_in_lists (take i uss))))
      ∙ tiles_moved units.bytes (total_length (units_in_lists (take i uss))) 0 us (Tiles-from_front units.bytes us units.list.front);
  fit = omega (arith, total_small files uss i held small, own_small (class_in f.bytes) f.bytes us short units);
} where
  plain : (n : ℕ) → n ≡ n + 0
  plain n = omega arith
