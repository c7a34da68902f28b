-- The unit of each address entry is one of those that the index lists.
use Rattle.std.proofs.Common.{◌≡◌, ℕ, zero, suc, ◌+◌, ◌<◌, ◌≤◌, Bool, true, false, List, [], ◌∷◌, length, take, slice_get, Option, Some, None, refl, sym, ap, subst, arith}
use Rattle.std.specs.Prelude.{◌&&◌, nat_lt}
use Rattle.std.specs.List.{All, filter}
use Rattle.std.proofs.lemmas.List.{length-append}
use Rattle.std.proofs.lemmas.List.Elements.{All-map, All-filter, All-weaker, filter_passes}
use Rattle.elf_view.specs.Parsed.{Parsed}
use Rattle.gdb_index_format.specs.declared.unit.CuBoundary.{CuBoundary}
use Rattle.gdb_index_format.specs.declared.placement.AddressEntry.{AddressEntry}
use Rattle.gdb_index_format.specs.declared.placement.Placement.{Placement}
use Rattle.gdb_index_format.specs.Objects.{class_in}
use Rattle.gdb_index_format.specs.Placed.{is_counted, has_unit, counts_in, placed}
use Rattle.gdb_index_format.specs.Published.{units_in_lists, units_of_lists}
use Rattle.gdb_tables.specs.Addresses.{unit_in_object, unit_index, address_entry, addresses}
use Rattle.gdb_tables.specs.Files.{file_bytes}
use Rattle.gdb_tables.proofs.Adjoining.{unit_below}
use Rattle.gdb_tables.proofs.Merging.{length-placed}

-- the units of an object lie after those of the objects before it
lie_after : (uss : List (List CuBoundary)) (o : ℕ) (us : List CuBoundary) → slice_get uss o ≡ Some us → length (units_in_lists (take o uss)) + length us ≤ length (units_in_lists uss)
lie_after [] o us is = absurd (cc is)
lie_after (vs ∷ uss) zero us is = let e : vs ≡ us = cc is in omega (arith, length-append vs (units_in_lists uss), ap length e)
lie_after (vs ∷ uss) (suc o) us is = omega (arith, length-append vs (units_in_lists (take o uss)), length-append vs (units_in_lists uss), lie_after uss o us is)

some_unit : (us : List CuBoundary) → has_unit us ≡ true → 0 < length us
some_unit [] e = absurd (cc e)
some_unit (u ∷ us) e = omega arith

right_of : (a b : Bool) → (a && b) ≡ true → b ≡ true
right_of true b e = e
right_of false b e = absurd (cc e)

in_object : (f : Option Parsed) (us : List CuBoundary) (section : ℕ) → 0 < length us → unit_in_object f (Some us) section < length us
in_object None us section some = some
in_object (Some file) us section some = unit_below (class_in file.bytes) file.is_dynamic file.bytes us section some

counted_unit : (f : Option (List ℕ)) (us : Option (List CuBoundary)) (p : Placement) → counts_in f us p ≡ true → (vs : List CuBoundary) × (us ≡ Some vs) × (0 < length vs)
counted_unit None us p e = absurd (cc e)
counted_unit (Some file) None p e = absurd (cc e)
counted_unit (Some file) (Some us) p e = (us, refl, some_unit us (right_of (is_counted (class_in file) file p) (has_unit us) e))

one_named : (files : List Parsed) (uss : List (List CuBoundary)) (p : Placement) → counts_in (slice_get (file_bytes files) p.object) (slice_get uss p.object) p ≡ true → unit_index files uss p < length (units_of_lists uss)
one_named files uss p e =
    let (us, is, some) = counted_unit (slice_get (file_bytes files) p.object) (slice_get uss p.object) p e in
    let below : unit_in_object (slice_get files p.object) (slice_get uss p.object) p.section < length us = subst (λ (o : Option (List CuBoundary)). unit_in_object (slice_get files p.object) o p.section < length us) (sym is) (in_object (slice_get files p.object) us p.section some) in
    omega (arith, below, lie_after uss p.object us is, length-placed 0 (units_in_lists uss))

all_named_units : (files : List Parsed) (uss : List (List CuBoundary)) (ps : List Placement) → All (λ (a : AddressEntry). a.unit < length (units_of_lists uss)) (addresses files uss ps)
all_named_units files uss ps =
    let counted : Placement → Bool = λ p. counts_in (slice_get (file_bytes files) p.object) (slice_get uss p.object) p in
    All-map (λ (a : AddressEntry). a.unit < length (units_of_lists uss)) (address_entry files uss) (filter (λ p. nat_lt 0 p.address) (placed (file_bytes files) uss ps))
    (All-filter (λ (p : Placement). nat_lt 0 p.address) (λ (p : Placement). unit_index files uss p < length (units_of_lists uss)) (placed (file_bytes files) uss ps)
    (All-weaker (λ (p : Placement). counted p ≡ true) (λ (p : Placement). unit_index files uss p < length (units_of_lists uss)) (one_named files uss) (placed (file_bytes files) uss ps) (filter_passes counted ps)))

pub units_named : (files : List Parsed) (uss : List (List CuBoundary)) (ps : List Placement) (units : List CuBoundary) (entries : List AddressEntry) → units ≡ units_of_lists uss → entries ≡ addresses files uss ps → All (λ (a : AddressEntry). a.unit < length units) entries
units_named files uss ps units entries listed are =
    subst (λ (es : List AddressEntry). All (λ (a : AddressEntry). a.unit < length units) es) (sym are)
    (subst (λ (us : List CuBoundary). All (λ (a : AddressEntry). a.unit < length us) (addresses files uss ps)) (sym listed) (all_named_units files uss ps))
