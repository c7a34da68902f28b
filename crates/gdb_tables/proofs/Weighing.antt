-- How many bytes the published names have, by the bytes of the files.
use Rattle.std.proofs.Common.{◌≡◌, ℕ, zero, suc, ◌+◌, ◌*◌, ◌^◌, ◌<◌, ◌≤◌, List, [], ◌∷◌, ◌++◌, length, map, Option, Some, None, refl, sym, ap, subst, ◌∙◌, arith}
use Rattle.std.specs.Int.{w16, to_le_bytes}
use Rattle.std.specs.List.{sum_by, flat_map, position, enumerate_from}
use Rattle.std.proofs.lemmas.List.{length-append}
use Rattle.std.proofs.lemmas.List.Sums.{sum_by-append, sum_by-cons}
use Rattle.elf_format.specs.Class.{Class}
use Rattle.elf_format.specs.Section.{sections}
use Rattle.gdb_index_format.specs.declared.dwarf_format.DwarfFormat.{DwarfFormat}
use Rattle.gdb_index_format.specs.declared.unit.CuBoundary.{CuBoundary}
use Rattle.gdb_index_format.specs.Names.{Entry, NameSet, width, number, initial_length, IsEntries, IsSet, IsSetList}
use Rattle.gdb_index_format.specs.Objects.{is_pubnames_section, pubnames_sections, AreSetsOfSections, AreSetsBeside, IsObjectOf}
use Rattle.gdb_index_format.specs.Published.{Object, Pair, pairs_at, pairs_of, published_from}
use Rattle.gdb_scan.specs.Scan.{ObjectScan, IsScanOf}
use Rattle.gdb_scan.specs.Scanned.{HasHeaderRoom}
use Rattle.gdb_scan.proofs.Sounding.{section_short, filter_le}

abbrev entry_weight : Entry → ℕ
entry_weight e = length e.name + 2

abbrev set_weight : NameSet → ℕ
set_weight s = sum_by entry_weight s.entries

abbrev pub sets_weight : List NameSet → ℕ
sets_weight ss = sum_by set_weight ss

abbrev pub objects_weight : List Object → ℕ
objects_weight os = sum_by (λ o. sets_weight o.sets) os

abbrev pub pair_weight : Pair → ℕ
pair_weight p = length p.name + 2

entries_short : (f : DwarfFormat) (b : List ℕ) (es : List Entry) → IsEntries f b es → sum_by entry_weight es ≤ length b
entries_short f b [] closed = omega arith
entries_short f b (e ∷ es) (rest, entry, more) =
    omega (arith, sum_by-cons entry_weight e es, entries_short f rest es more, ap length entry.bytes_are, length-append (number f entry.offset) (e.flag ∷ (e.name ++ 0 ∷ rest)), length-append e.name (0 ∷ rest))

set_short : (b : List ℕ) (s : NameSet) → IsSet b s → set_weight s ≤ length b
set_short b s p =
    omega (arith, entries_short p.format p.last s.entries p.entries, ap length p.bytes_are, length-append (initial_length p.format (2 + 2 * width p.format + length p.last) ++ to_le_bytes w16 2 ++ number p.format s.unit ++ number p.format p.unit_len) p.last)

sets_short : (b : List ℕ) (ss : List NameSet) → IsSetList b ss → sets_weight ss ≤ length b
sets_short b [] none = omega arith
sets_short b (s ∷ ss) (front, rest, is, set, more) =
    omega (arith, sum_by-cons set_weight s ss, set_short front s set, sets_short rest ss more, ap length is, length-append front rest)

sections_short : (c : Class) (file : List ℕ) (xs : List (ℕ × List ℕ)) (ss : List NameSet) → length file < 2 ^ 39 → AreSetsOfSections c file xs ss → sets_weight ss ≤ length xs * 2 ^ 39
sections_short c file [] ss small none = omega (arith, ap sets_weight none)
sections_short c file (x ∷ xs) ss small (front, rest, is, here, others) =
    omega (arith, ap sets_weight is, sum_by-append set_weight front rest, sets_short here.bytes front here.list, section_short c file x.1 here.bytes here.there, sections_short c file xs rest small others)

length-enumerated : (at : ℕ) (xs : List (List ℕ)) → length (enumerate_from at xs) ≡ length xs
length-enumerated at [] = refl
length-enumerated at (x ∷ xs) = ap suc (length-enumerated (at + 1) xs)

names_few : (c : Class) (file : List ℕ) → length (pubnames_sections c file) ≤ length (sections c file)
names_few c file = omega (arith, filter_le (λ (s : ℕ × List ℕ). is_pubnames_section c file s.1) (enumerate_from 0 (sections c file)), length-enumerated 0 (sections c file))

beside_short : (c : Class) (file : List ℕ) (us : List CuBoundary) (ss : List NameSet) → length file < 2 ^ 39 → 40 * length (sections c file) ≤ length file → AreSetsBeside c file us ss → sets_weight ss ≤ 2 ^ 73
beside_short c file [] ss small room none = omega (arith, ap sets_weight none)
beside_short c file (u ∷ us) ss small room sets = omega (arith, names_few c file, sections_short c file (pubnames_sections c file) ss small sets)

without_unit : (c : Class) (file : List ℕ) (us : List CuBoundary) (ss : List NameSet) → us ≡ [] → AreSetsBeside c file us ss → sets_weight ss ≤ 2 ^ 73
without_unit c file us ss none sets = omega (arith, ap sets_weight (subst (λ (x : List CuBoundary). AreSetsBeside c file x ss) none sets))

pub object_weight : (c : Class) (file : List ℕ) (o : Object) (s : Option ObjectScan) → length file < 2 ^ 39 → IsObjectOf c file o → IsScanOf o s → HasHeaderRoom c file s → sets_weight o.sets ≤ 2 ^ 73
object_weight c file o None small is none room = without_unit c file o.units o.sets none is.sets
object_weight c file o (Some s) small is scan room = beside_short c file o.units o.sets small room is.sets

pub weight_push : (os : List Object) (o : Object) → objects_weight (os ++ o ∷ []) ≡ objects_weight os + sets_weight o.sets
weight_push os o = sum_by-append (λ (x : Object). sets_weight x.sets) os (o ∷ []) ∙ ap (λ n. objects_weight os + n) (sum_by-cons (λ (x : Object). sets_weight x.sets) o [] ∙ omega arith)

pairs_short : (o : Option ℕ) (first : ℕ) (es : List Entry) → sum_by pair_weight (pairs_at o first es) ≤ sum_by entry_weight es
pairs_short None first es = omega arith
pairs_short (Some index) first [] = omega arith
pairs_short (Some index) first (e ∷ es) = omega (arith, sum_by-cons entry_weight e es, sum_by-cons pair_weight (record { name = e.name; word = Rattle.gdb_index_format.specs.Hash.element_of (first + index) e.flag }) (pairs_at (Some index) first es), pairs_short (Some index) first es)

sets_publish : (first : ℕ) (us : List CuBoundary) (ss : List NameSet) → sum_by pair_weight (flat_map (pairs_of first us) ss) ≤ sets_weight ss
sets_publish first us [] = omega arith
sets_publish first us (s ∷ ss) = omega (arith, sum_by-append pair_weight (pairs_of first us s) (flat_map (pairs_of first us) ss), sum_by-cons set_weight s ss, sets_publish first us ss, pairs_short (position (λ u. Rattle.std.proofs.Common.eqb u.offset s.unit) us) first s.entries)

pub published_weight : (first : ℕ) (os : List Object) → sum_by pair_weight (published_from first os) ≤ objects_weight os
published_weight first [] = omega arith
published_weight first (o ∷ os) = omega (arith, sum_by-append pair_weight (flat_map (pairs_of first o.units) o.sets) (published_from (first + length o.units) os), sum_by-cons (λ (x : Object). sets_weight x.sets) o os, sets_publish first o.units o.sets, published_weight (first + length o.units) os)
