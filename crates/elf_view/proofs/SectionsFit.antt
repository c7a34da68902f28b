-- The table of section headers lies in a file without a fault.
use Rattle.std.proofs.Common.{◌≡◌, ℕ, ◌*◌, ◌≤◌, Bool, true, false, cond, not, ◌&&◌, ◌||◌, eqb, List, length, Some, None, refl, arith}
use Rattle.std.proofs.lemmas.Bool.{leb-true}
use Rattle.elf_format.specs.declared.error.ElfError.TheVariants.{Header, Machine, SectionTable, SymbolTable, VersionTable}
use Rattle.elf_format.specs.Bytes.{get}
use Rattle.elf_format.specs.Class.{Class, class32, class64, e_shentsize, e_shnum, section_header_size}
use Rattle.elf_format.specs.Section.{file_header, table_offset, has_first_header, section_count, sections}
use Rattle.elf_format.specs.Fault.{has_header, has_machine, has_section_headers, has_section_names, has_symbols, has_versions, fault}
use Rattle.elf_format.proofs.SectionLemmas.{length_sections}

third_rule : (h m s n y v : Bool) → cond (not h) (Some Header) (cond (not m) (Some Machine) (cond (not (s && n)) (Some SectionTable) (cond (not y) (Some SymbolTable) (cond (not v) (Some VersionTable) None)))) ≡ None → s ≡ true
third_rule true true true n y v e = refl
third_rule true true false n y v e = absurd (cc e)
third_rule true false s n y v e = absurd (cc e)
third_rule false m s n y v e = absurd (cc e)

either : (t a b n : Bool) → (t || a && b && n) ≡ true → (t ≡ false → n ≡ true)
either true a b n e f = absurd (cc f)
either false true true true e f = refl
either false true true false e f = absurd (cc e)
either false true false n e f = absurd (cc e)
either false false b n e f = absurd (cc e)

size_at_least : (c : Class) (n : ℕ) → 40 * n ≤ section_header_size c * n
size_at_least class32 n = omega arith
size_at_least class64 n = omega arith

has_table : (c : Class) (is_dynamic : Bool) (file : List ℕ) → fault c is_dynamic file ≡ None → has_section_headers c file ≡ true
unfolding fault
has_table c is_dynamic file none = third_rule (has_header c file) (has_machine c file) (has_section_headers c file) (has_section_names c file) (has_symbols c is_dynamic file) (has_versions c file) none

count_fits : (c : Class) (file : List ℕ) → has_section_headers c file ≡ true → section_header_size c * section_count c file ≤ length file
unfolding has_section_headers section_count
count_fits c file e = by (eqb (table_offset c file) 0) refl where
  by : (t : Bool) → eqb (table_offset c file) 0 ≡ t → section_header_size c * cond (eqb (table_offset c file) 0) 0 (cond (eqb (get (e_shnum c) (file_header c file)) 0) (get (Rattle.elf_format.specs.Class.sh_size c) (Rattle.elf_format.specs.Section.first_header c file)) (get (e_shnum c) (file_header c file))) ≤ length file
  by true is = rw is (omega arith)
  by false is = let fits = leb-true _ (length file) (either (eqb (table_offset c file) 0) (eqb (get (e_shentsize c) (file_header c file)) (section_header_size c)) (not (eqb (get (e_shnum c) (file_header c file)) 0) || has_first_header c file) _ e is) in omega (arith, fits)

pub sections_fit : (c : Class) (is_dynamic : Bool) (file : List ℕ) → fault c is_dynamic file ≡ None → 40 * length (sections c file) ≤ length file
sections_fit c is_dynamic file none = omega (arith, length_sections c file, count_fits c file (has_table c is_dynamic file none), size_at_least c (section_count c file))
