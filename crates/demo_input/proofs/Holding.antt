-- What the bytes of an object with three characters and a flag hold: a unit, and the set of two names.
use Rattle.std.proofs.Common.{◌≢◌, ℕ, ◌<◌, [], ◌∷◌, refl, inr, arith}
use Rattle.std.specs.List.{All}
use Rattle.std.proofs.lemmas.List.Elements.{All-from_recursion}
use Rattle.elf_format.specs.Bytes.{le, string_at}
use Rattle.elf_format.specs.Class.{class64}
use Rattle.elf_format.specs.Example.{unit}
use Rattle.elf_format.specs.Section.{section_count, name_table_index, sections, section_bytes, name_table, section_name, section_of_name}
use Rattle.gdb_index_format.specs.declared.dwarf_format.DwarfFormat.TheVariants.{Dwarf32}
use Rattle.gdb_index_format.specs.Names.{NameSet, IsSet, IsSetList}
use Rattle.gdb_index_format.specs.Objects.{IsObjectOf}
use Rattle.gdb_index_format.proofs.SmallLists.{one_unit}
use Rattle.demo_input.specs.Object.{object_with, set_with, name_of_digits, holding_with}

clean_common : All (λ (c : ℕ). c ≢ 0) (99 ∷ 111 ∷ 109 ∷ 109 ∷ 111 ∷ 110 ∷ [])
clean_common =
    All-from_recursion (λ (c : ℕ). c ≢ 0) (99 ∷ 111 ∷ 109 ∷ 109 ∷ 111 ∷ 110 ∷ []) ((λ e. omega arith), ((λ e. omega arith), ((λ e. omega arith), ((λ e. omega arith), ((λ e. omega arith), ((λ e. omega arith), tt))))))

clean_name : (a b c : ℕ) → 0 < a → 0 < b → 0 < c → All (λ (x : ℕ). x ≢ 0) (name_of_digits a b c)
clean_name a b c p q r = All-from_recursion (λ (x : ℕ). x ≢ 0) (110 ∷ a ∷ b ∷ c ∷ []) ((λ e. omega arith), ((λ e. omega arith), ((λ e. omega arith), ((λ e. omega arith), tt))))

abbrev set_held : ℕ → ℕ → ℕ → ℕ → NameSet
set_held a b c f = record { unit = 0; entries = record { name = name_of_digits a b c; flag = 48 } ∷ record { name = 99 ∷ 111 ∷ 109 ∷ 109 ∷ 111 ∷ 110 ∷ []; flag = f } ∷ [] }

is_set : (a b c f : ℕ) → 0 < a → 0 < b → 0 < c → IsSet (set_with a b c f) (set_held a b c f)
is_set a b c f p q r = record {
  format = Dwarf32;
  unit_len = 12;
  last = 42 ∷ 0 ∷ 0 ∷ 0 ∷ 48 ∷ 110 ∷ a ∷ b ∷ c ∷ 0 ∷ 42 ∷ 0 ∷ 0 ∷ 0 ∷ f ∷ 99 ∷ 111 ∷ 109 ∷ 109 ∷ 111 ∷ 110 ∷ 0 ∷ 0 ∷ 0 ∷ 0 ∷ 0 ∷ [];
  unit_fits = omega arith;
  len_fits = omega arith;
  entries = (
    42 ∷ 0 ∷ 0 ∷ 0 ∷ f ∷ 99 ∷ 111 ∷ 109 ∷ 109 ∷ 111 ∷ 110 ∷ 0 ∷ 0 ∷ 0 ∷ 0 ∷ 0 ∷ [],
    record { offset = 42; some = omega arith; fits = omega arith; clean = clean_name a b c p q r; bytes_are = refl },
    (
      0 ∷ 0 ∷ 0 ∷ 0 ∷ [],
      record { offset = 42; some = omega arith; fits = omega arith; clean = clean_common; bytes_are = refl },
      inr ([], refl),
    ),
  );
  fits = omega arith;
  bytes_are = refl;
}

one_set : (a b c f : ℕ) → 0 < a → 0 < b → 0 < c → IsSetList (set_with a b c f) (set_held a b c f ∷ [])
one_set a b c f p q r = (set_with a b c f, [], refl, is_set a b c f p q r, refl)

pub object_holds : (a b c f : ℕ) → 0 < a → 0 < b → 0 < c → IsObjectOf class64 (object_with a b c f) (holding_with a b c f)
unfolding object_with le section_count name_table_index sections section_bytes string_at name_table section_name section_of_name
object_holds a b c f p q r = record {
  units = record { bytes = unit; there = refl; list = one_unit };
  sets = (set_held a b c f ∷ [], [], refl, record { bytes = set_with a b c f; there = refl; list = one_set a b c f p q r }, refl);
}
