-- The set of one name, as its bytes spell it.
use Rattle.std.proofs.Common.{◌≢◌, ℕ, zero, suc, [], ◌∷◌, refl, inr, arith}
use Rattle.std.specs.List.{All}
use Rattle.elf_format.specs.Example.{unit, set_of_main}
use Rattle.elf_format.specs.Bytes.{le}
use Rattle.gdb_index_format.specs.declared.dwarf_format.DwarfFormat.TheVariants.{Dwarf32}
use Rattle.gdb_index_format.specs.Units.{unit_length, IsUnitList}
use Rattle.gdb_index_format.specs.Names.{NameSet, IsSet, IsSetList}
use Rattle.gdb_index_format.proofs.UnitLists.{list_from_tiles}

abbrev pub the_set : NameSet
the_set = record { unit = 0; entries = record { name = 109 ∷ 97 ∷ 105 ∷ 110 ∷ []; flag = 48 } ∷ [] }

clean : All (λ (c : ℕ). c ≢ 0) (109 ∷ 97 ∷ 105 ∷ 110 ∷ [])
clean zero d l e = omega arith
clean (suc zero) d l e = omega arith
clean (suc (suc zero)) d l e = omega arith
clean (suc (suc (suc zero))) d l e = omega arith
clean (suc (suc (suc (suc k)))) d l e = omega arith

is_set : IsSet set_of_main the_set
is_set = record {
  format = Dwarf32;
  unit_len = 12;
  last = 42 ∷ 0 ∷ 0 ∷ 0 ∷ 48 ∷ 109 ∷ 97 ∷ 105 ∷ 110 ∷ 0 ∷ 0 ∷ 0 ∷ 0 ∷ 0 ∷ [];
  unit_fits = omega arith;
  len_fits = omega arith;
  entries = (0 ∷ 0 ∷ 0 ∷ 0 ∷ [], record { offset = 42; some = omega arith; fits = omega arith; clean = clean; bytes_are = refl }, inr ([], refl));
  fits = omega arith;
  bytes_are = refl;
}

pub one_set_of_main : IsSetList set_of_main (the_set ∷ [])
one_set_of_main = (set_of_main, [], refl, is_set, refl)

pub one_unit : IsUnitList unit (record { offset = 0; length = 12 } ∷ [])
unfolding le unit_length
one_unit = list_from_tiles unit (record { offset = 0; length = 12 } ∷ []) (refl, refl, tt) (omega arith) (omega arith)
