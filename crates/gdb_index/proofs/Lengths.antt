-- How many bytes the parts of an index have.
use Rattle.std.proofs.Common.{◌≡◌, ℕ, ◌+◌, ◌*◌, List, [], ◌∷◌, length, refl, arith}
use Rattle.std.specs.List.{flat_map, sum_by}
use Rattle.std.specs.Int.{w32, to_le_bytes}
use Rattle.std.proofs.lemmas.List.{length-append}
use Rattle.std.proofs.lemmas.List.Sums.{sum_by-cons}
use Rattle.gdb_index_format.specs.declared.unit.CuBoundary.{CuBoundary}
use Rattle.gdb_index_format.specs.declared.placement.AddressEntry.{AddressEntry}
use Rattle.gdb_index_format.specs.Named.{Named}
use Rattle.gdb_index.specs.Scan.{word_count}
use Rattle.gdb_index.specs.Pool.{vector_len, name_len, vectors_len, names_len}
use Rattle.gdb_index.specs.Layout.{u32s_bytes, unit_bytes, address_bytes, vector_bytes, name_bytes}

pub length-u32s : (ns : List ℕ) → length (u32s_bytes ns) ≡ 4 * length ns
length-u32s [] = refl
length-u32s (n ∷ ns) = omega (arith, length-append (to_le_bytes w32 n) (u32s_bytes ns), length-u32s ns)

pub length-units : (us : List CuBoundary) → length (flat_map unit_bytes us) ≡ 16 * length us
length-units [] = refl
length-units (u ∷ us) = omega (arith, length-append (unit_bytes u) (flat_map unit_bytes us), length-units us)

pub length-addresses : (xs : List AddressEntry) → length (flat_map address_bytes xs) ≡ 20 * length xs
length-addresses [] = refl
length-addresses (x ∷ xs) = omega (arith, length-append (address_bytes x) (flat_map address_bytes xs), length-addresses xs)

pub length-vectors : (ns : List Named) → length (flat_map vector_bytes ns) ≡ vectors_len ns
length-vectors [] = refl
length-vectors (n ∷ ns) = omega (arith, length-append (vector_bytes n) (flat_map vector_bytes ns), length-u32s (length n.words ∷ n.words), length-vectors ns, sum_by-cons vector_len n ns)

pub length-names : (ns : List Named) → length (flat_map name_bytes ns) ≡ names_len ns
length-names [] = refl
length-names (n ∷ ns) = omega (arith, length-append (name_bytes n) (flat_map name_bytes ns), length-append n.name (0 ∷ []), length-names ns, sum_by-cons name_len n ns)

-- the same, item by item
pub sum_of_vectors : (ns : List Named) → sum_by (λ n. length (vector_bytes n)) ns ≡ vectors_len ns
sum_of_vectors [] = refl
sum_of_vectors (n ∷ ns) = omega (arith, sum_by-cons (λ (x : Named). length (vector_bytes x)) n ns, sum_by-cons vector_len n ns, length-u32s (length n.words ∷ n.words), sum_of_vectors ns)

pub sum_of_names : (ns : List Named) → sum_by (λ n. length (name_bytes n)) ns ≡ names_len ns
sum_of_names [] = refl
sum_of_names (n ∷ ns) = omega (arith, sum_by-cons (λ (x : Named). length (name_bytes x)) n ns, sum_by-cons name_len n ns, length-append n.name (0 ∷ []), sum_of_names ns)

pub vectors_len-words : (ns : List Named) → vectors_len ns ≡ 4 * length ns + 4 * word_count ns
vectors_len-words [] = refl
vectors_len-words (n ∷ ns) = omega (arith, sum_by-cons vector_len n ns, sum_by-cons (λ (x : Named). length x.words) n ns, vectors_len-words ns)
