-- The hashes of names.
use Rattle.std.specs.Prelude.{ℕ, List, map}
use Rattle.gdb_index_format.specs.Hash.{name_hash}
use Rattle.gdb_index_format.specs.Named.{Named}

abbrev pub hashes_of : List Named → List ℕ
hashes_of ns = map (λ n. name_hash n.name) ns
