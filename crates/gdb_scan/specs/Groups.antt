-- Names with their values, in the order of first publication.
use Rattle.std.specs.Prelude.{ℕ, List, map}
use Rattle.std.specs.List.{filter}
use Rattle.std.specs.Str.{bytes_eq}
use Rattle.gdb_index_format.specs.Published.{firsts}

module _ {X : Type 0} where
  abbrev pub names_of : List (List ℕ × X) → List (List ℕ)
  names_of ps = map (λ p. p.0) ps

  -- the values of a name, in order
  abbrev pub values_of : List ℕ → List (List ℕ × X) → List X
  values_of name ps = map (λ p. p.1) (filter (λ p. bytes_eq p.0 name) ps)

  -- each name, in the order of first publication, with its values in order
  abbrev pub groups : List (List ℕ × X) → List (List ℕ × List X)
  groups ps = map (λ n. (n, values_of n ps)) (firsts (names_of ps))
