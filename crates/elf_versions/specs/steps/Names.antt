-- A list of names by index, to which names are added one by one.
use Rattle.std.specs.Prelude.{ℕ, suc, ◌-◌, List, [], ◌∷◌, ◌++◌, length, replicate, set, slice_get, map, Option, Some, None}
use Rattle.std.specs.Option.{option_or, option_flatten}
use Rattle.elf_format.specs.VersionName.{IndexedName, name_of_index}

-- the name at an index
abbrev pub name_at : List (Option (List ℕ)) → ℕ → Option (List ℕ)
name_at names index = option_flatten (slice_get names index)

-- the list with a name at an index, where it ends before that as long as needed
abbrev pub put_name : List (Option (List ℕ)) → ℕ → List ℕ → List (Option (List ℕ))
put_name names index name = set (names ++ replicate (suc index - length names) None) index (Some name)

-- the list with names at their indexes, the last of an index last
abbrev pub put_names : List (Option (List ℕ)) → List IndexedName → List (Option (List ℕ))
put_names names [] = names
put_names names (p ∷ ps) = put_names (put_name names p.0 p.1) ps

-- the names of the indexes that items have, once more names are put
abbrev pub names_after : {X : Type 0} → (X → ℕ) → List X → List (Option (List ℕ)) → List IndexedName → List (Option (List ℕ))
names_after index items names ps = map (λ x. option_or (name_of_index (index x) ps) (name_at names (index x))) items
