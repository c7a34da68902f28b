-- The arguments of the command line, as lists of bytes.
use Rattle.std.specs.Prelude.{ℕ, Bool, List, nat_eq, String, string_bytes, map}
use Rattle.std.specs.Cmp.Lexicographic.{pointwise}
use Rattle.std.specs.declared.alloc.Global.{Global}

-- the bytes of each argument
abbrev pub arguments_of : List (String Global) → List (List ℕ)
arguments_of arguments = map string_bytes arguments

-- whether two arguments are the same
abbrev pub is_word : List ℕ → List ℕ → Bool
is_word a b = pointwise nat_eq a b
