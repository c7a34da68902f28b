-- A listing of RELA records has no error.
use Rattle.std.proofs.Common.{◌≡◌, List, [], ◌∷◌, map, Ok, refl}
use Rattle.elf_format.specs.declared.crel.Crel.{Crel}
use Rattle.elf_format.specs.declared.crel.CrelError.{CrelError}
use Rattle.elf_format.specs.Crel.{all_ok}

pub all_given : (relocations : List Crel) → all_ok (map Ok relocations) ≡ Ok relocations
all_given [] = refl
all_given (x ∷ relocations) = rw (all_given relocations) refl
