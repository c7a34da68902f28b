-- A list's relocations are not returned for one cause.
use Rattle.std.proofs.Common.{◌≡◌, ◌≢◌, List, Result, Ok, Err, refl, ap, sym, ◌∙◌}
use Rattle.elf_format.specs.declared.crel.Crel.{Crel}
use Rattle.elf_format.specs.declared.crel.CrelError.{CrelError}
use Rattle.elf_relocs.specs.declared.fault.CrelFault.{CrelFault}
use Rattle.elf_relocs.specs.declared.fault.CrelFault.TheVariants as fault
use Rattle.elf_relocs.specs.Fault.{IsCrelFault}

same_error : (list : Result (List Crel) CrelError) (a b : CrelError) → list ≡ Err a → list ≡ Err b → a ≡ b
same_error list a b p q = cc

pub one_list_cause : (list : Result (List Crel) CrelError) (e f : CrelFault) → IsCrelFault e list → IsCrelFault f list → e ≢ fault.NoMemory → f ≢ fault.NoMemory → e ≡ f
one_list_cause list (fault.Crel a) (fault.Crel b) p q m n = ap fault.Crel (same_error list a b p q)
one_list_cause list (fault.Crel a) fault.NoMemory p q m n = absurd (n refl)
one_list_cause list fault.NoMemory f p q m n = absurd (m refl)

no_error : (list : Result (List Crel) CrelError) (relocations : List Crel) (a : CrelError) → list ≡ Ok relocations → list ≡ Err a → ⊥
no_error list relocations a p q = absurd cc

pub no_list_cause : (relocations : List Crel) (e : CrelFault) → IsCrelFault e (Ok relocations) → e ≡ fault.NoMemory
no_list_cause relocations (fault.Crel a) p = absurd (no_error (Ok relocations) relocations a refl p)
no_list_cause relocations fault.NoMemory p = refl
