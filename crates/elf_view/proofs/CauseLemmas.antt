-- What is refused is refused for one cause: the fault gives the error back.
use Rattle.std.proofs.Common.{◌≡◌, ◌≢◌, Bool, true, false, Option, Some, None, refl, ap, sym, ◌∙◌}
use Rattle.elf_format.specs.declared.error.ElfError.{ElfError}
use Rattle.elf_format.specs.declared.error.ElfError.TheVariants.{SectionData}
use Rattle.elf_format.specs.Group.{GroupFault, other_symbol_table, bad_signature, bad_bytes, empty_group, unsupported_flags, invalid_member, member_lacks_flag}
use Rattle.elf_view.specs.declared.group_error.GroupError.{GroupError}
use Rattle.elf_view.specs.declared.group_error.GroupError.TheVariants as groups
use Rattle.elf_view.specs.declared.reloc_error.RelocError.{RelocError}
use Rattle.elf_view.specs.declared.reloc_error.RelocError.TheVariants as relocations
use Rattle.elf_view.specs.GroupFault.{IsGroupFault}
use Rattle.elf_view.specs.RelocFault.{IsRelocFault}

-- the error of a fault; none is out of memory
error_of_group : Option GroupFault → GroupError
error_of_group (Some (other_symbol_table g)) = groups.OtherSymbolTable (record { 0 = g })
error_of_group (Some (bad_signature g)) = groups.BadSignature (record { 0 = g })
error_of_group (Some (empty_group g)) = groups.EmptyGroup (record { 0 = g })
error_of_group (Some (unsupported_flags g flags)) = groups.UnsupportedFlags (record { 0 = g }) flags
error_of_group (Some (invalid_member g m)) = groups.InvalidMember (record { 0 = g }) (record { 0 = m })
error_of_group (Some (member_lacks_flag g m)) = groups.MemberLacksFlag (record { 0 = g }) (record { 0 = m })
error_of_group (Some bad_bytes) = groups.Elf SectionData
error_of_group None = groups.NoMemory

group_error_is : (fault : Option GroupFault) (e : GroupError) → IsGroupFault fault e → e ≢ groups.NoMemory → e ≡ error_of_group fault
unfolding error_of_group
group_error_is fault (groups.OtherSymbolTable g) is some = sym (ap error_of_group is)
group_error_is fault (groups.BadSignature g) is some = sym (ap error_of_group is)
group_error_is fault (groups.EmptyGroup g) is some = sym (ap error_of_group is)
group_error_is fault (groups.UnsupportedFlags g flags) is some = sym (ap error_of_group is)
group_error_is fault (groups.InvalidMember g m) is some = sym (ap error_of_group is)
group_error_is fault (groups.MemberLacksFlag g m) is some = sym (ap error_of_group is)
group_error_is fault (groups.Elf e) (kind, is) some = ap groups.Elf kind ∙ sym (ap error_of_group is)
group_error_is fault groups.NoMemory is some = absurd (some refl)

pub one_group_cause : (fault : Option GroupFault) (e f : GroupError) → IsGroupFault fault e → IsGroupFault fault f → e ≢ groups.NoMemory → f ≢ groups.NoMemory → e ≡ f
one_group_cause fault e f p q m n = group_error_is fault e p m ∙ sym (group_error_is fault f q n)

no_fault : (fault : GroupFault) → None ≡ Some fault → ⊥
no_fault fault is = absurd cc

pub no_group_cause : (e : GroupError) → IsGroupFault None e → e ≡ groups.NoMemory
no_group_cause (groups.OtherSymbolTable g) is = absurd (no_fault _ is)
no_group_cause (groups.BadSignature g) is = absurd (no_fault _ is)
no_group_cause (groups.EmptyGroup g) is = absurd (no_fault _ is)
no_group_cause (groups.UnsupportedFlags g flags) is = absurd (no_fault _ is)
no_group_cause (groups.InvalidMember g m) is = absurd (no_fault _ is)
no_group_cause (groups.MemberLacksFlag g m) is = absurd (no_fault _ is)
no_group_cause (groups.Elf e) is = absurd (no_fault _ is.1)
no_group_cause groups.NoMemory is = refl

pub one_relocation_cause : (has_targets : Bool) (e f : RelocError) → IsRelocFault has_targets e → IsRelocFault has_targets f → e ≢ relocations.NoMemory → f ≢ relocations.NoMemory → e ≡ f
one_relocation_cause has_targets (relocations.Elf a) (relocations.Elf b) p q m n = ap relocations.Elf (p.0 ∙ sym q.0)
one_relocation_cause has_targets (relocations.Elf a) relocations.NoMemory p q m n = absurd (n refl)
one_relocation_cause has_targets relocations.NoMemory f p q m n = absurd (m refl)

not_true : true ≡ false → ⊥
not_true is = absurd cc

pub no_relocation_cause : (e : RelocError) → IsRelocFault true e → e ≡ relocations.NoMemory
no_relocation_cause (relocations.Elf a) p = absurd (not_true p.1)
no_relocation_cause relocations.NoMemory p = refl
