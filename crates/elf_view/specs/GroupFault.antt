-- The groups of a file as values, and why they are not returned.
use Rattle.std.specs.Prelude.{◌≡◌, Option, Some}
use Rattle.elf_format.specs.declared.error.ElfError.TheVariants.{SectionData}
use Rattle.elf_format.specs.Group.{Group, GroupFault, other_symbol_table, bad_signature, bad_bytes, empty_group, unsupported_flags, invalid_member, member_lacks_flag}
use Rattle.elf_view.specs.declared.group.SectionGroup.{SectionGroup}
use Rattle.elf_view.specs.declared.group_error.GroupError.{GroupError}
use Rattle.elf_view.specs.declared.group_error.GroupError.TheVariants as error

-- a group by its parts
abbrev pub shown_group : SectionGroup → Group
shown_group g = record { index = g.index.0; signature_symbol = g.signature_symbol.0; is_comdat = g.is_comdat; members = g.members }

-- each error has its cause; an allocation failure says nothing
abbrev pub IsGroupFault : Option GroupFault → GroupError → Type 0
IsGroupFault fault (error.OtherSymbolTable g) = fault ≡ Some (other_symbol_table g.0)
IsGroupFault fault (error.BadSignature g) = fault ≡ Some (bad_signature g.0)
IsGroupFault fault (error.EmptyGroup g) = fault ≡ Some (empty_group g.0)
IsGroupFault fault (error.UnsupportedFlags g flags) = fault ≡ Some (unsupported_flags g.0 flags)
IsGroupFault fault (error.InvalidMember g m) = fault ≡ Some (invalid_member g.0 m.0)
IsGroupFault fault (error.MemberLacksFlag g m) = fault ≡ Some (member_lacks_flag g.0 m.0)
IsGroupFault fault (error.Elf e) = (e ≡ SectionData) × (fault ≡ Some bad_bytes)
IsGroupFault fault error.NoMemory = Unit {0}
