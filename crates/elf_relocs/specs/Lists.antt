-- What the lists and the sequences of relocations hold. The parameters of their types are the class and the
-- types of its records.
use Rattle.std.specs.Prelude.{ℕ, List, length, map, Result, Ok}
use Rattle.elf_format.specs.declared.crel.Crel.{Crel}
use Rattle.elf_format.specs.declared.crel.CrelError.{CrelError}
use Rattle.elf_format.specs.Class.{Class}
use Rattle.elf_format.specs.Crel.{Listing}
use Rattle.elf_format.specs.Rela.{rela_entries}
use Rattle.elf_relocs.specs.declared.list.RelocationList.{RelocationList}
use Rattle.elf_relocs.specs.declared.list.RelocationList.TheVariants as list
use Rattle.elf_relocs.specs.declared.sequence.RelocationSequence.{RelocationSequence}
use Rattle.elf_relocs.specs.declared.sequence.RelocationSequence.TheVariants as sequence
use Rattle.elf_relocs.specs.declared.rel.Rel.{Rel}
use Rattle.elf_relocs.specs.declared.rel.Rel.TheVariants as rel

-- the form of a list: RELA records, or CREL
pub data Form : Type 0 where
  rela_form : Form
  crel_form : Form

-- a relocation, and the form of the list that it comes from
pub record FormedRelocation : Type 0 where
  pub form : Form
  pub values : Crel

abbrev pub formed : Form → Crel → FormedRelocation
formed form values = record { form = form; values = values }

-- the values of a relocation
abbrev pub rel_values : {A B C D E F G H I J K : Type 0} → Rel A B C D E F G H I J K → Crel
rel_values (rel.Rela r) = r.values
rel_values (rel.Crel r) = r.values

-- a relocation with the variant that holds it
abbrev pub formed_rel : {A B C D E F G H I J K : Type 0} → Rel A B C D E F G H I J K → FormedRelocation
formed_rel (rel.Rela r) = formed rela_form r.values
formed_rel (rel.Crel r) = formed crel_form r.values

-- RELA records as a listing: each record is given
abbrev pub rela_listing : List Crel → Listing
rela_listing relocations = record { count = length relocations; items = map Ok relocations }

-- a list: the count that it states, then its relocations one by one, of which a refusal is the last
abbrev pub listing_of_list : {A B C D E F G H I J K : Type 0} → RelocationList A B C D E F G H I J K → Listing
listing_of_list (list.Rela view) = rela_listing view
listing_of_list (list.Crel decoder) = decoder

abbrev pub form_of_list : {A B C D E F G H I J K : Type 0} → RelocationList A B C D E F G H I J K → Form
form_of_list (list.Rela view) = rela_form
form_of_list (list.Crel decoder) = crel_form

-- the relocations of a sequence
abbrev pub relocations_of : {A B C D E F G H I J K : Type 0} → Class → RelocationSequence A B C D E F G H I J K → List Crel
relocations_of c (sequence.Rela records) = rela_entries c records.bytes.now
relocations_of c (sequence.Crel relocations) = map (λ x. x.values) relocations.items

abbrev pub form_of_sequence : {A B C D E F G H I J K : Type 0} → RelocationSequence A B C D E F G H I J K → Form
form_of_sequence (sequence.Rela records) = rela_form
form_of_sequence (sequence.Crel relocations) = crel_form
