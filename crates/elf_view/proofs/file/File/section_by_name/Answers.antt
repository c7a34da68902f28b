use Rattle.std.proofs.Common.{◌≡◌, ℕ, List, drop, sym, ap, ◌∙◌}
use Rattle.std.specs.List.{position_from}
use Rattle.elf_format.specs.Class.{Class}
use Rattle.elf_format.specs.Section.{sections, section_name, section_of_name, is_name}
use Rattle.elf_format.proofs.SearchLemmas.{position_is_from}
use Rattle.elf_view.proofs.file.File.section_by_name.Goals as goal

from_first : (c : Class) (file name : List ℕ) (headers : List (List ℕ)) → headers ≡ sections c file
    → (drop 0 (sections c file) ≡ headers) × (section_of_name c file name ≡ position_from (λ header. is_name name (section_name c file header)) 0 headers)
unfolding section_of_name
from_first c file name headers h =
    (sym h, position_is_from (λ header. is_name name (section_name c file header)) (sections c file) ∙ ap (position_from (λ header. is_name name (section_name c file header)) 0) (sym h))

pub loop-index-init : goal.loop-index-init
loop-index-init g c =
    rw (← c.self.view_is)
    (from_first g.C.ElfClass.class c.self.inside.bytes.now c.args.name.now c.iter-header-items.result (c.iter-header-items.ensures.same ∙ c.self.invariant.has_headers))
