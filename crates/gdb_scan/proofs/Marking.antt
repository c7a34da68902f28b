-- What an object publishes, set by set.
use Rattle.std.proofs.Common.{◌≡◌, ℕ, ◌+◌, ◌<◌, List, ◌∷◌, ◌++◌, length, get_or, drop, sym, ap, ◌∙◌, append_assoc}
use Rattle.std.proofs.lemmas.List.{drop_more}
use Rattle.gdb_index_format.specs.declared.unit.CuBoundary.{CuBoundary}
use Rattle.dwarf_sections.specs.declared.sets.PubnamesSet.{PubnamesSet}
use Rattle.dwarf_sections.specs.Sets.{set_in, sets_in}
use Rattle.gdb_scan.specs.declared.mark.Mark.{Mark}
use Rattle.gdb_scan.specs.Marks.{marks_in, marks_of}
use Rattle.gdb_scan.proofs.Grouping.{Name}

pub set_step : (us : List CuBoundary) (sets : List PubnamesSet) (i : ℕ) (s : PubnamesSet) (ms ns all : List (Name × Mark)) → i < length sets → s ≡ get_or sets i s → ns ≡ ms ++ marks_in us (set_in s) → ms ++ marks_of us (sets_in (drop i sets)) ≡ all → ns ++ marks_of us (sets_in (drop (i + 1) sets)) ≡ all
set_step us sets i s ms ns all l is step left =
    ap (λ xs. xs ++ marks_of us (sets_in (drop (i + 1) sets))) step
    ∙ append_assoc ms (marks_in us (set_in s)) (marks_of us (sets_in (drop (i + 1) sets)))
    ∙ ap (λ (x : PubnamesSet). ms ++ marks_of us (sets_in (x ∷ drop (i + 1) sets))) is
    ∙ sym (ap (λ xs. ms ++ marks_of us (sets_in xs)) (drop_more sets i s l))
    ∙ left
