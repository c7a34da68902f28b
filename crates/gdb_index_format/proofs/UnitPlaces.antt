-- Units end to end begin at running sums of their lengths.
use Rattle.std.proofs.Common.{◌≡◌, ℕ, zero, suc, ◌+◌, ◌<◌, List, [], ◌∷◌, length, map, take, get_or, refl, ap, ◌∙◌, arith}
use Rattle.std.proofs.lemmas.List.Sums.{sum_by-cons}
use Rattle.gdb_index_format.specs.declared.unit.CuBoundary.{CuBoundary}
use Rattle.gdb_index_format.specs.Units.{total_length}
use Rattle.gdb_index_format.specs.Published.{end_to_end, units_in_lists, UnitsOfAllRun}

pub offset_at : (us : List CuBoundary) (at k : ℕ) (d : CuBoundary) → k < length (end_to_end at us) → (get_or (end_to_end at us) k d).offset ≡ at + total_length (take k (end_to_end at us))
offset_at [] at k d l = absurd (omega arith)
offset_at (u ∷ us) at zero d l = omega arith
offset_at (u ∷ us) at (suc k) d l =
    offset_at us (at + u.length) k d (omega arith)
    ∙ omega (arith, sum_by-cons (λ (x : CuBoundary). x.length) (record { offset = at; length = u.length }) (take k (end_to_end (at + u.length) us)))

pub same_lengths : (us : List CuBoundary) (at : ℕ) → map (λ (u : CuBoundary). u.length) (end_to_end at us) ≡ map (λ (u : CuBoundary). u.length) us
same_lengths [] at = refl
same_lengths (u ∷ us) at = ap (λ ns. u.length ∷ ns) (same_lengths us (at + u.length))

pub units_of_all_run_lem : UnitsOfAllRun
units_of_all_run_lem = record {
  offsets = λ uss k d l. offset_at (units_in_lists uss) 0 k d l ∙ omega arith;
  lengths = λ uss. same_lengths (units_in_lists uss) 0;
}
