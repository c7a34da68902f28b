-- Two worked examples, computed: the merged bytes, and that sorting them again keeps them.
use Rattle.std.specs.Prelude.{◌≡◌, ℕ, pos, List, [], ◌∷◌, refl, None}
use Rattle.elf_format.specs.declared.index.Span.{Span}
use Rattle.sframe_format.specs.Contribution.{Contribution, Function, read_ones, other_version, functions}
use Rattle.elf_format.specs.Bytes.{le}
use Rattle.sframe_format.specs.Merged.{merged}
use Rattle.sframe_format.specs.Valid.{first_fault}

abbrev pub two : List ℕ
two = 226 ∷ 222 ∷ 2 ∷ 0 ∷ 3 ∷ 0 ∷ 248 ∷ 0 ∷ 1 ∷ 0 ∷ 0 ∷ 0 ∷ 1 ∷ 0 ∷ 0 ∷ 0 ∷ 3 ∷ 0 ∷ 0 ∷ 0 ∷ 0 ∷ 0 ∷ 0 ∷ 0 ∷ 20 ∷ 0 ∷ 0 ∷ 0 ∷ 100 ∷ 0 ∷ 0 ∷ 0 ∷ 16 ∷ 0 ∷ 0 ∷ 0 ∷ 0 ∷ 0 ∷ 0 ∷ 0 ∷ 1 ∷ 0 ∷ 0 ∷ 0 ∷ 0 ∷ 0 ∷ 0 ∷ 0 ∷ 161 ∷ 162 ∷ 163 ∷ 226 ∷ 222 ∷ 2 ∷ 0 ∷ 3 ∷ 0 ∷ 248 ∷ 0 ∷ 1 ∷ 0 ∷ 0 ∷ 0 ∷ 1 ∷ 0 ∷ 0 ∷ 0 ∷ 3 ∷ 0 ∷ 0 ∷ 0 ∷ 0 ∷ 0 ∷ 0 ∷ 0 ∷ 20 ∷ 0 ∷ 0 ∷ 0 ∷ 50 ∷ 0 ∷ 0 ∷ 0 ∷ 16 ∷ 0 ∷ 0 ∷ 0 ∷ 0 ∷ 0 ∷ 0 ∷ 0 ∷ 1 ∷ 0 ∷ 0 ∷ 0 ∷ 0 ∷ 0 ∷ 0 ∷ 0 ∷ 177 ∷ 178 ∷ 179 ∷ []

abbrev pub two_merged : List ℕ
two_merged = 226 ∷ 222 ∷ 2 ∷ 1 ∷ 3 ∷ 0 ∷ 248 ∷ 0 ∷ 2 ∷ 0 ∷ 0 ∷ 0 ∷ 2 ∷ 0 ∷ 0 ∷ 0 ∷ 6 ∷ 0 ∷ 0 ∷ 0 ∷ 0 ∷ 0 ∷ 0 ∷ 0 ∷ 40 ∷ 0 ∷ 0 ∷ 0 ∷ 50 ∷ 0 ∷ 0 ∷ 0 ∷ 16 ∷ 0 ∷ 0 ∷ 0 ∷ 0 ∷ 0 ∷ 0 ∷ 0 ∷ 1 ∷ 0 ∷ 0 ∷ 0 ∷ 0 ∷ 0 ∷ 0 ∷ 0 ∷ 100 ∷ 0 ∷ 0 ∷ 0 ∷ 16 ∷ 0 ∷ 0 ∷ 0 ∷ 3 ∷ 0 ∷ 0 ∷ 0 ∷ 1 ∷ 0 ∷ 0 ∷ 0 ∷ 0 ∷ 0 ∷ 0 ∷ 0 ∷ 177 ∷ 178 ∷ 179 ∷ 161 ∷ 162 ∷ 163 ∷ 0 ∷ 0 ∷ 0 ∷ 0 ∷ 0 ∷ 0 ∷ 0 ∷ 0 ∷ 0 ∷ 0 ∷ 0 ∷ 0 ∷ 0 ∷ 0 ∷ 0 ∷ 0 ∷ 0 ∷ 0 ∷ 0 ∷ 0 ∷ 0 ∷ 0 ∷ 0 ∷ 0 ∷ 0 ∷ 0 ∷ 0 ∷ 0 ∷ []

abbrev pub mixed : List ℕ
mixed = 226 ∷ 222 ∷ 2 ∷ 4 ∷ 3 ∷ 0 ∷ 248 ∷ 0 ∷ 1 ∷ 0 ∷ 0 ∷ 0 ∷ 1 ∷ 0 ∷ 0 ∷ 0 ∷ 3 ∷ 0 ∷ 0 ∷ 0 ∷ 0 ∷ 0 ∷ 0 ∷ 0 ∷ 20 ∷ 0 ∷ 0 ∷ 0 ∷ 100 ∷ 0 ∷ 0 ∷ 0 ∷ 16 ∷ 0 ∷ 0 ∷ 0 ∷ 0 ∷ 0 ∷ 0 ∷ 0 ∷ 1 ∷ 0 ∷ 0 ∷ 0 ∷ 0 ∷ 0 ∷ 0 ∷ 0 ∷ 161 ∷ 162 ∷ 163 ∷ 226 ∷ 222 ∷ 2 ∷ 0 ∷ 3 ∷ 0 ∷ 248 ∷ 0 ∷ 1 ∷ 0 ∷ 0 ∷ 0 ∷ 1 ∷ 0 ∷ 0 ∷ 0 ∷ 3 ∷ 0 ∷ 0 ∷ 0 ∷ 0 ∷ 0 ∷ 0 ∷ 0 ∷ 20 ∷ 0 ∷ 0 ∷ 0 ∷ 50 ∷ 0 ∷ 0 ∷ 0 ∷ 16 ∷ 0 ∷ 0 ∷ 0 ∷ 0 ∷ 0 ∷ 0 ∷ 0 ∷ 1 ∷ 0 ∷ 0 ∷ 0 ∷ 0 ∷ 0 ∷ 0 ∷ 0 ∷ 177 ∷ 178 ∷ 179 ∷ []

abbrev pub mixed_merged : List ℕ
mixed_merged = 226 ∷ 222 ∷ 2 ∷ 5 ∷ 3 ∷ 0 ∷ 248 ∷ 0 ∷ 2 ∷ 0 ∷ 0 ∷ 0 ∷ 2 ∷ 0 ∷ 0 ∷ 0 ∷ 6 ∷ 0 ∷ 0 ∷ 0 ∷ 0 ∷ 0 ∷ 0 ∷ 0 ∷ 40 ∷ 0 ∷ 0 ∷ 0 ∷ 22 ∷ 0 ∷ 0 ∷ 0 ∷ 16 ∷ 0 ∷ 0 ∷ 0 ∷ 0 ∷ 0 ∷ 0 ∷ 0 ∷ 1 ∷ 0 ∷ 0 ∷ 0 ∷ 0 ∷ 0 ∷ 0 ∷ 0 ∷ 80 ∷ 0 ∷ 0 ∷ 0 ∷ 16 ∷ 0 ∷ 0 ∷ 0 ∷ 3 ∷ 0 ∷ 0 ∷ 0 ∷ 1 ∷ 0 ∷ 0 ∷ 0 ∷ 0 ∷ 0 ∷ 0 ∷ 0 ∷ 177 ∷ 178 ∷ 179 ∷ 161 ∷ 162 ∷ 163 ∷ 0 ∷ 0 ∷ 0 ∷ 0 ∷ 0 ∷ 0 ∷ 0 ∷ 0 ∷ 0 ∷ 0 ∷ 0 ∷ 0 ∷ 0 ∷ 0 ∷ 0 ∷ 0 ∷ 0 ∷ 0 ∷ 0 ∷ 0 ∷ 0 ∷ 0 ∷ 0 ∷ 0 ∷ 0 ∷ 0 ∷ 0 ∷ 0 ∷ []

abbrev pub ranges : List Span
ranges = record { start = 0; stop = 51 } ∷ record { start = 51; stop = 102 } ∷ []

abbrev pub reversed : List Function → List Function
reversed (f ∷ g ∷ []) = g ∷ f ∷ []
reversed fs = fs

abbrev pub merged_by : List ℕ → List Contribution → List Function → List ℕ
merged_by s [] gs = []
merged_by s (c ∷ cs) gs = merged s c cs gs

abbrev pub sorted_two : List ℕ
sorted_two = merged_by two (read_ones two ranges) (reversed (functions (read_ones two ranges)))

pub two_starts : functions (read_ones two ranges) ≡ (record { start = pos 100; size = 16 ∷ 0 ∷ 0 ∷ 0 ∷ []; info = 1 ∷ 0 ∷ 0 ∷ 0 ∷ 0 ∷ 0 ∷ 0 ∷ 0 ∷ []; fres = 161 ∷ 162 ∷ 163 ∷ [] } ∷ record { start = pos 50; size = 16 ∷ 0 ∷ 0 ∷ 0 ∷ []; info = 1 ∷ 0 ∷ 0 ∷ 0 ∷ 0 ∷ 0 ∷ 0 ∷ 0 ∷ []; fres = 177 ∷ 178 ∷ 179 ∷ [] } ∷ [])
unfolding le
two_starts = refl

pub two_sound : first_fault (read_ones two ranges) ≡ None
unfolding le
two_sound = refl

pub two_same : other_version two ranges ≡ None
unfolding le
two_same = refl

pub two_sorted : sorted_two ≡ two_merged
unfolding le
two_sorted = refl

pub two_again : merged_by two_merged (read_ones two_merged (record { start = 0; stop = 74 } ∷ [])) (functions (read_ones two_merged (record { start = 0; stop = 74 } ∷ []))) ≡ two_merged
unfolding le
two_again = refl

pub mixed_sorted : merged_by mixed (read_ones mixed ranges) (reversed (functions (read_ones mixed ranges))) ≡ mixed_merged
unfolding le
mixed_sorted = refl

pub mixed_again : merged_by mixed_merged (read_ones mixed_merged (record { start = 0; stop = 74 } ∷ [])) (functions (read_ones mixed_merged (record { start = 0; stop = 74 } ∷ []))) ≡ mixed_merged
unfolding le
mixed_again = refl
