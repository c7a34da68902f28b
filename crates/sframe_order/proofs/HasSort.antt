-- Every section and ranges have a sort.
use Rattle.std.proofs.Common.{◌≡◌, ℕ, ◌<◌, List, [], ◌∷◌, length, Option, Some, None, refl, sym, ap, ◌∙◌, arith}
use Rattle.elf_format.specs.declared.index.Span.{Span}
use Rattle.sframe_format.specs.declared.fault.SframeOutcome.{SframeOutcome}
use Rattle.sframe_format.specs.declared.fault.SframeOutcome.TheVariants.{Sorted, NoDescriptors, OtherVersion}
use Rattle.sframe_format.specs.Contribution.{Contribution, Function, read_ones, other_version, functions}
use Rattle.sframe_format.specs.Merged.{merged, used_len}
use Rattle.sframe_format.specs.Sorted.{SortOf, IsMerged}
use Rattle.sframe_order.proofs.Ordered.{order, merge_of_order}

merged_by_order : (s : List ℕ) (rs : List Span) (c : Contribution) (cs : List Contribution) → other_version s rs ≡ None → read_ones s rs ≡ c ∷ cs → 0 < length (functions (read_ones s rs)) → IsMerged s rs (merged s c cs (order (functions (read_ones s rs)))) (used_len c (order (functions (read_ones s rs))))
merged_by_order s rs c cs one split some = record { c = c; cs = cs; gs = order (functions (read_ones s rs)); one_version = one; merge = merge_of_order (read_ones s rs) c cs split some; bytes_are = refl; used_is = refl }

by_case : (s : List ℕ) (rs : List Span) (v : Option ℕ) (fs : List Function) (read : List Contribution) → other_version s rs ≡ v → functions (read_ones s rs) ≡ fs → read_ones s rs ≡ read → (bytes : List ℕ) × (outcome : SframeOutcome) × SortOf s rs bytes outcome
by_case s rs (Some v) fs read p q r = (s, OtherVersion v, (refl, p))
by_case s rs None [] read p q r = (s, NoDescriptors, (refl, p, q))
by_case s rs None (f ∷ fs) [] p q r = let e : [] ≡ f ∷ fs = sym (ap functions r) ∙ q in cc
by_case s rs None (f ∷ fs) (c ∷ cs) p q r = (merged s c cs (order (functions (read_ones s rs))), Sorted (used_len c (order (functions (read_ones s rs)))), merged_by_order s rs c cs p r (omega (arith, ap length q)))

pub has_sort : (s : List ℕ) (rs : List Span) → (bytes : List ℕ) × (outcome : SframeOutcome) × SortOf s rs bytes outcome
has_sort s rs = by_case s rs _ _ _ refl refl refl
