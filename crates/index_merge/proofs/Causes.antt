-- Two indexes have one joined CU vector for a name, one merged size, and one cause for which they are not merged.
use Rattle.std.proofs.Common.{◌≡◌, ◌≢◌, ℕ, cond, List, [], ◌∷◌, map, Option, Some, None, refl, sym, ap, subst, ◌∙◌, arith, inl, inr}
use Rattle.std.specs.Prelude.{◌⊎◌}
use Rattle.std.specs.Str.{bytes_eq}
use Rattle.std.specs.List.{filter}
use Rattle.std.specs.List.Sorted.{IsPermutation}
use Rattle.std.proofs.lemmas.Slice.Eq.{bytes_eq-Decides}
use Rattle.gdb_index_format.specs.Named.{Named}
use Rattle.gdb_index_format.specs.Published.{Pair, elements_in_order, IsVectorOf, VectorsAreOne}
use Rattle.gdb_index_format.specs.Size.{IsSize, SizesAreOne}
use Rattle.index_browser.specs.Laws.{NameListsAreOne}
use Rattle.index_merge.specs.declared.error.MergeError.{MergeError}
use Rattle.index_merge.specs.declared.error.MergeError.TheVariants.{OffsetTooLarge, TooManyUnits, IndexTooLarge, NoMemory}
use Rattle.index_merge.specs.Cause.{IsIndexMergeCause, IsMergeMemory}
use Rattle.index_merge.specs.Joined.{elements_of_both, IsJoinedVector}
use Rattle.index_merge.specs.Laws.{JoinedVectorsAreOne, MergedSizesAreOne, MergeCausesAreOne, MergeableHasNoCause}
use Rattle.index_merge.specs.Merged.{merged_counts, IsMergeable}

-- ---- one vector

abbrev of_name : List ℕ → List ℕ → List Pair
of_name name xs = map (λ w. record { name = name; word = w }) xs

in_order_of : (name xs : List ℕ) → elements_in_order name (of_name name xs) ≡ xs
in_order_of name [] = refl
in_order_of name (x ∷ xs) =
    let one : Pair = record { name = name; word = x } in
    ap (λ t. map (λ (p : Pair). p.word) (cond t (one ∷ filter (λ (p : Pair). bytes_eq p.name name) (of_name name xs)) (filter (λ (p : Pair). bytes_eq p.name name) (of_name name xs)))) ((bytes_eq-Decides name name).1 refl)
    ∙ ap (λ ws. x ∷ ws) (in_order_of name xs)

as_vector : (first second name ws : List ℕ) → IsJoinedVector first second name ws → IsVectorOf name (of_name name (elements_of_both first second name)) ws
as_vector first second name ws v = record { same = subst (λ xs. IsPermutation xs ws) (sym (in_order_of name (elements_of_both first second name))) v.same; ascending = v.ascending }

pub one_vector : VectorsAreOne → JoinedVectorsAreOne
one_vector one first second name vs ws v w = one name (of_name name (elements_of_both first second name)) vs ws (as_vector first second name vs v) (as_vector first second name ws w)

-- ---- one size

pub one_merged_size : NameListsAreOne → SizesAreOne → MergedSizesAreOne
one_merged_size lists sizes version first second s t a b =
    let names : b.names ≡ a.names = lists first b.names a.names b.listed a.listed in
    let others : b.second_names ≡ a.second_names = lists second b.second_names a.second_names b.second_listed a.second_listed in
    sizes.one_size version (merged_counts first second a.names a.second_names) s t a.size_is
    (subst (λ (ms : List Named). IsSize version (merged_counts first second a.names ms) t) others
    (subst (λ (ns : List Named). IsSize version (merged_counts first second ns b.second_names) t) names b.size_is))

-- ---- one cause

no_number : (o : Option ℕ) (k : ℕ) → o ≡ Some k → o ≡ None → ⊥
no_number o k some none = cc

same_number : (o : Option ℕ) (j k : ℕ) → o ≡ Some j → o ≡ Some k → j ≡ k
same_number o j k p q = cc

pub one_cause : MergedSizesAreOne → MergeCausesAreOne
one_cause sizes version first second offset (OffsetTooLarge j) (OffsetTooLarge k) p q some other = ap (λ n. OffsetTooLarge n) (same_number _ j k p q)
one_cause sizes version first second offset (OffsetTooLarge j) (TooManyUnits n) p q some other = absurd (no_number _ j p q.0)
one_cause sizes version first second offset (OffsetTooLarge j) (IndexTooLarge n) p q some other = absurd (no_number _ j p q.0)
one_cause sizes version first second offset (TooManyUnits n) (OffsetTooLarge k) p q some other = absurd (no_number _ k q p.0)
one_cause sizes version first second offset (TooManyUnits n) (TooManyUnits k) p q some other = ap (λ x. TooManyUnits x) (p.1 ∙ sym q.1)
one_cause sizes version first second offset (TooManyUnits n) (IndexTooLarge k) p q some other = absurd (omega (arith, p.1, p.2, q.1))
one_cause sizes version first second offset (IndexTooLarge n) (OffsetTooLarge k) p q some other = absurd (no_number _ k q p.0)
one_cause sizes version first second offset (IndexTooLarge n) (TooManyUnits k) p q some other = absurd (omega (arith, q.1, q.2, p.1))
one_cause sizes version first second offset (IndexTooLarge n) (IndexTooLarge k) p q some other = ap (λ x. IndexTooLarge x) (sizes version first second n k p.2 q.2)
one_cause sizes version first second offset (OffsetTooLarge j) NoMemory p q some other = absurd (other refl)
one_cause sizes version first second offset (TooManyUnits n) NoMemory p q some other = absurd (other refl)
one_cause sizes version first second offset (IndexTooLarge n) NoMemory p q some other = absurd (other refl)
one_cause sizes version first second offset NoMemory f p q some other = absurd (some refl)

pub no_cause : MergedSizesAreOne → MergeableHasNoCause
no_cause sizes version first second offset (OffsetTooLarge k) m p = absurd (no_number _ k p m.near)
no_cause sizes version first second offset (TooManyUnits n) m p = absurd (omega (arith, m.few, p.1, p.2))
no_cause sizes version first second offset (IndexTooLarge n) m p = absurd (omega (arith, sizes version first second n m.size p.2 m.size_is, p.3, m.fits))
no_cause sizes version first second offset NoMemory m p = refl

-- what is told of a refusal
pub told : MergedSizesAreOne → (version : ℕ) (first second : List ℕ) (offset : ℕ) (f e : MergeError) → IsIndexMergeCause version first second offset f → IsIndexMergeCause version first second offset e → e ≢ NoMemory → (f ≡ e) ⊎ (f ≡ NoMemory)
told sizes version first second offset (OffsetTooLarge k) e p q some = inl (one_cause sizes version first second offset (OffsetTooLarge k) e p q (λ is. cc) some)
told sizes version first second offset (TooManyUnits n) e p q some = inl (one_cause sizes version first second offset (TooManyUnits n) e p q (λ is. cc) some)
told sizes version first second offset (IndexTooLarge n) e p q some = inl (one_cause sizes version first second offset (IndexTooLarge n) e p q (λ is. cc) some)
told sizes version first second offset NoMemory e p q some = inr refl

pub only_memory : MergedSizesAreOne → (version : ℕ) (first second : List ℕ) (offset : ℕ) (e : MergeError) → IsMergeable version first second offset → IsIndexMergeCause version first second offset e → IsMergeMemory e
only_memory sizes version first second offset e m p = subst IsMergeMemory (sym (no_cause sizes version first second offset e m p)) tt
