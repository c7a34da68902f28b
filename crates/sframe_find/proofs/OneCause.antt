-- A section has one cause of a refusal, and none where it can be searched; the used bytes of a sorted section can be.
use Rattle.std.proofs.Common.{◌≡◌, ◌⊎◌, ℕ, ℤ, pos, ◌+◌, ◌-◌, ◌<◌, ◌≤ℤ◌, ◌<ℤ◌, Bool, true, false, List, [], get_or, Err, Option, Some, None, inl, inr, refl, sym, ap, subst, ◌∙◌, arith}
use Rattle.std.proofs.lemmas.Bool.{cases_order}
use Rattle.std.proofs.lemmas.Int.{ints}
use Rattle.sframe_format.specs.declared.fault.SframeFault.{SframeFault}
use Rattle.sframe_format.specs.declared.fault.SframeFault.TheVariants as sort
use Rattle.sframe_format.specs.declared.fault.TruncatedKind.{TruncatedKind}
use Rattle.sframe_format.specs.declared.header.SframeError.{SframeError}
use Rattle.sframe_format.specs.declared.header.SframeError.TheVariants.{BadMagicBytes, UnsupportedVersion}
use Rattle.sframe_format.specs.Contribution.{Function}
use Rattle.sframe_format.specs.Fields.{header_of, IsParsedHeader}
use Rattle.sframe_find.specs.declared.fault.FindFault.{FindFault}
use Rattle.sframe_find.specs.declared.fault.FindFault.TheVariants as faults
use Rattle.sframe_find.specs.Frames.{section_functions, function_address}
use Rattle.sframe_find.specs.Ordered.{HasHeader, IsFirstDescent, IsOrdered, IsFindCause}

no_header : (s : List ℕ) (e : SframeError) → HasHeader s → IsParsedHeader (header_of s) (Err e) → ⊥
no_header s (BadMagicBytes v) has bad = bad.1 has.parsed.1
no_header s (UnsupportedVersion v) has bad = bad.2 has.parsed.2

same_error : (s : List ℕ) (e f : SframeError) → IsParsedHeader (header_of s) (Err e) → IsParsedHeader (header_of s) (Err f) → e ≡ f
same_error s (BadMagicBytes v) (BadMagicBytes w) a b = ap (λ n. BadMagicBytes n) (a.0 ∙ sym b.0)
same_error s (BadMagicBytes v) (UnsupportedVersion w) a b = absurd (a.1 b.1)
same_error s (UnsupportedVersion v) (BadMagicBytes w) a b = absurd (b.1 a.1)
same_error s (UnsupportedVersion v) (UnsupportedVersion w) a b = ap (λ n. UnsupportedVersion n) (a.0 ∙ sym b.0)

not_both : {X : Type 0} (b : Bool) → b ≡ true → b ≡ false → X
not_both b p q = cc

no_fault : {X : Type 0} (o : Option SframeFault) (e : SframeFault) → o ≡ None → o ≡ Some e → X
no_fault o e p q = cc

same_truncated : (o : Option SframeFault) (kind kind' : TruncatedKind) (offset offset' : ℕ) → o ≡ Some (sort.Truncated kind offset) → o ≡ Some (sort.Truncated kind' offset') → faults.Truncated kind offset ≡ faults.Truncated kind' offset'
same_truncated o kind kind' offset offset' p q = cc

apart : (x y : ℤ) → x <ℤ y → y ≤ℤ x → ⊥
apart x y p q = omega (arith, ints)

no_function : Function
no_function = record { start = pos 0; size = []; info = []; fres = [] }

-- addresses that ascend up to index k do not descend there
no_descent : (base : ℕ) (fs : List Function) (k : ℕ) → IsFirstDescent base fs k → ((j : ℕ) (d : Function) → j + 1 ≡ k → function_address base (get_or fs j d) ≤ℤ function_address base (get_or fs (j + 1) d)) → ⊥
no_descent base fs k first up =
    let e : k - 1 + 1 ≡ k = omega (arith, first.follows) in
    let h : function_address base (get_or fs (k - 1) no_function) ≤ℤ function_address base (get_or fs (k - 1 + 1) no_function) = up (k - 1) no_function e in
    apart _ _ (first.below no_function) (subst (λ n. function_address base (get_or fs (k - 1) no_function) ≤ℤ function_address base (get_or fs n no_function)) e h)

same_descent : (base : ℕ) (fs : List Function) (k l : ℕ) → IsFirstDescent base fs k → IsFirstDescent base fs l → k ≡ l
same_descent base fs k l a b = at (cases_order k l)
  where
    at : (k ≡ l) ⊎ ((k < l) ⊎ (l < k)) → k ≡ l
    at (inl e) = e
    at (inr (inl less)) = absurd (no_descent base fs k a (λ j d e. b.before j d (omega arith)))
    at (inr (inr less)) = absurd (no_descent base fs l b (λ j d e. a.before j d (omega arith)))

pub one_cause : (s : List ℕ) (base : ℕ) (e f : FindFault) → IsFindCause s base e → IsFindCause s base f → e ≡ f
one_cause s base faults.Short faults.Short a b = refl
one_cause s base faults.Short (faults.Header y) a b = absurd (omega (arith, a, b.0))
one_cause s base faults.Short faults.NotSorted a b = absurd (omega (arith, a, b.0.long))
one_cause s base faults.Short (faults.Truncated l n) a b = absurd (omega (arith, a, b.0.long))
one_cause s base faults.Short (faults.NotAscending l) a b = absurd (omega (arith, a, b.0.long))
one_cause s base (faults.Header x) faults.Short a b = absurd (omega (arith, b, a.0))
one_cause s base (faults.Header x) (faults.Header y) a b = ap (λ e. faults.Header e) (same_error s x y a.1 b.1)
one_cause s base (faults.Header x) faults.NotSorted a b = absurd (no_header s x b.0 a.1)
one_cause s base (faults.Header x) (faults.Truncated l n) a b = absurd (no_header s x b.0 a.1)
one_cause s base (faults.Header x) (faults.NotAscending l) a b = absurd (no_header s x b.0 a.1)
one_cause s base faults.NotSorted faults.Short a b = absurd (omega (arith, b, a.0.long))
one_cause s base faults.NotSorted (faults.Header y) a b = absurd (no_header s y a.0 b.1)
one_cause s base faults.NotSorted faults.NotSorted a b = refl
one_cause s base faults.NotSorted (faults.Truncated l n) a b = not_both _ b.1 a.1
one_cause s base faults.NotSorted (faults.NotAscending l) a b = not_both _ b.1 a.1
one_cause s base (faults.Truncated k m) faults.Short a b = absurd (omega (arith, b, a.0.long))
one_cause s base (faults.Truncated k m) (faults.Header y) a b = absurd (no_header s y a.0 b.1)
one_cause s base (faults.Truncated k m) faults.NotSorted a b = not_both _ a.1 b.1
one_cause s base (faults.Truncated k m) (faults.Truncated l n) a b = same_truncated _ k l m n a.2 b.2
one_cause s base (faults.Truncated k m) (faults.NotAscending l) a b = no_fault _ _ b.2 a.2
one_cause s base (faults.NotAscending k) faults.Short a b = absurd (omega (arith, b, a.0.long))
one_cause s base (faults.NotAscending k) (faults.Header y) a b = absurd (no_header s y a.0 b.1)
one_cause s base (faults.NotAscending k) faults.NotSorted a b = not_both _ a.1 b.1
one_cause s base (faults.NotAscending k) (faults.Truncated l n) a b = no_fault _ _ a.2 b.2
one_cause s base (faults.NotAscending k) (faults.NotAscending l) a b = ap (λ n. faults.NotAscending n) (same_descent base (section_functions s) k l a.3 b.3)

pub no_cause : (s : List ℕ) (base : ℕ) (e : FindFault) → IsOrdered s base → IsFindCause s base e → ⊥
no_cause s base faults.Short ordered b = omega (arith, b, ordered.header.long)
no_cause s base (faults.Header y) ordered b = no_header s y ordered.header b.1
no_cause s base faults.NotSorted ordered b = not_both _ ordered.flag b.1
no_cause s base (faults.Truncated l n) ordered b = no_fault _ _ ordered.fault b.2
no_cause s base (faults.NotAscending l) ordered b = no_descent base (section_functions s) l b.3 (λ j d e. ordered.ascends j d (omega (arith, e, b.3.within)))
