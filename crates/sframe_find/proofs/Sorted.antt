-- The used bytes of a sorted section can be searched.
use Rattle.std.proofs.Common.{◌≡◌, ℕ, ℤ, pos, ◌+ℤ◌, ◌+◌, ◌≤ℤ◌, Bool, true, false, cond, not, eqb, List, take, Option, Some, None, refl, sym, ap, subst, ◌∙◌, arith}
use Rattle.std.proofs.lemmas.Bool.Decides.{nat_tests}
use Rattle.std.proofs.lemmas.Int.{ints}
use Rattle.sframe_format.specs.declared.fault.SframeFault.{SframeFault}
use Rattle.sframe_format.specs.Contribution.{Contribution, Function, header, contribution_at, functions_of}
use Rattle.sframe_format.specs.Order.{InOrder}
use Rattle.sframe_format.specs.Valid.{contribution_fault}
use Rattle.sframe_order.specs.Laws.{used_span, IsSortedContribution}
use Rattle.sframe_find.specs.Frames.{section_functions}
use Rattle.sframe_find.specs.Ordered.{HasHeader, AddressesAscend, IsOrdered}
use Rattle.sframe_find.proofs.Whole.{one, whole_fault, whole_functions}

-- without a fault, the magic is right
magic_from : (m : ℕ) (b : Bool) (e : SframeFault) (o : Option SframeFault) → not (eqb m 0xdee2) ≡ b → cond b (Some e) o ≡ None → m ≡ 0xdee2
magic_from m true e o t none = cc
magic_from m false e o t none = grind (arith, nat_tests)

pub magic_is : (c : Contribution) → contribution_fault c ≡ None → (header c).magic ≡ 0xdee2
magic_is c none = magic_from (header c).magic _ _ _ refl none

used_is : (t : List ℕ) (used : ℕ) → contribution_at t (used_span used) ≡ one (take used t)
used_is t used = ap (λ n. record { offset = 0; bytes = take n t }) (omega arith)

less : (a b base : ℤ) → a ≤ℤ b → (base +ℤ a) ≤ℤ (base +ℤ b)
less a b base h = omega (arith, ints)

pub sorted_ordered : (fs : List Function) (t : List ℕ) (used base : ℕ) → IsSortedContribution fs (contribution_at t (used_span used)) → IsOrdered (take used t) base × InOrder fs (section_functions (take used t))
sorted_ordered fs t used base sorted =
    let u : List ℕ = take used t in
    let at : IsSortedContribution fs (one u) = subst (IsSortedContribution fs) (used_is t used) sorted in
    let has : HasHeader u = record { long = at.long; parsed = (refl, magic_is (one u) at.fault, at.version) } in
    let same : section_functions u ≡ functions_of (one u) = whole_functions u has in
    let up : AddressesAscend base (functions_of (one u)) = λ j d below. less _ _ (pos base) (at.order.ascending j (j + 1) d (omega arith) below) in
    (record { header = has; flag = at.flag; fault = whole_fault u has ∙ at.fault; ascends = subst (AddressesAscend base) (sym same) up }, subst (InOrder fs) (sym same) at.order)
