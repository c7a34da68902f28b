-- From what was found to what the definitions ask.
use Rattle.std.proofs.Common.{◌≡◌, ℕ, zero, suc, ◌+◌, ◌-◌, ◌*◌, ◌<◌, ◌^◌, Bool, true, false, not, eqb, ltb, cond, Option, Some, None, Result, Ok, Err, IfOk, IfErr, OnOk, List, [], ◌∷◌, length, refl, sym, ap, subst, ◌∙◌, arith}
use Rattle.std.specs.List.{find, range_with_len}
use Rattle.std.proofs.lemmas.Bool.Decides.{nat_tests}
use Rattle.std.proofs.lemmas.List.Elements.{All-nil, All-cons}
use Rattle.elf_format.specs.declared.index.Span.{Span}
use Rattle.sframe_format.specs.declared.fault.SframeFault.{SframeFault}
use Rattle.sframe_format.specs.declared.fault.SframeFault.TheVariants as faults
use Rattle.sframe_format.specs.declared.fault.TruncatedKind.TheVariants.{FdeArray, FreStart}
use Rattle.sframe_format.specs.declared.fault.LargeKind.TheVariants as kinds
use Rattle.sframe_format.specs.Contribution.{Contribution, Function, header, fdes_start, fres_start, row_offset, read_ones, other_version, functions}
use Rattle.sframe_format.specs.Order.{InOrder}
use Rattle.sframe_format.specs.Valid.{IsWellFormedContribution, AreWellFormedContributions, offset_fault, contribution_fault, first_fault, or_else, HasReadableRanges, IsSortable, MergesInOrder, HasRoom, StartsFit, IsSortCause}
use Rattle.elf_format.specs.Span.{AreInside}
use Rattle.sframe_format.specs.Sorted.{SortOf}
use Rattle.sframe_order.specs.declared.plan.Plan.{Plan}
use Rattle.sframe_order.specs.declared.plan.Plan.TheVariants.{Keep, Write}
use Rattle.sframe_order.specs.steps.Plan.{IsPlan, IsMergePlan, IsMergeFault}
use Rattle.sframe_order.proofs.OneOrder.{InOrder-unique, InOrder-none}

-- ---- contributions

none_from : (p : ℕ → Bool) (a n : ℕ) (b : Bool) → p a ≡ b → cond b (Some a) (find p (range_with_len (a + 1) n)) ≡ None → (find p (range_with_len (a + 1) n) ≡ None → (k : ℕ) → k < n → p (a + 1 + k) ≡ false) → (k : ℕ) → k < suc n → p (a + k) ≡ false
none_from p a n true t e later k b = cc
none_from p a n false t e later zero b = ap p (omega arith) ∙ t
none_from p a n false t e later (suc k) b = ap p (omega arith) ∙ later e k (omega arith)

none_found : (p : ℕ → Bool) (a n : ℕ) → find p (range_with_len a n) ≡ None → (k : ℕ) → k < n → p (a + k) ≡ false
none_found p a zero e k b = absurd (omega arith)
none_found p a (suc n) e k b = none_from p a n (p a) refl e (none_found p (a + 1) n) k b

passed : (x n : ℕ) → not (ltb x n) ≡ false → x < n
passed x n t = grind (arith, nat_tests)

pub sound_from : (c : Contribution) (b1 b2 b3 : Bool) (o : Option ℕ) → not (eqb (header c).magic 0xdee2) ≡ b1 → ltb (length c.bytes) (fdes_start c + 20 * (header c).num_fdes) ≡ b2 → ltb (length c.bytes) (fres_start c) ≡ b3 → find (λ d. not (ltb (row_offset c d) (length c.bytes - fres_start c))) (range_with_len 0 (header c).num_fdes) ≡ o
    → cond b1 (Some (faults.BadMagic (header c).magic c.offset)) (cond b2 (Some (faults.Truncated FdeArray c.offset)) (cond b3 (Some (faults.Truncated FreStart c.offset)) (offset_fault c o))) ≡ None → IsWellFormedContribution c
sound_from c true b2 b3 o t1 t2 t3 t4 e = cc
sound_from c false true b3 o t1 t2 t3 t4 e = cc
sound_from c false false true o t1 t2 t3 t4 e = cc
sound_from c false false false (Some d) t1 t2 t3 t4 e = cc
sound_from c false false false None t1 t2 t3 t4 e = record {
  magic = grind (arith, nat_tests);
  fdes = grind (arith, nat_tests);
  fres = grind (arith, nat_tests);
  offsets = λ d b. passed _ _ (ap (λ k. not (ltb (row_offset c k) (length c.bytes - fres_start c))) (omega arith) ∙ none_found (λ d. not (ltb (row_offset c d) (length c.bytes - fres_start c))) 0 (header c).num_fdes t4 d b);
}

sound_at_none : (c : Contribution) → contribution_fault c ≡ None → IsWellFormedContribution c
sound_at_none c e = sound_from c _ _ _ _ refl refl refl refl e

sound_rest : (c : Contribution) (cs : List Contribution) (o : Option SframeFault) → contribution_fault c ≡ o → or_else o (first_fault cs) ≡ None → (first_fault cs ≡ None → AreWellFormedContributions cs) → AreWellFormedContributions (c ∷ cs)
sound_rest c cs (Some e) t n later = cc
sound_rest c cs None t n later = All-cons IsWellFormedContribution c cs (sound_at_none c t) (later n)

pub sound_from_none : (cs : List Contribution) → first_fault cs ≡ None → AreWellFormedContributions cs
sound_from_none [] e = All-nil IsWellFormedContribution
sound_from_none (c ∷ cs) e = sound_rest c cs (contribution_fault c) refl e (sound_from_none cs)

-- the faults that a contribution may have
abbrev IsOfContribution : SframeFault → Type 0
IsOfContribution (faults.BadMagic value offset) = Unit {0}
IsOfContribution (faults.Truncated kind offset) = Unit {0}
IsOfContribution (faults.BadRange index) = ⊥
IsOfContribution (faults.TooLarge kind needed limit) = ⊥
IsOfContribution (faults.AddressRange index value) = ⊥
IsOfContribution faults.NoMemory = ⊥

abbrev IsOfContributions : Option SframeFault → Type 0
IsOfContributions None = Unit {0}
IsOfContributions (Some e) = IsOfContribution e

offset_kind : (c : Contribution) (o : Option ℕ) → IsOfContributions (offset_fault c o)
offset_kind c None = tt
offset_kind c (Some d) = tt

kind_from : (c : Contribution) (b1 b2 b3 : Bool) (o : Option ℕ) → IsOfContributions (cond b1 (Some (faults.BadMagic (header c).magic c.offset)) (cond b2 (Some (faults.Truncated FdeArray c.offset)) (cond b3 (Some (faults.Truncated FreStart c.offset)) (offset_fault c o))))
kind_from c true b2 b3 o = tt
kind_from c false true b3 o = tt
kind_from c false false true o = tt
kind_from c false false false o = offset_kind c o

either_kind : (o p : Option SframeFault) → IsOfContributions o → IsOfContributions p → IsOfContributions (or_else o p)
either_kind (Some e) p a b = a
either_kind None p a b = b

kind_of_first : (cs : List Contribution) → IsOfContributions (first_fault cs)
kind_of_first [] = tt
kind_of_first (c ∷ cs) = either_kind (contribution_fault c) (first_fault cs) (kind_from c _ _ _ _) (kind_of_first cs)

cause_by : (s : List ℕ) (rs : List Span) (e : SframeFault) → IsOfContribution e → AreInside (length s) rs → length s < 2 ^ 32 → first_fault (read_ones s rs) ≡ Some e → IsSortCause s rs e
cause_by s rs (faults.BadMagic value offset) k inside size e = (inside, size, e)
cause_by s rs (faults.Truncated kind offset) k inside size e = (inside, size, e)
cause_by s rs (faults.BadRange index) k inside size e = absurd k
cause_by s rs (faults.TooLarge kind needed limit) k inside size e = absurd k
cause_by s rs (faults.AddressRange index value) k inside size e = absurd k
cause_by s rs faults.NoMemory k inside size e = absurd k

pub cause_of_first : (s : List ℕ) (rs : List Span) (e : SframeFault) → AreInside (length s) rs → length s < 2 ^ 32 → first_fault (read_ones s rs) ≡ Some e → IsSortCause s rs e
cause_of_first s rs e inside size is = cause_by s rs e (subst IsOfContributions is (kind_of_first (read_ones s rs))) inside size is

-- ---- merging

pub cause_of_merge : (s : List ℕ) (rs : List Span) (e : SframeFault) → HasReadableRanges s rs → other_version s rs ≡ None → IsMergeFault s (read_ones s rs) e → IsSortCause s rs e
cause_of_merge s rs (faults.TooLarge kinds.Merged needed limit) readable one h = (readable, one, h)
cause_of_merge s rs (faults.TooLarge kinds.Rows needed limit) readable one h = (readable, one, h)
cause_of_merge s rs (faults.TooLarge kinds.Section needed limit) readable one h = absurd h
cause_of_merge s rs (faults.AddressRange index value) readable one h = (readable, one, h)
cause_of_merge s rs faults.NoMemory readable one h = tt
cause_of_merge s rs (faults.BadRange index) readable one h = absurd h
cause_of_merge s rs (faults.BadMagic value offset) readable one h = absurd h
cause_of_merge s rs (faults.Truncated kind offset) readable one h = absurd h

pub plan_of_merge : (s : List ℕ) (rs : List Span) (plan : Plan) → other_version s rs ≡ None → IsMergePlan s (read_ones s rs) plan → IsPlan s rs plan
plan_of_merge s rs (Keep outcome) one h = subst (λ o. SortOf s rs s o) (sym h.0) (refl, one, h.1)
plan_of_merge s rs (Write bytes used) one h = (record { c = h.c; cs = h.cs; gs = h.gs; one_version = one; merge = h.merge; bytes_are = h.bytes_are; used_is = h.used_is }, h.len)

-- what is read is merged in one way
pub same_merge : (P : Contribution → List Contribution → List Function → Type 0) (read : List Contribution) (c c' : Contribution) (cs cs' : List Contribution) (gs gs' : List Function) → MergesInOrder read c cs gs → MergesInOrder read c' cs' gs' → P c cs gs → P c' cs' gs'
same_merge P read c c' cs cs' gs gs' a b p =
    let split : c ∷ cs ≡ c' ∷ cs' = sym a.read_is ∙ b.read_is in
    let first : c ≡ c' = cc in
    let others : cs ≡ cs' = cc in
    let order : gs ≡ gs' = InOrder-unique (functions read) gs gs' a.order b.order in
    subst (λ x. P c' cs' x) order (subst (λ x. P c' x gs) others (subst (λ x. P x cs gs) first p))

pub no_merge : (read : List Contribution) (c : Contribution) (cs : List Contribution) (gs : List Function) → functions read ≡ [] → MergesInOrder read c cs gs → ⊥
no_merge read c cs gs none a = absurd (omega (arith, a.some, InOrder-none gs (subst (λ fs. InOrder fs gs) none a.order)))

pub valid_from_plan : (s : List ℕ) (rs : List Span) (plan : Plan) → HasReadableRanges s rs → IsMergePlan s (read_ones s rs) plan → IsSortable s rs
valid_from_plan s rs (Keep outcome) readable h = record {
  readable = readable;
  room = λ one c cs gs m. absurd (no_merge _ c cs gs h.1 m);
  starts = λ one c cs gs m. absurd (no_merge _ c cs gs h.1 m);
}
valid_from_plan s rs (Write bytes used) readable h = record {
  readable = readable;
  room = λ one c cs gs m. same_merge (HasRoom s) _ _ c _ cs _ gs h.merge m h.room;
  starts = λ one c cs gs m. same_merge StartsFit _ _ c _ cs _ gs h.merge m h.starts;
}

pub valid_other : (s : List ℕ) (rs : List Span) (v : ℕ) → HasReadableRanges s rs → other_version s rs ≡ Some v → IsSortable s rs
valid_other s rs v readable other = record {
  readable = readable;
  room = λ one c cs gs m. let e : Some v ≡ None = sym other ∙ one in cc;
  starts = λ one c cs gs m. let e : Some v ≡ None = sym other ∙ one in cc;
}

pub valid_result : (s : List ℕ) (rs : List Span) (read : List Contribution) (r : Result Plan SframeFault) → read ≡ read_ones s rs → HasReadableRanges s rs → IfOk r (IsMergePlan s read) → OnOk r (IsSortable s rs)
valid_result s rs read (Ok plan) e readable h = valid_from_plan s rs plan readable (subst (λ x. IsMergePlan s x plan) e h)
valid_result s rs read (Err f) e readable h = tt

pub cause_result : (s : List ℕ) (rs : List Span) (read : List Contribution) (r : Result Plan SframeFault) → read ≡ read_ones s rs → other_version s rs ≡ None → HasReadableRanges s rs → IfErr r (IsMergeFault s read) → IfErr r (IsSortCause s rs)
cause_result s rs read (Ok plan) e one readable h = tt
cause_result s rs read (Err f) e one readable h = cause_of_merge s rs f readable one (subst (λ x. IsMergeFault s x f) e h)

pub plan_result : (s : List ℕ) (rs : List Span) (read : List Contribution) (r : Result Plan SframeFault) → read ≡ read_ones s rs → other_version s rs ≡ None → IfOk r (IsMergePlan s read) → IfOk r (IsPlan s rs)
plan_result s rs read (Ok plan) e one h = plan_of_merge s rs plan one (subst (λ x. IsMergePlan s x plan) e h)
plan_result s rs read (Err f) e one h = tt
