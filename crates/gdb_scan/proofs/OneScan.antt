-- An object has one scan, and the units of its sections are not found for one cause.
use Rattle.std.proofs.Common.{◌≡◌, ℕ, List, cond, Option, Some, None, refl, sym, ap, subst, ◌∙◌}
use Rattle.elf_format.specs.declared.error.ElfError.{ElfError}
use Rattle.elf_format.specs.Class.{Class}
use Rattle.gdb_index_format.specs.declared.placement.Placement.{Placement}
use Rattle.gdb_index_format.specs.declared.unit.CuBoundary.{CuBoundary}
use Rattle.gdb_index_format.specs.Published.{Object}
use Rattle.gdb_index_format.specs.Placed.{has_unit}
use Rattle.gdb_index_format.proofs.ObjectLists.{objects_are_one_lem}
use Rattle.gdb_scan.specs.declared.map_error.MapError.TheVariants.{Elf, NoMemory}
use Rattle.gdb_scan.specs.declared.mark.Mark.{Mark}
use Rattle.gdb_scan.specs.Buckets.{in_buckets}
use Rattle.gdb_scan.specs.Groups.{groups}
use Rattle.gdb_scan.specs.Laws.{HasOneScan, HasOneMapCause}
use Rattle.gdb_scan.specs.Marks.{marks_of}
use Rattle.gdb_scan.specs.PlacedIn.{placed_in}
use Rattle.gdb_scan.specs.Scan.{ObjectScan, IsScanOf, placed_in_scan}

made : (s : ObjectScan) (us : List CuBoundary) (gs : List (List ℕ × List Mark)) (n : ℕ) → s.units ≡ us → s.names ≡ gs → s.placed ≡ n → s ≡ record { units = us; names = gs; placed = n }
made s us gs n p q r =
    ap (λ (xs : List CuBoundary). let t : ObjectScan = record { units = xs; names = s.names; placed = s.placed } in t) p
    ∙ ap (λ (xs : List (List ℕ × List Mark)). let t : ObjectScan = record { units = us; names = xs; placed = s.placed } in t) q
    ∙ ap (λ (m : ℕ). let t : ObjectScan = record { units = us; names = gs; placed = m } in t) r

same_scan : (o : Object) (n : ℕ) (s t : Option ObjectScan) → IsScanOf o s → IsScanOf o t → placed_in_scan s ≡ n → placed_in_scan t ≡ n → s ≡ t
same_scan o n None None p q a b = refl
same_scan o n None (Some t) p q a b = absurd (q.2 p)
same_scan o n (Some s) None p q a b = absurd (p.2 q)
same_scan o n (Some s) (Some t) (us, gs, some) (vs, hs, some') a b =
    ap (λ x. Some x) (made s o.units (in_buckets (groups (marks_of o.units o.sets))) n us gs a ∙ sym (made t o.units (in_buckets (groups (marks_of o.units o.sets))) n vs hs b))

same_object : (c : Class) (file : List ℕ) (object : ℕ) (ps : List Placement) (o p : Object) (n : ℕ) → o ≡ p → n ≡ cond (has_unit p.units) (placed_in c file object ps) 0 → n ≡ cond (has_unit o.units) (placed_in c file object ps) 0
same_object c file object ps o p n same is = is ∙ sym (ap (λ (x : Object). cond (has_unit x.units) (placed_in c file object ps) 0) same)

pub one_scan : HasOneScan
one_scan c file object ps s t left right =
    let same : left.held ≡ right.held = objects_are_one_lem.one_object c file left.held right.held left.is_object right.is_object in
    let other : IsScanOf left.held t = subst (λ (o : Object). IsScanOf o t) (sym same) right.is_scan in
    same_scan left.held (cond (has_unit left.held.units) (placed_in c file object ps) 0) s t left.is_scan other left.placed (same_object c file object ps left.held right.held (placed_in_scan t) same right.placed)

pub one_map_cause : HasOneMapCause
one_map_cause fault (Elf e) (Elf f) p q a b = ap (λ x. Elf x) (same e f fault p q) where
  same : (e f : ElfError) (o : Option ElfError) → o ≡ Some e → o ≡ Some f → e ≡ f
  same e f o p q = cc (p, q)
one_map_cause fault (Elf e) NoMemory p q a b = absurd (b refl)
one_map_cause fault NoMemory f p q a b = absurd (a refl)
