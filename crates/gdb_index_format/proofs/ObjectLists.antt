-- Objects hold one list of units and one list of sets each.
use Rattle.std.proofs.Common.{◌≡◌, ℕ, List, [], ◌∷◌, ◌++◌, Option, Some, refl, sym, ap, subst, ◌∙◌}
use Rattle.elf_format.specs.Class.{Class}
use Rattle.elf_format.specs.Section.{section_bytes}
use Rattle.gdb_index_format.specs.declared.unit.CuBoundary.{CuBoundary}
use Rattle.gdb_index_format.specs.Units.{IsUnitList}
use Rattle.gdb_index_format.specs.Names.{NameSet, IsSetList}
use Rattle.gdb_index_format.specs.Published.{Object, unit_lists}
use Rattle.gdb_index_format.specs.Objects.{pubnames_sections, info_bytes, AreUnitsIn, AreSetsIn, AreSetsOfSections, AreSetsBeside, AreUnitsOf, IsObjectOf, AreObjectsOf, class_in, ClassIsTheNamed, ObjectsAreOne}
use Rattle.gdb_index_format.proofs.UnitLists.{one_list}
use Rattle.gdb_index_format.proofs.SetLists.{one_set_list}

pub class_is_the_named : ClassIsTheNamed
unfolding class_in
class_is_the_named c file e = rw e refl

same_bytes : (x y : List ℕ) → Some x ≡ Some y → x ≡ y
same_bytes x y e = cc

pub one_units : (held : Option (List ℕ)) (us vs : List CuBoundary) → AreUnitsIn held us → AreUnitsIn held vs → us ≡ vs
one_units held us vs p q = one_list q.bytes us vs (subst (λ b. IsUnitList b us) (same_bytes p.bytes q.bytes (sym p.there ∙ q.there)) p.list) q.list

one_sets_in : (held : Option (List ℕ)) (ss ts : List NameSet) → AreSetsIn held ss → AreSetsIn held ts → ss ≡ ts
one_sets_in held ss ts p q = one_set_list q.bytes ss ts (subst (λ b. IsSetList b ss) (same_bytes p.bytes q.bytes (sym p.there ∙ q.there)) p.list) q.list

one_sets : (c : Class) (file : List ℕ) (sections : List (ℕ × List ℕ)) (ss ts : List NameSet) → AreSetsOfSections c file sections ss → AreSetsOfSections c file sections ts → ss ≡ ts
one_sets c file [] ss ts p q = p ∙ sym q
one_sets c file (s ∷ more) ss ts (front, rest, is, here, others) (front', rest', is', here', others') =
    is ∙ ap (λ x. x ++ rest) (one_sets_in (section_bytes c file s.1) front front' here here') ∙ ap (λ x. front' ++ x) (one_sets c file more rest rest' others others') ∙ sym is'

one_sets_beside : (c : Class) (file : List ℕ) (us : List CuBoundary) (ss ts : List NameSet) → AreSetsBeside c file us ss → AreSetsBeside c file us ts → ss ≡ ts
one_sets_beside c file [] ss ts p q = p ∙ sym q
one_sets_beside c file (u ∷ us) ss ts p q = one_sets c file (pubnames_sections c file) ss ts p q

same_object : (o p : Object) → o.units ≡ p.units → o.sets ≡ p.sets → o ≡ p
same_object o p us ss = ap (λ (x : List CuBoundary). record { units = x; sets = o.sets }) us ∙ ap (λ (x : List NameSet). record { units = p.units; sets = x }) ss

one_object : (c : Class) (file : List ℕ) (o p : Object) → IsObjectOf c file o → IsObjectOf c file p → o ≡ p
one_object c file o p a b =
    let us : o.units ≡ p.units = one_units (info_bytes c file) o.units p.units a.units b.units in
    same_object o p us (one_sets_beside c file p.units o.sets p.sets (subst (λ (x : List CuBoundary). AreSetsBeside c file x o.sets) us a.sets) b.sets)

one_list_of_objects : (files : List (List ℕ)) (os ps : List Object) → AreObjectsOf files os → AreObjectsOf files ps → os ≡ ps
one_list_of_objects [] [] [] p q = refl
one_list_of_objects [] [] (x ∷ xs) p q = absurd q
one_list_of_objects [] (o ∷ os) ps p q = absurd p
one_list_of_objects (file ∷ files) [] ps p q = absurd p
one_list_of_objects (file ∷ files) (o ∷ os) [] p q = absurd q
one_list_of_objects (file ∷ files) (o ∷ os) (x ∷ xs) p q = ap (λ y. y ∷ os) (one_object (class_in file) file o x p.0 q.0) ∙ ap (λ ys. x ∷ ys) (one_list_of_objects files os xs p.1 q.1)

pub one_unit_lists : (files : List (List ℕ)) (uss vss : List (List CuBoundary)) → AreUnitsOf files uss → AreUnitsOf files vss → uss ≡ vss
one_unit_lists [] [] [] p q = refl
one_unit_lists [] [] (x ∷ xs) p q = absurd q
one_unit_lists [] (us ∷ uss) vss p q = absurd p
one_unit_lists (file ∷ files) [] vss p q = absurd p
one_unit_lists (file ∷ files) (us ∷ uss) [] p q = absurd q
one_unit_lists (file ∷ files) (us ∷ uss) (vs ∷ vss) p q = ap (λ y. y ∷ uss) (one_units (info_bytes (class_in file) file) us vs p.0 q.0) ∙ ap (λ ys. vs ∷ ys) (one_unit_lists files uss vss p.1 q.1)

pub units_of_objects : (files : List (List ℕ)) (os : List Object) → AreObjectsOf files os → AreUnitsOf files (unit_lists os)
units_of_objects [] [] h = tt
units_of_objects [] (o ∷ os) h = absurd h
units_of_objects (file ∷ files) [] h = absurd h
units_of_objects (file ∷ files) (o ∷ os) h = (h.0.units, units_of_objects files os h.1)

pub objects_are_one_lem : ObjectsAreOne
objects_are_one_lem = record { one_object = one_object; one_list = one_list_of_objects; one_units = one_unit_lists; units = units_of_objects }
