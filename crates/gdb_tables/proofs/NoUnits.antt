-- Objects without a unit: they publish nothing, and have an index of no bytes.
use Rattle.std.proofs.Common.{◌≡◌, ℕ, ◌+◌, None, List, [], ◌∷◌, ◌++◌, length, refl, ap, sym, ◌∙◌, subst, arith}
use Rattle.std.specs.List.{flat_map}
use Rattle.elf_format.specs.Bytes.{le}
use Rattle.elf_view.specs.Parsed.{Parsed}
use Rattle.gdb_index_format.specs.declared.name_words.NameWords.{NameWords}
use Rattle.gdb_index_format.specs.declared.placement.Placement.{Placement}
use Rattle.gdb_index_format.specs.declared.unit.CuBoundary.{CuBoundary}
use Rattle.gdb_index_format.specs.Named.{AnswersAll, HasFewSteps}
use Rattle.gdb_index_format.specs.Names.{NameSet}
use Rattle.gdb_index_format.specs.Probe.{probe}
use Rattle.gdb_index_format.specs.Published.{Object, Pair, end_to_end, units_in_lists, units_of_all, pairs_of, published_from, published, pool_names, unit_lists}
use Rattle.gdb_index_format.specs.Placed.{placed}
use Rattle.gdb_index_format.specs.Size.{Counts, IsSize, counts_of}
use Rattle.gdb_index_format.specs.Units.{index_units}
use Rattle.gdb_index_format.specs.Version.{header_len}
use Rattle.gdb_index_format.proofs.ObjectLists.{one_unit_lists, units_of_objects}
use Rattle.gdb_tables.specs.Addresses.{fault_from}
use Rattle.gdb_tables.specs.Files.{file_bytes}
use Rattle.gdb_tables.specs.Sized.{SizesIndex}
use Rattle.gdb_tables.specs.Index.{ListsNames, IsIndexOf}
use Rattle.gdb_tables.specs.Index.{AreRelocated}

none_in_order : (at : ℕ) (us : List CuBoundary) → end_to_end at us ≡ [] → us ≡ []
none_in_order at [] none = refl
none_in_order at (u ∷ us) none = cc

-- none of the objects has a unit
HaveNone : List Object → Type 0
HaveNone [] = Unit {0}
HaveNone (o ∷ os) = (o.units ≡ []) × HaveNone os

both_empty : {X : Type 0} (xs ys : List X) → xs ++ ys ≡ [] → (xs ≡ []) × (ys ≡ [])
both_empty [] ys none = (refl, none)
both_empty (x ∷ xs) ys none = cc

have_none : (os : List Object) → units_in_lists (unit_lists os) ≡ [] → HaveNone os
unfolding HaveNone
have_none [] none = tt
have_none (o ∷ os) none = let both = both_empty o.units (units_in_lists (unit_lists os)) none in (both.0, have_none os both.1)

publish_none : (first : ℕ) (us : List CuBoundary) (ss : List NameSet) → us ≡ [] → flat_map (pairs_of first us) ss ≡ []
publish_none first [] [] none = refl
publish_none first [] (s ∷ ss) none = publish_none first [] ss none
publish_none first (u ∷ us) ss none = cc

published_none : (first : ℕ) (os : List Object) → HaveNone os → published_from first os ≡ []
unfolding HaveNone
published_none first [] none = refl
published_none first (o ∷ os) none =
    ap (λ (ps : List Pair). ps ++ published_from (first + length o.units) os) (publish_none first o.units o.sets none.0) ∙ published_none (first + length o.units) os none.1

relocated_none : (k : ℕ) (parsed : List Parsed) (os : List Object) → HaveNone os → fault_from k parsed (unit_lists os) ≡ None
unfolding HaveNone
relocated_none k [] os none = refl
relocated_none k (file ∷ parsed) [] none = refl
relocated_none k (file ∷ parsed) (o ∷ os) none = rw none.0 (relocated_none (k + 1) parsed os none.1)

answers_none : (ps : List Pair) → ps ≡ [] → AnswersAll [] ps
unfolding le probe header_len
answers_none [] none name = refl
answers_none (p ∷ ps) none name = cc

steps_none : (names : List (List ℕ)) → HasFewSteps [] names
unfolding le probe header_len
steps_none names = record { found = λ i d l. omega arith; absent = λ name none. omega arith; no_slot = λ none name. refl }

names_none : (ps : List Pair) → ps ≡ [] → ListsNames ps []
names_none [] none = record {
  names = record { words = λ k d below. absurd (omega arith); all = λ k d below. absurd (omega arith) };
  distinct = λ i j d below beyond same. absurd (omega arith);
  ascending = λ k d low below. absurd (omega arith);
}
names_none (p ∷ ps) none = cc

no_listed : index_units [] ≡ []
unfolding index_units le
no_listed = refl

size_none : (version : ℕ) (n : Counts) (size : ℕ) → IsSize version n size → n.units ≡ 0 → IsSize version n 0
size_none version n size is none = record { slots = is.slots; counted = is.counted; size_is = rw none refl }

-- the index of objects without a unit
pub indexed_none : (version : ℕ) (parsed : List Parsed) (placements : List Placement) (size : ℕ) (units : List CuBoundary) (names : List NameWords) (index : List ℕ)
    → SizesIndex version (file_bytes parsed) placements size None → units ≡ [] → names ≡ [] → index ≡ [] → IsIndexOf version parsed placements units names index
indexed_none version parsed placements size [] [] [] sized p q r =
    let os = sized.objects in
    let none : units_of_all os ≡ [] = sized.scanned in
    let empty : HaveNone os = have_none os (none_in_order 0 (units_in_lists (unit_lists os)) none) in
    let nothing : published os ≡ [] = published_none 0 os empty in
    record {
      objects = os;
      held = sized.held;
      units_are = sym none;
      listed = no_listed ∙ sym none;
      answers = answers_none (published os) nothing;
      steps = steps_none (pool_names (published os));
      names_are = names_none (published os) nothing;
      size = size_none version (counts_of os (length (placed (file_bytes parsed) (unit_lists os) placements))) size sized.size_is (ap length none);
      laid_out = refl;
    }
indexed_none version parsed placements size (u ∷ us) names index sized p q r = cc
indexed_none version parsed placements size [] (n ∷ ns) index sized p q r = cc
indexed_none version parsed placements size [] [] (x ∷ xs) sized p q r = cc

pub relocated : (version : ℕ) (parsed : List Parsed) (placements : List Placement) (size : ℕ) → SizesIndex version (file_bytes parsed) placements size None → AreRelocated parsed
relocated version parsed placements size sized uss held =
    let os = sized.objects in
    let same : unit_lists os ≡ uss = one_unit_lists (file_bytes parsed) (unit_lists os) uss (units_of_objects (file_bytes parsed) os sized.held) held in
    let none : units_of_all os ≡ [] = sized.scanned in
    subst (λ (l : List (List CuBoundary)). fault_from 0 parsed l ≡ None) same (relocated_none 0 parsed os (have_none os (none_in_order 0 (units_in_lists (unit_lists os)) none)))
