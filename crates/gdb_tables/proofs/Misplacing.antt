-- Placements that may stand where they do, and the first that may not.
use Rattle.std.proofs.Common.{◌≡◌, ℕ, zero, suc, ◌+◌, ◌^◌, ◌<◌, ◌≤◌, ◌⊎◌, Bool, true, false, cond, eqb, ltb, ◌&&◌, ◌||◌, List, [], ◌∷◌, length, get_or, Option, Some, None, refl, ap, sym, ◌∙◌, arith, inl, inr}
use Rattle.std.specs.Prelude.{slice_get, not, option_map, unwrap_or}
use Rattle.std.specs.List.{All, AllPairs, position_from}
use Rattle.std.proofs.lemmas.Bool.{ltb-true, lt-ltb, eqb-true, eq-eqb}
use Rattle.std.proofs.lemmas.List.Kept.{AllPairs-cons}
use Rattle.elf_format.specs.Class.{Class, class64}
use Rattle.elf_format.specs.Fault.{class_of}
use Rattle.elf_format.specs.Section.{sections}
use Rattle.elf_format.proofs.SearchLemmas.{position_is_from}
use Rattle.gdb_index_format.specs.declared.placement.Placement.{Placement}
use Rattle.gdb_index_format.specs.Objects.{class_in}
use Rattle.gdb_scan.specs.PlacedIn.{IsBefore}
use Rattle.gdb_tables.specs.Files.{IsThere, ArePlacedIn}
use Rattle.gdb_tables.specs.Misplaced.{follows, is_there, is_well_placed, with_before, misplaced}

-- the search among the placements from an index on, beside the one before
abbrev pub misplaced_from : List (List ℕ) → ℕ → Option Placement → List Placement → Option ℕ
misplaced_from files i before ps = position_from (λ w. not (is_well_placed files w)) i (with_before before ps)

pub from_the_first : (files : List (List ℕ)) (ps : List Placement) → misplaced files ps ≡ misplaced_from files 0 None ps
from_the_first files ps = position_is_from (λ w. not (is_well_placed files w)) (with_before None ps)

later : (test : Bool) (i : ℕ) (o : Option ℕ) → test ≡ true → cond (not test) (Some i) o ≡ o
later true i o e = refl
later false i o e = cc

-- ---- the sections of a file

module _ (file : List ℕ) (section n : ℕ) where
  counted : (o : Option Class) → option_map (λ c. length (sections c file)) o ≡ Some n → length (sections (unwrap_or o class64) file) ≡ n
  counted None e = absurd (cc e)
  counted (Some c) e = cc

  pub sections_there : option_map (λ c. length (sections c file)) (class_of file) ≡ Some n → ltb section n ≡ is_there (Some file) section
  unfolding class_in
  sections_there e = ap (λ m. ltb section m) (sym (counted (class_of file) e))

pub no_file : (files : List (List ℕ)) (i section : ℕ) → length files ≤ i → false ≡ is_there (slice_get files i) section
no_file [] zero section l = refl
no_file [] (suc i) section l = refl
no_file (f ∷ files) zero section l = absurd (omega arith)
no_file (f ∷ files) (suc i) section l = no_file files i section (omega arith)

-- ---- all of them

abbrev Follows : Option Placement → Placement → Type 0
Follows None p = Unit {0}
Follows (Some before) p = IsBefore before p

-- these placements may follow this one
record Right (files : List (List ℕ)) (before : Option Placement) (ps : List Placement) : Type 0 where
  pub ascend : AllPairs IsBefore ps
  pub behind : All (Follows before) ps
  pub fit : All (λ p. p.address + p.size < 2 ^ 64) ps
  pub there : All (λ p. IsThere (slice_get files p.object) p.section) ps

one_of : (x y z : Bool) → (x || y && z) ≡ true → (x ≡ true) ⊎ ((y ≡ true) × (z ≡ true))
one_of true y z e = inl refl
one_of false true true e = inr (refl, refl)
one_of false true false e = cc
one_of false false z e = cc

each_of : (x y z : Bool) → (x && y && z) ≡ true → (x ≡ true) × (y ≡ true) × (z ≡ true)
each_of true true true e = (refl, refl, refl)
each_of true true false e = cc
each_of true false z e = cc
each_of false y z e = cc

follows_is : (before : Option Placement) (p : Placement) → follows before p ≡ true → Follows before p
follows_is None p e = tt
follows_is (Some b) p e =
    elim (one_of (ltb b.object p.object) (eqb b.object p.object) (ltb b.section p.section) e) [
      | inl lower ↦ inl (ltb-true _ _ lower)
      | inr same ↦ inr (eqb-true _ _ same.0, ltb-true _ _ same.1)
    ]

follows_if : (before : Option Placement) (p : Placement) → Follows before p → follows before p ≡ true
follows_if None p h = refl
follows_if (Some b) p h = elim h [
  | inl lower ↦ rw (lt-ltb b.object p.object lower) refl
  | inr same ↦ either (ltb b.object p.object) (eqb b.object p.object) (ltb b.section p.section) (eq-eqb b.object p.object same.0) (lt-ltb b.section p.section same.1)
] where
  either : (x y z : Bool) → y ≡ true → z ≡ true → (x || y && z) ≡ true
  either true y z e f = refl
  either false y z e f = cc

there_is : (file : Option (List ℕ)) (section : ℕ) → is_there file section ≡ true → IsThere file section
there_is None section e = absurd (cc e)
there_is (Some file) section e = ltb-true _ _ e

is_there_if : (file : Option (List ℕ)) (section : ℕ) → IsThere file section → is_there file section ≡ true
is_there_if None section h = absurd h
is_there_if (Some file) section h = lt-ltb _ _ h

follows_more : (before : Option Placement) (p q : Placement) → Follows before p → IsBefore p q → Follows before q
follows_more None p q h l = tt
follows_more (Some b) p q h l = elim h [
  | inl lower ↦ elim l [
    | inl less ↦ inl (omega arith)
    | inr same ↦ inl (omega (arith, same.0))
  ]
  | inr alike ↦ elim l [
    | inl less ↦ inl (omega (arith, alike.0))
    | inr same ↦ inr (alike.0 ∙ same.0, omega (arith, alike.1, same.1))
  ]
]

module _ {X : Type 0} (P : X → Type 0) where
  All-more : (x : X) (xs : List X) → P x → All P xs → All P (x ∷ xs)
  All-more x xs p h zero d l = p
  All-more x xs p h (suc k) d l = h k d (omega arith)

no_fault : (test : Bool) (i : ℕ) (o : Option ℕ) → cond (not test) (Some i) o ≡ None → (test ≡ true) × (o ≡ None)
no_fault true i o e = (refl, e)
no_fault false i o e = cc

right : (files : List (List ℕ)) (i : ℕ) (before : Option Placement) (ps : List Placement) → misplaced_from files i before ps ≡ None → Right files before ps
right files i before [] e = record { ascend = λ a b d l m. absurd (omega arith); behind = λ k d l. absurd (omega arith); fit = λ k d l. absurd (omega arith); there = λ k d l. absurd (omega arith) }
right files i before (p ∷ ps) e =
    let both = no_fault (is_well_placed files (before, p)) i (misplaced_from files (i + 1) (Some p) ps) e in
    let parts = each_of (follows before p) (is_there (slice_get files p.object) p.section) (ltb (p.address + p.size) (2 ^ 64)) both.0 in
    let first = follows_is before p parts.0 in
    let rest = right files (i + 1) (Some p) ps both.1 in
    record {
      ascend = AllPairs-cons IsBefore p ps rest.behind rest.ascend;
      behind = All-more (Follows before) p ps first (λ k d l. follows_more before p (get_or ps k d) first (rest.behind k d l));
      fit = All-more (λ (q : Placement). q.address + q.size < 2 ^ 64) p ps (ltb-true _ _ parts.2) rest.fit;
      there = All-more (λ (q : Placement). IsThere (slice_get files q.object) q.section) p ps (there_is _ _ parts.1) rest.there;
    }

right_none : (files : List (List ℕ)) (i : ℕ) (before : Option Placement) (ps : List Placement) → Right files before ps → misplaced_from files i before ps ≡ None
right_none files i before [] h = refl
right_none files i before (p ∷ ps) h =
    later (is_well_placed files (before, p)) i (misplaced_from files (i + 1) (Some p) ps)
    (each (follows before p) (is_there (slice_get files p.object) p.section) (ltb (p.address + p.size) (2 ^ 64)) (follows_if before p (h.behind 0 p (omega arith))) (is_there_if _ _ (h.there 0 p (omega arith))) (lt-ltb _ _ (h.fit 0 p (omega arith))))
    ∙ right_none files (i + 1) (Some p) ps record {
      ascend = λ a b d l m. h.ascend (suc a) (suc b) d (omega arith) (omega arith);
      behind = λ k d l. h.ascend 0 (suc k) d (omega arith) (omega arith);
      fit = λ k d l. h.fit (suc k) d (omega arith);
      there = λ k d l. h.there (suc k) d (omega arith);
    } where
      each : (x y z : Bool) → x ≡ true → y ≡ true → z ≡ true → (x && y && z) ≡ true
      each x y z e f g = cc

pub none_misplaced : (files : List (List ℕ)) (ps : List Placement) → misplaced files ps ≡ None → ArePlacedIn files ps
none_misplaced files ps e =
    let all = right files 0 None ps (sym (from_the_first files ps) ∙ e) in
    record { in_order = record { ascend = all.ascend; fit = all.fit }; there = all.there }

pub placed_none : (files : List (List ℕ)) (ps : List Placement) → ArePlacedIn files ps → misplaced files ps ≡ None
placed_none files ps are = from_the_first files ps ∙ right_none files 0 None ps record { ascend = are.in_order.ascend; behind = λ k d l. tt; fit = are.in_order.fit; there = are.there }
