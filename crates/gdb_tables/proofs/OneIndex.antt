-- Objects and placements have one index and one list of names.
use Rattle.std.proofs.Common.{◌≡◌, ℕ, ◌<◌, List, [], ◌∷◌, length, Option, Some, None, refl, ap, sym, ◌∙◌, subst, arith}
use Rattle.elf_view.specs.Parsed.{Parsed}
use Rattle.gdb_index.specs.Layout.{IsLayoutOf}
use Rattle.gdb_index.specs.Scan.{Scan}
use Rattle.gdb_index.proofs.LawLemmas.{indexes_are_one_lem}
use Rattle.gdb_index_format.specs.declared.name_words.NameWords.{NameWords}
use Rattle.gdb_index_format.specs.declared.placement.AddressEntry.{AddressEntry}
use Rattle.gdb_index_format.specs.declared.placement.Placement.{Placement}
use Rattle.gdb_index_format.specs.declared.unit.CuBoundary.{CuBoundary}
use Rattle.gdb_index_format.specs.Named.{Named, all_named, HasFewSteps}
use Rattle.gdb_index_format.specs.Placed.{placed}
use Rattle.gdb_index_format.specs.Published.{Object, published, pool_names, units_of_all, unit_lists}
use Rattle.gdb_index_format.specs.Size.{IsSize, counts_of}
use Rattle.gdb_index_format.proofs.ObjectLists.{objects_are_one_lem}
use Rattle.gdb_index_format.proofs.Sizing.{sizes_are_one_lem}
use Rattle.gdb_tables.specs.Addresses.{addresses}
use Rattle.gdb_tables.specs.Files.{file_bytes}
use Rattle.gdb_tables.specs.Laws.{HasOneMerge, HasOneSize, IndexHasFewSteps}
use Rattle.gdb_tables.specs.Scans.{published_in_scans}
use Rattle.gdb_tables.specs.Sized.{IsScanOfAll, IsScanOrNone}
use Rattle.gdb_tables.specs.Index.{IsLaidOut, IsIndexOf, ListsNames}
use Rattle.gdb_index_format.proofs.NameLists.{same_names, published_names_are_one_lem}
use Rattle.gdb_tables.proofs.NamesInOrder.{one_list_of_names}

scan_of : List CuBoundary → List Named → ℕ → List ℕ → Scan
scan_of units names count counts = record { units = units; names = names; placed = count; unit_counts = counts }

same_parts : (us vs : List CuBoundary) (ns ms : List Named) (p q : ℕ) (a b : List ℕ) → us ≡ vs → ns ≡ ms → p ≡ q → a ≡ b → scan_of us ns p a ≡ scan_of vs ms q b
same_parts us vs ns ms p q a b units names count counts =
    ap (λ x. scan_of x ns p a) units ∙ ap (λ x. scan_of vs x p a) names ∙ ap (λ x. scan_of vs ms x a) count ∙ ap (λ x. scan_of vs ms q x) counts

pub same_scan : (os : List Object) (count : ℕ) (s t : Scan) → IsScanOfAll os count s → IsScanOfAll os count t → s ≡ t
unfolding scan_of
same_scan os count s t left right =
    same_parts s.units t.units s.names t.names s.placed t.placed s.unit_counts t.unit_counts
    (left.own.units ∙ sym right.own.units)
    (published_names_are_one_lem (published os) s.names t.names left.names right.names)
    (left.own.placed ∙ sym right.own.placed)
    (left.own.counts ∙ sym right.own.counts)

one_laid : (version : ℕ) (os : List Object) (count : ℕ) (entries : List AddressEntry) (us vs : List CuBoundary) (b d : List ℕ) → us ≡ vs → length b ≡ length d → IsLaidOut version os count entries us b → IsLaidOut version os count entries vs d → b ≡ d
one_laid version os count entries [] [] b d same len left right = left ∙ sym right
one_laid version os count entries [] (v ∷ vs) b d same len left right = cc
one_laid version os count entries (u ∷ us) [] b d same len left right = cc
one_laid version os count entries (u ∷ us) (v ∷ vs) b d same len left right =
    indexes_are_one_lem version left.0 entries b d left.3 (subst (λ (s : Scan). IsLayoutOf version s entries d) (same_scan os count right.0 left.0 right.1 left.1) right.3) len

pub one_index : (version : ℕ) (parsed : List Parsed) (placements : List Placement) (us vs : List CuBoundary) (ns ms : List NameWords) (b d : List ℕ) → IsIndexOf version parsed placements us ns b → IsIndexOf version parsed placements vs ms d → (us ≡ vs) × (all_named ns ≡ all_named ms) × (b ≡ d)
one_index version parsed placements us vs ns ms b d left right =
    let os = left.objects in
    let same : right.objects ≡ os = objects_are_one_lem.one_list (file_bytes parsed) right.objects os right.held left.held in
    let count : List Object → ℕ = λ l. length (placed (file_bytes parsed) (unit_lists l) placements) in
    let size = subst (λ (l : List Object). IsSize version (counts_of l (count l)) (length d)) same right.size in
    let laid = subst (λ (l : List Object). IsLaidOut version l (count l) (addresses parsed (unit_lists l) placements) vs d) same right.laid_out in
    let listed = left.names_are in
    let also = subst (λ (l : List Object). ListsNames (published l) ms) same right.names_are in
    let names : all_named ns ≡ all_named ms =
    same_names (published os) (all_named ns) (all_named ms)
    (one_list_of_names (published os) ns ms listed.names also.names listed.distinct also.distinct listed.ascending also.ascending)
    listed.names.words also.names.words in
    let units : us ≡ vs = left.units_are ∙ sym (ap (λ (l : List Object). units_of_all l) same) ∙ sym right.units_are in
    (units, names, one_laid version os (count os) (addresses parsed (unit_lists os) placements) us vs b d units (sizes_are_one_lem.one_size version (counts_of os (count os)) (length b) (length d) left.size size) left.laid_out laid)

pub few_steps : IndexHasFewSteps
few_steps version parsed placements us ns b os is held =
    let same : is.objects ≡ os = objects_are_one_lem.one_list (file_bytes parsed) is.objects os is.held held in
    subst (λ (l : List Object). HasFewSteps b (pool_names (published l))) same is.steps

pub one_merge : HasOneMerge
unfolding scan_of
one_merge ss m n left right =
    same_parts m.units n.units m.names n.names m.placed n.placed m.unit_counts n.unit_counts
    (left.units ∙ sym right.units)
    (published_names_are_one_lem (published_in_scans ss) m.names n.names left.names right.names)
    (left.placed ∙ sym right.placed)
    (left.counts ∙ sym right.counts)

no_unit : {X : Type 0} (xs : List X) → xs ≡ [] → 0 < length xs → ⊥
no_unit [] none some = omega arith
no_unit (x ∷ xs) none some = cc

same_scans : (os : List Object) (count : ℕ) (s t : Option Scan) → IsScanOrNone os count s → IsScanOrNone os count t → s ≡ t
same_scans os count None None left right = refl
same_scans os count None (Some t) left right = absurd (no_unit (units_of_all os) left right.some)
same_scans os count (Some s) None left right = absurd (no_unit (units_of_all os) right left.some)
same_scans os count (Some s) (Some t) left right = ap (λ (x : Scan). Some x) (same_scan os count s t left right)

pub one_sized : HasOneSize
one_sized version files ps n m s t left right =
    let os = left.objects in
    let count : List Object → ℕ = λ l. length (placed files (unit_lists l) ps) in
    let same : right.objects ≡ os = objects_are_one_lem.one_list files right.objects os right.held left.held in
    let size = subst (λ (l : List Object). IsSize version (counts_of l (count l)) m) same right.size_is in
    let scanned = subst (λ (l : List Object). IsScanOrNone l (count l) t) same right.scanned in
    (sizes_are_one_lem.one_size version (counts_of os (count os)) n m left.size_is size, same_scans os (count os) s t left.scanned scanned)
