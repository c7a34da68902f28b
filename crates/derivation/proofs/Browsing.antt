-- The index of valid input passes the tests of a browser.
use Rattle.std.proofs.Common.{◌≡◌, ◌^◌, ◌<◌, ℕ, List, [], ◌∷◌, length, sym, subst, arith, inl}
use Rattle.gdb_index_format.specs.declared.name_words.NameWords.{NameWords}
use Rattle.gdb_index_format.specs.declared.placement.AddressEntry.{AddressEntry}
use Rattle.gdb_index_format.specs.declared.placement.Placement.{Placement}
use Rattle.gdb_index_format.specs.declared.unit.CuBoundary.{CuBoundary}
use Rattle.gdb_index_format.specs.declared.version.IndexVersion.{IndexVersion}
use Rattle.gdb_index_format.specs.Objects.{ObjectsAreOne}
use Rattle.gdb_index_format.specs.Placed.{placed}
use Rattle.gdb_index_format.specs.Published.{Object, unit_lists}
use Rattle.gdb_index_format.specs.Size.{IsSize, SizesAreOne, counts_of}
use Rattle.gdb_index_format.specs.Version.{version_number}
use Rattle.elf_view.specs.Parsed.{Parsed}
use Rattle.gdb_tables.specs.Files.{file_bytes}
use Rattle.gdb_tables.specs.Index.{IsIndexOf, IsLaidOut}
use Rattle.gdb_tables.specs.Sized.{IsIndexable}
use Rattle.index_browser.specs.Checked.{IsChecked}
use Rattle.index_browser.specs.Laws.{LayoutIsChecked}
use Rattle.derivation.specs.Laws.{IndexesAreChecked}
use Rattle.derivation.specs.Objects.{parsed_of}
use Rattle.derivation.proofs.Composing.{bytes_again}

-- an index of objects that can be indexed has a size below 2^32
short : ObjectsAreOne → SizesAreOne → (version : ℕ) (parsed : List Parsed) (ps : List Placement) (units : List CuBoundary) (names : List NameWords) (index : List ℕ) → IsIndexable version (file_bytes parsed) ps → IsIndexOf version parsed ps units names index → length index < 2 ^ 32
short objects sizes version parsed ps units names index indexable is =
    let count : List Object → ℕ = λ os. length (placed (file_bytes parsed) (unit_lists os) ps) in
    let same : indexable.objects ≡ is.objects = objects.one_list (file_bytes parsed) indexable.objects is.objects indexable.held is.held in
    let sized : IsSize version (counts_of is.objects (count is.objects)) indexable.size = subst (λ (os : List Object). IsSize version (counts_of os (count os)) indexable.size) same indexable.size_is in
    let one : length index ≡ indexable.size = sizes.one_size version (counts_of is.objects (count is.objects)) (length index) indexable.size is.size sized in
    omega (arith, one, indexable.fits)

laid_out_checked : LayoutIsChecked → (version : IndexVersion) (os : List Object) (count : ℕ) (entries : List AddressEntry) (units : List CuBoundary) (index : List ℕ) → length index < 2 ^ 32 → IsLaidOut (version_number version) os count entries units index → IsChecked index
laid_out_checked law version os count entries [] index small laid = inl laid
laid_out_checked law version os count entries (u ∷ us) index small laid = law version laid.0 entries index small laid.1.well_formed laid.2 laid.3

pub checked : ObjectsAreOne → SizesAreOne → LayoutIsChecked → IndexesAreChecked
checked objects sizes law input units names index valid is =
    let parsed = parsed_of input.buffer input.objects in
    let indexable : IsIndexable (version_number input.version) (file_bytes parsed) input.placements = subst (λ (files : List (List ℕ)). IsIndexable (version_number input.version) files input.placements) (sym (bytes_again input.buffer input.objects)) valid.index in
    laid_out_checked law input.version is.objects _ _ units index (short objects sizes (version_number input.version) parsed input.placements units names index indexable is) is.laid_out
