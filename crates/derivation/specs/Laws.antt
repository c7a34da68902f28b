-- Each input has tables, or one cause to have none.
use Rattle.std.specs.Prelude.{◌≡◌, ℕ, List}
use Rattle.derivation.specs.declared.error.DeriveError.{DeriveError}
use Rattle.derivation.specs.declared.error.DeriveError.TheVariants.{BadSpan}
use Rattle.derivation.specs.Cause.{HasCause}
use Rattle.derivation.specs.Input.{Input}
use Rattle.derivation.specs.Objects.{parsed_of}
use Rattle.gdb_index_format.specs.declared.name_words.NameWords.{NameWords}
use Rattle.gdb_index_format.specs.declared.unit.CuBoundary.{CuBoundary}
use Rattle.gdb_index_format.specs.Version.{version_number}
use Rattle.gdb_tables.specs.Index.{IsIndexOf}
use Rattle.index_browser.specs.Checked.{IsChecked}
use Rattle.derivation.specs.Valid.{HasSpans, IsValid}

abbrev pub HasOneCause : Type 0
HasOneCause = (input : Input) (e f : DeriveError) → HasCause input e → HasCause input f → e ≡ f

abbrev pub ValidHasNoCause : Type 0
ValidHasNoCause = (input : Input) (e : DeriveError) → IsValid input → HasCause input e → ⊥

abbrev pub InsideIsNoBadSpan : Type 0
InsideIsNoBadSpan = (input : Input) (index : ℕ) → HasSpans input → HasCause input (BadSpan index) → ⊥

-- the index of valid input can be browsed
abbrev pub IndexesAreChecked : Type 0
IndexesAreChecked = (input : Input) (units : List CuBoundary) (names : List NameWords) (index : List ℕ) → IsValid input → IsIndexOf (version_number input.version) (parsed_of input.buffer input.objects) input.placements units names index → IsChecked index
