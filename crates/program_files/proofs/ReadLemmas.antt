-- How the parts of a reading settle the whole: where the files are told, the first error of a part is that of all.
use Rattle.std.proofs.Common.{◌≡◌, ℕ, ◌+◌, ◌≤◌, ◌<◌, List, length, map, Option, Some, None, IfSome, IsSome, Result, Ok, Err, IsErrAnd, option_map, sym, ap, subst, ◌∙◌, arith, inl, inr, Bor}
use Rattle.program_io.specs.Contents.{Contents, file_of}
use Rattle.program_text.specs.Tables.{Tables, NamesTablesFile, first_object}
use Rattle.program_files.specs.declared.error.ReadError.{ReadError}
use Rattle.elf_format.specs.declared.index.Span.{Span}
use Rattle.elf_format.specs.Span.{AreInside, span_bytes}
use Rattle.program_files.specs.Joined.{joined}
use Rattle.program_files.specs.Reading.{Held, Texts, file_limit, within, sframe_of, object_texts, texts_of, read_of, AreObjectsRead}
use Rattle.program_files.proofs.JoinedLemmas.{texts_again, length-spans_from, spans_inside}

-- the error, or another where there is none
error_or : {T : Type 0} → ReadError → Result T ReadError → ReadError
error_or other (Ok value) = other
error_or other (Err error) = error

-- the error that a `?` hands on
pub same_error : {T : Type 0} (result : Result T ReadError) (handed error : ReadError) → IsErrAnd result (λ e. e ≡ handed) → result ≡ Err error → handed ≡ error
unfolding error_or
same_error (Ok value) handed error is_handed is = absurd is_handed
same_error (Err e) handed error is_handed is = sym is_handed ∙ ap (λ r. error_or handed r) is

pub err_of : {T : Type 0} (handed error : ReadError) → handed ≡ error → (let answer : Result T ReadError = Err handed in answer) ≡ Err error
err_of handed error is = ap (λ e. Err e) is

pub some_mapped : (name : Option (Bor (List ℕ))) → IsSome name → IsSome (option_map (λ n. n.now) name)
some_mapped None some = some
some_mapped (Some name) some = some

-- what is told of files is told of the same files later
told_then : (held held_then : Contents) (P : Held → Type 0) → held_then ≡ held → IfSome held_then P → IfSome held P
told_then held held_then P same told = let Q : Contents → Type 0 = λ h. IfSome h P in subst Q same told

pub sframe_error : (held held_then : Contents) (tables : Tables) (layout : List ℕ) (error : ReadError) → held_then ≡ held → IfSome held (λ files. within 2 file_limit (file_of files tables.layout) ≡ Ok layout) → IfSome held_then (λ files. sframe_of files tables.sframe ≡ Err error) → IfSome held (λ files. read_of files tables ≡ Err error)
sframe_error held held_then tables layout error same layout_is sframe_is = at held layout_is (told_then held held_then _ same sframe_is)
  where
    at : (held : Contents) → IfSome held (λ files. within 2 file_limit (file_of files tables.layout) ≡ Ok layout) → IfSome held (λ files. sframe_of files tables.sframe ≡ Err error) → IfSome held (λ files. read_of files tables ≡ Err error)
    at None layout_is sframe_is = tt
    at (Some files) layout_is sframe_is =
        ap (λ (r : Result (List ℕ) ReadError). texts_of r (sframe_of files tables.sframe) (object_texts files (first_object tables.sframe tables.version) file_limit tables.objects)) layout_is
        ∙ ap (λ (r : Result (List ℕ) ReadError). texts_of (Ok layout) r (object_texts files (first_object tables.sframe tables.version) file_limit tables.objects)) sframe_is

-- what the objects give settles the rest, where the layout and the SFrame bytes were read
pub objects_settle : (held held_then held_last : Contents) (tables : Tables) (first : ℕ) (layout sframe : List ℕ) (objects : Result (List (List ℕ)) ReadError) → held_then ≡ held → held_last ≡ held_then → first ≡ first_object tables.sframe tables.version → IfSome held (λ files. within 2 file_limit (file_of files tables.layout) ≡ Ok layout) → IfSome held_then (λ files. sframe_of files tables.sframe ≡ Ok sframe) → IfSome held_last (λ files. object_texts files first file_limit tables.objects ≡ objects) → IfSome held (λ files. read_of files tables ≡ texts_of (Ok layout) (Ok sframe) objects)
objects_settle held held_then held_last tables first layout sframe objects same same_last first-is layout_is sframe_is objects_is =
    at held layout_is (told_then held held_then _ same sframe_is) (told_then held held_last _ (same_last ∙ same) objects_is)
  where
    at : (held : Contents) → IfSome held (λ files. within 2 file_limit (file_of files tables.layout) ≡ Ok layout) → IfSome held (λ files. sframe_of files tables.sframe ≡ Ok sframe) → IfSome held (λ files. object_texts files first file_limit tables.objects ≡ objects) → IfSome held (λ files. read_of files tables ≡ texts_of (Ok layout) (Ok sframe) objects)
    at None layout_is sframe_is objects_is = tt
    at (Some files) layout_is sframe_is objects_is =
        ap (λ (r : Result (List ℕ) ReadError). texts_of r (sframe_of files tables.sframe) (object_texts files (first_object tables.sframe tables.version) file_limit tables.objects)) layout_is
        ∙ ap (λ (r : Result (List ℕ) ReadError). texts_of (Ok layout) r (object_texts files (first_object tables.sframe tables.version) file_limit tables.objects)) sframe_is
        ∙ ap (λ n. texts_of (Ok layout) (Ok sframe) (object_texts files n file_limit tables.objects)) (sym first-is)
        ∙ ap (λ (r : Result (List (List ℕ)) ReadError). texts_of (Ok layout) (Ok sframe) r) objects_is

pub sframe_index : (tables : Tables) (index : ℕ) → index ≡ 4 → IsSome tables.sframe → NamesTablesFile tables index
sframe_index tables index is some = inr (inl (is, some))

pub object_index : (tables : Tables) (first count index : ℕ) → first ≡ first_object tables.sframe tables.version → length tables.objects ≡ count → first ≤ index → index < first + count → NamesTablesFile tables index
object_index tables first count index first-is count-is low high = inr (inr (omega (arith, first-is), omega (arith, first-is, count-is)))

-- what is told of files is told in equal words
told_as : (held : Contents) (tables : Tables) (texts same : Result Texts ReadError) → texts ≡ same → IfSome held (λ files. read_of files tables ≡ texts) → IfSome held (λ files. read_of files tables ≡ same)
told_as None tables texts same is told = tt
told_as (Some files) tables texts same is told = told ∙ is

-- the objects' texts are what their spans cut out of the buffer
texts_are : (held : Contents) (first : ℕ) (names : List (List ℕ)) (buffer : List ℕ) (spans : List Span) (read : AreObjectsRead held first names buffer spans) → map (span_bytes buffer) spans ≡ read.texts
texts_are held first names buffer spans read =
    ap (λ (b : List ℕ). map (span_bytes b) spans) read.buffer_is
    ∙ ap (λ (l : List Span). map (span_bytes (joined read.texts)) l) read.spans_are
    ∙ texts_again read.texts

pub all_read : (held held_then held_last : Contents) (tables : Tables) (first : ℕ) (layout bytes sframe buffer : List ℕ) (spans : List Span) → held_then ≡ held → held_last ≡ held_then → first ≡ first_object tables.sframe tables.version → layout ≡ bytes → IfSome held (λ files. within 2 file_limit (file_of files tables.layout) ≡ Ok bytes) → IfSome held_then (λ files. sframe_of files tables.sframe ≡ Ok sframe) → AreObjectsRead held_last first tables.objects buffer spans → IfSome held (λ files. read_of files tables ≡ Ok (record { layout = layout; sframe = sframe; objects = map (span_bytes buffer) spans }))
all_read held held_then held_last tables first layout bytes sframe buffer spans same same_last first-is layout-is layout_is sframe_is read =
    told_as held tables _ _
    (ap (λ (l : List ℕ). let t : Result Texts ReadError = Ok (record { layout = l; sframe = sframe; objects = read.texts }) in t) (sym layout-is)
    ∙ ap (λ (ts : List (List ℕ)). let t : Result Texts ReadError = Ok (record { layout = layout; sframe = sframe; objects = ts }) in t) (sym (texts_are held_last first tables.objects buffer spans read)))
    (objects_settle held held_then held_last tables first bytes sframe _ same same_last first-is layout_is sframe_is read.known)

pub spans_counted : (held : Contents) (first count : ℕ) (names : List (List ℕ)) (buffer : List ℕ) (spans : List Span) → length names ≡ count → AreObjectsRead held first names buffer spans → length spans ≡ count
spans_counted held first count names buffer spans count-is read =
    ap (λ (l : List Span). length l) read.spans_are ∙ length-spans_from 0 read.texts ∙ read.count ∙ count-is

pub spans_within : (held : Contents) (first n : ℕ) (names : List (List ℕ)) (buffer : List ℕ) (spans : List Span) → n ≡ length buffer → AreObjectsRead held first names buffer spans → AreInside n spans
spans_within held first n names buffer spans n-is read =
    let P : List Span → Type 0 = λ l. AreInside n l in
    subst P (sym read.spans_are) (spans_inside 0 n read.texts (omega (arith, n-is, ap (λ (l : List ℕ). length l) read.buffer_is)))
