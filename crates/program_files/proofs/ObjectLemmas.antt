-- The objects that were read so far, and how one more, or an error, settles what all give.
use Rattle.std.proofs.Common.{◌≡◌, ℕ, ◌+◌, ◌-◌, ◌≤◌, ◌<◌, ◌^◌, List, [], ◌∷◌, ◌++◌, length, Some, None, IfSome, Result, Ok, Err, refl, sym, ap, subst, ◌∙◌, arith, length-append, append_assoc}
use Rattle.std.proofs.lemmas.List.{append-nil}
use Rattle.elf_format.specs.declared.index.Span.{Span}
use Rattle.program_io.specs.Contents.{Contents, file_of}
use Rattle.program_io.specs.Counting.{RoseBy}
use Rattle.program_files.specs.declared.error.ReadError.{ReadError}
use Rattle.program_files.specs.Joined.{joined, spans_from}
use Rattle.program_files.specs.Reading.{file_limit, within, before, first_of, object_texts, IsObjectRead, AreObjectsRead}
use Rattle.program_files.proofs.JoinedLemmas.{joined-push, spans-push}

-- texts before those of others
abbrev pub all_before : List (List ℕ) → Result (List (List ℕ)) ReadError → Result (List (List ℕ)) ReadError
all_before texts (Ok others) = Ok (texts ++ others)
all_before texts (Err error) = Err error

-- objects were read up to a index, and what all give is settled by those that are left
pub record ObjectsSoFar (held : Contents) (first : ℕ) (names : List (List ℕ)) (index : ℕ) (rest : List (List ℕ)) (buffer : List ℕ) (spans : List Span) (before now : ℕ) : Type 0 where
  pub texts : List (List ℕ)
  pub count : length texts + length rest ≡ length names
  pub buffer_is : buffer ≡ joined texts
  pub spans_are : spans ≡ spans_from 0 texts
  pub fit : length buffer ≤ file_limit
  pub took : RoseBy (length buffer) before now
  pub told : IfSome held (λ files. object_texts files first file_limit names ≡ all_before texts (object_texts files index (file_limit - length buffer) rest))

none_before : (r : Result (List (List ℕ)) ReadError) → r ≡ all_before [] r
none_before (Ok others) = refl
none_before (Err error) = refl

pub none_so_far : (held : Contents) (first : ℕ) (names : List (List ℕ)) (buffer : List ℕ) (spans : List Span) (now : ℕ) → buffer ≡ [] → spans ≡ [] → now < 2 ^ 64 → ObjectsSoFar held first names first names buffer spans now now
none_so_far held first names buffer spans now empty none small = record {
  texts = [];
  count = omega arith;
  buffer_is = empty;
  spans_are = none;
  fit = omega (arith, size);
  took = omega (arith, size);
  told = told_at held;
}
  where
    size : length buffer ≡ 0
    size = ap (λ (l : List ℕ). length l) empty

    told_at : (held : Contents) → IfSome held (λ files. object_texts files first file_limit names ≡ all_before [] (object_texts files first (file_limit - length buffer) names))
    told_at None = tt
    told_at (Some files) =
        none_before (object_texts files first file_limit names) ∙ ap (λ n. all_before [] (object_texts files first (file_limit - n) names)) (sym size)

-- one more text before others
one_more : (texts : List (List ℕ)) (bytes : List ℕ) (r : Result (List (List ℕ)) ReadError) → all_before texts (before bytes r) ≡ all_before (texts ++ bytes ∷ []) r
one_more texts bytes (Ok others) = ap (λ (l : List (List ℕ)). let answer : Result (List (List ℕ)) ReadError = Ok l in answer) (sym (append_assoc texts (bytes ∷ []) others))
one_more texts bytes (Err error) = refl

pub one_more_so_far : (held held_then : Contents) (first : ℕ) (names : List (List ℕ)) (index : ℕ) (name : List ℕ) (rest all : List (List ℕ)) (buffer new : List ℕ) (spans more : List Span) (start now after : ℕ) → held_then ≡ held → all ≡ name ∷ rest → ObjectsSoFar held first names index all buffer spans start now → IsObjectRead held_then index name buffer new spans more now after → ObjectsSoFar held first names (index + 1) rest new more start after
one_more_so_far held held_then first names index name rest all buffer new spans more start now after same all-is so_far read = record {
  texts = so_far.texts ++ read.bytes ∷ [];
  count = omega (arith, so_far.count, ap (λ (l : List (List ℕ)). length l) all-is, length-append so_far.texts (read.bytes ∷ []));
  buffer_is = read.appended ∙ ap (λ (l : List ℕ). l ++ read.bytes) so_far.buffer_is ∙ sym (joined-push so_far.texts read.bytes);
  spans_are = spans_now;
  fit = omega (arith, size, so_far.fit, read.fits);
  took = omega (arith, size, so_far.took, read.took);
  told = told_at held told_before told_now;
}
  where
    told_before : IfSome held (λ files. object_texts files first file_limit names ≡ all_before so_far.texts (object_texts files index (file_limit - length buffer) (name ∷ rest)))
    told_before =
        let P : List (List ℕ) → Type 0 = λ l. IfSome held (λ files. object_texts files first file_limit names ≡ all_before so_far.texts (object_texts files index (file_limit - length buffer) l)) in
        subst P all-is so_far.told

    told_now : IfSome held (λ files. within index (file_limit - length buffer) (file_of files name) ≡ Ok read.bytes)
    told_now =
        let P : Contents → Type 0 = λ h. IfSome h (λ files. within index (file_limit - length buffer) (file_of files name) ≡ Ok read.bytes) in
        subst P same read.known

    size : length new ≡ length buffer + length read.bytes
    size = ap (λ (l : List ℕ). length l) read.appended ∙ length-append buffer read.bytes

    spans_now : more ≡ spans_from 0 (so_far.texts ++ read.bytes ∷ [])
    spans_now =
        let start_is : length buffer ≡ 0 + length (joined so_far.texts) = ap (λ (l : List ℕ). length l) so_far.buffer_is ∙ (let n = length (joined so_far.texts) in omega arith) in
        read.span
        ∙ ap (λ (l : List Span). let last : Span = record { start = length buffer; stop = length buffer + length read.bytes } in l ++ last ∷ []) so_far.spans_are
        ∙ ap (λ p. let last : Span = record { start = p; stop = p + length read.bytes } in spans_from 0 so_far.texts ++ last ∷ []) start_is
        ∙ sym (spans-push 0 so_far.texts read.bytes)

    told_at : (held : Contents) → IfSome held (λ files. object_texts files first file_limit names ≡ all_before so_far.texts (object_texts files index (file_limit - length buffer) (name ∷ rest))) → IfSome held (λ files. within index (file_limit - length buffer) (file_of files name) ≡ Ok read.bytes) → IfSome held (λ files. object_texts files first file_limit names ≡ all_before (so_far.texts ++ read.bytes ∷ []) (object_texts files (index + 1) (file_limit - length new) rest))
    told_at None was is = tt
    told_at (Some files) was is =
        let left : file_limit - length buffer - length read.bytes ≡ file_limit - length new = omega (arith, size) in
        was
        ∙ ap (λ (r : Result (List ℕ) ReadError). all_before so_far.texts (first_of r (λ bytes. object_texts files (index + 1) (file_limit - length buffer - length bytes) rest))) is
        ∙ one_more so_far.texts read.bytes (object_texts files (index + 1) (file_limit - length buffer - length read.bytes) rest)
        ∙ ap (λ n. all_before (so_far.texts ++ read.bytes ∷ []) (object_texts files (index + 1) n rest)) left

pub all_so_far : (held : Contents) (first : ℕ) (names : List (List ℕ)) (index : ℕ) (rest : List (List ℕ)) (buffer : List ℕ) (spans : List Span) (start now : ℕ) → ObjectsSoFar held first names index rest buffer spans start now → rest ≡ [] → AreObjectsRead held first names buffer spans
all_so_far held first names index rest buffer spans start now so_far none = record {
  texts = so_far.texts;
  count = omega (arith, so_far.count, ap (λ (l : List (List ℕ)). length l) none);
  buffer_is = so_far.buffer_is;
  spans_are = so_far.spans_are;
  fit = so_far.fit;
  known = told_at held so_far.told;
}
  where
    told_at : (held : Contents) → IfSome held (λ files. object_texts files first file_limit names ≡ all_before so_far.texts (object_texts files index (file_limit - length buffer) rest)) → IfSome held (λ files. object_texts files first file_limit names ≡ Ok so_far.texts)
    told_at None was = tt
    told_at (Some files) was =
        was
        ∙ ap (λ (l : List (List ℕ)). all_before so_far.texts (object_texts files index (file_limit - length buffer) l)) none
        ∙ ap (λ (l : List (List ℕ)). let answer : Result (List (List ℕ)) ReadError = Ok l in answer) (append-nil so_far.texts)

-- the error of the next object is that of all
pub error_of_all : (held held_then : Contents) (first : ℕ) (names : List (List ℕ)) (index : ℕ) (name : List ℕ) (rest all : List (List ℕ)) (buffer : List ℕ) (spans : List Span) (start now : ℕ) (error : ReadError) → held_then ≡ held → all ≡ name ∷ rest → ObjectsSoFar held first names index all buffer spans start now → IfSome held_then (λ files. within index (file_limit - length buffer) (file_of files name) ≡ Err error) → IfSome held (λ files. object_texts files first file_limit names ≡ Err error)
error_of_all held held_then first names index name rest all buffer spans start now error same all-is so_far is = at held told_before told_now
  where
    told_before : IfSome held (λ files. object_texts files first file_limit names ≡ all_before so_far.texts (object_texts files index (file_limit - length buffer) (name ∷ rest)))
    told_before =
        let P : List (List ℕ) → Type 0 = λ l. IfSome held (λ files. object_texts files first file_limit names ≡ all_before so_far.texts (object_texts files index (file_limit - length buffer) l)) in
        subst P all-is so_far.told

    told_now : IfSome held (λ files. within index (file_limit - length buffer) (file_of files name) ≡ Err error)
    told_now =
        let P : Contents → Type 0 = λ h. IfSome h (λ files. within index (file_limit - length buffer) (file_of files name) ≡ Err error) in
        subst P same is

    at : (held : Contents) → IfSome held (λ files. object_texts files first file_limit names ≡ all_before so_far.texts (object_texts files index (file_limit - length buffer) (name ∷ rest))) → IfSome held (λ files. within index (file_limit - length buffer) (file_of files name) ≡ Err error) → IfSome held (λ files. object_texts files first file_limit names ≡ Err error)
    at None was now-is = tt
    at (Some files) was now-is =
        was
        ∙ ap (λ (r : Result (List ℕ) ReadError). all_before so_far.texts (first_of r (λ bytes. object_texts files (index + 1) (file_limit - length buffer - length bytes) rest))) now-is
