-- What the files of a command hold, in the order of its arguments, where the files are known; and which of them were read.
use Rattle.std.specs.Prelude.{◌≡◌, ℕ, ◌+◌, ◌-◌, ◌^◌, ◌≤◌, List, [], ◌∷◌, ◌++◌, length, take, IfSome, map, if◌then◌else◌, nat_lt, Option, Some, None, Result, Ok, Err}
use Rattle.program_io.specs.Contents.{Contents, file_of}
use Rattle.program_io.specs.Counting.{RoseBy, counted}
use Rattle.std.specs.Result.{result_err}
use Rattle.program_text.specs.Command.{Request, for_tables, for_query, for_demo}
use Rattle.program_text.specs.Query.{Query, file_asked, second_asked, files_asked}
use Rattle.program_text.specs.Tables.{Tables, first_object}
use Rattle.elf_format.specs.declared.index.Span.{Span}
use Rattle.elf_format.specs.Span.{span_bytes}
use Rattle.program_files.specs.Joined.{joined, spans_from}
use Rattle.program_files.specs.declared.error.ReadError.{ReadError}
use Rattle.program_files.specs.declared.error.ReadError.TheVariants.{Unread, TooLong, NoMemory}
use Rattle.program_files.specs.declared.files_read.FilesRead.{FilesRead}

-- names with the bytes of their files
abbrev pub Held : Type 0
Held = List (List ℕ × List ℕ)

-- the most bytes that a file may have, and that all objects may have together
abbrev pub file_limit : ℕ
file_limit = 2 ^ 30

-- the bytes of the files of a command
pub record Texts : Type 0 where
  pub layout : List ℕ
  pub sframe : List ℕ
  pub objects : List (List ℕ)

-- the file of the argument at an index: its bytes, where it is held and has no more than are left of the limit
abbrev pub within : ℕ → ℕ → Option (List ℕ) → Result (List ℕ) ReadError
within index left None = Err (Unread index)
within index left (Some bytes) = if nat_lt left (length bytes) then Err (TooLong index) else Ok bytes

-- the file after the option: no bytes where there is none
abbrev pub sframe_of : Held → Option (List ℕ) → Result (List ℕ) ReadError
sframe_of held None = Ok []
sframe_of held (Some name) = within 4 file_limit (file_of held name)

-- bytes before those of others
abbrev pub before : List ℕ → Result (List (List ℕ)) ReadError → Result (List (List ℕ)) ReadError
before bytes (Ok others) = Ok (bytes ∷ others)
before bytes (Err error) = Err error

-- an object and those after it
abbrev pub first_of : Result (List ℕ) ReadError → (List ℕ → Result (List (List ℕ)) ReadError) → Result (List (List ℕ)) ReadError
first_of (Err error) others = Err error
first_of (Ok bytes) others = before bytes (others bytes)

-- the objects that the arguments from an index on name: each leaves less of the limit for those after it
abbrev pub object_texts : Held → ℕ → ℕ → List (List ℕ) → Result (List (List ℕ)) ReadError
object_texts held index left [] = Ok []
object_texts held index left (name ∷ names) =
    first_of (within index left (file_of held name)) (λ bytes. object_texts held (index + 1) (left - length bytes) names)

-- the files together, or the first error
abbrev pub texts_of : Result (List ℕ) ReadError → Result (List ℕ) ReadError → Result (List (List ℕ)) ReadError → Result Texts ReadError
texts_of (Err error) sframe objects = Err error
texts_of (Ok layout) (Err error) objects = Err error
texts_of (Ok layout) (Ok sframe) (Err error) = Err error
texts_of (Ok layout) (Ok sframe) (Ok objects) = Ok (record { layout = layout; sframe = sframe; objects = objects })

-- the files of a command, or the first of them that is not held or is too long
abbrev pub read_of : Held → Tables → Result Texts ReadError
read_of held tables =
    texts_of (within 2 file_limit (file_of held tables.layout)) (sframe_of held tables.sframe) (object_texts held (first_object tables.sframe tables.version) file_limit tables.objects)

-- the files that were read
abbrev pub texts_read : FilesRead → Texts
texts_read read = record { layout = read.layout.items; sframe = read.sframe.items; objects = map (span_bytes read.buffer.items) read.objects.items }

-- bytes alone
abbrev pub before_none : Result (List ℕ) ReadError → Result (List (List ℕ)) ReadError
before_none (Ok bytes) = Ok (bytes ∷ [])
before_none (Err error) = Err error

-- a name, where there is one
abbrev pub listed : Option (List ℕ) → List (List ℕ)
listed None = []
listed (Some name) = name ∷ []

-- the names of a command's files, in the order of its arguments
abbrev pub file_names : Tables → List (List ℕ)
file_names tables = tables.layout ∷ (listed tables.sframe ++ tables.objects)

-- how many files the arguments up to this index name, where the argument at the index names one
abbrev pub files_through : Tables → ℕ → ℕ
files_through tables index = length (tables.layout ∷ take (index - 3) (listed tables.sframe)) + (index + 1 - first_object tables.sframe tables.version)

-- the names of the files of any command, in the order of its arguments
abbrev pub names_of : Request → List (List ℕ)
names_of (for_tables command) = file_names command
names_of (for_query query) = files_asked query
names_of (for_demo count) = []

-- how many files the arguments up to this index name, where the argument at the index names one
abbrev pub names_through : Request → ℕ → ℕ
names_through (for_tables command) index = files_through command index
names_through (for_query query) index = index
names_through (for_demo count) index = 0

-- the second file, where one is named: its bytes, where it is held and no longer than a file may be
abbrev pub second_file : Held → Option (List ℕ) → Result (List (List ℕ)) ReadError
second_file held None = Ok []
second_file held (Some name) = before_none (within 2 file_limit (file_of held name))

-- the files of a query: their bytes, where each is held and no longer than a file may be
abbrev pub asked_files : Held → Query → Result (List (List ℕ)) ReadError
asked_files held query = first_of (within 1 file_limit (file_of held (file_asked query))) (λ bytes. second_file held (second_asked query))

-- why the files of a command are not read, where they are known
abbrev pub reading_fault : Held → Request → Option ReadError
reading_fault held (for_tables command) = result_err (read_of held command)
reading_fault held (for_query query) = result_err (asked_files held query)
reading_fault held (for_demo count) = None

-- the names read for a result: all of them, those up to the file that was refused, or, where memory ran out, some of the first
abbrev pub HasRead : {T : Type 0} → Tables → List (List ℕ) → List (List ℕ) → Result T ReadError → Type 0
HasRead tables old new (Ok value) = new ≡ old ++ file_names tables
HasRead tables old new (Err (Unread index)) = new ≡ old ++ take (files_through tables index) (file_names tables)
HasRead tables old new (Err (TooLong index)) = new ≡ old ++ take (files_through tables index) (file_names tables)
HasRead tables old new (Err NoMemory) = (n : ℕ) × (new ≡ old ++ take n (file_names tables))

-- the same of objects, where the argument at index `first` names the first of them
abbrev pub HasReadObjects : {T : Type 0} → ℕ → List (List ℕ) → List (List ℕ) → List (List ℕ) → Result T ReadError → Type 0
HasReadObjects first names old new (Ok value) = new ≡ old ++ names
HasReadObjects first names old new (Err (Unread index)) = new ≡ old ++ take (index + 1 - first) names
HasReadObjects first names old new (Err (TooLong index)) = new ≡ old ++ take (index + 1 - first) names
HasReadObjects first names old new (Err NoMemory) = (n : ℕ) × (new ≡ old ++ take n names)

-- the count of faults after reading: it rises by one where a file was not read, and at no other result
abbrev pub faults_after_reading : {T : Type 0} → Result T ReadError → ℕ → ℕ
faults_after_reading (Ok value) before = before
faults_after_reading (Err (Unread index)) before = counted 1 before
faults_after_reading (Err (TooLong index)) before = before
faults_after_reading (Err NoMemory) before = before

-- an object was read onto the end of the buffer, and its span was added
pub record IsObjectRead (held : Contents) (index : ℕ) (name : List ℕ) (old new : List ℕ) (spans more : List Span) (taken now : ℕ) : Type 0 where
  pub bytes : List ℕ
  pub appended : new ≡ old ++ bytes
  pub span : more ≡ spans ++ record { start = length old; stop = length old + length bytes } ∷ []
  pub fits : length bytes ≤ file_limit - length old
  pub took : RoseBy (length bytes) taken now
  pub known : IfSome held (λ files. within index (file_limit - length old) (file_of files name) ≡ Ok bytes)

-- objects stand in the buffer, each with its span
pub record AreObjectsRead (held : Contents) (first : ℕ) (names : List (List ℕ)) (buffer : List ℕ) (spans : List Span) : Type 0 where
  pub texts : List (List ℕ)
  pub count : length texts ≡ length names
  pub buffer_is : buffer ≡ joined texts
  pub spans_are : spans ≡ spans_from 0 texts
  pub fit : length buffer ≤ file_limit
  pub known : IfSome held (λ files. object_texts files first file_limit names ≡ Ok texts)
