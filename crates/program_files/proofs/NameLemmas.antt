-- The names that were read so far, and those read for a result.
use Rattle.std.proofs.Common.{◌≡◌, ℕ, ◌+◌, ◌-◌, ◌≤◌, List, [], ◌∷◌, ◌++◌, length, take, Option, Some, None, Result, Ok, Err, IsErrAnd, IsSome, refl, sym, ap, subst, ◌∙◌, arith, length-append, append_assoc}
use Rattle.std.proofs.lemmas.Bool.{false≢true}
use Rattle.std.proofs.lemmas.List.{append-nil, take_all}
use Rattle.std.proofs.Math.Seq.{take-append_seam, take-append-add}
use Rattle.gdb_index_format.specs.declared.version.IndexVersion.{IndexVersion}
use Rattle.program_text.specs.Tables.{Tables, first_object, option_len}
use Rattle.program_files.specs.declared.error.ReadError.{ReadError}
use Rattle.program_files.specs.declared.error.ReadError.TheVariants.{Unread, TooLong, NoMemory}
use Rattle.program_files.specs.Reading.{listed, file_names, files_through, HasRead, HasReadObjects}

-- the names up to an index were read, in their order
pub record NamesSoFar (first : ℕ) (names : List (List ℕ)) (index : ℕ) (rest old now : List (List ℕ)) : Type 0 where
  pub done : List (List ℕ)
  pub parts : names ≡ done ++ rest
  pub reads : now ≡ old ++ done
  pub count : index ≡ first + length done

pub no_names : (first : ℕ) (names old now : List (List ℕ)) → now ≡ old → NamesSoFar first names first names old now
no_names first names old now same = record {
  done = [];
  parts = refl;
  reads = same ∙ sym (append-nil old);
  count = omega arith;
}

pub one_more_name : (first : ℕ) (names : List (List ℕ)) (index : ℕ) (name : List ℕ) (rest all old now then : List (List ℕ)) → all ≡ name ∷ rest → NamesSoFar first names index all old now → then ≡ now ++ name ∷ [] → NamesSoFar first names (index + 1) rest old then
one_more_name first names index name rest all old now then all-is so_far more = record {
  done = so_far.done ++ name ∷ [];
  parts = so_far.parts ∙ ap (λ (l : List (List ℕ)). so_far.done ++ l) all-is ∙ sym (append_assoc so_far.done (name ∷ []) rest);
  reads = more ∙ ap (λ (l : List (List ℕ)). l ++ name ∷ []) so_far.reads ∙ append_assoc old so_far.done (name ∷ []);
  count = omega (arith, so_far.count, length-append so_far.done (name ∷ []));
}

pub all_names : (first : ℕ) (names : List (List ℕ)) (index : ℕ) (rest old now : List (List ℕ)) → NamesSoFar first names index rest old now → rest ≡ [] → now ≡ old ++ names
all_names first names index rest old now so_far none =
    so_far.reads ∙ ap (λ (l : List (List ℕ)). old ++ l) (sym (append-nil so_far.done) ∙ ap (λ (l : List (List ℕ)). so_far.done ++ l) (sym none) ∙ sym so_far.parts)

names_taken : (first : ℕ) (names : List (List ℕ)) (index : ℕ) (rest old now : List (List ℕ)) → NamesSoFar first names index rest old now → now ≡ old ++ take (index - first) names
names_taken first names index rest old now so_far =
    let n : index - first ≡ length so_far.done = omega (arith, so_far.count) in
    so_far.reads
    ∙ ap (λ (l : List (List ℕ)). old ++ l) (sym (take-append_seam so_far.done rest))
    ∙ ap (λ (l : List (List ℕ)). old ++ take (length so_far.done) l) (sym so_far.parts)
    ∙ ap (λ m. old ++ take m names) (sym n)

-- the names read where the object at an index ended the reading
pub names_at_error : {T : Type 0} (first : ℕ) (names : List (List ℕ)) (index : ℕ) (name : List ℕ) (rest all old now then : List (List ℕ)) (error : ReadError) (result : Result T ReadError) → all ≡ name ∷ rest → NamesSoFar first names index all old now → then ≡ now ++ name ∷ [] → ((k : ℕ) → error ≡ Unread k → k ≡ index) → ((k : ℕ) → error ≡ TooLong k → k ≡ index) → IsErrAnd result (λ e. e ≡ error) → HasReadObjects first names old then result
names_at_error first names index name rest all old now then error (Ok value) all-is so_far more unread too_long is = absurd is
names_at_error first names index name rest all old now then error (Err (Unread k)) all-is so_far more unread too_long is =
    names_taken first names (index + 1) rest old then (one_more_name first names index name rest all old now then all-is so_far more) ∙ ap (λ n. old ++ take (n + 1 - first) names) (sym (unread k (sym is)))
names_at_error first names index name rest all old now then error (Err (TooLong k)) all-is so_far more unread too_long is =
    names_taken first names (index + 1) rest old then (one_more_name first names index name rest all old now then all-is so_far more) ∙ ap (λ n. old ++ take (n + 1 - first) names) (sym (too_long k (sym is)))
names_at_error first names index name rest all old now then error (Err NoMemory) all-is so_far more unread too_long is =
    (index + 1 - first, names_taken first names (index + 1) rest old then (one_more_name first names index name rest all old now then all-is so_far more))

-- all names begin with the layout and the SFrame file
front_names : (tables : Tables) (old now now2 then xs : List (List ℕ)) → now ≡ old ++ tables.layout ∷ [] → now2 ≡ now ++ listed tables.sframe → then ≡ now2 ++ xs → then ≡ old ++ (tables.layout ∷ (listed tables.sframe ++ xs))
front_names tables old now now2 then xs one two more =
    more
    ∙ ap (λ (l : List (List ℕ)). l ++ xs) two
    ∙ ap (λ (l : List (List ℕ)). l ++ listed tables.sframe ++ xs) one
    ∙ append_assoc (old ++ tables.layout ∷ []) (listed tables.sframe) xs
    ∙ append_assoc old (tables.layout ∷ []) (listed tables.sframe ++ xs)

-- the layout alone was read
one_name : (tables : Tables) (old : List (List ℕ)) → old ++ take (files_through tables 2) (file_names tables) ≡ old ++ tables.layout ∷ []
one_name tables old =
    let n : files_through tables 2 ≡ 1 = omega arith in
    ap (λ m. old ++ take m (file_names tables)) n ∙ ap (λ (l : List (List ℕ)). old ++ l) (take-append_seam (tables.layout ∷ []) (listed tables.sframe ++ tables.objects))

pub read_layout : {T : Type 0} (tables : Tables) (old now : List (List ℕ)) (error : ReadError) (result : Result T ReadError) → now ≡ old ++ tables.layout ∷ [] → ((k : ℕ) → error ≡ Unread k → k ≡ 2) → ((k : ℕ) → error ≡ TooLong k → k ≡ 2) → IsErrAnd result (λ e. e ≡ error) → HasRead tables old now result
read_layout tables old now error (Ok value) one unread too_long is = absurd is
read_layout tables old now error (Err (Unread k)) one unread too_long is =
    one ∙ sym (one_name tables old) ∙ ap (λ n. old ++ take (files_through tables n) (file_names tables)) (sym (unread k (sym is)))
read_layout tables old now error (Err (TooLong k)) one unread too_long is =
    one ∙ sym (one_name tables old) ∙ ap (λ n. old ++ take (files_through tables n) (file_names tables)) (sym (too_long k (sym is)))
read_layout tables old now error (Err NoMemory) one unread too_long is = (1, one ∙ ap (λ (l : List (List ℕ)). old ++ l) (sym (take-append_seam (tables.layout ∷ []) (listed tables.sframe ++ tables.objects))))

-- the layout and the SFrame file were read
through_frames : (layout : List ℕ) (sframe : Option (List ℕ)) (version : Option IndexVersion) → IsSome sframe → length (layout ∷ take (4 - 3) (listed sframe)) + (4 + 1 - first_object sframe version) ≡ length (layout ∷ listed sframe)
through_frames layout None version some = absurd (false≢true some)
through_frames layout (Some file) version some = omega arith

two_names : (tables : Tables) (old : List (List ℕ)) → IsSome tables.sframe → old ++ take (files_through tables 4) (file_names tables) ≡ old ++ (tables.layout ∷ listed tables.sframe)
two_names tables old some =
    ap (λ m. old ++ take m (file_names tables)) (through_frames tables.layout tables.sframe tables.version some)
    ∙ ap (λ (l : List (List ℕ)). old ++ l) (take-append_seam (tables.layout ∷ listed tables.sframe) tables.objects)

both : (tables : Tables) (old now then : List (List ℕ)) → now ≡ old ++ tables.layout ∷ [] → then ≡ now ++ listed tables.sframe → then ≡ old ++ (tables.layout ∷ listed tables.sframe)
both tables old now then one two =
    two ∙ ap (λ (l : List (List ℕ)). l ++ listed tables.sframe) one ∙ append_assoc old (tables.layout ∷ []) (listed tables.sframe)

pub read_both : {T : Type 0} (tables : Tables) (old now then : List (List ℕ)) (error : ReadError) (result : Result T ReadError) → now ≡ old ++ tables.layout ∷ [] → then ≡ now ++ listed tables.sframe → ((k : ℕ) → error ≡ Unread k → (k ≡ 4) × IsSome tables.sframe) → ((k : ℕ) → error ≡ TooLong k → (k ≡ 4) × IsSome tables.sframe) → IsErrAnd result (λ e. e ≡ error) → HasRead tables old then result
read_both tables old now then error (Ok value) one two unread too_long is = absurd is
read_both tables old now then error (Err (Unread k)) one two unread too_long is =
    let at = unread k (sym is) in
    both tables old now then one two ∙ sym (two_names tables old at.1) ∙ ap (λ n. old ++ take (files_through tables n) (file_names tables)) (sym at.0)
read_both tables old now then error (Err (TooLong k)) one two unread too_long is =
    let at = too_long k (sym is) in
    both tables old now then one two ∙ sym (two_names tables old at.1) ∙ ap (λ n. old ++ take (files_through tables n) (file_names tables)) (sym at.0)
read_both tables old now then error (Err NoMemory) one two unread too_long is =
    (length (tables.layout ∷ listed tables.sframe), both tables old now then one two ∙ ap (λ (l : List (List ℕ)). old ++ l) (sym (take-append_seam (tables.layout ∷ listed tables.sframe) tables.objects)))

-- the argument at an index names an object, and so many files are named up to it
front_within : (sframe : Option (List ℕ)) (version : Option IndexVersion) (k : ℕ) → first_object sframe version ≤ k → length (listed sframe) ≤ k - 3
front_within None version k low = omega arith
front_within (Some file) version k low = let at : 3 + 2 + option_len version ≤ k = low in omega (arith, at)

through : (tables : Tables) (k : ℕ) → first_object tables.sframe tables.version ≤ k → files_through tables k ≡ length (tables.layout ∷ listed tables.sframe) + (k + 1 - first_object tables.sframe tables.version)
through tables k low =
    ap (λ (l : List (List ℕ)). length (tables.layout ∷ l) + (k + 1 - first_object tables.sframe tables.version)) (take_all (k - 3) (listed tables.sframe) (front_within tables.sframe tables.version k low))

some_objects : (tables : Tables) (first : ℕ) (old now now2 then : List (List ℕ)) (k : ℕ) → first ≡ first_object tables.sframe tables.version → first ≤ k → now ≡ old ++ tables.layout ∷ [] → now2 ≡ now ++ listed tables.sframe → then ≡ now2 ++ take (k + 1 - first) tables.objects → then ≡ old ++ take (files_through tables k) (file_names tables)
some_objects tables first old now now2 then k first-is low one two more =
    front_names tables old now now2 then (take (k + 1 - first) tables.objects) one two more
    ∙ ap (λ n. old ++ (tables.layout ∷ (listed tables.sframe ++ take (k + 1 - n) tables.objects))) first-is
    ∙ ap (λ (l : List (List ℕ)). old ++ l) (sym (take-append-add (tables.layout ∷ listed tables.sframe) tables.objects (k + 1 - first_object tables.sframe tables.version)))
    ∙ ap (λ n. old ++ take n (file_names tables)) (sym (through tables k (subst (λ n. n ≤ k) first-is low)))

pub read_some : {T : Type 0} (U : Type 0) (tables : Tables) (first : ℕ) (old now now2 then : List (List ℕ)) (error : ReadError) (result : Result T ReadError) → first ≡ first_object tables.sframe tables.version → now ≡ old ++ tables.layout ∷ [] → now2 ≡ now ++ listed tables.sframe → HasReadObjects first tables.objects now2 then (let r : Result U ReadError = Err error in r) → ((k : ℕ) → error ≡ Unread k → first ≤ k) → ((k : ℕ) → error ≡ TooLong k → first ≤ k) → IsErrAnd result (λ e. e ≡ error) → HasRead tables old then result
read_some U tables first old now now2 then error (Ok value) first-is one two more unread too_long is = absurd is
read_some U tables first old now now2 then error (Err (Unread k)) first-is one two more unread too_long is =
    let P : ReadError → Type 0 = λ e. HasReadObjects first tables.objects now2 then (let r : Result U ReadError = Err e in r) in
    some_objects tables first old now now2 then k first-is (unread k (sym is)) one two (subst P (sym is) more)
read_some U tables first old now now2 then error (Err (TooLong k)) first-is one two more unread too_long is =
    let P : ReadError → Type 0 = λ e. HasReadObjects first tables.objects now2 then (let r : Result U ReadError = Err e in r) in
    some_objects tables first old now now2 then k first-is (too_long k (sym is)) one two (subst P (sym is) more)
read_some U tables first old now now2 then error (Err NoMemory) first-is one two more unread too_long is =
    let P : ReadError → Type 0 = λ e. HasReadObjects first tables.objects now2 then (let r : Result U ReadError = Err e in r) in
    let some = subst P (sym is) more in (
      length (tables.layout ∷ listed tables.sframe) + some.0,
      front_names tables old now now2 then (take some.0 tables.objects) one two some.1
          ∙ ap (λ (l : List (List ℕ)). old ++ l) (sym (take-append-add (tables.layout ∷ listed tables.sframe) tables.objects some.0)),
    )

pub read_all_names : (tables : Tables) (old now now2 then : List (List ℕ)) → now ≡ old ++ tables.layout ∷ [] → now2 ≡ now ++ listed tables.sframe → then ≡ now2 ++ tables.objects → then ≡ old ++ file_names tables
read_all_names tables old now now2 then one two more = front_names tables old now now2 then tables.objects one two more
