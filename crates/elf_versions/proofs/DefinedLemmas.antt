-- The names of the version definitions and of the needed versions, as they are entered one by one.
use Rattle.std.proofs.Common.{◌≡◌, ℕ, List, [], ◌∷◌, length, replicate, map, Option, None, Result, Ok, Err, refl, ap, sym, ◌∙◌}
use Rattle.std.specs.List.{range_with_len, flat_map}
use Rattle.std.specs.Result.{result_err}
use Rattle.elf_format.specs.declared.error.ElfError.{ElfError}
use Rattle.elf_format.specs.Chain.{◌>>=◌, each_ok, on_ok}
use Rattle.elf_format.specs.Version.{version_index}
use Rattle.elf_format.specs.VersionChain.{Headed}
use Rattle.elf_format.specs.VersionName.{IndexedName, VersionFault, name_of_index, defined_version, defined_versions, version_names, version_index_count, needed_from, needed_versions, needed_names}
use Rattle.elf_versions.specs.declared.error.VersionError.{VersionError}
use Rattle.elf_versions.specs.Cause.{IsVersionFault}
use Rattle.elf_versions.specs.steps.Names.{put_name, put_names, names_after}
use Rattle.elf_versions.proofs.NameLemmas.{after_put, after_put_all, after_none, after_all, each_step, on_ok_same, then_ok, fault_stays, fault_seen}

pub definitions_start : (last : ℕ) (strings : List ℕ) (definitions rest : List (Result Headed ElfError)) (names : List (Option (List ℕ))) (count : ℕ)
    → rest ≡ definitions → names ≡ replicate count None
    → on_ok (names_after (λ i. i) (range_with_len 0 (version_index_count last)) names) (each_ok (defined_version last strings) rest) ≡ version_names last strings definitions
unfolding version_names defined_versions
definitions_start last strings definitions rest names count p q =
    rw (p, q) (on_ok_same _ (λ ps. map (λ i. name_of_index i ps) (range_with_len 0 (version_index_count last))) (each_ok (defined_version last strings) definitions) (after_none (λ i. i) (range_with_len 0 (version_index_count last)) count)
    ∙ sym (then_ok (λ ps. map (λ i. name_of_index i ps) (range_with_len 0 (version_index_count last))) (each_ok (defined_version last strings) definitions)))

-- one more item with its name
pub name_step : {X Y : Type 0} (f : X → Result IndexedName VersionFault) (index : Y → ℕ) (keys : List Y) (names new : List (Option (List ℕ))) (x : X) (xs before : List X) (i : ℕ) (name : List ℕ) (whole : Result (List (Option (List ℕ))) VersionFault)
    → before ≡ x ∷ xs → f x ≡ Ok (i, name) → new ≡ put_name names i name
    → on_ok (names_after index keys names) (each_ok f before) ≡ whole → on_ok (names_after index keys new) (each_ok f xs) ≡ whole
name_step f index keys names new x xs before i name whole p e q h =
    rw q (each_step f x (i, name) xs (names_after index keys names) (names_after index keys (put_name names i name)) e (after_put index keys names (i, name)))
    ∙ ap (λ l. on_ok (names_after index keys names) (each_ok f l)) (sym p) ∙ h

pub definitions_end : (last : ℕ) (strings : List ℕ) (rest : List (Result Headed ElfError)) (names : List (Option (List ℕ))) (whole : Result (List (Option (List ℕ))) VersionFault)
    → rest ≡ [] → length names ≡ version_index_count last
    → on_ok (names_after (λ i. i) (range_with_len 0 (version_index_count last)) names) (each_ok (defined_version last strings) rest) ≡ whole → whole ≡ Ok names
definitions_end last strings rest names whole p n h =
    sym h ∙ rw p (ap (λ l. Ok l) (after_all names (version_index_count last) n))

pub needs_start : (versyms : List (List ℕ)) (strings : List ℕ) (needs rest : List (Result Headed ElfError)) (names : List (Option (List ℕ))) (count : ℕ)
    → rest ≡ needs → names ≡ replicate count None
    → on_ok (names_after version_index versyms names) (needed_versions strings rest) ≡ needed_names versyms strings needs
unfolding needed_names
needs_start versyms strings needs rest names count p q =
    rw (p, q) (on_ok_same _ (λ ps. map (λ versym. name_of_index (version_index versym) ps) versyms) (needed_versions strings needs) (after_none version_index versyms count)
    ∙ sym (then_ok (λ ps. map (λ versym. name_of_index (version_index versym) ps) versyms) (needed_versions strings needs)))

-- the versions of one more file
pub need_step : (versyms : List (List ℕ)) (strings : List ℕ) (names new : List (Option (List ℕ))) (x : Result Headed ElfError) (xs before : List (Result Headed ElfError)) (whole : Result (List (Option (List ℕ))) VersionFault)
    → before ≡ x ∷ xs → on_ok (put_names names) (needed_from strings x) ≡ Ok new
    → on_ok (names_after version_index versyms names) (needed_versions strings before) ≡ whole → on_ok (names_after version_index versyms new) (needed_versions strings xs) ≡ whole
unfolding needed_versions
need_step versyms strings names new x xs before whole p e h =
    step (needed_from strings x) e (each_ok (needed_from strings) xs) ∙ ap (λ l. on_ok (names_after version_index versyms names) (each_ok (needed_from strings) l >>= (λ ls. Ok (flat_map (λ l. l) ls)))) (sym p) ∙ h where
      step : (r : Result (List IndexedName) VersionFault) → on_ok (put_names names) r ≡ Ok new → (s : Result (List (List IndexedName)) VersionFault)
          → on_ok (names_after version_index versyms new) (s >>= (λ ls. Ok (flat_map (λ l. l) ls)))
          ≡ on_ok (names_after version_index versyms names) ((r >>= (λ y. s >>= (λ ys. Ok (y ∷ ys)))) >>= (λ ls. Ok (flat_map (λ l. l) ls)))
      step (Err fault) e s = absurd (cc)
      step (Ok ps) e (Err fault) = refl
      step (Ok ps) e (Ok ls) =
          let put : put_names names ps ≡ new = cc in
          rw (sym put) (ap (λ l. Ok l) (after_put_all version_index versyms names ps (flat_map (λ l. l) ls)))

pub needs_end : (versyms : List (List ℕ)) (strings : List ℕ) (rest : List (Result Headed ElfError)) (names : List (Option (List ℕ))) (whole : Result (List (Option (List ℕ))) VersionFault)
    → rest ≡ [] → on_ok (names_after version_index versyms names) (needed_versions strings rest) ≡ whole → whole ≡ Ok (names_after version_index versyms names [])
unfolding needed_versions
needs_end versyms strings rest names whole p h = sym h ∙ rw p refl

-- why the versions of one more file are refused is why the whole is
pub need_fault : (keys : List (List ℕ)) (strings : List ℕ) (names : List (Option (List ℕ))) (x : Result Headed ElfError) (xs before : List (Result Headed ElfError)) (whole : Result (List (Option (List ℕ))) VersionFault) (e : VersionError)
    → before ≡ x ∷ xs → IsVersionFault (result_err (needed_from strings x)) e → on_ok (names_after version_index keys names) (needed_versions strings before) ≡ whole → IsVersionFault (result_err whole) e
unfolding needed_versions
need_fault keys strings names x xs before whole e p fault h =
    let first = fault_stays (needed_from strings x) e (λ y. each_ok (needed_from strings) xs >>= (λ ys. Ok (y ∷ ys))) fault in
    let listed = fault_stays (each_ok (needed_from strings) (x ∷ xs)) e (λ ls. Ok (flat_map (λ l. l) ls)) first in
    let seen = fault_seen (each_ok (needed_from strings) (x ∷ xs) >>= (λ ls. Ok (flat_map (λ l. l) ls))) e (names_after version_index keys names) listed in
    rw (sym h, p) seen
