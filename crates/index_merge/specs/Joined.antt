-- What two indexes hold for a name, joined in one CU vector (GDB manual, "Index Section Format": the CU vectors). The units of
-- the second index follow those of the first.
use Rattle.std.specs.Prelude.{◌≡◌, ◌≢◌, ℕ, ◌+◌, List, [], ◌++◌, map, Option, Some, None, Result, Ok, Err}
use Rattle.std.specs.List.Sorted.{IsPermutation, IsNonDecreasing}
use Rattle.gdb_index_format.specs.declared.bad_index.BadIndex.{BadIndex}
use Rattle.index_browser.specs.Areas.{unit_count}
use Rattle.index_browser.specs.NameList.{elements_of}

-- an element, where so many units stand before those that it counts from: its CU index is greater by as many, and its
-- symbol kind and its static bit stay
abbrev pub moved_element : ℕ → ℕ → ℕ
moved_element units element = element + units

-- the elements of a name in both indexes: those of the first, and those of the second after the units of the first
abbrev pub elements_of_both : List ℕ → List ℕ → List ℕ → List ℕ
elements_of_both first second name = elements_of first name ++ map (moved_element (unit_count first)) (elements_of second name)

-- the joined CU vector of a name: its elements in both indexes, ascending, repeats kept
pub record IsJoinedVector (first second name elements : List ℕ) : Type 0 where
  pub same : IsPermutation (elements_of_both first second name) elements
  pub ascending : IsNonDecreasing elements

-- the answer of a probe for a name: its joined CU vector where that has elements, else that it is absent; never a fault
abbrev pub IsJoinedAnswer : List ℕ → List ℕ → List ℕ → Result (Option (List ℕ)) BadIndex → Type 0
IsJoinedAnswer first second name (Ok (Some elements)) = (elements ≢ []) × IsJoinedVector first second name elements
IsJoinedAnswer first second name (Ok None) = elements_of_both first second name ≡ []
IsJoinedAnswer first second name (Err fault) = ⊥
