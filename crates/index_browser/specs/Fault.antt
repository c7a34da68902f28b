-- Why an index cannot be browsed: its tests, in order, and the first that fails (GDB manual, "Index Section Format").
use Rattle.std.specs.Prelude.{ℕ, ◌-◌, ◌/◌, ◌%◌, ◌^◌, ◌==◌, ◌&&◌, not, nat_lt, Bool, List, [], ◌∷◌, length, position, Option, Some, None, option_map, Result, Ok, Err, if◌then◌else◌}
use Rattle.std.specs.List.{list_all}
use Rattle.std.specs.Option.{option_or}
use Rattle.elf_format.specs.Bytes.{u32_at}
use Rattle.gdb_index_format.specs.declared.bad_index.BadIndex.{BadIndex}
use Rattle.gdb_index_format.specs.Version.{header_len}
use Rattle.gdb_index_format.specs.Probe.{index_fault}
use Rattle.index_browser.specs.declared.error.BrowseError.{BrowseError}
use Rattle.index_browser.specs.declared.error.BrowseError.TheVariants.{Short, Format, TypeUnits, UnitArea, AddressArea, NameOutside, VectorOutside, BadVector, Misplaced}
use Rattle.index_browser.specs.Areas.{index_addresses, unit_count}
use Rattle.index_browser.specs.Stored.{StoredSlot, stored, last_slot}

-- the first of a list for which a test has something to say, and what it says
abbrev pub first_found : {X Y : Type 0} → (X → Option Y) → List X → Option Y
first_found test [] = None
first_found test (x ∷ xs) = option_or (test x) (first_found test xs)

-- the bytes are shorter than the header that their version has
unfoldable pub short_fault : List ℕ → Option BrowseError
short_fault b = if nat_lt (length b) (header_len (u32_at b 0)) then Some Short else None

-- no probe can be made
unfoldable pub format_fault : List ℕ → Option BrowseError
format_fault b = option_map (λ fault. Format fault) (index_fault b)

-- the types CU list is not empty
unfoldable pub types_fault : List ℕ → Option BrowseError
types_fault b = if u32_at b 8 == u32_at b 12 then None else Some TypeUnits

-- the CU list is no whole number of entries of 16 bytes
unfoldable pub units_fault : List ℕ → Option BrowseError
units_fault b = if (u32_at b 8 - u32_at b 4) % 16 == 0 then None else Some UnitArea

-- the address area is no whole number of entries of 20 bytes; else the first entry whose unit the CU list does not have
unfoldable pub area_fault : List ℕ → Option BrowseError
area_fault b =
    if (u32_at b 16 - u32_at b 12) % 20 == 0 then option_map (λ k. AddressArea k) (position (λ a. not (nat_lt a.unit (unit_count b))) (index_addresses b))
    else Some (AddressArea ((u32_at b 16 - u32_at b 12) / 20))

-- whether an element of a CU vector keeps its reserved bits 24 to 27 zero and names one of so many units
abbrev pub is_element : ℕ → ℕ → Bool
is_element units element = (element / 2 ^ 24 % 16 == 0) && nat_lt (element % 2 ^ 24) units

-- whether a CU vector has elements, and each is such a one
abbrev pub is_cu_vector : ℕ → List ℕ → Bool
is_cu_vector units elements = nat_lt 0 (length elements) && list_all (is_element units) elements

-- the CU vector of a slot is truncated, or has no elements or one that is malformed
abbrev pub vector_fault : ℕ → ℕ → Result (Option (List ℕ)) BadIndex → Option BrowseError
vector_fault units slot (Err fault) = Some (VectorOutside slot)
vector_fault units slot (Ok None) = Some (VectorOutside slot)
vector_fault units slot (Ok (Some elements)) = if is_cu_vector units elements then None else Some (BadVector slot)

-- no zero byte ends the name of a slot; else what its CU vector is
abbrev pub name_fault : ℕ → ℕ → Result (Option (List ℕ)) BadIndex → Option (List ℕ) → Option BrowseError
name_fault units slot vector None = Some (NameOutside slot)
name_fault units slot vector (Some name) = vector_fault units slot vector

abbrev pub slot_fault : ℕ → StoredSlot → Option BrowseError
slot_fault units e = name_fault units e.slot e.vector e.name

-- the first taken slot with such a fault
unfoldable pub stored_fault : List ℕ → Option BrowseError
stored_fault b = first_found (slot_fault (unit_count b)) (stored b)

-- the probe for the name of a slot ends at another
abbrev pub misplaced_fault : List ℕ → ℕ → Option (List ℕ) → Option BrowseError
misplaced_fault b slot None = None
misplaced_fault b slot (Some name) = if last_slot b name == slot then None else Some (Misplaced slot)

-- the first taken slot whose name is not found there
unfoldable pub order_fault : List ℕ → Option BrowseError
order_fault b = first_found (λ e. misplaced_fault b e.slot e.name) (stored b)

-- The first test that fails. Bytes of length 0 are an index without a unit, and need none.
unfoldable pub browse_fault : List ℕ → Option BrowseError
browse_fault [] = None
browse_fault (first ∷ rest) =
    let b = first ∷ rest in
    option_or (short_fault b) (option_or (format_fault b) (option_or (types_fault b) (option_or (units_fault b) (option_or (area_fault b) (option_or (stored_fault b) (order_fault b))))))
