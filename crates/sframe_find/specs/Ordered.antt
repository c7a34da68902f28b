-- Which sections can be searched, and the first fault of the others.
use Rattle.std.specs.Prelude.{◌≡◌, ℕ, ◌+◌, ◌-◌, ◌<◌, ◌≤◌, ◌≤ℤ◌, ◌<ℤ◌, true, false, List, length, Ok, Err, Some, None, slice_index_or}
use Rattle.elf_format.specs.Flags.{has_flag}
use Rattle.sframe_format.specs.declared.fault.SframeFault.TheVariants as sort
use Rattle.sframe_format.specs.Contribution.{Function}
use Rattle.sframe_format.specs.Fields.{header_of, IsParsedHeader}
use Rattle.sframe_format.specs.Numbers.{sframe_header_size, sframe_f_fde_sorted}
use Rattle.sframe_format.specs.Valid.{first_fault}
use Rattle.sframe_find.specs.declared.fault.FindFault.{FindFault}
use Rattle.sframe_find.specs.declared.fault.FindFault.TheVariants as faults
use Rattle.sframe_find.specs.Frames.{whole_section, section_functions, function_address}

-- the section begins with a header of version 2
pub record HasHeader (s : List ℕ) : Type 0 where
  pub long : sframe_header_size ≤ length s
  pub parsed : IsParsedHeader (header_of s) (Ok (header_of s))

-- no address is below the one before it
abbrev pub AddressesAscend : ℕ → List Function → Type 0
AddressesAscend base fs = (j : ℕ) (d : Function) → j + 1 < length fs → function_address base (slice_index_or fs j d) ≤ℤ function_address base (slice_index_or fs (j + 1) d)

-- function k is the first whose address is below the one before it
pub record IsFirstDescent (base : ℕ) (fs : List Function) (k : ℕ) : Type 0 where
  pub follows : 0 < k
  pub within : k < length fs
  pub below : (d : Function) → function_address base (slice_index_or fs k d) <ℤ function_address base (slice_index_or fs (k - 1) d)
  pub before : (j : ℕ) (d : Function) → j + 1 < k → function_address base (slice_index_or fs j d) ≤ℤ function_address base (slice_index_or fs (j + 1) d)

-- The section is one contribution of version 2 without a fault. It has flag 1, and its functions ascend by address.
pub record IsOrdered (s : List ℕ) (base : ℕ) : Type 0 where
  pub header : HasHeader s
  pub flag : has_flag (header_of s).flags sframe_f_fde_sorted ≡ true
  pub fault : first_fault (whole_section s) ≡ None
  pub ascends : AddressesAscend base (section_functions s)

-- why a section cannot be searched: the first cause, in the order of the type of faults
abbrev pub IsFindCause : List ℕ → ℕ → FindFault → Type 0
IsFindCause s base faults.Short = length s < sframe_header_size
IsFindCause s base (faults.Header error) = (sframe_header_size ≤ length s) × IsParsedHeader (header_of s) (Err error)
IsFindCause s base faults.NotSorted = HasHeader s × (has_flag (header_of s).flags sframe_f_fde_sorted ≡ false)
IsFindCause s base (faults.Truncated kind offset) = HasHeader s × (has_flag (header_of s).flags sframe_f_fde_sorted ≡ true) × (first_fault (whole_section s) ≡ Some (sort.Truncated kind offset))
IsFindCause s base (faults.NotAscending k) = HasHeader s × (has_flag (header_of s).flags sframe_f_fde_sorted ≡ true) × (first_fault (whole_section s) ≡ None) × IsFirstDescent base (section_functions s) k
