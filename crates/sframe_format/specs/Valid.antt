-- Which sections and ranges can be sorted, and the first fault of the others.
use Rattle.std.specs.Prelude.{◌≡◌, ⊤, ℕ, ℤ, pos, negsuc, ◌+◌, ◌-◌, ◌*◌, ◌^◌, ◌<◌, ◌≤◌, Bool, not, ◌==◌, nat_lt, List, [], ◌∷◌, length, find, position, Option, Some, None, if◌then◌else◌, FitsSigned, slice_get}
use Rattle.std.specs.List.{All, range_with_len}
use Rattle.std.specs.Int.{w32}
use Rattle.elf_format.specs.declared.index.Span.{Span}
use Rattle.elf_format.specs.Span.{AreInside, is_inside}
use Rattle.sframe_format.specs.declared.fault.SframeFault.{SframeFault}
use Rattle.sframe_format.specs.declared.fault.SframeFault.TheVariants as faults
use Rattle.sframe_format.specs.declared.fault.TruncatedKind.TheVariants.{FdeArray, FreStart, FreOffset}
use Rattle.sframe_format.specs.declared.fault.LargeKind.TheVariants.{Section, Merged, Rows}
use Rattle.sframe_format.specs.Contribution.{Contribution, Function, header, fdes_start, fres_start, fde_at, row_offset, read_ones, other_version, functions}
use Rattle.sframe_format.specs.Order.{InOrder}
use Rattle.sframe_format.specs.Numbers.{sframe_magic, fde_size}
use Rattle.sframe_format.specs.Merged.{used_len, fre_count, merged_starts}

-- the magic is right, and the FDEs and FREs of a contribution are in range
pub record IsWellFormedContribution (c : Contribution) : Type 0 where
  pub magic : (header c).magic ≡ sframe_magic
  pub fdes : fdes_start c + fde_size * (header c).num_fdes ≤ length c.bytes
  pub fres : fres_start c ≤ length c.bytes
  pub offsets : (d : ℕ) → d < (header c).num_fdes → row_offset c d < length c.bytes - fres_start c

-- the fault of an FDE d whose row offset is out of range
abbrev pub offset_fault : Contribution → Option ℕ → Option SframeFault
offset_fault c None = None
offset_fault c (Some d) = Some (faults.Truncated FreOffset (c.offset + fde_at c d))

-- what is read is merged: c is the first contribution, there are functions, and gs are the functions in order
pub record MergesInOrder (read : List Contribution) (c : Contribution) (cs : List Contribution) (gs : List Function) : Type 0 where
  pub read_is : read ≡ c ∷ cs
  pub some : 0 < length gs
  pub order : InOrder (functions read) gs

-- the merged contribution fits the section, and the number of its FREs fits the field
pub record HasRoom (s : List ℕ) (c : Contribution) (cs : List Contribution) (gs : List Function) : Type 0 where
  pub used : used_len c gs ≤ length s
  pub fres : fre_count (c ∷ cs) < 2 ^ 32

abbrev pub StartsFit : Contribution → List Contribution → List Function → Type 0
StartsFit c cs gs = All (FitsSigned w32) (merged_starts c cs gs)

abbrev pub AreWellFormedContributions : List Contribution → Type 0
AreWellFormedContributions cs = All IsWellFormedContribution cs

-- the ranges are in range, the section is below 2^32 bytes, and the contributions are well formed
pub record HasReadableRanges (s : List ℕ) (rs : List Span) : Type 0 where
  pub ranges : AreInside (length s) rs
  pub size : length s < 2 ^ 32
  pub contributions : AreWellFormedContributions (read_ones s rs)

-- the section can be sorted by the ranges
pub record IsSortable (s : List ℕ) (rs : List Span) : Type 0 where
  pub readable : HasReadableRanges s rs
  pub room : other_version s rs ≡ None → (c : Contribution) (cs : List Contribution) (gs : List Function) → MergesInOrder (read_ones s rs) c cs gs → HasRoom s c cs gs
  pub starts : other_version s rs ≡ None → (c : Contribution) (cs : List Contribution) (gs : List Function) → MergesInOrder (read_ones s rs) c cs gs → StartsFit c cs gs

-- the first of two, where it is there
abbrev pub or_else : Option SframeFault → Option SframeFault → Option SframeFault
or_else (Some e) other = Some e
or_else None other = other

-- the first fault of a contribution
abbrev pub contribution_fault : Contribution → Option SframeFault
contribution_fault c =
    if not ((header c).magic == sframe_magic) then Some (faults.BadMagic (header c).magic c.offset)
    else (if nat_lt (length c.bytes) (fdes_start c + fde_size * (header c).num_fdes) then Some (faults.Truncated FdeArray c.offset)
    else (if nat_lt (length c.bytes) (fres_start c) then Some (faults.Truncated FreStart c.offset)
    else offset_fault c (find (λ d. not (nat_lt (row_offset c d) (length c.bytes - fres_start c))) (range_with_len 0 (header c).num_fdes))))

-- the fault of the first malformed contribution
abbrev pub first_fault : List Contribution → Option SframeFault
first_fault [] = None
first_fault (c ∷ cs) = or_else (contribution_fault c) (first_fault cs)

abbrev pub fits_i32 : ℤ → Bool
fits_i32 (pos n) = nat_lt n (2 ^ 31)
fits_i32 (negsuc n) = nat_lt n (2 ^ 31)

-- the first of the start values that does not fit its field, and its index
abbrev pub IsFirstFar : List ℤ → ℕ → ℤ → Type 0
IsFirstFar starts index value = (position (λ z. not (fits_i32 z)) starts ≡ Some index) × (slice_get starts index ≡ Some value)

-- the merged contribution would be longer than the section
pub record IsMergedTooLong (s : List ℕ) (read : List Contribution) (needed limit : ℕ) : Type 0 where
  pub c : Contribution
  pub cs : List Contribution
  pub gs : List Function
  pub merge : MergesInOrder read c cs gs
  pub needed_is : needed ≡ used_len c gs
  pub limit_is : limit ≡ length s
  pub beyond : limit < needed

-- it has room, but the sum of the FRE counts does not fit the field
pub record HasTooManyFres (s : List ℕ) (read : List Contribution) (needed limit : ℕ) : Type 0 where
  pub c : Contribution
  pub cs : List Contribution
  pub gs : List Function
  pub merge : MergesInOrder read c cs gs
  pub short : used_len c gs ≤ length s
  pub needed_is : needed ≡ fre_count read
  pub limit_is : limit ≡ 2 ^ 32 - 1
  pub beyond : limit < needed

-- it has room, but a start value does not fit its field: the first has this index
pub record HasFarStart (s : List ℕ) (read : List Contribution) (index : ℕ) (value : ℤ) : Type 0 where
  pub c : Contribution
  pub cs : List Contribution
  pub gs : List Function
  pub merge : MergesInOrder read c cs gs
  pub room : HasRoom s c cs gs
  pub first : IsFirstFar (merged_starts c cs gs) index value

-- Why a section cannot be sorted by the ranges: the first cause, in the order of the type of faults but for the size
-- of the section, which is tested before the contributions.
abbrev pub IsSortCause : List ℕ → List Span → SframeFault → Type 0
IsSortCause s rs (faults.BadRange k) = position (λ r. not (is_inside (length s) r)) rs ≡ Some k
IsSortCause s rs (faults.TooLarge Section needed limit) = AreInside (length s) rs × (needed ≡ length s) × (limit ≡ 2 ^ 32 - 1) × (limit < needed)
IsSortCause s rs (faults.BadMagic value offset) = AreInside (length s) rs × (length s < 2 ^ 32) × (first_fault (read_ones s rs) ≡ Some (faults.BadMagic value offset))
IsSortCause s rs (faults.Truncated kind offset) = AreInside (length s) rs × (length s < 2 ^ 32) × (first_fault (read_ones s rs) ≡ Some (faults.Truncated kind offset))
IsSortCause s rs (faults.TooLarge Merged needed limit) = HasReadableRanges s rs × (other_version s rs ≡ None) × IsMergedTooLong s (read_ones s rs) needed limit
IsSortCause s rs (faults.TooLarge Rows needed limit) = HasReadableRanges s rs × (other_version s rs ≡ None) × HasTooManyFres s (read_ones s rs) needed limit
IsSortCause s rs (faults.AddressRange index value) = HasReadableRanges s rs × (other_version s rs ≡ None) × HasFarStart s (read_ones s rs) index value
IsSortCause s rs faults.NoMemory = ⊤
