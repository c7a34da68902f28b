-- The functions of a contribution by their index, and the fields of their FDEs.
use Rattle.std.proofs.Common.{◌≡◌, ℕ, ◌+◌, ◌-◌, ◌<◌, ◌≤◌, ℤ, List, length, drop, get_or, Some, refl, ap, ◌∙◌, arith}
use Rattle.std.specs.List.{slice_range, slice_get}
use Rattle.std.specs.Prelude.{slice_index}
use Rattle.std.proofs.lemmas.List.{get_or-take, get_or-drop}
use Rattle.std.proofs.lemmas.List.FromFn.{length-map-range_with_len, get_or-map-range_with_len}
use Rattle.std.proofs.lemmas.Option.{slice_get-get_or}
use Rattle.elf_format.specs.Bytes.{u32_at}
use Rattle.elf_format.proofs.NumberLemmas.{numbers_are_same}
use Rattle.sframe_format.specs.Contribution.{Contribution, Function, header, fde_at, function_at, functions_of}
use Rattle.sframe_format.specs.Valid.{IsWellFormedContribution}
use Rattle.sframe_find.specs.declared.frames.FrameFunction.{FrameFunction}
use Rattle.sframe_find.specs.Frames.{function_address, frame_function}

pub fde_inside : (c : Contribution) (d : ℕ) → IsWellFormedContribution c → d < (header c).num_fdes → fde_at c d + 20 ≤ length c.bytes
fde_inside c d sound below = omega (arith, sound.fdes)

pub function_count : (c : Contribution) → length (functions_of c) ≡ (header c).num_fdes
function_count c = length-map-range_with_len (function_at c) 0 (header c).num_fdes

pub function_is : (c : Contribution) (d : ℕ) (f : Function) → d < (header c).num_fdes → get_or (functions_of c) d f ≡ function_at c d
function_is c d f below = get_or-map-range_with_len (function_at c) 0 (header c).num_fdes d d f below (omega arith)

pub function_got : (c : Contribution) (d : ℕ) → d < (header c).num_fdes → slice_get (functions_of c) d ≡ Some (function_at c d)
function_got c d below =
    slice_get-get_or (functions_of c) d (function_at c d) (omega (arith, function_count c)) ∙ ap (λ f. Some f) (function_is c d (function_at c d) below)

-- a byte of a part
byte_in : (bs : List ℕ) (low high i at : ℕ) → low + i ≡ at → at < high → slice_index (slice_range bs low high) i ≡ slice_index bs at
byte_in bs low high i at e within =
    get_or-take (high - low) (drop low bs) i 0 (omega arith) ∙ get_or-drop low bs i 0 ∙ ap (λ n. get_or bs n 0) e

number_in : (bs : List ℕ) (low high : ℕ) → low + 4 ≤ high → u32_at (slice_range bs low high) 0 ≡ u32_at bs low
number_in bs low high within = numbers_are_same (slice_range bs low high) bs 0 low 4 (λ i l. byte_in bs low high (0 + i) (low + i) (omega arith) (omega arith))

pub same_frame : {address address' : ℤ} {size size' count count' info info' : ℕ} → address ≡ address' → size ≡ size' → count ≡ count' → info ≡ info' → (let f : FrameFunction = record { address = address; size = size; row_count = count; info = info } in let g : FrameFunction = record { address = address'; size = size'; row_count = count'; info = info' } in f ≡ g)
same_frame o p q r = cc

-- the fields stand in the FDE
pub frame_read : (c : Contribution) (base d : ℕ) → (let g : FrameFunction = record { address = function_address base (function_at c d); size = u32_at c.bytes (fde_at c d + 4); row_count = u32_at c.bytes (fde_at c d + 12); info = slice_index c.bytes (fde_at c d + 16) } in frame_function base (function_at c d) ≡ g)
frame_read c base d =
    same_frame refl (number_in c.bytes (fde_at c d + 4) (fde_at c d + 8) (omega arith)) (number_in c.bytes (fde_at c d + 12) (fde_at c d + 20) (omega arith)) (byte_in c.bytes (fde_at c d + 12) (fde_at c d + 20) 4 (fde_at c d + 16) (omega arith) (omega arith))
