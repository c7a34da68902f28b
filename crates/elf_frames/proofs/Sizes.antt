-- What a split keeps has no more bytes than the data.
use Rattle.std.proofs.Common.{◌≡◌, ℕ, ◌+◌, ◌≤◌, Bool, true, false, if◌then◌else◌, List, [], ◌∷◌, length, take, drop, Option, Some, None, arith, ltb, length-drop, option_map}
use Rattle.std.specs.List.{cons_option, filter_map, sum_by}
use Rattle.std.proofs.lemmas.List.{length-take}
use Rattle.std.proofs.lemmas.List.Sums.{sum_by-cons}
use Rattle.elf_frames.specs.Entries.{FrameEntry, Tile, is_cie, is_terminator, rest_at}
use Rattle.elf_frames.specs.Frames.{Cie, Frame, cie_size}
use Rattle.elf_frames.specs.Taken.{FrameInput, cie_of, frame_of, frame_for, if_loadable, frame_section}
use Rattle.elf_frames.specs.Laws.{SplitIsWithin}
use Rattle.elf_frames.proofs.Tiling.{tile_within}

-- a number of an item, 0 where there is none
abbrev pub size_of : {X : Type 0} → (X → ℕ) → Option X → ℕ
size_of f None = 0
size_of f (Some x) = f x

pub sum_more : {X : Type 0} (f : X → ℕ) (o : Option X) (xs : List X) → sum_by f (cons_option o xs) ≡ size_of f o + sum_by f xs
sum_more f None xs = omega arith
sum_more f (Some x) xs = sum_by-cons f x xs

either : (b : Bool) (cie : Cie) (o : Option Frame) (n : ℕ) → length cie.bytes ≤ n → size_of (λ f. f.size) o ≤ n
    → size_of (λ cie. length cie.bytes) (if b then Some cie else None) + size_of (λ f. f.size) (if b then None else o) ≤ n
either true cie o n h k = omega arith
either false cie o n h k = omega arith

frame_fits : (input : FrameInput) (e : FrameEntry) (o : Option ℕ) → size_of (λ f. f.size) (option_map (frame_for input e) o) ≤ e.size
frame_fits input e None = omega arith
frame_fits input e (Some section) = omega arith

part_fits : (bytes : List ℕ) (at size : ℕ) → length (take size (drop at bytes)) ≤ size
part_fits bytes at size = omega (arith, length-take size (drop at bytes))

-- an entry is a CIE or a frame, and no larger
pub one_of : (input : FrameInput) (e : FrameEntry) → size_of (λ cie. length cie.bytes) (cie_of input e) + size_of (λ f. f.size) (frame_of input e) ≤ e.size
one_of input e = either (is_cie input.bytes e) _ (option_map (frame_for input e) (if_loadable input.loadable (frame_section input e))) e.size (part_fits input.bytes e.offset e.size) (frame_fits input e (if_loadable input.loadable (frame_section input e)))

pub sizes_from : (input : FrameInput) (at : ℕ) (es : List FrameEntry) (stop : ℕ) → Tile input.bytes at es stop
    → at + (cie_size (filter_map (cie_of input) es) + sum_by (λ f. f.size) (filter_map (frame_of input) es)) ≤ stop
sizes_from input at [] stop tile = omega (arith, tile)
sizes_from input at (e ∷ es) stop tile =
    let later : at + e.size + (cie_size (filter_map (cie_of input) es) + sum_by (λ f. f.size) (filter_map (frame_of input) es)) ≤ stop = sizes_from input (at + e.size) es stop tile.1 in
    let cies : cie_size (filter_map (cie_of input) (e ∷ es)) ≡ size_of (λ cie. length cie.bytes) (cie_of input e) + cie_size (filter_map (cie_of input) es) = sum_more (λ cie. length cie.bytes) (cie_of input e) (filter_map (cie_of input) es) in
    let frames : sum_by (λ f. f.size) (filter_map (frame_of input) (e ∷ es)) ≡ size_of (λ f. f.size) (frame_of input e) + sum_by (λ f. f.size) (filter_map (frame_of input) es) = sum_more (λ f. f.size) (frame_of input e) (filter_map (frame_of input) es) in
    omega (arith, later, one_of input e, cies, frames)

rest_fits : (b short : Bool) (n : ℕ) → (if short then (if b then 0 else n) else 0) ≤ n
rest_fits true true n = omega arith
rest_fits false true n = omega arith
rest_fits b false n = omega arith

pub rest_within : (bytes : List ℕ) (at : ℕ) → at ≤ length bytes → at + rest_at bytes at ≤ length bytes
rest_within bytes at h = omega (arith, rest_fits (is_terminator (drop at bytes)) (ltb (length bytes) (at + 8)) (length (drop at bytes)), length-drop at bytes)

pub split_is_within : SplitIsWithin
split_is_within input lists h =
    let stop : h.stop ≤ length input.bytes = tile_within input.bytes 0 h.entries h.stop (omega arith) h.are_entries.tile in
    let sizes : 0 + (cie_size (filter_map (cie_of input) h.entries) + sum_by (λ f. f.size) (filter_map (frame_of input) h.entries)) ≤ h.stop = sizes_from input 0 h.entries h.stop h.are_entries.tile in
    let rest : h.stop + rest_at input.bytes h.stop ≤ length input.bytes = rest_within input.bytes h.stop stop in
    rw (h.cies, h.frames, h.rest) (omega (arith, sizes, rest))
