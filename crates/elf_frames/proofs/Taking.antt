-- An entry that is taken: its relocations, and the CIE or the frame that it is.
use Rattle.std.proofs.Common.{◌≡◌, ℕ, zero, suc, ◌+◌, ◌≤◌, ◌<◌, Bool, true, false, cond, List, [], ◌∷◌, ◌++◌, length, Option, Some, None, Result, Ok, Err, OnOk, refl, sym, ap, ◌∙◌, subst, arith, option_map, slice_range}
use Rattle.std.specs.Prelude.{position, nat_lt, vec_len}
use Rattle.std.specs.List.{position_from, cons_option, filter_map}
use Rattle.std.specs.Option.{option_to_list}
use Rattle.std.proofs.lemmas.Bool.Decides.{nat_tests}
use Rattle.std.proofs.lemmas.List.Elements.{filter_map-append}
use Rattle.std.proofs.lemmas.Iterator.Adapters.{position_from-zero}
use Rattle.elf_format.specs.declared.crel.Crel.{Crel}
use Rattle.elf_format.specs.Class.{Class}
use Rattle.elf_frames.specs.declared.entry.Entry.{Entry}
use Rattle.elf_frames.specs.declared.parts.Parts.{Parts}
use Rattle.elf_frames.specs.declared.error.FrameError.{FrameError}
use Rattle.elf_frames.specs.declared.error.FrameError.TheVariants.{BadEntry, BadSymbol, Elf, NoMemory}
use Rattle.elf_frames.specs.Entries.{FrameEntry, Begins, IsEntryAt, IsEnd, is_cie, length_at, rest_at}
use Rattle.elf_frames.specs.Taken.{FrameInput, count_below, entry_relocations, lacking_index, first_lacking, start_section, frame_section, is_loadable, if_loadable, cie_at, cie_of, frame_for, frame_of}
use Rattle.elf_frames.specs.Split.{AreEntries, HasSymbols, IsSplit}
use Rattle.elf_frames.specs.Cause.{IsFrameCause, IsFrameMemory}
use Rattle.elf_frames.specs.steps.EntryAt.{IsFound, IsCutError, shown_entry}
use Rattle.elf_frames.specs.steps.Kept.{kept_lists}
use Rattle.elf_frames.specs.steps.Links.{linked_frames, AreLinked}
use Rattle.elf_frames.specs.steps.Reached.{IsTaken, IsLacking, TakesEntry, IsReached, shown_cies}
use Rattle.elf_frames.specs.steps.Starts.{lacks_start, IsFirstLacking}
use Rattle.elf_frames.proofs.Tiling.{tile_put, all_put}
use Rattle.elf_frames.proofs.Ranges.{below_fewer, below_within}

-- ---- the relocations of an entry

range_is : (rs : List Crel) (a b c d : ℕ) → a ≡ c → b ≡ d → slice_range rs a b ≡ slice_range rs c d
range_is rs a b c d p q = cc

pub relocations_are : (input : FrameInput) (e : Entry) (start stop : ℕ) → IsTaken input e start stop → slice_range input.relocations start stop ≡ entry_relocations input.relocations (shown_entry e)
relocations_are input e start stop h = range_is input.relocations start stop _ _ h.begins h.ends

pub section_is : (input : FrameInput) (e : Entry) (start stop : ℕ) → IsTaken input e start stop → start_section input e.offset (slice_range input.relocations start stop) ≡ frame_section input (shown_entry e)
section_is input e start stop h = ap (start_section input e.offset) (relocations_are input e start stop h)

-- the first that passes, counted from an index
pick : (b : Bool) (k j : ℕ) (o p : Option ℕ) → option_map (λ i. k + i) o ≡ p → option_map (λ i. k + i) (cond b (Some j) o) ≡ cond b (Some (k + j)) p
pick true k j o p e = refl
pick false k j o p e = e

shift : {X : Type 0} (p : X → Bool) (k j : ℕ) (xs : List X) → option_map (λ i. k + i) (position_from p j xs) ≡ position_from p (k + j) xs
shift p k j [] = refl
shift p k j (x ∷ xs) =
    let e : k + (j + 1) ≡ k + j + 1 = omega arith in
    pick (p x) k j (position_from p (j + 1) xs) (position_from p (k + j + 1) xs) (shift p k (j + 1) xs ∙ ap (λ m. position_from p m xs) e)

count_from : {X : Type 0} (p : X → Bool) (k : ℕ) (xs : List X) → option_map (λ i. k + i) (position p xs) ≡ position_from p k xs
count_from p k xs =
    let e : k + 0 ≡ k = omega arith in
    ap (option_map (λ i. k + i)) (position_from-zero p xs) ∙ shift p k 0 xs ∙ ap (λ m. position_from p m xs) e

fde_lacking : (b : Bool) (o p : Option ℕ) → b ≡ false → o ≡ p → cond b None o ≡ p
fde_lacking true o p e q = cc
fde_lacking false o p e q = q

pub lacking_is : (input : FrameInput) (e : Entry) (start stop : ℕ) → IsTaken input e start stop → e.is_cie ≡ false → first_lacking input (shown_entry e) ≡ position_from (lacks_start input e.offset) start (slice_range input.relocations start stop)
lacking_is input e start stop h fde =
    fde_lacking (is_cie input.bytes (shown_entry e)) _ _ (sym h.found.is_cie ∙ fde)
    (ap (λ k. option_map (λ i. k + i) (lacking_index input e.offset (entry_relocations input.relocations (shown_entry e)))) (sym h.begins)
    ∙ ap (λ rs. option_map (λ i. start + i) (lacking_index input e.offset rs)) (sym (relocations_are input e start stop h))
    ∙ count_from (lacks_start input e.offset) start (slice_range input.relocations start stop))

-- ---- the frame that an FDE is

fde_frame : (b : Bool) (o p : Option ℕ) (input : FrameInput) (e : FrameEntry) → b ≡ false → o ≡ p → cond b None (option_map (frame_for input e) (if_loadable input.loadable o)) ≡ option_map (frame_for input e) (if_loadable input.loadable p)
fde_frame true o p input e f g = cc
fde_frame false o p input e f g = ap (λ q. option_map (frame_for input e) (if_loadable input.loadable q)) g

-- by the section that its relocations give
pub frame_is : (input : FrameInput) (e : Entry) (start stop : ℕ) (section : Option ℕ) → IsTaken input e start stop → e.is_cie ≡ false → section ≡ start_section input e.offset (slice_range input.relocations start stop)
    → option_map (frame_for input (shown_entry e)) (if_loadable input.loadable section) ≡ frame_of input (shown_entry e)
frame_is input e start stop section h fde is =
    sym (fde_frame (is_cie input.bytes (shown_entry e)) (frame_section input (shown_entry e)) section input (shown_entry e) (sym h.found.is_cie ∙ fde) (sym (is ∙ section_is input e start stop h)))

pub if_loadable_yes : (loadable : List Bool) (section : ℕ) → is_loadable loadable section ≡ true → if_loadable loadable (Some section) ≡ Some section
if_loadable_yes loadable section e = yes (is_loadable loadable section) e where
  yes : (b : Bool) → b ≡ true → cond b (Some section) None ≡ Some section
  yes true e = refl
  yes false e = cc

pub if_loadable_no : (loadable : List Bool) (section : ℕ) → is_loadable loadable section ≡ false → if_loadable loadable (Some section) ≡ None
if_loadable_no loadable section e = no (is_loadable loadable section) e where
  no : (b : Bool) → b ≡ false → cond b (Some section) None ≡ None
  no true e = cc
  no false e = refl

pub loadable_within : (loadable : List Bool) (section : ℕ) → is_loadable loadable section ≡ true → section < length loadable
loadable_within [] section e = cc
loadable_within (x ∷ loadable) zero e = omega arith
loadable_within (x ∷ loadable) (suc section) e = let h : section < length loadable = loadable_within loadable section e in omega arith

-- ---- the CIE

pub cie_is : (input : FrameInput) (e : Entry) (start stop : ℕ) → IsTaken input e start stop → e.is_cie ≡ true → cie_of input (shown_entry e) ≡ Some (cie_at input (shown_entry e))
cie_is input e start stop h cie = yes (is_cie input.bytes (shown_entry e)) (sym h.found.is_cie ∙ cie) where
  yes : (b : Bool) → b ≡ true → cond b (Some (cie_at input (shown_entry e))) None ≡ Some (cie_at input (shown_entry e))
  yes true e = refl
  yes false e = cc

pub cie_no_frame : (input : FrameInput) (e : Entry) (start stop : ℕ) → IsTaken input e start stop → e.is_cie ≡ true → (frame_of input (shown_entry e) ≡ None) × (first_lacking input (shown_entry e) ≡ None)
cie_no_frame input e start stop h cie = (no (is_cie input.bytes (shown_entry e)) (sym h.found.is_cie ∙ cie) _, no (is_cie input.bytes (shown_entry e)) (sym h.found.is_cie ∙ cie) _) where
  no : {X : Type 0} (b : Bool) → b ≡ true → (o : Option X) → cond b None o ≡ None
  no true e o = refl
  no false e o = cc

pub fde_no_cie : (input : FrameInput) (e : Entry) (start stop : ℕ) → IsTaken input e start stop → e.is_cie ≡ false → cie_of input (shown_entry e) ≡ None
fde_no_cie input e start stop h fde = no (is_cie input.bytes (shown_entry e)) (sym h.found.is_cie ∙ fde) _ where
  no : {X : Type 0} (b : Bool) → b ≡ false → (o : Option X) → cond b o None ≡ None
  no true e o = cc
  no false e o = refl

-- ---- taken

pub takes : (input : FrameInput) (e : Entry) (start stop : ℕ) → IsFound input.bytes e.offset e → start ≡ count_below e.offset input.relocations → stop ≡ count_below (e.offset + e.size) input.relocations → IsTaken input e start stop
takes input e start stop found begins ends = record {
  found = found;
  begins = begins;
  ends = ends;
  order = omega (arith, below_fewer e.offset (e.offset + e.size) input.relocations (omega arith), begins, ends);
  within = omega (arith, below_within (e.offset + e.size) input.relocations, ends);
}

pub start_below : (input : FrameInput) (e : Entry) (start : ℕ) → start ≡ count_below e.offset input.relocations → start ≤ count_below (e.offset + e.size) input.relocations
start_below input e start begins = omega (arith, below_fewer e.offset (e.offset + e.size) input.relocations (omega arith), begins)

pub memory_lacks : (input : FrameInput) (e : FrameEntry) (f : FrameError) → IsFrameMemory f → IsLacking input e f
memory_lacks input e (BadEntry offset) h = h
memory_lacks input e (BadSymbol relocation) h = absurd h
memory_lacks input e (Elf f) h = h
memory_lacks input e NoMemory h = h

pub first_lacks : (input : FrameInput) (e : Entry) (start stop : ℕ) (f : FrameError) → IsTaken input e start stop → e.is_cie ≡ false → IsFirstLacking input e.offset start (slice_range input.relocations start stop) f → IsLacking input (shown_entry e) f
first_lacks input e start stop (BadEntry offset) taken fde h = h
first_lacks input e start stop (BadSymbol relocation) taken fde h = lacking_is input e start stop taken fde ∙ h
first_lacks input e start stop (Elf f) taken fde h = h
first_lacks input e start stop NoMemory taken fde h = absurd h

pub always_ok : {T E P : Type 0} (r : Result T E) → P → OnOk r P
always_ok (Ok x) p = p
always_ok (Err e) p = tt

-- ---- the entries up to an offset

one_or_none : {Y : Type 0} (o : Option Y) → cons_option o [] ≡ option_to_list o
one_or_none None = refl
one_or_none (Some y) = refl

filter_one : {X Y : Type 0} (h : X → Option Y) (x : X) → filter_map h (x ∷ []) ≡ option_to_list (h x)
filter_one h x = one_or_none (h x)

filter_more : {X Y : Type 0} (h : X → Option Y) (xs : List X) (x : X) (ys zs : List Y) → ys ≡ filter_map h xs → zs ≡ ys ++ option_to_list (h x) → zs ≡ filter_map h (xs ++ x ∷ [])
filter_more h xs x ys zs e f =
    f ∙ ap (λ l. l ++ option_to_list (h x)) e ∙ ap (λ l. filter_map h xs ++ l) (sym (filter_one h x)) ∙ sym (filter_map-append h xs (x ∷ []))

none_below : (rs : List Crel) → 0 ≡ count_below 0 rs
none_below [] = refl
none_below (r ∷ rs) = no (nat_lt r.offset 0) (not_below r.offset) where
  no : (b : Bool) → b ≡ false → 0 ≡ cond b (1 + count_below 0 rs) 0
  no true e = cc
  no false e = refl

  not_below : (n : ℕ) → nat_lt n 0 ≡ false
  not_below n = grind (arith, nat_tests)

-- the entry stands at its own offset
pub found_own : (bytes : List ℕ) (offset : ℕ) (e : Entry) → IsFound bytes offset e → IsFound bytes e.offset e
found_own bytes offset e h = subst (λ n. IsFound bytes n e) (sym h.is_entry.offset) h

pub found_within : (bytes : List ℕ) (offset : ℕ) (e : Entry) → IsFound bytes offset e → e.offset + e.size ≤ length bytes
found_within bytes offset e h = omega (arith, h.is_entry.within, h.is_entry.offset)

module _ {A B C D E F G H I J K : Type 0} (c : Class) (input : FrameInput) where
  pub reach_start : (parts : Parts A B C D E F G H I J K) → AreLinked c parts.links → length input.loadable ≤ vec_len parts.links.last → shown_cies parts ≡ [] → linked_frames c parts.links ≡ [] → IsReached c input parts 0 0
  reach_start parts linked room cies frames = record {
    ready = record { linked = linked; sections = room };
    entries = [];
    are_entries = record { tile = refl; symbols = tt };
    cies = cies;
    frames = frames;
    relocations = none_below input.relocations;
  }

  pub reach_more : (before after : Parts A B C D E F G H I J K) (offset taken : ℕ) (e : FrameEntry) (n : ℕ) → IsReached c input before offset taken → IsEntryAt input.bytes offset e → TakesEntry c input e before after → n ≡ count_below (offset + e.size) input.relocations
      → IsReached c input after (offset + e.size) n
  reach_more before after offset taken e n reached is takes ends = record {
    ready = takes.ready;
    entries = reached.entries ++ e ∷ [];
    are_entries = record { tile = tile_put input.bytes 0 reached.entries offset e reached.are_entries.tile is; symbols = all_put (HasSymbols input) reached.entries e reached.are_entries.symbols takes.symbols };
    cies = filter_more (cie_of input) reached.entries e (shown_cies before) (shown_cies after) reached.cies takes.cies;
    frames = filter_more (frame_of input) reached.entries e (linked_frames c before.links) (linked_frames c after.links) reached.frames takes.frames;
    relocations = ends;
  }

  pub reach_split : (parts : Parts A B C D E F G H I J K) (offset taken : ℕ) (rest : ℕ) → IsReached c input parts offset taken → IsEnd input.bytes offset → rest ≡ rest_at input.bytes offset → IsSplit input (kept_lists c parts.cies.items parts.links rest)
  reach_split parts offset taken rest reached end rests = record {
    entries = reached.entries;
    stop = offset;
    are_entries = reached.are_entries;
    is_end = end;
    cies = reached.cies;
    frames = reached.frames;
    rest = rests;
  }

  pub reach_cut : (parts : Parts A B C D E F G H I J K) (offset taken : ℕ) (f : FrameError) → IsReached c input parts offset taken → IsCutError input.bytes offset f → IsFrameCause (Ok input) f
  reach_cut parts offset taken (BadEntry at) reached cut = record {
    entries = reached.entries;
    are_entries = subst (λ n. AreEntries input reached.entries n) (sym cut.same) reached.are_entries;
    begins = subst (λ n. Begins input.bytes n) (sym cut.same) cut.begins;
    beyond = subst (λ n. length input.bytes < n + (4 + length_at input.bytes n)) (sym cut.same) cut.beyond;
  }
  reach_cut parts offset taken (BadSymbol relocation) reached cut = absurd cut
  reach_cut parts offset taken (Elf f) reached cut = absurd cut
  reach_cut parts offset taken NoMemory reached cut = absurd cut

  pub reach_lacking : (parts : Parts A B C D E F G H I J K) (offset taken : ℕ) (e : FrameEntry) (f : FrameError) → IsReached c input parts offset taken → IsEntryAt input.bytes offset e → IsLacking input e f → IsFrameCause (Ok input) f
  reach_lacking parts offset taken e (BadEntry at) reached is lacks = absurd lacks
  reach_lacking parts offset taken e (BadSymbol relocation) reached is lacks = record {
    entries = reached.entries;
    offset = offset;
    entry = e;
    are_entries = reached.are_entries;
    is_entry = is;
    first = lacks;
  }
  reach_lacking parts offset taken e (Elf f) reached is lacks = absurd lacks
  reach_lacking parts offset taken e NoMemory reached is lacks = tt

  pub reach_entry : (before after : Parts A B C D E F G H I J K) (offset taken : ℕ) (e : Entry) (n : ℕ) → IsReached c input before offset taken → IsFound input.bytes offset e → TakesEntry c input (shown_entry e) before after → n ≡ count_below (e.offset + e.size) input.relocations
      → IsReached c input after (e.offset + e.size) n
  reach_entry before after offset taken e n reached found takes ends =
      reach_more before after e.offset taken (shown_entry e) n (subst (λ k. IsReached c input before k taken) (sym found.is_entry.offset) reached) (found_own input.bytes offset e found).is_entry takes ends

pub memory_cause : (input : FrameInput) (f : FrameError) → f ≡ NoMemory → IsFrameCause (Ok input) f
memory_cause input f e = subst (λ x. IsFrameCause (Ok input) x) (sym e) tt
